-- A change to one file of a map, and to the same file of a told volume.
use Rattle.std.proofs.Common.{◌≡◌, ℕ, ◌+◌, ◌<◌, nat_eq, cond, Bool, true, false, List, [], ◌∷◌, length, get_or, take, reverse, refl, sym, ◌∙◌, ap}
use Rattle.std.proofs.lemmas.Bool.{eqb-true}
use Rattle.std.proofs.lemmas.List.{reverse-append, take_more}
use Rattle.qd_volume.specs.Files.{Change, File, after_change}
use Rattle.qd_volume.specs.Disk.{Call, Disk, changed, file_of, reads_of}

-- the last of some first elements comes first in reverse
pub reverse_more : {X : Type 0} (xs : List X) (i : ℕ) (d : X) → i < length xs → reverse (take (i + 1) xs) ≡ get_or xs i d ∷ reverse (take i xs)
reverse_more xs i d within = ap (λ (l : List _). reverse l) (take_more xs i d within) ∙ reverse-append (take i xs) (get_or xs i d ∷ [])

-- what is known of each file goes on by a note
pub learned : (old new : ℕ → File) (call : Call) (disk : Disk) → ((file : ℕ) → old file ≡ file_of disk file) → ((other : ℕ) → new other ≡ cond (nat_eq call.file other) (after_change (old call.file) call.change) (old other)) → (file : ℕ) → new file ≡ file_of (call ∷ disk) file
learned old new call disk same learns file = learns file ∙ by (nat_eq call.file file) refl
  where
    by : (here : Bool) → nat_eq call.file file ≡ here → cond here (after_change (old call.file) call.change) (old file) ≡ cond here (after_change (file_of disk file) call.change) (file_of disk file)
    by true e = ap (λ (f : File). after_change f call.change) (ap (λ n. old n) (eqb-true call.file file e) ∙ same file)
    by false e = same file

-- the bytes of each file go on by a change
pub tells_on : (old new : ℕ → List ℕ) (disk : Disk) (file : ℕ) (change : Change) (bytes : List ℕ) → ((other : ℕ) → old other ≡ reads_of disk other) → ((other : ℕ) → new other ≡ cond (nat_eq file other) bytes (old other)) → bytes ≡ (after_change (file_of disk file) change).reads → (other : ℕ) → new other ≡ reads_of (changed disk file change) other
tells_on old new disk file change bytes same puts is other = puts other ∙ by (nat_eq file other) refl
  where
    by : (here : Bool) → nat_eq file other ≡ here → cond here bytes (old other) ≡ (cond here (after_change (file_of disk other) change) (file_of disk other)).reads
    by true e = is ∙ ap (λ n. (after_change (file_of disk n) change).reads) (eqb-true file other e)
    by false e = same other

-- a change that leaves what the file reads
pub tells_still : (held : ℕ → List ℕ) (disk : Disk) (file : ℕ) (change : Change) → ((other : ℕ) → held other ≡ reads_of disk other) → (after_change (file_of disk file) change).reads ≡ reads_of disk file → (other : ℕ) → held other ≡ reads_of (changed disk file change) other
tells_still held disk file change same is other = same other ∙ by (nat_eq file other) refl
  where
    by : (here : Bool) → nat_eq file other ≡ here → reads_of disk other ≡ (cond here (after_change (file_of disk other) change) (file_of disk other)).reads
    by true e = sym (ap (λ n. reads_of disk n) (eqb-true file other e)) ∙ sym is ∙ ap (λ n. (after_change (file_of disk n) change).reads) (eqb-true file other e)
    by false e = refl
