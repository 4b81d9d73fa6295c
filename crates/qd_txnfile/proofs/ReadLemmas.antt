-- What is read of a told volume, step by step.
use Rattle.std.proofs.Common.{◌≡◌, inr, ℕ, ◌+◌, ◌<◌, ◌≤◌, List, ◌++◌, length, take, drop, Option, None, Some, IfSome, IfOk, Result, Ok, Err, sym, ◌∙◌, ap, subst, arith, length-drop}
use Rattle.std.specs.Int.{to_le_bytes, w64}
use Rattle.std.proofs.lemmas.List.{append-nil, drop_all, length-take}
use Rattle.qd_io.specs.Ends.{Counts}
use Rattle.qd_io.specs.declared.fault.IoFault.{IoFault}
use Rattle.qd_io.specs.declared.fault.IoFault.TheVariants as io
use Rattle.qd_volume.specs.Calls.{GivesBytes, ReadsAt}
use Rattle.qd_volume.specs.Disk.{Disk, Image, reads_of}
use Rattle.qd_durable.specs.Faults.{CountsVol, vol_of}
use Rattle.qd_durable.specs.Places.{StandsAt}
use Rattle.qd_durable.specs.declared.fault.LogFault.{LogFault}
use Rattle.qd_durable.specs.declared.fault.LogFault.TheVariants as fault
use Rattle.qd_durable.proofs.Standing.{stands_join}
use Rattle.qd_txnfile.specs.declared.half.Other.{Other}
use Rattle.qd_txnfile.specs.declared.reading.Damage.{Damage}
use Rattle.qd_txnfile.specs.declared.reading.Newest.{Newest}
use Rattle.qd_txnfile.specs.Versions.{GivesFrom, body, file_of, limit_of, other_of}
use Rattle.qd_txnfile.specs.Damage.{IsDamaged}
use Rattle.qd_txnfile.specs.Reading.{IsFound, IsHeadOf, IsNewest, IsNewestOf, IsNewestRead}
use Rattle.qd_txnfile.proofs.Files.{open_gate, behind_gate, with_gate}
use Rattle.qd_txnfile.proofs.Heads.{chosen_cut, head_read, older_found}

-- facts of a told volume
pub some_of : (P Q : Disk → Type 0) (disk : Option Disk) → ((d : Disk) → P d → Q d) → IfSome disk P → IfSome disk Q
some_of P Q None words has = has
some_of P Q (Some d) words has = words d has

pub some_both : (P Q R : Disk → Type 0) (disk : Option Disk) → ((d : Disk) → P d → Q d → R d) → IfSome disk P → IfSome disk Q → IfSome disk R
some_both P Q R None words one two = one
some_both P Q R (Some d) words one two = words d one two

pub some_all : (P : Disk → Type 0) (disk : Option Disk) → ((d : Disk) → P d) → IfSome disk P
some_all P None all = tt
some_all P (Some d) all = all d

-- what was found of the other file is handed on
pub found_kept : (result : Result Newest Damage) (known : Other) → IfOk result (λ newest. newest.other ≡ known) → IsFound known → IfOk result (λ newest. IsFound newest.other)
found_kept (Ok newest) known same found = subst (λ k. IsFound k) (sym same) found
found_kept (Err damage) known same found = tt

-- a fault of the volume says nothing of the files
pub newest_fault : (disk : Option Disk) (cause : IoFault) (answer : LogFault) → answer ≡ vol_of cause → IfSome disk (λ d. IsNewestRead (Err answer) (reads_of d))
newest_fault disk cause answer is = subst (λ (f : LogFault). IfSome disk (λ d. IsNewestRead (Err f) (reads_of d))) (sym is) (by cause)
  where
    by : (cause : IoFault) → IfSome disk (λ d. IsNewestRead (Err (vol_of cause)) (reads_of d))
    by io.Failed = some_all (λ d. IsNewestRead (Err fault.Vol) (reads_of d)) disk (λ d. tt)
    by io.Memory = some_all (λ d. IsNewestRead (Err fault.Memory) (reads_of d)) disk (λ d. tt)

-- what both heads tell of
pub newest_ok : (disk : Option Disk) (first second : List ℕ) (newest : Newest) → IfSome disk (λ d. IsHeadOf first (reads_of d 2)) → IfSome disk (λ d. IsHeadOf second (reads_of d 3)) → ((image : Image) → IsHeadOf first (image 2) → IsHeadOf second (image 3) → IsNewestOf (Ok newest) image) → IfSome disk (λ d. IsNewestRead (Ok newest) (reads_of d))
newest_ok disk first second newest one two is = some_both (λ d. IsHeadOf first (reads_of d 2)) (λ d. IsHeadOf second (reads_of d 3)) (λ d. IsNewestRead (Ok newest) (reads_of d)) disk (λ d a b. is (reads_of d) a b) one two

pub newest_err : (disk : Option Disk) (first second : List ℕ) (damage : Damage) (answer : LogFault) → answer ≡ fault.Damaged (file_of damage.half) damage.at → IfSome disk (λ d. IsHeadOf first (reads_of d 2)) → IfSome disk (λ d. IsHeadOf second (reads_of d 3)) → ((image : Image) → IsHeadOf first (image 2) → IsHeadOf second (image 3) → IsNewestOf (Err damage) image) → IfSome disk (λ d. IsNewestRead (Err answer) (reads_of d))
newest_err disk first second damage answer same one two is = some_both (λ d. IsHeadOf first (reads_of d 2)) (λ d. IsHeadOf second (reads_of d 3)) (λ d. IsNewestRead (Err answer) (reads_of d)) disk (λ d a b. subst (λ (f : LogFault). IsNewestRead (Err f) (reads_of d)) (sym same) (is (reads_of d) a b)) one two

-- a fault of the volume, counted
pub counted_vol : (T U : Type 0) (before now : ℕ) (cause : IoFault) → Counts {T = T} before now (Err cause) → CountsVol {T = U} before now (Err (vol_of cause))
counted_vol T U before now io.Failed counts = counts
counted_vol T U before now io.Memory counts = counts

-- the first bytes of a file
pub head_told : (disk : Option Disk) (file : ℕ) (before after : List ℕ) (n : ℕ) → length before ≡ 17 → ReadsAt {E = IoFault} disk file 0 before after (Ok n) → IfSome disk (λ d. IsHeadOf (take n after) (reads_of d file))
head_told None file before after n room reads = tt
head_told (Some d) file before after n room reads = head_read (reads_of d file) before after n reads room

-- a newest version that is cut
pub newest_cut : (newest : Newest) (image : Image) → IsNewest newest image → 17 ≤ length (image (file_of newest.half)) → length (image (file_of newest.half)) < 17 + newest.size → IsDamaged image (file_of newest.half) (length (image (file_of newest.half)))
newest_cut newest image is long short = chosen_cut newest.half newest.n newest.other image is.chosen (inr (newest.size, is.small, is.size, long, short))

-- and one that is whole
pub newest_whole : (newest : Newest) (image : Image) (manifest : List ℕ) → IsNewest newest image → length manifest ≡ newest.size → StandsAt (image (file_of newest.half)) 17 manifest → GivesFrom newest.half (record { n = newest.n; manifest = manifest }) image
newest_whole newest image manifest is size stands =
    let bytes = image (file_of newest.half) in
    let has_size : StandsAt bytes 9 (to_le_bytes w64 (length manifest)) = subst (λ n. StandsAt bytes 9 (to_le_bytes w64 n)) (sym size) is.size in
    let rest : StandsAt bytes 9 (to_le_bytes w64 (length manifest) ++ manifest) = stands_join bytes 9 (to_le_bytes w64 (length manifest)) manifest has_size stands in
    let whole : StandsAt bytes 1 (body (record { n = newest.n; manifest = manifest })) = stands_join bytes 1 (to_le_bytes w64 newest.n) (to_le_bytes w64 (length manifest) ++ manifest) (behind_gate bytes (to_le_bytes w64 newest.n) is.chosen.open_gate) rest in
    record {
      holds = record {
        number = is.chosen.number;
        size = omega (arith, size, is.small);
        open_gate = with_gate bytes (body (record { n = newest.n; manifest = manifest })) (open_gate bytes (to_le_bytes w64 newest.n) is.chosen.open_gate) whole;
      };
      older = older_found newest.other (limit_of newest.half newest.n) (image (file_of (other_of newest.half))) is.chosen.other;
    }

-- all bytes of a manifest, read into a buffer of its size
pub manifest_read : (bytes before after : List ℕ) (at n size : ℕ) → GivesBytes bytes at before after n → length before ≡ size → size ≤ n → (after ≡ take size (drop at bytes)) × (length after ≡ size)
manifest_read bytes before after at n size gives room full =
    let most : n ≡ size = omega (arith, gives.most, room, full) in
    let buffer : after ≡ take size (drop at bytes) =
    gives.buffer
    ∙ ap (λ k. take k (drop at bytes) ++ drop k before) most
    ∙ ap (λ (l : List ℕ). take size (drop at bytes) ++ l) (drop_all size before (omega (arith, room)))
    ∙ append-nil (take size (drop at bytes)) in
    (buffer, ap length buffer ∙ omega (arith, length-take size (drop at bytes), length-drop at bytes, gives.most, room, full))

pub manifest_stands : (bytes after : List ℕ) (at size : ℕ) → after ≡ take size (drop at bytes) → length after ≡ size → StandsAt bytes at after
manifest_stands bytes after at size is long = ap (λ n. take n (drop at bytes)) long ∙ sym is
