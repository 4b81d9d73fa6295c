-- What the removal of files leaves.
use Rattle.std.proofs.Common.{◌≡◌, ◌≢◌, ◌⊎◌, inl, inr, ℕ, zero, suc, ◌+◌, ◌<◌, ◌≤◌, nat_eq, Bool, true, false, cond, [], Option, None, Some, Result, Ok, Err, refl, sym, ◌∙◌, ap, subst, arith, eq-eqb}
use Rattle.std.proofs.lemmas.Bool.{cases_lt}
use Rattle.qd_durable.proofs.Moved.{but_both, but_same, moves_both, moves_change, moves_still, moves_weaker}
use Rattle.qd_durable.proofs.Writes.{told_both, told_map, told_still}
use Rattle.qd_durable.specs.Moments.{Moves, SameBut, Told}
use Rattle.qd_volume.specs.Calls.{Cuts}
use Rattle.qd_volume.specs.Disk.{Disk, Image, changed, file_of, images_now, reads_of}
use Rattle.qd_volume.specs.Files.{Change, Cut, IsImageOf, Uncut, after_change}
use Rattle.qd_volume.proofs.Sound.{image_of_reads, sound_file}
use Rattle.qd_column_files.proofs.FileLemmas.{halves_differ, neither_file, no_column_of, other_column}
use Rattle.qd_column_files.specs.Calls.{IsColumnGone, RemovesBlock, RemovesColumn, is_column_file}
use Rattle.qd_column_files.specs.Files.{column_file, is_file_of}

-- one change: all other files stay, as they read and in each image
module _ (disk : Disk) (file : ℕ) (change : Change) where
  earlier_of : Image → Image
  earlier_of image other = cond (nat_eq file other) (reads_of disk other) (image other)

  earlier_left : (image : Image) → images_now (changed disk file change) image → images_now disk (earlier_of image)
  unfolding earlier_of
  earlier_left image now other = by (nat_eq file other) refl
    where
      by : (same : Bool) → nat_eq file other ≡ same → IsImageOf (file_of disk other) (cond same (reads_of disk other) (image other))
      by true e = image_of_reads (file_of disk other) (sound_file disk other)
      by false e = subst (λ b. IsImageOf (cond b (after_change (file_of disk other) change) (file_of disk other)) (image other)) e (now other)

  earlier_but : (image : Image) → SameBut (nat_eq file) (earlier_of image) image
  unfolding earlier_of
  earlier_but image other e = sym (ap (λ b. cond b (reads_of disk other) (image other)) e)

  pub moves_file : Moves (SameBut (nat_eq file)) disk (changed disk file change)
  moves_file = moves_change (SameBut (nat_eq file)) disk file change (but_same (nat_eq file)) (λ image now. (earlier_of image, earlier_left image now, earlier_but image))

  pub reads_but : SameBut (nat_eq file) (reads_of disk) (reads_of (changed disk file change))
  reads_but other e = ap (λ b. (cond b (after_change (file_of disk other) change) (file_of disk other)).reads) e

  pub reads_here : reads_of (changed disk file change) file ≡ (after_change (file_of disk file) change).reads
  reads_here = ap (λ b. (cond b (after_change (file_of disk file) change) (file_of disk file)).reads) (eq-eqb file file refl)

-- after an Ok a file has no bytes
abbrev pub IsEmpty : {T E : Type 0} → Result T E → ℕ → Disk → Type 0
IsEmpty (Ok done) file after = reads_of after file ≡ []
IsEmpty (Err fault) file after = Unit {0}

-- a file is removed
pub record Removes {T E : Type 0} (result : Result T E) (file : ℕ) (before after : Disk) : Type 0 where
  pub elsewhere : Moves (SameBut (nat_eq file)) before after
  pub others : SameBut (nat_eq file) (reads_of before) (reads_of after)
  pub empty : IsEmpty result file after

module _ (T E : Type 0) (file : ℕ) where
  pub removed : (old new : Option Disk) (result : Result T E) → Cuts {T = T} {E = E} old new file 0 result → Told old new (Removes {T = T} {E = E} result file)
  removed None new result cuts = cuts
  removed (Some disk) new (Ok done) cuts = (changed disk file (Cut 0), cuts, record { elsewhere = moves_file disk file (Cut 0); others = reads_but disk file (Cut 0); empty = reads_here disk file (Cut 0) })
  removed (Some disk) new (Err fault) (inl same) = (disk, same, record { elsewhere = moves_still (SameBut (nat_eq file)) disk (but_same (nat_eq file)); others = λ other e. refl; empty = tt })
  removed (Some disk) new (Err fault) (inr (inl begun)) = (changed disk file (Uncut 0), begun, record { elsewhere = moves_file disk file (Uncut 0); others = reads_but disk file (Uncut 0); empty = tt })
  removed (Some disk) new (Err fault) (inr (inr done)) = (changed disk file (Cut 0), done, record { elsewhere = moves_file disk file (Cut 0); others = reads_but disk file (Cut 0); empty = tt })

file_column : (block col half : ℕ) → half < 2 → (x y : Image) → SameBut (nat_eq (column_file block col half)) x y → SameBut (is_column_file block col) x y
file_column block col half low x y same file out = same file (neither_file block col half file low out)

module _ (T E : Type 0) (block col : ℕ) where
  abbrev main_file : ℕ
  main_file = column_file block col 0

  abbrev aux_file : ℕ
  aux_file = column_file block col 1

  abbrev Main : Result T E → Disk → Disk → Type 0
  Main result = Removes {T = T} {E = E} result main_file

  abbrev Aux : Result T E → Disk → Disk → Type 0
  Aux result = Removes {T = T} {E = E} result aux_file

  abbrev Both : Result T E → Disk → Disk → Type 0
  Both result = RemovesColumn {T = T} {E = E} result block col

  pub first_failed : (old new : Option Disk) (fault answer : E) → Cuts {T = T} {E = E} old new main_file 0 (Err fault) → Told old new (Both (Err answer))
  first_failed old new fault answer cuts =
      told_map (Main (Err fault)) (Both (Err answer)) old new
      (λ before after one. record {
        elsewhere = moves_weaker (SameBut (nat_eq main_file)) (SameBut (is_column_file block col)) before after (file_column block col 0 (omega arith)) one.elsewhere;
        others = file_column block col 0 (omega arith) (reads_of before) (reads_of after) one.others;
        gone = tt;
      })
      (removed T E main_file old new (Err fault) cuts)

  both_gone : (mid after : Disk) (done : T) (result : Result T E) → reads_of mid main_file ≡ [] → Aux result mid after → IsColumnGone {T = T} {E = E} result block col after
  both_gone mid after done (Err fault) first two = tt
  both_gone mid after done (Ok answer) first two = λ half low. by half low
    where
      by : (half : ℕ) → half < 2 → reads_of after (column_file block col half) ≡ []
      by zero low = two.others main_file (halves_differ block col) ∙ first
      by (suc zero) low = two.empty
      by (suc (suc more)) low = absurd (omega (arith, low))

  pub both_removed : (old mid new : Option Disk) (done : T) (result : Result T E) → Cuts {T = T} {E = E} old mid main_file 0 (Ok done) → Cuts {T = T} {E = E} mid new aux_file 0 result → Told old new (Both result)
  both_removed old mid new done result first second =
      told_both (Main (Ok done)) (Aux result) (Both result) old mid new
      (λ a m c one two. record {
        elsewhere = moves_both (SameBut (nat_eq main_file)) (SameBut (nat_eq aux_file)) (SameBut (is_column_file block col)) a m c
            (file_column block col 0 (omega arith))
            (λ x y z p q. but_both (is_column_file block col) x y z (file_column block col 0 (omega arith) x y p) (file_column block col 1 (omega arith) y z q))
            one.elsewhere two.elsewhere;
        others = but_both (is_column_file block col) (reads_of a) (reads_of m) (reads_of c) (file_column block col 0 (omega arith) (reads_of a) (reads_of m) one.others) (file_column block col 1 (omega arith) (reads_of m) (reads_of c) two.others);
        gone = both_gone m c done result one.empty two;
      })
      (removed T E main_file old mid (Ok done) first) (removed T E aux_file mid new result second)

-- the first columns of a block are removed
pub record RemovesFirst (n block : ℕ) (before after : Disk) : Type 0 where
  pub elsewhere : Moves (SameBut (is_file_of block)) before after
  pub others : SameBut (is_file_of block) (reads_of before) (reads_of after)
  pub gone : (col half : ℕ) → col < n → half < 2 → reads_of after (column_file block col half) ≡ []

module _ (T E : Type 0) (block : ℕ) where
  pub none_removed : (old : Option Disk) → Told old old (RemovesFirst 0 block)
  none_removed old = told_still (RemovesFirst 0 block) old (λ disk. record { elsewhere = moves_still (SameBut (is_file_of block)) disk (but_same (is_file_of block)); others = but_same (is_file_of block) (reads_of disk); gone = λ col half low small. absurd (omega (arith, low)) })

  more_same : (n : ℕ) → n < 512 → (x y z : Image) → SameBut (is_file_of block) x y → SameBut (is_column_file block n) y z → SameBut (is_file_of block) x z
  more_same n few x y z one two = but_both (is_file_of block) x y z one (λ file out. two file (no_column_of block n file few out))

  more_moved : (n : ℕ) (before mid after : Disk) → n < 512 → Moves (SameBut (is_file_of block)) before mid → Moves (SameBut (is_column_file block n)) mid after → Moves (SameBut (is_file_of block)) before after
  more_moved n before mid after few first second =
      moves_both (SameBut (is_file_of block)) (SameBut (is_column_file block n)) (SameBut (is_file_of block)) before mid after
      (λ x y r. r) (more_same n few)
      first second

  pub more_removed : (n : ℕ) (old mid new : Option Disk) (done : T) → n < 512 → Told old mid (RemovesFirst n block) → Told mid new (RemovesColumn {T = T} {E = E} (Ok done) block n) → Told old new (RemovesFirst (n + 1) block)
  more_removed n old mid new done few first second =
      told_both (RemovesFirst n block) (RemovesColumn {T = T} {E = E} (Ok done) block n) (RemovesFirst (n + 1) block) old mid new
      (λ a m c one two. record { elsewhere = more_moved n a m c few one.elsewhere two.elsewhere; others = more_same n few (reads_of a) (reads_of m) (reads_of c) one.others two.others; gone = λ col half low small. gone m c one.gone two col half low small })
      first second
    where
      gone : (m c : Disk) → ((col half : ℕ) → col < n → half < 2 → reads_of m (column_file block col half) ≡ []) → RemovesColumn {T = T} {E = E} (Ok done) block n m c → (col half : ℕ) → col < n + 1 → half < 2 → reads_of c (column_file block col half) ≡ []
      gone m c had two col half low small = by (cases_lt col n)
        where
          by : (col < n) ⊎ (n ≤ col) → reads_of c (column_file block col half) ≡ []
          by (inl less) =
              let differ : n ≢ col = λ e. omega (arith, e, less) in
              two.others (column_file block col half) (other_column block n col half differ small) ∙ had col half less small
          by (inr most) = let same : n ≡ col = omega arith in subst (λ k. reads_of c (column_file block k half) ≡ []) same (two.gone half small)

  pub some_left : (n : ℕ) (old mid new : Option Disk) (fault answer : E) → n < 512 → Told old mid (RemovesFirst n block) → Told mid new (RemovesColumn {T = T} {E = E} (Err fault) block n) → Told old new (RemovesBlock {T = T} {E = E} (Err answer) block)
  some_left n old mid new fault answer few first second =
      told_both (RemovesFirst n block) (RemovesColumn {T = T} {E = E} (Err fault) block n) (RemovesBlock {T = T} {E = E} (Err answer) block) old mid new
      (λ a m c one two. record { elsewhere = more_moved n a m c few one.elsewhere two.elsewhere; others = more_same n few (reads_of a) (reads_of m) (reads_of c) one.others two.others; gone = tt })
      first second

  pub all_removed : (n : ℕ) (old new : Option Disk) (done : T) → 256 ≤ n → Told old new (RemovesFirst n block) → Told old new (RemovesBlock {T = T} {E = E} (Ok done) block)
  all_removed n old new done all told =
      told_map (RemovesFirst n block) (RemovesBlock {T = T} {E = E} (Ok done) block) old new
      (λ before after removes. record { elsewhere = removes.elsewhere; others = removes.others; gone = λ col half low small. removes.gone col half (omega arith) small })
      told
