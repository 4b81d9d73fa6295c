-- What the putting of files leaves.
use Rattle.std.proofs.Common.{◌≡◌, ◌≢◌, ◌⊎◌, inl, inr, ℕ, ◌+◌, ◌<◌, ◌≤◌, List, [], ◌++◌, length, drop, Option, None, Some, Result, Ok, Err, IfSome, refl, sym, ◌∙◌, ap, subst, arith}
use Rattle.std.proofs.lemmas.Bool.{cases_lt}
use Rattle.std.proofs.lemmas.List.{take-append-drop}
use Rattle.qd_base.specs.declared.schema.ColType.{ColType}
use Rattle.qd_base.specs.declared.schema.ColType.TheVariants as kind
use Rattle.qd_block.specs.Blocks.{Block, column_in}
use Rattle.qd_column.specs.Cells.{CellsOf}
use Rattle.qd_durable.proofs.Moved.{but_both, but_same, moves_both, moves_still, moves_weaker, now_has}
use Rattle.qd_durable.proofs.Writes.{told_both, told_map, told_still}
use Rattle.qd_durable.specs.Moments.{EachNow, Moves, SameBut, Told}
use Rattle.qd_durable.specs.Places.{StandsAt}
use Rattle.qd_column_format.specs.Added.{SpellsItself, first_rows}
use Rattle.qd_column_format.specs.Spelling.{BeginsWith, SpellsColumn, aux_of, main_of}
use Rattle.qd_volume.specs.Disk.{Disk, Image, reads_of}
use Rattle.qd_column_files.proofs.Below.{reads_left}
use Rattle.qd_column_files.proofs.FileLemmas.{halves_differ, neither_file, no_column_of, other_column}
use Rattle.qd_column_files.specs.Calls.{HoldsColumn, PutsBlock, PutsColumn, PutsFile, SameBelow, is_column_file}
use Rattle.qd_column_files.specs.Files.{HoldsBlock, column_file, is_file_of}

-- nothing is reached past
pub reach_start : (old : Option Disk) (file : ℕ) → IfSome old (λ disk. 0 ≤ length (reads_of disk file))
reach_start None file = tt
reach_start (Some disk) file = omega arith

-- the bytes of a column without rows
no_main : (column : CellsOf) → main_of (first_rows 0 column) ≡ []
no_main column = by column.kind
  where
    by : (k : ColType) → main_of (record { kind = k; cells = [] }) ≡ []
    by kind.Long = refl
    by kind.Bool = refl
    by kind.Symbol = refl
    by kind.Varchar = refl
    by kind.Time = refl

no_aux : (column : CellsOf) → aux_of (first_rows 0 column) ≡ []
no_aux column = by column.kind
  where
    by : (k : ColType) → aux_of (record { kind = k; cells = [] }) ≡ []
    by kind.Long = refl
    by kind.Bool = refl
    by kind.Symbol = refl
    by kind.Varchar = refl
    by kind.Time = refl

-- what all rows add
pub main_whole : (column : CellsOf) (main : List ℕ) → main_of (first_rows 0 column) ++ main ≡ main_of column → main ≡ main_of column
main_whole column main added = ap (λ (l : List ℕ). l ++ main) (sym (no_main column)) ∙ added

pub aux_whole : (column : CellsOf) (aux : List ℕ) → aux_of (first_rows 0 column) ++ aux ≡ aux_of column → aux ≡ aux_of column
aux_whole column aux added = ap (λ (l : List ℕ). l ++ aux) (sym (no_aux column)) ∙ added

begins : (bytes part : List ℕ) → StandsAt bytes 0 part → BeginsWith bytes part
begins bytes part stands = (drop (length part) bytes, sym (take-append-drop (length part) bytes) ∙ ap (λ (l : List ℕ). l ++ drop (length part) bytes) stands)

spelled : (column : CellsOf) (main aux : List ℕ) → SpellsItself column → BeginsWith main (main_of column) → BeginsWith aux (aux_of column) → SpellsColumn main aux column
spelled column main aux itself first second = record { cells = itself.cells; main_bytes = first; aux_bytes = second; fit = itself.fit; few = itself.few }

-- a file of a column is put
below_column : (block col half : ℕ) → half < 2 → (x y : Image) → SameBelow (column_file block col half) 0 x y → SameBut (is_column_file block col) x y
below_column block col half low x y same file out = same.others file (neither_file block col half file low out)

module _ (T E : Type 0) (block col : ℕ) (column : CellsOf) where
  abbrev main_file : ℕ
  main_file = column_file block col 0

  abbrev aux_file : ℕ
  aux_file = column_file block col 1

  -- nothing was put
  pub column_unput : (old : Option Disk) (fault : E) → Told old old (PutsColumn {T = T} {E = E} (Err fault) block col column)
  column_unput old fault = told_still (PutsColumn {T = T} {E = E} (Err fault) block col column) old (λ disk. record { elsewhere = moves_still (SameBut (is_column_file block col)) disk (but_same (is_column_file block col)); held = tt })

  -- the first file failed
  pub column_failed : (old new : Option Disk) (fault answer : E) (main : List ℕ) → Told old new (PutsFile {T = T} {E = E} (Err fault) main_file 0 main) → Told old new (PutsColumn {T = T} {E = E} (Err answer) block col column)
  column_failed old new fault answer main told =
      told_map (PutsFile {T = T} {E = E} (Err fault) main_file 0 main) (PutsColumn {T = T} {E = E} (Err answer) block col column) old new
      (λ before after puts. record { elsewhere = moves_weaker (SameBelow main_file 0) (SameBut (is_column_file block col)) before after (below_column block col 0 (omega arith)) puts.below; held = tt })
      told

  -- there is one file
  pub column_alone : (old new : Option Disk) (done answer : T) (main aux : List ℕ) → SpellsItself column → main ≡ main_of column → aux ≡ aux_of column → aux ≡ [] → Told old new (PutsFile {T = T} {E = E} (Ok done) main_file 0 main) → Told old new (PutsColumn {T = T} {E = E} (Ok answer) block col column)
  column_alone old new done answer main aux itself is also none told =
      told_map (PutsFile {T = T} {E = E} (Ok done) main_file 0 main) (PutsColumn {T = T} {E = E} (Ok answer) block col column) old new
      (λ before after puts. record {
        elsewhere = moves_weaker (SameBelow main_file 0) (SameBut (is_column_file block col)) before after (below_column block col 0 (omega arith)) puts.below;
        held = λ image now. spelled column (image main_file) (image aux_file) itself
            (subst (BeginsWith (image main_file)) is (begins (image main_file) main (puts.put.0 image now)))
            (image aux_file, ap (λ (l : List ℕ). l ++ image aux_file) (sym none ∙ also));
      })
      told

  both_put : (before mid after : Disk) (done : T) (result : Result T E) (main aux : List ℕ) → SpellsItself column → main ≡ main_of column → aux ≡ aux_of column → PutsFile {T = T} {E = E} (Ok done) main_file 0 main before mid → PutsFile {T = T} {E = E} result aux_file 0 aux mid after → PutsColumn {T = T} {E = E} result block col column before after
  both_put before mid after done result main aux itself is also first second = by result second
    where
      elsewhere : Moves (SameBelow aux_file 0) mid after → Moves (SameBut (is_column_file block col)) before after
      elsewhere more =
          moves_both (SameBelow main_file 0) (SameBelow aux_file 0) (SameBut (is_column_file block col)) before mid after
          (below_column block col 0 (omega arith))
          (λ x y z one two. but_both (is_column_file block col) x y z (below_column block col 0 (omega arith) x y one) (below_column block col 1 (omega arith) y z two))
          first.below more

      -- the main file stays
      main_stands : Moves (SameBelow aux_file 0) mid after → EachNow after (λ image. StandsAt (image main_file) 0 main)
      main_stands more =
          now_has (SameBelow aux_file 0) (λ image. StandsAt (image main_file) 0 main) (λ image. StandsAt (image main_file) 0 main) mid after more first.put.0
          (λ earlier image stands same. subst (λ (l : List ℕ). StandsAt l 0 main) (sym (same.others main_file (halves_differ block col))) stands)

      by : (result : Result T E) → PutsFile {T = T} {E = E} result aux_file 0 aux mid after → PutsColumn {T = T} {E = E} result block col column before after
      by (Err fault) second = record { elsewhere = elsewhere second.below; held = tt }
      by (Ok answer) second = record {
        elsewhere = elsewhere second.below;
        held = λ image now. spelled column (image main_file) (image aux_file) itself
            (subst (BeginsWith (image main_file)) is (begins (image main_file) main (main_stands second.below image now)))
            (subst (BeginsWith (image aux_file)) also (begins (image aux_file) aux (second.put.0 image now)));
      }

  -- there are two
  pub column_put : (old mid new : Option Disk) (done : T) (result : Result T E) (main aux : List ℕ) → SpellsItself column → main ≡ main_of column → aux ≡ aux_of column → Told old mid (PutsFile {T = T} {E = E} (Ok done) main_file 0 main) → Told mid new (PutsFile {T = T} {E = E} result aux_file 0 aux) → Told old new (PutsColumn {T = T} {E = E} result block col column)
  column_put old mid new done result main aux itself is also first second =
      told_both (PutsFile {T = T} {E = E} (Ok done) main_file 0 main) (PutsFile {T = T} {E = E} result aux_file 0 aux) (PutsColumn {T = T} {E = E} result block col column) old mid new
      (λ a b c one two. both_put a b c done result main aux itself is also one two)
      first second

-- the first columns of a block are put
pub record PutsFirst (n block : ℕ) (b : Block) (before after : Disk) : Type 0 where
  pub elsewhere : Moves (SameBut (is_file_of block)) before after
  pub held : EachNow after (λ image. (col : ℕ) → col < n → HoldsColumn block col (column_in b col) image)

column_elsewhere : (block col : ℕ) → col < 512 → (x y : Image) → SameBut (is_column_file block col) x y → SameBut (is_file_of block) x y
column_elsewhere block col few x y same file out = same file (no_column_of block col file few out)

module _ (T E : Type 0) (block : ℕ) (b : Block) where
  pub none_put : (old : Option Disk) → Told old old (PutsFirst 0 block b)
  none_put old = told_still (PutsFirst 0 block b) old (λ disk. record { elsewhere = moves_still (SameBut (is_file_of block)) disk (but_same (is_file_of block)); held = λ image now col low. absurd (omega (arith, low)) })

  more_moved : (n : ℕ) (before mid after : Disk) → n < 512 → Moves (SameBut (is_file_of block)) before mid → Moves (SameBut (is_column_file block n)) mid after → Moves (SameBut (is_file_of block)) before after
  more_moved n before mid after few first second =
      moves_both (SameBut (is_file_of block)) (SameBut (is_column_file block n)) (SameBut (is_file_of block)) before mid after
      (λ x y r. r)
      (λ x y z one two. but_both (is_file_of block) x y z one (column_elsewhere block n few y z two))
      first second

  -- the next one
  pub more_put : (n : ℕ) (old mid new : Option Disk) (done : T) → n < 512 → Told old mid (PutsFirst n block b) → Told mid new (PutsColumn {T = T} {E = E} (Ok done) block n (column_in b n)) → Told old new (PutsFirst (n + 1) block b)
  more_put n old mid new done few first second =
      told_both (PutsFirst n block b) (PutsColumn {T = T} {E = E} (Ok done) block n (column_in b n)) (PutsFirst (n + 1) block b) old mid new
      (λ a m c one two. record { elsewhere = more_moved n a m c few one.elsewhere two.elsewhere; held = held m c one two })
      first second
    where
      held : (m c : Disk) → {a : Disk} → PutsFirst n block b a m → PutsColumn {T = T} {E = E} (Ok done) block n (column_in b n) m c → EachNow c (λ image. (col : ℕ) → col < n + 1 → HoldsColumn block col (column_in b col) image)
      held m c one two image now col low = by (cases_lt col n)
        where
          before : EachNow c (λ image. (col : ℕ) → col < n → HoldsColumn block col (column_in b col) image)
          before =
              now_has (SameBut (is_column_file block n)) (λ image. (col : ℕ) → col < n → HoldsColumn block col (column_in b col) image) (λ image. (col : ℕ) → col < n → HoldsColumn block col (column_in b col) image) m c two.elsewhere one.held
              (λ earlier later had same k lt.
              let differ : n ≢ k = λ e. omega (arith, e, lt) in
              subst (λ (l : List ℕ). SpellsColumn l (later (column_file block k 1)) (column_in b k)) (sym (same (column_file block k 0) (other_column block n k 0 differ (omega arith))))
              (subst (λ (l : List ℕ). SpellsColumn (earlier (column_file block k 0)) l (column_in b k)) (sym (same (column_file block k 1) (other_column block n k 1 differ (omega arith)))) (had k lt)))

          by : (col < n) ⊎ (n ≤ col) → HoldsColumn block col (column_in b col) image
          by (inl less) = before image now col less
          by (inr most) = let same : n ≡ col = omega arith in subst (λ k. HoldsColumn block k (column_in b k) image) same (two.held image now)

  pub some_failed : (n : ℕ) (old mid new : Option Disk) (fault answer : E) → n < 512 → Told old mid (PutsFirst n block b) → Told mid new (PutsColumn {T = T} {E = E} (Err fault) block n (column_in b n)) → Told old new (PutsBlock {T = T} {E = E} (Err answer) block b)
  some_failed n old mid new fault answer few first second =
      told_both (PutsFirst n block b) (PutsColumn {T = T} {E = E} (Err fault) block n (column_in b n)) (PutsBlock {T = T} {E = E} (Err answer) block b) old mid new
      (λ a m c one two. record { elsewhere = more_moved n a m c few one.elsewhere two.elsewhere; held = tt })
      first second

  pub all_put : (n : ℕ) (old new : Option Disk) (done : T) → n ≡ length b.kinds → Told old new (PutsFirst n block b) → Told old new (PutsBlock {T = T} {E = E} (Ok done) block b)
  all_put n old new done all told =
      told_map (PutsFirst n block b) (PutsBlock {T = T} {E = E} (Ok done) block b) old new
      (λ before after puts.
      let holds : EachNow after (HoldsBlock block b) = λ image now. record { each = λ col low. puts.held image now col (omega arith) } in
      record { elsewhere = puts.elsewhere; held = (holds, holds (reads_of after) (reads_left after)) })
      told
