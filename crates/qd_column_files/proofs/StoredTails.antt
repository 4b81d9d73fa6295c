-- What rows behind a column go on with, read of its files without its rows.
use Rattle.std.proofs.Common.{◌≡◌, ℕ, ◌-◌, ◌*◌, ◌^◌, ◌<◌, ◌≤◌, min, Bool, true, List, length, length-append, take, Option, None, Some, IfSome, Ok, Vec, sym, ◌∙◌, ap, ap₂, subst, arith}
use Rattle.std.specs.List.{flat_map}
use Rattle.std.specs.declared.alloc.Global.{Global}
use Rattle.std.proofs.lemmas.List.{take_all}
use Rattle.qd_base.specs.declared.schema.ColType.{ColType}
use Rattle.qd_base.specs.declared.schema.ColType.TheVariants as kind
use Rattle.qd_column.specs.Cells.{CellsOf}
use Rattle.qd_column_format.specs.Fields.{field_size}
use Rattle.qd_column_format.specs.Rests.{texts_from, HoldsMark}
use Rattle.qd_column_format.specs.Spelling.{SpellsColumn, aux_of, aux_of_kind, main_of, text_bytes}
use Rattle.qd_column_format.specs.Tails.{Behind, behind, texts_end}
use Rattle.qd_io.specs.declared.fault.IoFault.{IoFault}
use Rattle.qd_volume.specs.Calls.{ReadsAt}
use Rattle.qd_volume.specs.Disk.{Disk, reads_of}
use Rattle.qd_column_files.specs.Growing.{IsShortTold, IsStoredTail}
use Rattle.qd_column_files.specs.Reading.{IsFrontRead}
use Rattle.qd_column_files.proofs.ReadLemmas.{front_enough, main_long, spelled_cut}
use Rattle.qd_column_files.proofs.RestReads.{mark_told, texts_within}

-- ---- any kind

-- a main file that is too short for the numbers of the rows spells no such column
pub none_short : (old : Option Disk) (file other rows size : ℕ) (k : ColType) (short : Bool) → size ≡ min (rows * field_size k) 18446744073709551615 → short ≡ true → IfSome old (λ disk. IsShortTold (Ok short) size (reads_of disk file))
    → IfSome old (λ disk. IsStoredTail (Ok None) k rows (reads_of disk file) (reads_of disk other))
none_short None file other rows size k short limit on told = tt
none_short (Some disk) file other rows size k short limit on told = λ column is count spelled.
    let long : length (main_of column) ≡ rows * field_size k = main_long column ∙ ap₂ (λ (n : ℕ) (j : ColType). n * field_size j) count is in
    absurd (omega (arith, told.0 on, limit, long, ap length spelled.main_bytes.1, length-append (main_of column) spelled.main_bytes.0))

-- ---- SYMBOL

pub ids_told : (old mid : Option Disk) (main aux rows most : ℕ) (ids texts : Vec ℕ Global) (t : Option Behind) → most ≡ min (rows * 8) 18446744073709551615 → mid ≡ old
    → IfSome old (λ disk. IsFrontRead (Ok ids) most (reads_of disk main)) → IfSome mid (λ disk. IsFrontRead (Ok texts) 18446744073709551615 (reads_of disk aux))
    → ((column : CellsOf) → column.kind ≡ kind.Symbol → length column.cells ≡ rows → SpellsColumn ids.items texts.items column → t ≡ Some (behind column))
    → IfSome old (λ disk. IsStoredTail (Ok t) kind.Symbol rows (reads_of disk main) (reads_of disk aux))
ids_told None mid main aux rows most ids texts t limit same first second stored = tt
ids_told (Some disk) mid main aux rows most ids texts t limit same first second stored = λ column is size spelled.
    let again : IsFrontRead (Ok texts) 18446744073709551615 (reads_of disk aux) = subst (λ (m : Option Disk). IfSome m (λ d. IsFrontRead (Ok texts) 18446744073709551615 (reads_of d aux))) same second in
    let numbers : ids.items ≡ take (rows * 8) (reads_of disk main) = first.0 ∙ front_enough (rows * 8) most (reads_of disk main) limit first.1 in
    let whole : texts.items ≡ reads_of disk aux = again.0 ∙ take_all 18446744073709551615 (reads_of disk aux) (omega (arith, again.1)) in
    stored column is size
    (subst (λ (l : List ℕ). SpellsColumn l texts.items column) (sym numbers)
    (subst (λ (l : List ℕ). SpellsColumn (take (rows * 8) (reads_of disk main)) l column) (sym whole)
    (spelled_cut (reads_of disk main) (reads_of disk aux) rows kind.Symbol column is size spelled)))

-- ---- VARCHAR

module _ (main aux rows at n : ℕ) (before after : List ℕ) (some : 1 ≤ rows) (place : at ≡ min ((rows - 1) * 8) 18446744073709551615) (room : length before ≡ 8) where
  -- the mark of the last row was read
  held : (disk : Disk) → ReadsAt {E = IoFault} (Some disk) main at before after (Ok n) → length (reads_of disk main) < 2 ^ 64 → (column : CellsOf) → column.kind ≡ kind.Varchar → length column.cells ≡ rows → SpellsColumn (reads_of disk main) (reads_of disk aux) column → HoldsMark rows (take n after) column
  held disk read low column is size spelled = mark_told disk main rows at n before after (reads_of disk aux) column (omega (arith, some)) place room read is (omega (arith, size)) low spelled

  -- a second file that ends before it says so spells no such column
  pub none_cut : (old mid : Option Disk) (end : ℕ) (short : Bool) → mid ≡ old → short ≡ true → ReadsAt {E = IoFault} old main at before after (Ok n) → IfSome old (λ disk. length (reads_of disk main) < 2 ^ 64)
      → IfSome mid (λ disk. IsShortTold (Ok short) end (reads_of disk aux)) → ((skip : ℕ) (column : CellsOf) → HoldsMark skip (take n after) column → end ≡ texts_from skip column)
      → IfSome old (λ disk. IsStoredTail (Ok None) kind.Varchar rows (reads_of disk main) (reads_of disk aux))
  none_cut None mid end short same on read low told ends = tt
  none_cut (Some disk) mid end short same on read low told ends = λ column is size spelled.
      let cut : IsShortTold (Ok short) end (reads_of disk aux) = subst (λ (m : Option Disk). IfSome m (λ d. IsShortTold (Ok short) end (reads_of d aux))) same told in
      let ending : end ≡ length (flat_map text_bytes (take rows column.cells)) = ends rows column (held disk read low column is size spelled) ∙ ap (λ (j : ColType). texts_end j (take rows column.cells)) is in
      let bytes : length (aux_of column) ≡ length (flat_map text_bytes column.cells) = ap (λ (j : ColType). length (aux_of_kind j column.cells)) is in
      absurd (omega (arith, cut.0 on, ending, bytes, texts_within rows column.cells, ap length spelled.aux_bytes.1, length-append (aux_of column) spelled.aux_bytes.0))

  pub last_told : (old : Option Disk) (t : Option Behind) → ReadsAt {E = IoFault} old main at before after (Ok n) → IfSome old (λ disk. length (reads_of disk main) < 2 ^ 64)
      → ((column : CellsOf) → column.kind ≡ kind.Varchar → length column.cells ≡ rows → (0 < length column.cells → HoldsMark (length column.cells) (take n after) column) → t ≡ Some (behind column))
      → IfSome old (λ disk. IsStoredTail (Ok t) kind.Varchar rows (reads_of disk main) (reads_of disk aux))
  last_told None t read low stored = tt
  last_told (Some disk) t read low stored = λ column is size spelled.
      stored column is size (λ there. subst (λ (m : ℕ). HoldsMark m (take n after) column) (sym size) (held disk read low column is size spelled))
