-- What is read of the files of a column holds its rows from one on.
use Rattle.std.proofs.Common.{◌≡◌, ◌≢◌, inl, inr, ℕ, ◌+◌, ◌-◌, ◌*◌, ◌^◌, ◌<◌, ◌≤◌, min, Bool, true, false, List, [], ◌++◌, length, length-append, length-take, length-drop, take, drop, Option, None, Some, IfOk, IfSome, Result, Ok, Err, Vec, refl, sym, ◌∙◌, ap, ap₂, subst, append-nil, arith, All}
use Rattle.std.specs.List.{flat_map}
use Rattle.std.specs.declared.alloc.Global.{Global}
use Rattle.std.proofs.lemmas.Bool.{cases_lt, ne_eqb}
use Rattle.std.proofs.lemmas.List.{drop-append-le, drop_all, take-append-drop, take-append-le, take_all, take_at}
use Rattle.std.proofs.lemmas.Grind.{flat_map-append}
use Rattle.qd_base.specs.declared.cell.Cell.{Cell}
use Rattle.qd_base.specs.declared.part.Part.{Part}
use Rattle.qd_base.specs.declared.schema.ColType.{ColType}
use Rattle.qd_base.specs.declared.schema.ColType.TheVariants as kind
use Rattle.qd_base.specs.declared.schema.Schema.{Schema}
use Rattle.qd_base.specs.Lawful.{Takes}
use Rattle.qd_block.specs.Blocks.{column_in}
use Rattle.qd_column.specs.Cells.{CellsOf}
use Rattle.qd_column_format.specs.Added.{SpellsItself}
use Rattle.qd_column_format.specs.Fields.{field_size}
use Rattle.qd_column_format.specs.Rests.{rows_from, texts_from, HoldsMark, HoldsRest}
use Rattle.qd_column_format.specs.Spelling.{BeginsWith, SpellsColumn, aux_of, aux_of_kind, main_of, text_bytes}
use Rattle.qd_column_format.specs.Tails.{texts_end}
use Rattle.qd_io.specs.declared.fault.IoFault.{IoFault}
use Rattle.qd_volume.specs.Calls.{ReadsAt}
use Rattle.qd_volume.specs.Disk.{Disk, reads_of}
use Rattle.qd_column_files.specs.Columns.{AreTimely, is_designated, kind_of}
use Rattle.qd_column_files.specs.Files.{column_file}
use Rattle.qd_column_files.specs.Rests.{IsAuxRestRead, IsColumnRest, IsFitRest, IsPartRead, IsRestIn, IsStartRead, IsTimedRest, aux_from}
use Rattle.qd_column_files.proofs.ColumnLemmas.{other_column}
use Rattle.qd_column_files.proofs.ReadLemmas.{main_long}
use Rattle.qd_column_files.proofs.TimeLemmas.{timely_low}

-- ---- bytes

-- what bytes from a place on begin with
dropped : (n m : ℕ) (bytes front more : List ℕ) → bytes ≡ front ++ more → length front ≡ n + m → take m (drop n bytes) ≡ drop n front
dropped n m bytes front more is size =
    ap (take m) (ap (drop n) is ∙ drop-append-le n front more (omega (arith, size)))
    ∙ take_at (drop n front) more m (omega (arith, length-drop n front, size))

-- a place and a number of bytes that are at most the greatest number
part_enough : (n m from most : ℕ) (bytes : List ℕ) → from ≡ min n 18446744073709551615 → most ≡ min m 18446744073709551615 → length bytes < 2 ^ 64 → take most (drop from bytes) ≡ take m (drop n bytes)
part_enough n m from most bytes at size low = ap (take most) place ∙ count
  where
    place : drop from bytes ≡ drop n bytes
    place = elim (cases_lt n 18446744073709551615) [
      | inl less ↦ (let same : from ≡ n = omega arith in ap (λ (i : ℕ). drop i bytes) same)
      | inr past ↦ (drop_all from bytes (omega arith) ∙ sym (drop_all n bytes (omega arith)))
    ]

    count : take most (drop n bytes) ≡ take m (drop n bytes)
    count = elim (cases_lt m 18446744073709551615) [
      | inl less ↦ (let same : most ≡ m = omega arith in ap (λ (i : ℕ). take i (drop n bytes)) same)
      | inr past ↦ (take_all most (drop n bytes) (omega (arith, length-drop n bytes)) ∙ sym (take_all m (drop n bytes) (omega (arith, length-drop n bytes))))
    ]

-- ---- the second file

pub texts_within : (skip : ℕ) (cells : List Cell) → length (flat_map text_bytes (take skip cells)) ≤ length (flat_map text_bytes cells)
texts_within skip cells = omega (arith, ap (λ (l : List Cell). length (flat_map text_bytes l)) (take-append-drop skip cells), ap length (flat_map-append text_bytes (take skip cells) (drop skip cells)), length-append (flat_map text_bytes (take skip cells)) (flat_map text_bytes (drop skip cells)))

texts_held : (k : ColType) (cells : List Cell) (skip start : ℕ) (aux back : List ℕ) → BeginsWith aux (aux_of_kind k cells) → back ≡ aux_from k start aux → (k ≡ kind.Varchar → start ≡ texts_end k (take skip cells)) → BeginsWith back (drop (texts_end k (take skip cells)) (aux_of_kind k cells))
texts_held kind.Long cells skip start aux back begins is place = (back, refl)
texts_held kind.Bool cells skip start aux back begins is place = (back, refl)
texts_held kind.Time cells skip start aux back begins is place = (back, refl)
texts_held kind.Symbol cells skip start aux back begins is place = (begins.0, is ∙ begins.1)
texts_held kind.Varchar cells skip start aux back begins is place =
    let end = length (flat_map text_bytes (take skip cells)) in
    (begins.0, is ∙ ap₂ (λ (n : ℕ) (l : List ℕ). drop n l) (place refl) begins.1 ∙ drop-append-le end (flat_map text_bytes cells) begins.0 (texts_within skip cells))

-- ---- the rows from one on

module _ (skip : ℕ) (main aux : List ℕ) (column : CellsOf) (spelled : SpellsColumn main aux column) where
  itself : SpellsItself column
  itself = record {
    cells = spelled.cells;
    main_bytes = ([], sym (append-nil (main_of column)));
    aux_bytes = ([], sym (append-nil (aux_of column)));
    fit = spelled.fit;
    few = spelled.few;
  }

  long : (rows : ℕ) → length column.cells ≡ skip + rows → length (main_of column) ≡ skip * field_size column.kind + rows * field_size column.kind
  long rows size = main_long column ∙ ap (λ n. n * field_size column.kind) size ∙ split skip rows (field_size column.kind)
    where
      split : (a b n : ℕ) → (a + b) * n ≡ a * n + b * n
      split a b n = grind arith

  pub rest_held : (k : ColType) (start rows : ℕ) (front back : List ℕ) → column.kind ≡ k → length column.cells ≡ skip + rows
      → front ≡ take (rows * field_size k) (drop (skip * field_size k) main) → back ≡ aux_from k start aux → (k ≡ kind.Varchar → start ≡ texts_from skip column)
      → HoldsRest skip start front back column
  rest_held k start rows front back is size first second place =
      let n = skip * field_size column.kind in
      let m = rows * field_size column.kind in
      let main_is : front ≡ drop n (main_of column) = first ∙ ap (λ (j : ColType). take (rows * field_size j) (drop (skip * field_size j) main)) (sym is) ∙ dropped n m main (main_of column) spelled.main_bytes.0 spelled.main_bytes.1 (long rows size) in
      let at : column.kind ≡ kind.Varchar → start ≡ texts_from skip column = λ varchar. place (sym is ∙ varchar) in
      record {
        stored = itself;
        rows = ([], main_is ∙ sym (append-nil (drop n (main_of column))));
        texts = texts_held column.kind column.cells skip start aux back spelled.aux_bytes (second ∙ ap (λ (j : ColType). aux_from j start aux) (sym is)) at;
        place = at;
      }

  -- the mark of the last row before
  pub mark_held : (mark : List ℕ) → column.kind ≡ kind.Varchar → 0 < skip → skip ≤ length column.cells → mark ≡ take 8 (drop ((skip - 1) * 8) main) → HoldsMark skip mark column
  mark_held mark varchar some within is =
      let all : length (main_of column) ≡ length column.cells * 8 = main_long column ∙ ap (λ (j : ColType). length column.cells * field_size j) varchar in
      let room : (skip - 1) * 8 + 8 ≤ length (main_of column) = omega (arith, all, some, within) in
      let front : List ℕ = take ((skip - 1) * 8 + 8) (main_of column) in
      let long : length (main_of column) ≡ (skip - 1) * 8 + (length (main_of column) - (skip - 1) * 8) = omega (arith, room) in
      let behind : drop ((skip - 1) * 8) main ≡ drop ((skip - 1) * 8) (main_of column) ++ spelled.main_bytes.0 = ap (drop ((skip - 1) * 8)) spelled.main_bytes.1 ∙ drop-append-le ((skip - 1) * 8) (main_of column) spelled.main_bytes.0 (omega (arith, room)) in
      record {
        stored = itself;
        kind = varchar;
        some = some;
        within = within;
        mark = is ∙ ap (take 8) behind ∙ take-append-le 8 (drop ((skip - 1) * 8) (main_of column)) spelled.main_bytes.0 (omega (arith, room, length-drop ((skip - 1) * 8) (main_of column)));
      }

-- ---- where the texts of the rows before end

-- the bytes of a mark that were read
pub mark_told : (disk : Disk) (file skip at n : ℕ) (before after aux : List ℕ) (column : CellsOf) → 0 < skip → at ≡ min ((skip - 1) * 8) 18446744073709551615 → length before ≡ 8
    → ReadsAt {E = IoFault} (Some disk) file at before after (Ok n)
    → column.kind ≡ kind.Varchar → skip ≤ length column.cells → length (reads_of disk file) < 2 ^ 64 → SpellsColumn (reads_of disk file) aux column → HoldsMark skip (take n after) column
mark_told disk file skip at n before after aux column some place room read varchar within low spelled =
    let main = reads_of disk file in
    let all : length (main_of column) ≡ length column.cells * 8 = main_long column ∙ ap (λ (j : ColType). length column.cells * field_size j) varchar in
    let fits : length column.cells * 8 ≤ length main = omega (arith, all, ap length spelled.main_bytes.1, length-append (main_of column) spelled.main_bytes.0) in
    let is : at ≡ (skip - 1) * 8 = omega (arith, place, low, fits, within, some) in
    let count : n ≡ 8 = omega (arith, read.most, room, is, fits, within, some) in
    let size : length (take n (drop at main)) ≡ n = omega (arith, length-take n (drop at main), length-drop at main, count, is, fits, within, some) in
    let mark : take n after ≡ take 8 (drop ((skip - 1) * 8) main) = ap (take n) read.buffer ∙ take_at (take n (drop at main)) (drop n before) n size ∙ ap₂ (λ (i j : ℕ). take i (drop j main)) count is in
    mark_held skip main aux column spelled (take n after) varchar some within mark

-- by them
pub start_told : (old : Option Disk) (file skip at n start : ℕ) (before after : List ℕ) → 0 < skip → at ≡ min ((skip - 1) * 8) 18446744073709551615 → length before ≡ 8
    → ReadsAt {E = IoFault} old file at before after (Ok n)
    → ((column : CellsOf) → HoldsMark skip (take n after) column → start ≡ texts_from skip column)
    → IfSome old (λ disk. IsStartRead (Ok start) kind.Varchar skip (reads_of disk file))
start_told None file skip at n start before after some place room read ends = tt
start_told (Some disk) file skip at n start before after some place room read ends = λ aux column varchar within low spelled same.
    ends column (mark_told disk file skip at n before after aux column some place room read varchar within low spelled)

pub start_by : (old : Option Disk) (file skip : ℕ) (k : ColType) (result : Result ℕ IoFault) → k ≡ kind.Varchar → IfSome old (λ disk. IsStartRead result kind.Varchar skip (reads_of disk file)) → IfSome old (λ disk. IsStartRead result k skip (reads_of disk file))
start_by old file skip k result is read = subst (λ (j : ColType). IfSome old (λ disk. IsStartRead result j skip (reads_of disk file))) (sym is) read

-- ---- the second file, read

pub aux_told : (k : ColType) (old : Option Disk) (file start at : ℕ) (result : Result (Vec ℕ Global) IoFault) → ((bytes : List ℕ) → aux_from k start bytes ≡ drop at bytes) → IfSome old (λ disk. IsPartRead result at 18446744073709551615 (reads_of disk file)) → IfSome old (λ disk. IsAuxRestRead result k start (reads_of disk file))
aux_told k None file start at result from read = tt
aux_told k (Some disk) file start at (Err fault) from read = tt
aux_told k (Some disk) file start at (Ok bytes) from read = read.0 ∙ take_all 18446744073709551615 (drop at (reads_of disk file)) (omega (arith, read.1, length-drop at (reads_of disk file))) ∙ sym (from (reads_of disk file))

-- ---- a column

-- times that keep the rules of the designated column keep those of any
pub low_timely : (designated : Bool) (cells : List Cell) → AreTimely designated cells → AreTimely false cells
low_timely designated cells timely row there late = absurd (omega (arith, timely_low designated cells timely row there, late))

module _ (s : Schema) (p : Part) (skip col : ℕ) (within : skip ≤ p.rows) (k : ColType) (is : k ≡ kind_of s col) (rest : Option CellsOf) (main aux : Vec ℕ Global) (start : ℕ)
    (judged : (whole : CellsOf) → whole.kind ≡ k → length whole.cells ≡ skip + (p.rows - skip) → AreTimely false whole.cells → HoldsRest skip start main.items aux.items whole → rest ≡ Some (rows_from skip whole)) where
  told_by : (from most file other : ℕ) (disk : Disk) → from ≡ min (skip * field_size k) 18446744073709551615 → most ≡ min ((p.rows - skip) * field_size k) 18446744073709551615
      → IsPartRead (Ok main) from most (reads_of disk file) → IsStartRead (Ok start) k skip (reads_of disk file) → IsAuxRestRead (Ok aux) k start (reads_of disk other)
      → IsColumnRest (Ok rest) s p skip col (reads_of disk file) (reads_of disk other)
  told_by from most file other disk at size first begun second column of spelled =
      let same : column.kind ≡ k = of.kind ∙ sym is in
      let rows : length column.cells ≡ skip + (p.rows - skip) = omega (arith, of.rows, within) in
      let front : main.items ≡ take ((p.rows - skip) * field_size k) (drop (skip * field_size k) (reads_of disk file)) = first.0 ∙ part_enough (skip * field_size k) ((p.rows - skip) * field_size k) from most (reads_of disk file) at size first.1 in
      judged column same rows (low_timely (is_designated s col) column.cells of.timely)
      (rest_held skip (reads_of disk file) (reads_of disk other) column spelled k start (p.rows - skip) main.items aux.items same rows front second
      (begun (reads_of disk other) column same (omega (arith, rows)) first.1 spelled))

  pub column_told : (from most file other : ℕ) (old mid last : Option Disk) → from ≡ min (skip * field_size k) 18446744073709551615 → most ≡ min ((p.rows - skip) * field_size k) 18446744073709551615
      → mid ≡ old → last ≡ mid → file ≡ column_file p.block col 0 → other ≡ column_file p.block col 1
      → IfSome old (λ disk. IsPartRead (Ok main) from most (reads_of disk file)) → IfSome mid (λ disk. IsStartRead (Ok start) k skip (reads_of disk file)) → IfSome last (λ disk. IsAuxRestRead (Ok aux) k start (reads_of disk other))
      → IfSome old (λ disk. IsColumnRest (Ok rest) s p skip col (reads_of disk (column_file p.block col 0)) (reads_of disk (column_file p.block col 1)))
  column_told from most file other None mid last at size same_mid same_last is_main is_aux first begun second = tt
  column_told from most file other (Some disk) mid last at size same_mid same_last is_main is_aux first begun second =
      subst (λ (f : ℕ). IsColumnRest (Ok rest) s p skip col (reads_of disk f) (reads_of disk (column_file p.block col 1))) is_main
      (subst (λ (f : ℕ). IsColumnRest (Ok rest) s p skip col (reads_of disk file) (reads_of disk f)) is_aux
      (told_by from most file other disk at size first
      (subst (λ (m : Option Disk). IfSome m (λ d. IsStartRead (Ok start) k skip (reads_of d file))) same_mid begun)
      (subst (λ (m : Option Disk). IfSome m (λ d. IsAuxRestRead (Ok aux) k start (reads_of d other))) (same_last ∙ same_mid) second)))

-- cells that are as many as asked for, and that the column takes
pub fit_by : (s : Schema) (p : Part) (skip col : ℕ) (k : ColType) (rest : Option CellsOf) → skip ≤ p.rows → k ≡ kind_of s col → IfSome rest (λ column. column.kind ≡ k) → IfSome rest (λ column. length column.cells ≡ p.rows - skip) → IfSome rest (λ column. All (Takes k) column.cells) → IfSome rest (λ column. IsFitRest s p skip col column)
fit_by s p skip col k None within is same size takes = tt
fit_by s p skip col k (Some column) within is same size takes = record {
  kind = same ∙ is;
  rows = omega (arith, size, within);
  takes = subst (λ (j : ColType). All (Takes j) column.cells) is takes;
}

-- ---- a column of a block

module _ (s : Schema) (p : Part) (times : CellsOf) (skip col : ℕ) where
  -- of another column, by its files
  pub rest_told : (shown : col < p.cols) → (col ≢ s.time_col) → (old : Option Disk) (result : Result (Option CellsOf) IoFault)
      → IfSome old (λ disk. IsColumnRest result s p skip col (reads_of disk (column_file p.block col 0)) (reads_of disk (column_file p.block col 1)))
      → IfSome old (λ disk. IsRestIn result s p times skip col (reads_of disk))
  rest_told shown other None result read = tt
  rest_told shown other (Some disk) result read = λ b h.
      read (column_in b col) (other_column s p b col h.is shown (ne_eqb col s.time_col other)) (h.held.each col (omega (arith, h.is.columns, shown)))

  pub rest_fits : col ≢ s.time_col → (result : Result (Option CellsOf) IoFault) → IfOk result (λ rest. IfSome rest (λ column. IsFitRest s p skip col column)) → IfOk result (λ rest. IfSome rest (λ column. IsTimedRest s p times skip col column))
  rest_fits other (Err e) h = tt
  rest_fits other (Ok None) h = tt
  rest_fits other (Ok (Some column)) h = record { fit = h; timed = λ on. absurd (false_true (sym (ne_eqb col s.time_col other) ∙ on)) }
    where
      false_true : false ≡ true → ⊥
      false_true e = cc
