-- Rows that are made of columns of a table.
use Rattle.std.proofs.Common.{◌≡◌, ℕ, suc, ◌<◌, ◌≤◌, List, [], ◌∷◌, Some, length, map, take, get_or, slice_get, sym, ◌∙◌, ap, subst, arith, All}
use Rattle.std.proofs.lemmas.List.{ext_get_or, get_or-map, get_or-take, length-map, length-take}
use Rattle.std.proofs.lemmas.Option.{slice_get-get_or}
use Rattle.qd_base.specs.declared.cell.Cell.{Cell}
use Rattle.qd_base.specs.declared.cell.Cell.TheVariants as cell
use Rattle.qd_base.specs.declared.schema.Col.{Col}
use Rattle.qd_base.specs.declared.schema.ColType.TheVariants as kind
use Rattle.qd_base.specs.declared.schema.Schema.{Schema}
use Rattle.qd_base.specs.Lawful.{HasKinds, IsSchema, Takes}
use Rattle.qd_base.specs.Rows.{time_in, time_of}
use Rattle.qd_block.specs.Blocks.{Block, block_of, column_in, kinds_in, kinds_of, rows_of}
use Rattle.qd_block.proofs.RowLemmas.{cell_at-row_at, column_of_rows, get_or-rows_of, kind_at, length-rows_of}
use Rattle.qd_column.specs.Cells.{CellsOf, cell_of_row, no_cells}
use Rattle.qd_column_format.specs.Unsorted.{times_in}
use Rattle.qd_column_files.specs.Columns.{kind_of, time_at}
use Rattle.qd_column_files.proofs.ColumnLemmas.{designated_is}

-- cells that columns take, in a row
zip_fits : (cols : List Col) (columns : List CellsOf) (i : ℕ) → length cols ≡ length columns → ((k : ℕ) (e : Col) (d : CellsOf) → k < length columns → Takes (get_or cols k e).kind (cell_of_row (get_or columns k d) i)) → HasKinds cols (map (λ (c : CellsOf). cell_of_row c i) columns)
zip_fits [] [] i same each = tt
zip_fits [] (c ∷ cs) i same each = absurd (omega (arith, same))
zip_fits (x ∷ xs) [] i same each = absurd (omega (arith, same))
zip_fits (x ∷ xs) (c ∷ cs) i same each = (each 0 x c (omega arith), zip_fits xs cs i (omega (arith, same)) (λ k e d lt. each (suc k) e d (omega (arith, lt))))

-- so many cells of a table's column
pub record IsShownColumn (s : Schema) (n col : ℕ) (column : CellsOf) : Type 0 where
  pub kind : column.kind ≡ kind_of s col
  pub rows : length column.cells ≡ n
  pub takes : All (Takes (kind_of s col)) column.cells

module _ (s : Schema) (cols n : ℕ) (columns : List CellsOf) (schema : IsSchema s) (timed : s.time_col < cols) (within : cols ≤ length s.cols) (all : length columns ≡ cols) (each : (k : ℕ) (d : CellsOf) → k < cols → IsShownColumn s n k (get_or columns k d)) where
  abbrev none : CellsOf
  none = no_cells kind.Time

  abbrev made : Block
  made = block_of n s.time_col columns

  pub kinds_made : kinds_of columns ≡ take cols (kinds_in s.cols)
  kinds_made =
      let few : length (take cols (kinds_in s.cols)) ≡ cols = omega (arith, length-take cols (kinds_in s.cols), length-map s.cols (λ (c : Col). c.kind), within) in
      let size : length (kinds_of columns) ≡ cols = length-map columns (λ (c : CellsOf). c.kind) ∙ all in
      ext_get_or kind.Time (kinds_of columns) (take cols (kinds_in s.cols)) (size ∙ sym few)
      (λ k lt.
      let low : k < cols = omega (arith, size, lt) in
      kind_at columns k none kind.Time (omega (arith, all, low)) ∙ (each k none low).kind ∙ sym (get_or-take cols (kinds_in s.cols) k kind.Time low))

  pub designated_made : slice_get (kinds_of columns) s.time_col ≡ Some kind.Time
  designated_made =
      let there : s.time_col < length columns = omega (arith, all, timed) in
      let is : get_or (kinds_of columns) s.time_col kind.Time ≡ kind.Time = kind_at columns s.time_col none kind.Time there ∙ (each s.time_col none timed).kind ∙ (designated_is s schema).1 in
      slice_get-get_or (kinds_of columns) s.time_col kind.Time (omega (arith, length-map columns (λ (c : CellsOf). c.kind), there)) ∙ ap Some is

  pub times_long : length (times_in s.time_col columns) ≡ n
  times_long = (each s.time_col none timed).rows

  pub time_shown : (i : ℕ) → i < n → time_of s.time_col (get_or (rows_of n columns) i []) ≡ time_at (times_in s.time_col columns) i
  time_shown i lt = ap (time_of s.time_col) (get_or-rows_of n i columns [] lt) ∙ ap time_in (cell_at-row_at columns i s.time_col none (omega (arith, all, timed)))

  pub rows_fit : All (HasKinds (take cols s.cols)) (rows_of n columns)
  rows_fit i d lt =
      let low : i < n = omega (arith, length-rows_of n columns, lt) in
      let size : length (take cols s.cols) ≡ length columns = omega (arith, length-take cols s.cols, within, all) in
      subst (HasKinds (take cols s.cols)) (sym (get_or-rows_of n i columns d low))
      (zip_fits (take cols s.cols) columns i size
      (λ k e c lower.
      let small : k < cols = omega (arith, all, lower) in
      let same : kind_of s k ≡ (get_or (take cols s.cols) k e).kind = get_or-map (λ (x : Col). x.kind) s.cols k e kind.Time (omega (arith, within, small)) ∙ ap (λ (x : Col). x.kind) (sym (get_or-take cols s.cols k e small)) in
      let one = each k c small in
      subst (λ t. Takes t (cell_of_row (get_or columns k c) i)) same (one.takes i cell.Null (omega (arith, one.rows, low)))))

  -- the block's columns are the columns
  pub column_made : (k : ℕ) → k < cols → get_or columns k none ≡ column_in made k
  column_made k low =
      let there : k < length columns = omega (arith, all, low) in
      let c = get_or columns k none in
      ap (λ t. record { kind = t; cells = c.cells }) (sym (kind_at columns k none kind.Time there))
      ∙ ap (λ (cs : List Cell). record { kind = get_or (kinds_of columns) k kind.Time; cells = cs }) (sym (column_of_rows n k columns none there (each k none low).rows))
