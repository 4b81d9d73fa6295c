-- The cells of a set's rows, run by run.
use Rattle.std.proofs.Common.{◌≡◌, ℕ, ◌+◌, ◌-◌, ◌<◌, ◌≤◌, List, [], ◌∷◌, ◌++◌, None, length, map, take, drop, get_or, refl, sym, ap, ap₂, ◌∙◌, arith, length-append, slice_range}
use Rattle.std.proofs.lemmas.Grind.{flat_map-append}
use Rattle.std.proofs.lemmas.List.{append-nil, get_or-drop, get_or-map, get_or-take, length-map, take_more}
use Rattle.std.proofs.lemmas.List.Concat.{get_or-flat_map}
use Rattle.std.proofs.lemmas.List.Folds.{length-flat_map-take}
use Rattle.std.proofs.lemmas.List.FromFn.{length-map-range_with_len, get_or-map-range_with_len}
use Rattle.qd_base.specs.declared.cell.Cell.{Cell}
use Rattle.qd_base.specs.declared.cell.Cell.TheVariants as cell
use Rattle.qd_base.specs.Rows.{Row, cell_at, cell_eq}
use Rattle.qd_block.specs.Blocks.{column_in}
use Rattle.qd_column.specs.Cells.{CellsOf}
use Rattle.qd_rows.specs.declared.runs.Run.{Run}
use Rattle.qd_rows.specs.Runs.{Spot, places_of_run, places_of_runs}
use Rattle.qd_rows.specs.Sets.{Joined, ResultRows, alone, block_at, row_of_place, rows_in, IsRunOf}
use Rattle.qd_expr.specs.Passing.{row_in}
use Rattle.qd_expr.proofs.ListLemmas.{map-map}
use Rattle.qd_value.specs.declared.bound.Bound.{Bound}
use Rattle.qd_value.specs.Value.{value}
use Rattle.qd_group.specs.Grouping.{same_values, AreGroups}
use Rattle.qd_group.specs.Numbering.{same_cells}
use Rattle.qd_group.proofs.Assembly.{length_rows}
use Rattle.qd_group.proofs.Leaders.{groups_turned}

-- the cells of a column of a set
abbrev pub cells_of : ResultRows → ℕ → List Cell
cells_of s at = map (λ row. cell_at row at) (rows_in s)

length_run : (r : Run) → length (places_of_run r) ≡ r.to - r.from
length_run r = length-map-range_with_len {X = Spot} (λ i. (r.block, i)) r.from (r.to - r.from)

-- how many rows there are before a run
abbrev pub before : List Run → ℕ → ℕ
before runs i = length (places_of_runs (take i runs))

pub before_more : (runs : List Run) (i : ℕ) (d : Run) → i < length runs → before runs (i + 1) ≡ before runs i + ((get_or runs i d).to - (get_or runs i d).from)
before_more runs i d low =
    ap length whole ∙ length-append (places_of_runs (take i runs)) (places_of_run (get_or runs i d)) ∙ ap (λ n. before runs i + n) (length_run (get_or runs i d))
  where
    whole : places_of_runs (take (i + 1) runs) ≡ places_of_runs (take i runs) ++ places_of_run (get_or runs i d)
    whole =
        ap places_of_runs (take_more runs i d low)
        ∙ flat_map-append places_of_run (take i runs) (get_or runs i d ∷ [])
        ∙ ap (λ l. places_of_runs (take i runs) ++ l) (append-nil (places_of_run (get_or runs i d)))

length_cells : (s : ResultRows) (at : ℕ) (runs : List Run) → s.places ≡ alone (places_of_runs runs) → length (cells_of s at) ≡ length (places_of_runs runs)
length_cells s at runs e =
    length-map (rows_in s) (λ row. cell_at row at) ∙ length_rows s ∙ ap length e ∙ length-map (places_of_runs runs) (λ (p : Spot). (p, None))

pub run_inside : (s : ResultRows) (at : ℕ) (runs : List Run) (i : ℕ) (d : Run) → s.places ≡ alone (places_of_runs runs) → i < length runs → before runs i + ((get_or runs i d).to - (get_or runs i d).from) ≤ length (cells_of s at)
run_inside s at runs i d e low =
    omega (arith, length-flat_map-take places_of_run runs i d low, length_run (get_or runs i d), length_cells s at runs e)

pub run_cell : (s : ResultRows) (at : ℕ) (runs : List Run) (i : ℕ) (d : Run) (k : ℕ) → s.places ≡ alone (places_of_runs runs) → i < length runs → k < (get_or runs i d).to - (get_or runs i d).from
    → cell_at (row_of_place s (((get_or runs i d).block, (get_or runs i d).from + k), None)) at ≡ get_or (cells_of s at) (before runs i + k) cell.Null
run_cell s at runs i d k e low inside =
    sym (ap (λ (l : List Cell). get_or l (before runs i + k) cell.Null) whole
    ∙ get_or-map f (places_of_runs runs) (before runs i + k) (0, 0) cell.Null there
    ∙ ap f (get_or-flat_map places_of_run runs i k d (0, 0) low (omega (arith, length_run (get_or runs i d)))
    ∙ get_or-map-range_with_len (λ i. (r.block, i)) r.from (r.to - r.from) k (r.from + k) (0, 0) inside refl))
  where
    r : Run
    r = get_or runs i d

    f : Spot → Cell
    f p = cell_at (row_of_place s (p, None)) at

    whole : cells_of s at ≡ map f (places_of_runs runs)
    whole =
        ap (λ (ps : List Joined). map (λ row. cell_at row at) (map (row_of_place s) ps)) e
        ∙ map-map (λ row. cell_at row at) (row_of_place s) (alone (places_of_runs runs))
        ∙ map-map (λ (p : Joined). cell_at (row_of_place s p) at) (λ (p : Spot). (p, None)) (places_of_runs runs)

    there : before runs i + k < length (places_of_runs runs)
    there = omega (arith, length-flat_map-take places_of_run runs i d low, length_run (get_or runs i d), inside)

-- rows grouped by the cells of a column are grouped by its values
pub cells_grouped : (e : Bound) (s : ResultRows) (at n : ℕ) (runs : List Run) (ns fs : List ℕ) → s.places ≡ alone (places_of_runs runs) → n ≡ length (places_of_runs runs) → ((row : Row) → value e row ≡ cell_at row at)
    → AreGroups (same_cells (cells_of s at)) n ns fs → AreGroups (same_values e s) (length s.places) ns fs
cells_grouped e s at n runs ns fs places all column are = groups_turned (same_cells (cells_of s at)) (same_values e s) n (length s.places) ns fs size agree are
  where
    size : n ≡ length s.places
    size = all ∙ sym (length_cells s at runs places) ∙ length-map (rows_in s) (λ row. cell_at row at) ∙ length_rows s

    is : (i : ℕ) → i < n → get_or (cells_of s at) i cell.Null ≡ value e (row_in s i)
    is i low = get_or-map (λ row. cell_at row at) (rows_in s) i [] cell.Null (omega (arith, size, length_rows s)) ∙ sym (column (row_in s i))

    agree : (i j : ℕ) → i < n → j < n → same_cells (cells_of s at) i j ≡ same_values e s i j
    agree i j i_low j_low = ap₂ cell_eq (is i i_low) (is j j_low)

-- the cells of a column in a run
pub part_cell : (xs : List Cell) (s : ResultRows) (at : ℕ) (r : Run) → slice_range xs r.from r.to ≡ map (λ p. cell_at (row_of_place s (p, None)) at) (places_of_run r) → r.to ≤ length xs
    → (k : ℕ) → k < r.to - r.from → get_or xs (r.from + k) cell.Null ≡ cell_at (row_of_place s ((r.block, r.from + k), None)) at
part_cell xs s at r e within k low =
    sym (get_or-take (r.to - r.from) (drop r.from xs) k cell.Null low ∙ get_or-drop r.from xs k cell.Null)
    ∙ ap (λ (l : List Cell). get_or l k cell.Null) e
    ∙ get_or-map f (places_of_run r) k (0, 0) cell.Null (omega (arith, length_run r))
    ∙ ap f (get_or-map-range_with_len (λ i. (r.block, i)) r.from (r.to - r.from) k (r.from + k) (0, 0) low refl)
  where
    f : Spot → Cell
    f p = cell_at (row_of_place s (p, None)) at

pub column_whole : (s : ResultRows) (r : Run) (at : ℕ) (column : CellsOf) → column ≡ column_in (block_at s.blocks r.block) at → IsRunOf s r → r.to ≤ length column.cells
column_whole s r at column is there = omega (arith, there.within, ap (λ (c : CellsOf). length c.cells) is, length-map (block_at s.blocks r.block).rows (λ row. cell_at row at))
