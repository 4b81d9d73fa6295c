-- Which literal of a row stands for which column.
use Rattle.std.specs.Prelude.{◌≡◌, ℕ, suc, ◌<◌, ◌==◌, if◌then◌else◌, List, [], ◌∷◌, length, map, Option, Some, None, slice_get, slice_index_or, unwrap_or}
use Rattle.std.specs.List.{zip, range_with_len}
use Rattle.std.specs.Option.{option_map}
use Rattle.qd_base.specs.declared.cell.Cell.{Cell}
use Rattle.qd_base.specs.declared.schema.Col.{Col}
use Rattle.qd_base.specs.Database.{missing}
use Rattle.qd_base.specs.Rows.{Row}
use Rattle.qd_sql_ast.specs.declared.tree.Lit.{Lit}
use Rattle.qd_meaning.specs.Inserting.{Target, cell_for, cell_or, taken_by}

-- the first place of a column among those that a row gives values
abbrev pub place_of : ℕ → List Target → Option ℕ
place_of col [] = None
place_of col (x ∷ xs) = if x.0 == col then Some 0 else option_map suc (place_of col xs)

-- a place for each of so many columns
pub record ArePlaces (targets : List Target) (count : ℕ) (places : List (Option ℕ)) : Type 0 where
  pub size : length places ≡ count
  pub each : (col : ℕ) → col < count → slice_index_or places col None ≡ place_of col targets

-- two that are there, as one
abbrev pub pair : {A B : Type 0} → Option A → Option B → Option (A × B)
pair None b = None
pair (Some a) None = None
pair (Some a) (Some b) = Some (a, b)

-- the literal at a place, with its column
abbrev pub literal_at : Option ℕ → List Target → List Lit → Option (Target × Lit)
literal_at None targets lits = None
literal_at (Some place) targets lits = pair (slice_get targets place) (slice_get lits place)

-- the cell of a column whose value stands at a place
abbrev pub cell_in : Col → Option ℕ → List Target → List Lit → Cell
cell_in col place targets lits = cell_or (missing col.kind) (literal_at place targets lits)

-- the cell that a literal is in its column
abbrev pub taken_cell : Target × Lit → Cell
taken_cell x = (taken_by x.0.1 x.1).0

-- the cell of each literal that has a column
abbrev pub cells_of : List Target → List Lit → List Cell
cells_of targets lits = map taken_cell (zip targets lits)

-- the cell of a column, where those of the literals are known
abbrev pub view_cell : Col → Option ℕ → List Cell → Cell
view_cell col None cells = missing col.kind
view_cell col (Some place) cells = unwrap_or (slice_get cells place) (missing col.kind)

-- the row of some literals
abbrev pub placed : List Col → List Target → List Lit → Row
placed cols targets lits = map (cell_for (zip targets lits)) (zip (range_with_len 0 (length cols)) cols)
