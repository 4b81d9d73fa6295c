-- Columns of texts: one buffer of bytes, and for each row a mark, twice the place behind its bytes, and 1 more for NULL.
use Rattle.std.specs.Prelude.{◌≡◌, ℕ, zero, suc, ◌+◌, ◌/◌, ◌%◌, ◌≤◌, List, [], ◌∷◌, ◌==◌, if◌then◌else◌, length, slice_range, slice_index_or}
use Rattle.qd_base.specs.declared.cell.Cell.{Cell}
use Rattle.qd_base.specs.declared.cell.Cell.TheVariants as cell
use Rattle.qd_base.specs.declared.limits.TheConstants.{MAX_TEXT_BYTES}

-- the cell whose bytes begin at a place, by its mark
abbrev pub text_cell : List ℕ → ℕ → ℕ → Cell
text_cell bytes start mark = if mark % 2 == 1 then cell.Null else cell.Text (slice_range bytes start (mark / 2))

-- the cells of marks, the first one's bytes beginning at a place
abbrev pub cells_from : List ℕ → ℕ → List ℕ → List Cell
cells_from bytes start [] = []
cells_from bytes start (mark ∷ marks) = text_cell bytes start mark ∷ cells_from bytes (mark / 2) marks

-- the marks tile the bytes from a place on: no text has too many of them, NULL has none
abbrev pub Tile : ℕ → List ℕ → ℕ → Type 0
Tile start [] end = start ≡ end
Tile start (mark ∷ marks) end = (start ≤ mark / 2) × (mark / 2 ≤ start + MAX_TEXT_BYTES) × (mark % 2 ≡ 1 → mark / 2 ≡ start) × Tile (mark / 2) marks end

-- where the bytes of a row begin: behind those of the row before
abbrev pub start_at : ℕ → List ℕ → ℕ → ℕ
start_at start marks zero = start
start_at start marks (suc i) = slice_index_or marks i 0 / 2
