-- Cells of a row, one for each column.
use Rattle.std.proofs.Common.{◌≡◌, ℕ, ◌<◌, ◌≤◌, List, [], length, get_or, arith}
use Rattle.qd_base.specs.declared.cell.Cell.{Cell}
use Rattle.qd_base.specs.declared.cell.Cell.TheVariants as cell
use Rattle.qd_base.specs.declared.schema.Col.{Col}
use Rattle.qd_base.specs.declared.schema.ColType.TheVariants as kind
use Rattle.qd_base.specs.Lawful.{HasKinds, Takes}
use Rattle.qd_validate.proofs.ListLemmas.{AllZip-from}

-- each cell is taken
pub taken_whole : (cols : List Col) (row : List Cell) (i : ℕ) → length cols ≡ length row → length row ≤ i → ((k : ℕ) (d : Col) (x : Cell) → k < i → Takes (get_or cols k d).kind (get_or row k x)) → HasKinds cols row
taken_whole cols row i same le h =
    let no_col : Col = record { name = []; kind = kind.Long } in
    AllZip-from (λ (a : Col) (x : Cell). Takes a.kind x) cols row no_col cell.Null same (λ k lt. h k no_col cell.Null (omega arith))
