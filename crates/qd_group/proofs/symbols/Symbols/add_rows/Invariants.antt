use Rattle.std.proofs.Common.{◌≡◌, ℕ, ◌+◌, ◌-◌, ◌<◌, ◌≤◌, List, None, length, get_or}
use Rattle.qd_base.specs.declared.cell.Cell.{Cell}
use Rattle.qd_base.specs.declared.cell.Cell.TheVariants as cell
use Rattle.qd_rows.specs.Sets.{row_of_place}
use Rattle.qd_value.specs.Value.{value}
use Rattle.qd_group.specs.Numbering.{Stands}
use Rattle.qd_group.proofs.symbols.Symbols.add_rows.Given as goal

-- the rows so far are numbered
abbrev pub invariant-loop-i : goal.invariant-loop-i
invariant-loop-i g l =
    (texts : ℕ → List (List ℕ)) (cells : List Cell) (n : ℕ) → n + (l.run.to - l.run.from) ≤ length cells
    → ((k : ℕ) → k < l.run.to - l.run.from → value l.key (row_of_place l.rows ((l.run.block, l.run.from + k), None)) ≡ get_or cells (n + k) cell.Null)
    → Stands texts cells n l.initial.self → Stands texts cells (n + (l.i - l.run.from)) l.self
