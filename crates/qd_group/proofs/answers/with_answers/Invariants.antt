use Rattle.std.proofs.Common.{◌≡◌, ◌++◌, get_or, map, take}
use Rattle.qd_base.specs.declared.cell.Cell.TheVariants as cell
use Rattle.qd_value.specs.Scalars.{cell_of}
use Rattle.qd_group.proofs.answers.with_answers.Given as goal

-- the answers so far
abbrev pub invariant-loop-column : goal.invariant-loop-column
invariant-loop-column l = l.row ≡ l.fn.row ++ map (λ c. get_or (map cell_of c.items) l.n cell.Null) (take l.column-index l.columns)
