use Rattle.std.proofs.Common.{All, take}
use Rattle.qd_base.specs.Lawful.{IsRowOf}
use Rattle.qd_validate.proofs.cells.rows_fit.Given as goal

abbrev pub invariant-loop-row : goal.invariant-loop-row
invariant-loop-row l = All (IsRowOf l.schema) (take l.row-index l.rows)
