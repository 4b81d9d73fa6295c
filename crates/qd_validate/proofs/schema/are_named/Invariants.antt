use Rattle.std.proofs.Common.{All, take}
use Rattle.qd_base.specs.declared.schema.Col.{Col}
use Rattle.qd_base.specs.Names.{IsColumnName}
use Rattle.qd_validate.proofs.schema.are_named.Given as goal

abbrev pub invariant-loop-col : goal.invariant-loop-col
invariant-loop-col l = All (λ (c : Col). IsColumnName c.name) (take l.col-index l.cols)
