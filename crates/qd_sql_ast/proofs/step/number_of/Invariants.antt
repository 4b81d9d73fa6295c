use Rattle.std.proofs.Common.{◌≡◌, ◌+◌, ◌≤◌, take, fold}
use Rattle.qd_base.specs.declared.limits.TheConstants.{MAX_NUMBER}
use Rattle.qd_sql_ast.specs.Steps.{next_value}
use Rattle.qd_sql_ast.proofs.step.number_of.Given as goal

abbrev pub invariant-loop-digit : goal.invariant-loop-digit
invariant-loop-digit l = record { value : l.value ≡ fold next_value 0 (take l.digit-index l.digits); bound : l.value ≤ MAX_NUMBER + 1 }
