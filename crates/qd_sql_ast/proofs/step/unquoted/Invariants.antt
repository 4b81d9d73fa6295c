use Rattle.std.proofs.Common.{◌≡◌, ◌++◌, length}
use Rattle.qd_sql_ast.specs.Steps.{unquoted, unquoted_from}
use Rattle.qd_sql_ast.proofs.step.unquoted.Given as goal

abbrev pub invariant-loop-content : goal.invariant-loop-content
invariant-loop-content l = l.bytes.items ++ unquoted_from l.is_second l.content ≡ unquoted l.initial.content

abbrev pub decreases-loop-content : goal.decreases-loop-content
decreases-loop-content l = length l.content
