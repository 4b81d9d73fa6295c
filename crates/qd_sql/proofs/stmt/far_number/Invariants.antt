use Rattle.std.proofs.Common.{◌≡◌, length}
use Rattle.qd_sql_ast.specs.Steps.{lexemes}
use Rattle.qd_sql.specs.Statement.{far_number}
use Rattle.qd_sql.proofs.stmt.far_number.Given as goal

abbrev pub invariant-loop-list : goal.invariant-loop-list
invariant-loop-list l = far_number (lexemes l.list) ≡ far_number (lexemes l.initial.list)

abbrev pub decreases-loop-list : goal.decreases-loop-list
decreases-loop-list l = length l.list
