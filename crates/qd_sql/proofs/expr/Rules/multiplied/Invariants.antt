use Rattle.std.proofs.Common.{◌≡◌, ◌-◌}
use Rattle.qd_sql_ast.specs.Steps.{links_from}
use Rattle.qd_sql.specs.Exprs.{mul_op, multiplied, mul_signed, expr}
use Rattle.qd_sql.proofs.expr.Rules.multiplied.Given as goal

abbrev pub invariant-loop-turn : goal.invariant-loop-turn
invariant-loop-turn g l = multiplied (expr l.self.depth) l.fn.tokens ≡ links_from mul_op (mul_signed (expr l.self.depth)) (l._turn-end - l._turn) l.found l.tokens
