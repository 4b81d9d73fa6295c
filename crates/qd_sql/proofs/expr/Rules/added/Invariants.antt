use Rattle.std.proofs.Common.{◌≡◌, ◌-◌}
use Rattle.qd_sql_ast.specs.Steps.{links_from}
use Rattle.qd_sql.specs.Exprs.{add_op, added, add_term, expr}
use Rattle.qd_sql.proofs.expr.Rules.added.Given as goal

abbrev pub invariant-loop-turn : goal.invariant-loop-turn
invariant-loop-turn g l = added (expr l.self.depth) l.fn.tokens ≡ links_from add_op (add_term (expr l.self.depth)) (l._turn-end - l._turn) l.found l.tokens
