use Rattle.std.proofs.Common.{◌≡◌, ◌-◌, codes}
use Rattle.qd_sql_ast.specs.Steps.{links_from, word}
use Rattle.qd_sql.specs.Exprs.{ands, and_neg, expr}
use Rattle.qd_sql.proofs.expr.Rules.ands.Given as goal

abbrev pub invariant-loop-turn : goal.invariant-loop-turn
invariant-loop-turn g l = ands (expr l.self.depth) l.fn.tokens ≡ links_from (word (codes "AND")) (and_neg (expr l.self.depth)) (l._turn-end - l._turn) l.found l.tokens
