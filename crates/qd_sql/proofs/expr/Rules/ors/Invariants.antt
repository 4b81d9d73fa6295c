use Rattle.std.proofs.Common.{◌≡◌, ◌-◌, codes}
use Rattle.qd_sql_ast.specs.Steps.{links_from, word}
use Rattle.qd_sql.specs.Exprs.{ors, or_conj, expr}
use Rattle.qd_sql.proofs.expr.Rules.ors.Given as goal

abbrev pub invariant-loop-turn : goal.invariant-loop-turn
invariant-loop-turn g l = ors (expr l.self.depth) l.fn.tokens ≡ links_from (word (codes "OR")) (or_conj (expr l.self.depth)) (l._turn-end - l._turn) l.found l.tokens
