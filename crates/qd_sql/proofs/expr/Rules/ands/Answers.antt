use Rattle.std.proofs.Common.{rules, arith, codes}
use Rattle.std.proofs.lemmas.Grind.{common_steps}
use Rattle.qd_sql_ast.specs.Steps.{links_from, word}
use Rattle.qd_sql.specs.Exprs.{ands, and_neg, expr}
use Rattle.qd_sql_ast.proofs.Turns.{one_more, no_more}
use Rattle.qd_sql.proofs.expr.Rules.ands.Goals as goal

pub loop-turn-init : goal.loop-turn-init
unfolding ands
loop-turn-init g c = first_of (search rules, grind (arith, common_steps))

pub returns-in_default : goal.returns-in_default
unfolding links_from
returns-in_default g c =
    let e = one_more (λ n. links_from (word (codes "AND")) (and_neg (expr c.args.self.now.depth)) n c.loop-turn.found c.loop-turn.tokens) _ c.loop-turn._turn c.loop-turn-test.true c.loop-turn.invariant in
    first_of (search rules, grind (arith, common_steps))

pub returns-in_err-neg : goal.returns-in_err-neg
unfolding links_from
returns-in_err-neg g c =
    let e = one_more (λ n. links_from (word (codes "AND")) (and_neg (expr c.args.self.now.depth)) n c.loop-turn.found c.loop-turn.tokens) _ c.loop-turn._turn c.loop-turn-test.true c.loop-turn.invariant in
    first_of (search rules, grind (arith, common_steps))

pub loop-turn-preserved : goal.loop-turn-preserved
unfolding links_from
loop-turn-preserved g c =
    let e = one_more (λ n. links_from (word (codes "AND")) (and_neg (expr c.args.self.now.depth)) n c.loop-turn.found c.loop-turn.tokens) _ c.loop-turn._turn c.loop-turn-test.true c.loop-turn.invariant in
    first_of (search rules, grind (arith, common_steps))

pub returns : goal.returns
unfolding links_from
returns g c =
    let e = no_more (λ n. links_from (word (codes "AND")) (and_neg (expr c.args.self.now.depth)) n c.loop-turn.found c.loop-turn.tokens) _ c.loop-turn._turn c.loop-turn-test.false c.loop-turn.invariant in
    first_of (search rules, grind (arith, common_steps))
