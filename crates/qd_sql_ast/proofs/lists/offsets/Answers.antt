use Rattle.std.proofs.Common.{rules, arith}
use Rattle.std.proofs.lemmas.Grind.{common_steps}
use Rattle.qd_sql_ast.specs.Steps.{offsets_from}
use Rattle.qd_sql_ast.proofs.Turns.{one_more, no_more}
use Rattle.qd_sql_ast.proofs.lists.offsets.Goals as goal

pub returns-in_default : goal.returns-in_default
unfolding offsets_from
returns-in_default g c = λ rule takes.
    let e = one_more (λ n. offsets_from rule n c.loop-turn.found c.loop-turn.tokens) _ c.loop-turn._turn c.loop-turn-test.true (c.loop-turn.invariant.taken rule takes) in
    let r = takes.takes _ _ _ c.one.ensures in
    first_of (search rules, grind (arith, common_steps))

pub loop-turn-preserved : goal.loop-turn-preserved
unfolding offsets_from
loop-turn-preserved g c = record {
  callable = c.loop-turn.invariant.callable;
  taken = λ rule takes.
      let e = one_more (λ n. offsets_from rule n c.loop-turn.found c.loop-turn.tokens) _ c.loop-turn._turn c.loop-turn-test.true (c.loop-turn.invariant.taken rule takes) in
      let r = takes.takes _ _ _ c.one.ensures in
      first_of (search rules, grind (arith, common_steps));
}

pub returns : goal.returns
unfolding offsets_from
returns g c = λ rule takes.
    let e = no_more (λ n. offsets_from rule n c.loop-turn.found c.loop-turn.tokens) _ c.loop-turn._turn c.loop-turn-test.false (c.loop-turn.invariant.taken rule takes) in
    first_of (search rules, grind (arith, common_steps))
