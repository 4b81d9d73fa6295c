use Rattle.std.proofs.Common.{rules, arith}
use Rattle.std.proofs.lemmas.Grind.{common_steps}
use Rattle.qd_sql_ast.specs.Steps.{list_from}
use Rattle.qd_sql_ast.proofs.Turns.{one_more, no_more}
use Rattle.qd_sql_ast.proofs.lists.list.Goals as goal

pub returns-in_err-item : goal.returns-in_err-item
unfolding list_from
returns-in_err-item g c = λ rule reads.
    let e = one_more (λ n. list_from rule n c.loop-turn.found c.loop-turn.tokens) _ c.loop-turn._turn c.loop-turn-test.true (c.loop-turn.invariant.read rule reads) in
    let r = reads.reads _ _ _ _ c.item.ensures in
    first_of (search rules, grind (arith, common_steps))

pub returns-then-is_none : goal.returns-then-is_none
unfolding list_from
returns-then-is_none g c = λ rule reads.
    let e = one_more (λ n. list_from rule n c.loop-turn.found c.loop-turn.tokens) _ c.loop-turn._turn c.loop-turn-test.true (c.loop-turn.invariant.read rule reads) in
    let r = reads.reads _ _ _ _ c.item.ensures in
    first_of (search rules, grind (arith, common_steps))

pub loop-turn-preserved : goal.loop-turn-preserved
unfolding list_from
loop-turn-preserved g c = record {
  callable = c.loop-turn.invariant.callable;
  read = λ rule reads.
      let e = one_more (λ n. list_from rule n c.loop-turn.found c.loop-turn.tokens) _ c.loop-turn._turn c.loop-turn-test.true (c.loop-turn.invariant.read rule reads) in
      let r = reads.reads _ _ _ _ c.item.ensures in
      first_of (search rules, grind (arith, common_steps));
}

pub returns : goal.returns
unfolding list_from
returns g c = λ rule reads.
    let e = no_more (λ n. list_from rule n c.loop-turn.found c.loop-turn.tokens) _ c.loop-turn._turn c.loop-turn-test.false (c.loop-turn.invariant.read rule reads) in
    first_of (search rules, grind (arith, common_steps))
