use Rattle.std.proofs.Common.{ℕ, List, [], arith, sym, subst}
use Rattle.qd_latest.specs.Chains.{cells_of}
use Rattle.qd_latest.specs.Walks.{HasWalked}
use Rattle.qd_latest.proofs.MeetLemmas.{met_begun, met_grown}
use Rattle.qd_latest.proofs.PartLemmas.{length-cells}
use Rattle.qd_latest.proofs.WalkLemmas.{passed_on, walked_none}
use Rattle.qd_latest.proofs.walk.rows_of_texts.Goals as goal

pub loop-end-init : goal.loop-end-init
loop-end-init g c = record {
  within = omega (arith, c.len-end.ensures.count);
  walked = subst (λ (m : List (List ℕ)). HasWalked (cells_of c.args.rows.now c.args.col) c.len-end.result m c.new-kept.result.items) (sym c.in_ok-met.ensures.empty)
      (subst (λ (k : List ℕ). HasWalked (cells_of c.args.rows.now c.args.col) c.len-end.result [] k) (sym c.new-kept.ensures.items)
      (walked_none (cells_of c.args.rows.now c.args.col) c.len-end.result (omega (arith, c.len-end.ensures.count, length-cells c.args.rows.now c.args.col))));
  met = met_begun c.args.rows.now.blocks c.args.col (g.D.Dictionary.texts c.in_ok-met.met);
}

pub next_end-end-requires-clause-met : goal.next_end-end-requires-clause-met
next_end-end-requires-clause-met g c = met_grown c.args.rows.now.blocks c.args.col (g.D.Dictionary.texts c.loop-end.met) (g.D.Dictionary.texts c.meet_part.new.met) c.loop-end.mark.block c.loop-end.mark.id c.in_ok-lists.ensures.grows c.loop-end.invariant.met

pub loop-end-preserved : goal.loop-end-preserved
loop-end-preserved g c = record {
  within = omega (arith, c.next_end-end.ensures.within, c.last_part-part.ensures.ends, c.loop-end.invariant.within);
  walked = passed_on (cells_of c.args.rows.now c.args.col) c.next_end-end.result c.last_part-part.result.before (g.D.Dictionary.texts c.meet_part.new.met) c.meet_part.new.kept.items c.next_end-end.ensures.within c.next_end-end.ensures.passed c.in_ok-lists.ensures.walked;
  met = c.next_end-end.ensures.met;
}
