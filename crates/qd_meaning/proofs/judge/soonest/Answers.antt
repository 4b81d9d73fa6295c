use Rattle.std.proofs.Common.{rules, arith, ◌≡◌, ◌<◌, length, get_or, sym, ap, ◌∙◌}
use Rattle.std.proofs.lemmas.Grind.{common_steps}
use Rattle.qd_meaning.specs.Refusals.{least}
use Rattle.qd_meaning.proofs.SoonLemmas.{one-more}
use Rattle.qd_meaning.proofs.judge.soonest.Goals as goal

pub loop-part-preserved : goal.loop-part-preserved
loop-part-preserved g c = record {
  callable = c.loop-part.invariant.callable;
  found = λ faults judges.
      let x = c.part-item.result in
      let one = judges.judges _ c.judge.result c.judge.ensures in
      let there : get_or c.args.parts.now c.loop-part.part-index x ≡ x = first_of (search rules, grind (arith, common_steps)) in
      let below : c.loop-part.part-index < length c.args.parts.now = first_of (search rules, grind (arith, common_steps)) in
      c.sooner-found.ensures.least
      ∙ one-more faults c.args.parts.now c.loop-part.part-index x below c.loop-part.found c.judge.result (c.loop-part.invariant.found faults judges) (one ∙ ap (λ y. least (faults y)) (sym there));
}
