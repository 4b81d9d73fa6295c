use Rattle.std.proofs.Common.{◌∙◌, List, ap}
use Rattle.qd_base.specs.declared.schema.ColType.{ColType}
use Rattle.qd_meaning.specs.declared.parts.Work.TheVariants as work
use Rattle.qd_meaning.specs.Refusals.{least, sooner}
use Rattle.qd_meaning.specs.Sampling.{sample_faults}
use Rattle.qd_plan.proofs.work.Parts.sampled.Goals as goal

pub returns : goal.returns
returns c = record {
  work = ap work.Sample c.in_ok-spec.ensures.spec;
  picks = c.in_ok-picks.ensures.picks;
  out = c.finish.ensures.columns;
  faults = c.in_ok-spec.ensures.faults ∙ ap (λ (ks : List ColType). sooner c.args.faults.now.first (least (sample_faults c.args.sampled.now ks))) c.as_slice.ensures.items;
}
