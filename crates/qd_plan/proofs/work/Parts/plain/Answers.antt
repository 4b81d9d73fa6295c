use Rattle.std.proofs.Common.{◌∙◌, List, ap}
use Rattle.qd_base.specs.declared.schema.ColType.{ColType}
use Rattle.qd_plan.specs.Showing.{plain_work}
use Rattle.qd_plan.proofs.work.Parts.plain.Goals as goal

pub returns : goal.returns
returns c = record {
  work = c.plain_work.ensures.work ∙ ap (λ (ks : List ColType). plain_work ks c.args.self.keys c.args.self.aggs) c.as_slice.ensures.items;
  picks = c.in_ok-picks.ensures.picks;
  out = c.finish.ensures.columns;
}
