use Rattle.std.proofs.Common.{ap}
use Rattle.qd_meaning.specs.Outputs.{alias_or}
use Rattle.qd_plan.specs.declared.shows.Shows.{Shows}
use Rattle.qd_plan.proofs.QueryLemmas.{ok_same, on_any}
use Rattle.qd_plan.proofs.items.item_of.Goals as goal

pub returns : goal.returns
returns c = record {
  item = ok_same c.named.result _ _ (ap (λ (s : Shows). record s { name = alias_or c.args.item.now.alias s.name }) c.in_ok-made.ensures.item) c.named.ensures.item;
  faults = on_any c.named.result _ c.in_ok-made.ensures.faults;
}
