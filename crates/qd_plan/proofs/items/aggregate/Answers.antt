use Rattle.std.proofs.Common.{◌∙◌, ℕ, List, ap, ap₂}
use Rattle.qd_base.specs.declared.schema.ColType.{ColType}
use Rattle.qd_bind.specs.declared.typed.Typed as bound
use Rattle.qd_meaning.specs.declared.parts.Agg.{Agg}
use Rattle.qd_meaning.specs.Items.{made_by}
use Rattle.qd_meaning.specs.Outputs as outputs
use Rattle.qd_plan.specs.declared.shows.Part.TheVariants as part
use Rattle.qd_plan.specs.declared.shows.Shows.{Shows}
use Rattle.qd_plan.proofs.items.aggregate.Goals as goal

abbrev shown : List ℕ → ColType → Agg → Shows
shown name kind a = record { name = name; kind = kind; part = part.Made a }

pub returns : goal.returns
returns c = record {
  item = λ t word is.
      ap₂ (λ (n : List ℕ) (k : ColType). shown n k c.made_by-agg.result) (c.in_ok-name.ensures.same ∙ c.name_of.ensures.name) (c.kind_of_agg-kind.ensures.kind t is)
      ∙ ap (shown (outputs.name_of_agg c.args.of) (outputs.kind_of_agg c.args.of t)) (c.made_by-agg.ensures.made ∙ ap (λ (x : bound.Typed). made_by c.args.of x.bound) is);
}
