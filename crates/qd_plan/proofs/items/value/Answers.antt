use Rattle.std.proofs.Common.{◌∙◌, ℕ, List, Option, ap, ap₂}
use Rattle.qd_base.specs.declared.schema.ColType.{ColType}
use Rattle.qd_value.specs.declared.bound.Bound.{Bound}
use Rattle.qd_bind.specs.declared.typed.Typed as bound
use Rattle.qd_meaning.specs.Outputs as outputs
use Rattle.qd_plan.specs.declared.shows.Part.TheVariants as part
use Rattle.qd_plan.specs.declared.shows.Shows.{Shows}
use Rattle.qd_plan.proofs.items.value.Goals as goal

abbrev shown : List ℕ → ColType → Bound → Option ℕ → Shows
shown name kind e place = record { name = name; kind = kind; part = part.Value e place }

pub returns : goal.returns
returns c = record {
  item = λ t is.
      let form = ap (λ (x : bound.Typed). x.form) is in
      ap₂ (λ (n : List ℕ) (k : ColType). shown n k c.args.x.bound c.place_in-place.result) (c.in_ok-name.ensures.name t.form form) (c.kind_of-kind.ensures.kind t is)
      ∙ ap₂ (shown (outputs.name_by t.form) (outputs.kind_of t)) (ap (λ (x : bound.Typed). x.bound) is) (c.place_in-place.ensures.place t.form form);
}
