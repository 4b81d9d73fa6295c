use Rattle.std.proofs.Common.{◌≡◌, ◌∙◌, ◌-◌, ℤ, false, ap, refl, rules}
use Rattle.std.specs.Prelude.{replicate}
use Rattle.std.proofs.lemmas.Int.{to_z-of_z}
use Rattle.std.specs.Int.{w64}
use Rattle.std.specs.Ordering.{int_eq}
use Rattle.qd_base.specs.declared.limits.TheConstants.{NULL_LONG}
use Rattle.qd_expr.proofs.NumberLemmas.{literal_rows}
use Rattle.qd_expr.proofs.numbers.repeated.Goals as goal

pub returns : goal.returns
returns c =
    let some : int_eq c.args.number NULL_LONG ≡ false = search rules in
    record {
      values = literal_rows c.args.number c.args.run (c.args.run.to - c.args.run.from) c.in_ok-from_elem.field-0.items some refl
          (c.in_ok-from_elem.ensures.items_if_clones_equal (λ y e. e) ∙ ap (λ (z : ℤ). replicate (c.args.run.to - c.args.run.from) z) (to_z-of_z w64 c.args.number c.ranges.number));
    }
