use Rattle.std.proofs.Common.{◌≡◌, ◌∙◌, ◌<◌, ℕ, ap, subst, arith, length, map, get_or, set}
use Rattle.std.specs.Prelude.{pos}
use Rattle.std.proofs.lemmas.List.{get_or_default}
use Rattle.qd_base.specs.declared.cell.Cell.TheVariants as cell
use Rattle.qd_meaning.specs.declared.parts.Agg.TheVariants as agg
use Rattle.qd_group.specs.Kept.{AreKept}
use Rattle.qd_group.specs.Tallies.{counted, next}
use Rattle.qd_group.proofs.GroupTallies.{kept_next}
use Rattle.std.proofs.Common.{refl}
use Rattle.qd_group.proofs.by_groups.add_counts.Goals as goal

pub loop-i-init : goal.loop-i-init
loop-i-init g c = record { kept = λ all room h. h; size = c.requires.size }

pub add_value-requires : goal.add_value-requires
add_value-requires g c =
    let low : c.loop-i.i < length c.args.groups.now.numbers.items = omega arith in
    let within : get_or c.args.groups.now.numbers.items c.loop-i.i 0 < length c.args.groups.now.firsts.items = c.requires.below c.loop-i.i 0 low in
    let number_is : c.index.result.now ≡ get_or c.args.groups.now.numbers.items c.loop-i.i 0 = c.index.ensures ∙ get_or_default c.args.groups.now.numbers.items c.loop-i.i c.index.result.now 0 low in
    λ k. ((refl, tt), omega (arith, within, c.loop-i.invariant.size, number_is))

pub loop-i-preserved : goal.loop-i-preserved
loop-i-preserved g c =
    let ns = c.args.groups.now.numbers.items in
    let i : ℕ = c.loop-i.i in
    let groups : ℕ = length c.args.groups.now.firsts.items in
    let states = map g.K.Keeping.state c.loop-i.tallies.items in
    let low : c.loop-i.i < length c.args.groups.now.numbers.items = omega arith in
    let number_is : c.index.result.now ≡ get_or c.args.groups.now.numbers.items c.loop-i.i 0 = c.index.ensures ∙ get_or_default ns i c.index.result.now 0 low in
    record {
      kept = λ all room h.
          kept_next agg.Count ns all i groups states (map g.K.Keeping.state c.add_value.new.tallies.items) cell.Null (counted (pos 0)) low (omega arith) (c.requires.below i 0 low) (c.loop-i.invariant.kept all room h) refl
          (c.in_ok-add_value.ensures.next ∙ ap (λ (n : ℕ). set states n (next (get_or states n (counted (pos 0))) cell.Null)) number_is);
      size = c.in_ok-add_value.ensures.size ∙ c.loop-i.invariant.size;
    }

pub returns : goal.returns
returns g c = record {
  kept = λ all room h.
      let done : c.loop-i.i ≡ length c.args.groups.now.numbers.items = omega arith in
      subst (λ (n : ℕ). AreKept agg.Count c.args.groups.now.numbers.items all n (length c.args.groups.now.firsts.items) (map g.K.Keeping.state c.loop-i.tallies.items)) done (c.loop-i.invariant.kept all room h);
}
