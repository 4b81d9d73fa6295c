use Rattle.std.proofs.Common.{◌≡◌, ◌∙◌, ◌+◌, ◌<◌, ℕ, refl, ap, subst, arith, length, map, get_or, set, rules}
use Rattle.std.specs.Prelude.{pos}
use Rattle.std.specs.Int.{w64}
use Rattle.std.proofs.lemmas.Int.{to_z-of_z}
use Rattle.std.proofs.lemmas.List.{get_or_default}
use mir.Val.{SFits, of_z, to_z}
use Rattle.qd_column.specs.Cells.{long_cell}
use Rattle.qd_group.specs.Kept.{AreKept}
use Rattle.qd_group.specs.Tallies.{counted, next}
use Rattle.qd_group.proofs.GroupTallies.{kept_next}
use Rattle.qd_group.proofs.by_groups.add_longs.Goals as goal

pub loop-k-init : goal.loop-k-init
loop-k-init g c = record {
  kept = λ a all room at h.
      let e : c.args.before ≡ c.args.before + 0 = omega arith in
      subst (λ (n : ℕ). AreKept a c.args.groups.now.numbers.items all n (length c.args.groups.now.firsts.items) (map g.K.Keeping.state c.args.tallies.now.items)) e h;
  size = c.requires.size;
}

pub add_long-requires : goal.add_long-requires
add_long-requires g c =
    let ns = c.args.groups.now.numbers.items in
    let j : ℕ = c.args.before + c.loop-k.k in
    let low : c.args.before + c.loop-k.k < length c.args.groups.now.numbers.items = omega (arith, c.requires.inside) in
    let within : get_or c.args.groups.now.numbers.items (c.args.before + c.loop-k.k) 0 < length c.args.groups.now.firsts.items = c.requires.below j 0 low in
    let number_is : c.index.result.now ≡ get_or c.args.groups.now.numbers.items (c.args.before + c.loop-k.k) 0 = c.index.ensures ∙ get_or_default ns j c.index.result.now 0 low in
    λ k. ((refl, tt), omega (arith, within, c.loop-k.invariant.size, number_is))

pub loop-k-preserved : goal.loop-k-preserved
loop-k-preserved g c =
    let ns = c.args.groups.now.numbers.items in
    let xs = c.args.numbers.now in
    let k : ℕ = c.loop-k.k in
    let groups : ℕ = length c.args.groups.now.firsts.items in
    let j : ℕ = c.args.before + c.loop-k.k in
    let states = map g.K.Keeping.state c.loop-k.tallies.items in
    let low : c.args.before + c.loop-k.k < length c.args.groups.now.numbers.items = omega (arith, c.requires.inside) in
    let number_is : c.index.result.now ≡ get_or c.args.groups.now.numbers.items (c.args.before + c.loop-k.k) 0 = c.index.ensures ∙ get_or_default ns j c.index.result.now 0 low in
    let fits : SFits w64 (get_or c.args.numbers.now c.loop-k.k (pos 0)) = search rules in
    record {
      kept = λ a all room at h.
          let next_is : c.args.before + c.loop-k.k + 1 ≡ c.args.before + (c.loop-k.k + 1) = omega arith in
          subst (λ (n : ℕ). AreKept a ns all n groups (map g.K.Keeping.state c.add_long.new.tallies.items)) next_is
          (kept_next a ns all j groups states (map g.K.Keeping.state c.add_long.new.tallies.items) (long_cell (to_z w64 (of_z w64 (get_or xs k (pos 0))))) (counted (pos 0)) low (omega arith) (c.requires.below j 0 low) (c.loop-k.invariant.kept a all room at h)
          (ap long_cell (to_z-of_z w64 (get_or xs k (pos 0)) fits) ∙ at k (omega arith))
          (c.in_ok-add_long.ensures.next ∙ ap (λ (n : ℕ). set states n (next (get_or states n (counted (pos 0))) (long_cell (to_z w64 (of_z w64 (get_or xs k (pos 0))))))) number_is));
      size = c.in_ok-add_long.ensures.size ∙ c.loop-k.invariant.size;
    }

pub returns : goal.returns
returns g c = record {
  kept = λ a all room at h.
      let done : c.args.before + c.loop-k.k ≡ c.args.before + length c.args.numbers.now = omega arith in
      subst (λ (n : ℕ). AreKept a c.args.groups.now.numbers.items all n (length c.args.groups.now.firsts.items) (map g.K.Keeping.state c.loop-k.tallies.items)) done (c.loop-k.invariant.kept a all room at h);
}
