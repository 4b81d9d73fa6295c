use Rattle.std.proofs.Common.{◌≡◌, ◌∙◌, ◌++◌, ◌<◌, [], ℕ, Bool, List, ap, sym, refl, get_or, length, map, slice_range, arith}
use Rattle.std.specs.List.{list_any}
use Rattle.qd_base.specs.Rows.{Row, same_on}
use Rattle.qd_merge.specs.Equals.{seconds}
use Rattle.qd_merge.specs.Merged.{with_missing}
use Rattle.qd_merge.proofs.Grown.{images_begun, images_next}
use Rattle.qd_merge.proofs.Wide.{map-map}
use Rattle.qd_merge.proofs.group.push_compared.Goals as goal

pub loop-place-init : goal.loop-place-init
loop-place-init c = images_begun (λ (r : Row). list_any (same_on c.args.keys.now (with_missing c.args.group.now.batch.now.kinds r)) (seconds c.args.group.now)) c.args.group.now.block.now.rows c.args.group.now.from c.args.group.now.from c.args.gone.now.items c.args.gone.now.items refl refl

pub loop-place-preserved : goal.loop-place-preserved
loop-place-preserved c =
    let high : c.loop-place.place < length c.args.group.now.block.now.rows = omega (arith, c.requires.within.block) in
    images_next (λ (r : Row). list_any (same_on c.args.keys.now (with_missing c.args.group.now.batch.now.kinds r)) (seconds c.args.group.now)) c.args.group.now.block.now.rows c.args.group.now.from c.loop-place.place [] c.args.gone.now.items c.loop-place.gone.items _ c.has_equal.result (omega arith) high c.loop-place.invariant c.has_equal.ensures.equal c.in_ok-push.ensures.items

pub returns : goal.returns
returns c =
    let rows = c.args.group.now.block.now.rows in
    let done : c.loop-place.place ≡ c.args.group.now.to = omega (arith, c.requires.within.ordered) in
    record {
      added = c.loop-place.invariant ∙ ap (λ n. c.args.gone.now.items ++ map (λ (r : Row). list_any (same_on c.args.keys.now (with_missing c.args.group.now.batch.now.kinds r)) (seconds c.args.group.now)) (slice_range rows c.args.group.now.from n)) done
          ∙ ap (λ (l : List Bool). c.args.gone.now.items ++ l) (sym (map-map (λ (r : Row). list_any (same_on c.args.keys.now r) (seconds c.args.group.now)) (with_missing c.args.group.now.batch.now.kinds) (slice_range rows c.args.group.now.from c.args.group.now.to)));
    }

pub has_equal-requires-clause-there : goal.has_equal-requires-clause-there
has_equal-requires-clause-there c = omega (arith, c.requires.within.block)
