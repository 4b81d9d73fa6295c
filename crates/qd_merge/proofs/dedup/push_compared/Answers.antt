use Rattle.std.proofs.Common.{◌≡◌, ◌∙◌, ◌++◌, ◌∷◌, ◌<◌, ◌≤◌, ◌+◌, [], ℕ, Bool, List, All, ap, ap₂, sym, subst, length, get_or, slice_range, arith, append-nil, append_assoc}
use Rattle.std.specs.List.{list_any}
use Rattle.qd_base.specs.Rows.{Row, same_on}
use Rattle.qd_merge.specs.Outdated.{outdated}
use Rattle.qd_merge.proofs.Outdating.{compared_next, compared_done, wide_row}
use Rattle.qd_merge.proofs.dedup.push_compared.Goals as goal

pub has_equal-requires-clause-within : goal.has_equal-requires-clause-within
has_equal-requires-clause-within c =
    record {
      ordered = omega arith;
      block = omega (arith, c.requires.within);
      ascending = omega arith;
      batch = c.requires.within;
      narrow = omega arith;
    }

pub loop-place-preserved : goal.loop-place-preserved
loop-place-preserved c =
    let rows = c.args.block.now.rows in
    let i = c.loop-place.place in
    let high : i < length rows = omega (arith, c.requires.within) in
    let wide = wide_row c.args.block.now.kinds (get_or rows i []) (c.is_whole.ensures.whole.cells i [] high) in
    let flag : c.has_equal.result ≡ list_any (same_on c.args.keys.now (get_or rows i [])) (slice_range rows (i + 1) c.args.to) = c.has_equal.ensures.equal ∙ ap (λ (r : Row). list_any (same_on c.args.keys.now r) (slice_range rows (i + 1) c.args.to)) wide in
    compared_next c.args.keys.now rows i c.args.to c.loop-place.gone.items _ c.has_equal.result (omega arith) high flag c.in_ok-push.ensures.items ∙ c.loop-place.invariant

pub returns : goal.returns
returns c =
    let done : c.loop-place.place ≡ c.args.to = omega (arith, c.requires.ordered) in
    record { added = compared_done c.args.keys.now c.args.block.now.rows c.loop-place.place c.args.to c.loop-place.gone.items done ∙ c.loop-place.invariant }

pub has_equal-requires-clause-there : goal.has_equal-requires-clause-there
has_equal-requires-clause-there c = omega (arith, c.requires.within)
