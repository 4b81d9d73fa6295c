use Rattle.std.proofs.Common.{◌≡◌, ◌∙◌, ◌<◌, [], ℕ, Bool, List, false, ap, sym, refl, get_or, length, slice_range, arith}
use Rattle.std.specs.List.{list_any}
use Rattle.qd_base.specs.Rows.{Row, same_on}
use Rattle.qd_merge.specs.Merged.{with_missing}
use Rattle.qd_merge.proofs.Among.{none_yet, none_more, some_found}
use Rattle.qd_merge.proofs.group.has_equal.Goals as goal

pub loop-other-init : goal.loop-other-init
loop-other-init c = none_yet (same_on c.args.keys.now (with_missing c.args.group.now.batch.now.kinds (get_or c.args.group.now.block.now.rows c.args.place []))) c.args.group.now.batch.now.rows c.args.group.now.start c.args.group.now.start refl

pub loop-other-preserved : goal.loop-other-preserved
loop-other-preserved c =
    let high : c.loop-other.other < length c.args.group.now.batch.now.rows = omega (arith, c.requires.within.batch) in
    none_more (same_on c.args.keys.now (with_missing c.args.group.now.batch.now.kinds (get_or c.args.group.now.block.now.rows c.args.place []))) c.args.group.now.batch.now.rows c.args.group.now.start c.loop-other.other [] (omega arith) high c.loop-other.invariant (sym c.same_rows.ensures.same ∙ c.if-same_rows.false)

pub returns-then-same_rows : goal.returns-then-same_rows
returns-then-same_rows c =
    let high : c.loop-other.other < length c.args.group.now.batch.now.rows = omega (arith, c.requires.within.batch) in
    record { equal = sym (some_found (same_on c.args.keys.now (with_missing c.args.group.now.batch.now.kinds (get_or c.args.group.now.block.now.rows c.args.place []))) c.args.group.now.batch.now.rows c.args.group.now.start c.loop-other.other c.args.group.now.end [] (omega arith) (omega arith) high (sym c.same_rows.ensures.same ∙ c.if-same_rows.true)) }

pub returns : goal.returns
returns c =
    let done : c.loop-other.other ≡ c.args.group.now.end = omega (arith, c.requires.within.ascending) in
    record { equal = sym (ap (λ n. list_any (same_on c.args.keys.now (with_missing c.args.group.now.batch.now.kinds (get_or c.args.group.now.block.now.rows c.args.place []))) (slice_range c.args.group.now.batch.now.rows c.args.group.now.start n)) (sym done) ∙ c.loop-other.invariant) }

pub same_rows-requires-clause-other : goal.same_rows-requires-clause-other
same_rows-requires-clause-other c = omega (arith, c.requires.within.batch)

pub same_rows-requires-clause-narrow : goal.same_rows-requires-clause-narrow
same_rows-requires-clause-narrow c = c.requires.within.narrow
