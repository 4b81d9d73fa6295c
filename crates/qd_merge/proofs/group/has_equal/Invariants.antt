use Rattle.std.proofs.Common.{◌≡◌, [], false, get_or, slice_range}
use Rattle.std.specs.List.{list_any}
use Rattle.qd_base.specs.Rows.{same_on}
use Rattle.qd_merge.specs.Merged.{with_missing}
use Rattle.qd_merge.proofs.group.has_equal.Given as goal

-- no row so far is equal
abbrev pub invariant-loop-other : goal.invariant-loop-other
invariant-loop-other l = list_any (same_on l.keys (with_missing l.group.batch.now.kinds (get_or l.group.block.now.rows l.place []))) (slice_range l.group.batch.now.rows l.group.start l.other) ≡ false
