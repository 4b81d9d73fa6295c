use Rattle.std.proofs.Common.{◌≡◌, ◌++◌, map, slice_range}
use Rattle.std.specs.List.{list_any}
use Rattle.qd_base.specs.Rows.{same_on}
use Rattle.qd_merge.specs.Equals.{seconds}
use Rattle.qd_merge.specs.Merged.{with_missing}
use Rattle.qd_merge.proofs.group.push_compared.Given as goal

-- the flags of the rows so far are added
abbrev pub invariant-loop-place : goal.invariant-loop-place
invariant-loop-place l = l.gone.items ≡ l.fn.gone.items ++ map (λ r. list_any (same_on l.keys (with_missing l.group.batch.now.kinds r)) (seconds l.group)) (slice_range l.group.block.now.rows l.group.from l.place)
