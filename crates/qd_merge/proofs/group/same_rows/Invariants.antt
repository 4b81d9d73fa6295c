use Rattle.std.proofs.Common.{◌≡◌, [], true, get_or, take}
use Rattle.qd_base.specs.Rows.{same_on}
use Rattle.qd_merge.specs.Merged.{with_missing}
use Rattle.qd_merge.proofs.group.same_rows.Given as goal

-- the rows are equal on the keys so far
abbrev pub invariant-loop-key : goal.invariant-loop-key
invariant-loop-key l = same_on (take l.key-index l.key-items) (with_missing l.batch.kinds (get_or l.block.rows l.place [])) (get_or l.batch.rows l.other []) ≡ true
