use Rattle.std.proofs.Common.{◌≡◌, false, take}
use Rattle.std.specs.List.{list_any}
use Rattle.qd_ilp.specs.Whole.{is_timeless_kept}
use Rattle.qd_ilp.proofs.batch.has_timeless.Given as goal

abbrev pub invariant-loop-row : goal.invariant-loop-row
invariant-loop-row l = list_any is_timeless_kept (take l.row-index l.rows) ≡ false
