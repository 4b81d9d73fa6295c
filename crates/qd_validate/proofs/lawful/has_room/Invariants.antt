use Rattle.std.proofs.Common.{◌≡◌, ◌+◌, sum_by, take}
use Rattle.qd_base.specs.declared.limits.TheConstants.{MAX_BATCH_CELLS}
use Rattle.qd_base.specs.Lawful.{cells_in}
use Rattle.qd_validate.proofs.lawful.has_room.Given as goal

abbrev pub invariant-loop-op : goal.invariant-loop-op
invariant-loop-op l = l.left + sum_by cells_in (take l.op-index l.ops) ≡ MAX_BATCH_CELLS
