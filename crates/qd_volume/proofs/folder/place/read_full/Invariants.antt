use Rattle.std.proofs.Common.{length, ◌-◌, ◌≤◌}
use Rattle.qd_volume.proofs.folder.place.read_full.Given as goal

-- no more is read than there is room for
abbrev pub invariant-loop-done : goal.invariant-loop-done
invariant-loop-done l = l.done ≤ length l.buf

abbrev pub decreases-loop-done : goal.decreases-loop-done
decreases-loop-done l = length l.buf - l.done
