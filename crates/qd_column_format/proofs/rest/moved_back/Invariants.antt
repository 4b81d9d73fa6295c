use Rattle.std.proofs.Common.{◌≡◌, ◌+◌, ◌*◌, map, take}
use Rattle.qd_column_format.proofs.rest.moved_back.Given as goal

-- the marks so far are those that are moved back, moved
abbrev pub invariant-loop-mark : goal.invariant-loop-mark
invariant-loop-mark l = map (λ m. m + 2 * l.start) l.moved.items ≡ take l.mark-index l.marks
