use Rattle.std.proofs.Common.{◌≡◌, ◌+◌, ◌*◌, map, take}
use Rattle.qd_column_format.proofs.tail.moved_marks.Given as goal

-- the marks so far are moved
abbrev pub invariant-loop-mark : goal.invariant-loop-mark
invariant-loop-mark l = l.moved.items ≡ map (λ m. m + 2 * l.end) (take l.mark-index l.marks)
