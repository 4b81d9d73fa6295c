use Rattle.std.proofs.Common.{◌≡◌, ◌++◌, slice_range}
use Rattle.qd_column.proofs.texts.Texts.push_part.Given as goal

-- the rows so far are added
abbrev pub invariant-loop-i : goal.invariant-loop-i
invariant-loop-i l = l.self ≡ l.fn.self ++ slice_range l.other l.from l.i
