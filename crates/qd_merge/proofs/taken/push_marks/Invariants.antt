use Rattle.std.proofs.Common.{◌≡◌, ◌++◌, false, get_or, map, take}
use Rattle.qd_merge.proofs.taken.push_marks.Given as goal

-- the marks of the numbers so far are added
abbrev pub invariant-loop-number : goal.invariant-loop-number
invariant-loop-number l = l.gone.items ≡ l.fn.gone.items ++ map (λ n. get_or l.marks n false) (take l.number-index l.numbers)
