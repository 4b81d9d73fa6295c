use Rattle.std.proofs.Common.{◌≡◌, ◌+◌, ◌-◌, replicate}
use Rattle.qd_merge.proofs.group.one_class.Given as goal

-- one class for the rows so far
abbrev pub invariant-loop : goal.invariant-loop
invariant-loop l = l.classes.items ≡ replicate ((l.group.to - l.group.from) + (l.counter - l.group.start)) 0
