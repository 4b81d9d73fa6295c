use Rattle.std.proofs.Common.{◌≡◌, replicate}
use Rattle.qd_group.proofs.by_groups.repeated.Given as goal

-- the items so far
abbrev pub invariant-loop : goal.invariant-loop
invariant-loop g l = l.items.items ≡ replicate l.counter l.item
