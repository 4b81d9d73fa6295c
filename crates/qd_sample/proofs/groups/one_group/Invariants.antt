use Rattle.std.proofs.Common.{true}
use Rattle.qd_group.specs.Grouping.{AreGroups}
use Rattle.qd_sample.proofs.groups.one_group.Given as goal

-- the rows so far
abbrev pub invariant-loop : goal.invariant-loop
invariant-loop l = AreGroups (λ i j. true) l.counter l.groups.numbers.items l.groups.firsts.items
