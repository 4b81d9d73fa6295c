use Rattle.std.proofs.Common.{length, take}
use Rattle.qd_group.specs.Grouping.{same_rows, AreGroups}
use Rattle.qd_group.proofs.classes.grouped_rows.Given as goal

-- the groups by the keys so far
abbrev pub invariant-loop-k : goal.invariant-loop-k
invariant-loop-k g l = AreGroups (same_rows (take l.k l.keys) l.rows) (length l.rows.places) l.groups.numbers.items l.groups.firsts.items
