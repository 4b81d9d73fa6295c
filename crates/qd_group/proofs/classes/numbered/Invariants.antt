use Rattle.qd_group.proofs.Numbers.{AreNumbered}
use Rattle.qd_group.proofs.classes.numbered.Given as goal

-- the keys so far are grouped, and the map knows their numbers
abbrev pub invariant-loop-key : goal.invariant-loop-key
invariant-loop-key g l = AreNumbered g.K.Ord.cmp l.numbers l.keys l.key-index l.groups.numbers.items l.groups.firsts.items
