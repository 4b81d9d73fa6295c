use Rattle.std.proofs.Common.{take}
use Rattle.qd_merge.specs.Classes.{AreClasses}
use Rattle.qd_merge.specs.Equals.{rows_in}
use Rattle.qd_merge.proofs.group.classes_of_group.Given as goal

-- the classes by the keys so far
abbrev pub invariant-loop-key : goal.invariant-loop-key
invariant-loop-key l = AreClasses (take l.key-index l.key-items) (rows_in l.group) l.classes.items
