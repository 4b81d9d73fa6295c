use Rattle.std.proofs.Common.{take}
use Rattle.qd_merge.specs.Classes.{AreClasses}
use Rattle.qd_merge.proofs.classes.classes_of_rows.Given as goal

-- the classes by the keys so far
abbrev pub invariant-loop-key : goal.invariant-loop-key
invariant-loop-key l = AreClasses (take l.key-index l.key-items) l.rows l.classes.items
