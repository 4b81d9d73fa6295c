use Rattle.std.proofs.Common.{◌≡◌, take}
use Rattle.qd_column_format.proofs.tail.copied.Given as goal

-- the texts so far are copied
abbrev pub invariant-loop-id : goal.invariant-loop-id
invariant-loop-id g l = g.D.Dictionary.texts l.texts ≡ take l.id (g.D.Dictionary.texts l.dictionary)
