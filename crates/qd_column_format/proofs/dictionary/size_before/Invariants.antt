use Rattle.std.proofs.Common.{◌≡◌, length, take}
use Rattle.std.specs.List.{flat_map}
use Rattle.qd_column_format.specs.Spelling.{stored_text}
use Rattle.qd_column_format.proofs.dictionary.size_before.Given as goal

-- the sizes of the texts so far
abbrev pub invariant-loop-id : goal.invariant-loop-id
invariant-loop-id g l = l.size ≡ length (flat_map stored_text (take l.id (g.D.Dictionary.texts l.dictionary)))
