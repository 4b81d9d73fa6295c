use Rattle.std.proofs.Common.{◌≡◌, slice_range}
use Rattle.std.specs.List.{flat_map}
use Rattle.qd_column_format.specs.Spelling.{stored_text}
use Rattle.qd_column_format.proofs.dictionary.encode_from.Given as goal

-- the texts so far are there
abbrev pub invariant-loop-id : goal.invariant-loop-id
invariant-loop-id g l = l.bytes.items ≡ flat_map stored_text (slice_range (g.D.Dictionary.texts l.dictionary) l.k l.id)
