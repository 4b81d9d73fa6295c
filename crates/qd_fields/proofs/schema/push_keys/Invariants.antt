use Rattle.std.proofs.Common.{◌≡◌, ◌++◌, length, take}
use Rattle.std.specs.List.{flat_map}
use Rattle.qd_fields.specs.Spelling.{u16_bytes}
use Rattle.qd_fields.proofs.schema.push_keys.Given as goal

abbrev pub invariant-loop-key : goal.invariant-loop-key
invariant-loop-key l = l.bytes.items ≡ l.fn.bytes.items ++ (u16_bytes (length l.keys) ++ flat_map u16_bytes (take l.key-index l.keys))
