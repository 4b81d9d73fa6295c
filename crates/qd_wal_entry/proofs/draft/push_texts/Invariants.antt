use Rattle.std.proofs.Common.{◌≡◌, ◌++◌, length, take}
use Rattle.std.specs.List.{flat_map}
use Rattle.qd_fields.specs.Spelling.{u32_bytes, text_bytes}
use Rattle.qd_wal_entry.proofs.draft.push_texts.Given as goal

abbrev pub invariant-loop-id : goal.invariant-loop-id
invariant-loop-id l = l.bytes.items ≡ l.fn.bytes.items ++ (u32_bytes (length l.texts) ++ flat_map text_bytes (take l.id l.texts))
