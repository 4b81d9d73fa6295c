use Rattle.std.proofs.Common.{◌≡◌, ◌++◌, length, take}
use Rattle.std.specs.List.{flat_map}
use Rattle.qd_fields.specs.Spelling.{u64_bytes}
use Rattle.qd_manifest.specs.Spelling.{part_bytes}
use Rattle.qd_manifest.proofs.write.push_parts.Given as goal

abbrev pub invariant-loop-part : goal.invariant-loop-part
invariant-loop-part l = l.bytes.items ≡ l.fn.bytes.items ++ (u64_bytes (length l.parts) ++ flat_map part_bytes (take l.part-index l.parts))
