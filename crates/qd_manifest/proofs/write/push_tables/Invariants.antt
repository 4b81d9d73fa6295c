use Rattle.std.proofs.Common.{◌≡◌, ◌++◌, length, take}
use Rattle.std.specs.List.{flat_map}
use Rattle.qd_fields.specs.Spelling.{u16_bytes}
use Rattle.qd_manifest.specs.Spelling.{table_bytes}
use Rattle.qd_manifest.proofs.write.push_tables.Given as goal

abbrev pub invariant-loop-table : goal.invariant-loop-table
invariant-loop-table l = l.bytes.items ≡ l.fn.bytes.items ++ (u16_bytes (length l.tables) ++ flat_map table_bytes (take l.table-index l.tables))
