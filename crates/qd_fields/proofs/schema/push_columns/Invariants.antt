use Rattle.std.proofs.Common.{◌≡◌, ◌++◌, length, take}
use Rattle.std.specs.List.{flat_map}
use Rattle.qd_fields.specs.Spelling.{u16_bytes, column_bytes}
use Rattle.qd_fields.proofs.schema.push_columns.Given as goal

abbrev pub invariant-loop-col : goal.invariant-loop-col
invariant-loop-col l = l.bytes.items ≡ l.fn.bytes.items ++ (u16_bytes (length l.cols) ++ flat_map column_bytes (take l.col-index l.cols))
