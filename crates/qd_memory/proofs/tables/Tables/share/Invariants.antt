use Rattle.std.proofs.Common.{◌≡◌, take}
use Rattle.qd_memory.proofs.tables.Tables.share.Given as goal

-- the tables so far
abbrev pub invariant-loop-table : goal.invariant-loop-table
invariant-loop-table l = l.tables.items ≡ take l.table-index l.table-items
