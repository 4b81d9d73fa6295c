use Rattle.std.proofs.Common.{◌≡◌, ◌-◌, []}
use Rattle.qd_fields.specs.Layout.{items, each}
use Rattle.qd_wal_entry.specs.Layout.{cell_at}
use Rattle.qd_wal_entry.proofs.read.next_row.Given as goal

-- what is read so far, and then what is left, is all
abbrev pub invariant-loop : goal.invariant-loop
invariant-loop l = items (each cell_at) (l.columns - l.counter) l.row l.reader ≡ items (each cell_at) l.columns [] l.fn.reader
