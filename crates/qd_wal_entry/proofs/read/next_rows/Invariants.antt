use Rattle.std.proofs.Common.{◌≡◌, ◌-◌, []}
use Rattle.qd_fields.specs.Layout.{items, each}
use Rattle.qd_wal_entry.specs.Layout.{row_at}
use Rattle.qd_wal_entry.proofs.read.next_rows.Given as goal

-- what is read so far, and then what is left, is all
abbrev pub invariant-loop : goal.invariant-loop
invariant-loop l = items (each (row_at l.columns)) (l.count - l.counter) l.rows l.reader ≡ items (each (row_at l.columns)) l.count [] l.fn.reader
