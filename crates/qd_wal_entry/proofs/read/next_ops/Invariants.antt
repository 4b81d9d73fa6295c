use Rattle.std.proofs.Common.{◌≡◌, ◌-◌, []}
use Rattle.qd_fields.specs.Layout.{items, each}
use Rattle.qd_wal_entry.specs.Layout.{op_at}
use Rattle.qd_wal_entry.proofs.read.next_ops.Given as goal

-- what is read so far, and then what is left, is all
abbrev pub invariant-loop : goal.invariant-loop
invariant-loop l = items (each op_at) (l.count - l.counter) l.ops l.reader ≡ items (each op_at) l.count [] l.fn.reader
