use Rattle.std.proofs.Common.{◌≡◌, ◌-◌, []}
use Rattle.qd_fields.specs.Layout.{items, each, column_at}
use Rattle.qd_fields.proofs.schema.columns.Given as goal

-- what is read so far, and then what is left, is all
abbrev pub invariant-loop : goal.invariant-loop
invariant-loop l = items (each column_at) (l.count - l.counter) l.cols l.rest ≡ items (each column_at) l.count [] l.bytes
