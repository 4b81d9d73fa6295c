use Rattle.std.proofs.Common.{◌≡◌, ◌-◌, []}
use Rattle.qd_fields.specs.Layout.{items}
use Rattle.qd_manifest.specs.Layout.{column_from}
use Rattle.qd_manifest.proofs.schema.columns.Given as goal

-- what is read so far, and then what is left, is all
abbrev pub invariant-loop : goal.invariant-loop
invariant-loop l = items column_from (l.count - l.counter) l.cols l.rest ≡ items column_from l.count [] l.bytes
