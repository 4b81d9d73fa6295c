use Rattle.std.proofs.Common.{◌≡◌, ◌-◌, []}
use Rattle.qd_fields.specs.Layout.{items}
use Rattle.qd_manifest.specs.Layout.{key_from}
use Rattle.qd_manifest.proofs.schema.keys.Given as goal

-- what is read so far, and then what is left, is all
abbrev pub invariant-loop : goal.invariant-loop
invariant-loop l = items (key_from l.columns l.time l.count) (l.count - l.counter) l.keys l.rest ≡ items (key_from l.columns l.time l.count) l.count [] l.bytes
