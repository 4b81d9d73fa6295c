use Rattle.std.proofs.Common.{◌≡◌, ◌-◌, []}
use Rattle.std.specs.Int.{w16}
use Rattle.qd_fields.specs.Layout.{items, each, number_at}
use Rattle.qd_fields.proofs.schema.keys.Given as goal

-- what is read so far, and then what is left, is all
abbrev pub invariant-loop : goal.invariant-loop
invariant-loop l = items (each (number_at w16)) (l.count - l.counter) l.keys l.rest ≡ items (each (number_at w16)) l.count [] l.bytes
