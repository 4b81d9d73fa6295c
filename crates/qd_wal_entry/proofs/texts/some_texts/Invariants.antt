use Rattle.std.proofs.Common.{◌≡◌, ◌-◌, []}
use Rattle.qd_fields.specs.Layout.{items}
use Rattle.qd_wal_entry.specs.Layout.{new_text}
use Rattle.qd_wal_entry.proofs.texts.some_texts.Given as goal

-- what is read so far, and then what is left, is all
abbrev pub invariant-loop : goal.invariant-loop
invariant-loop l = items new_text (l.count - l.counter) l.texts l.rest ≡ items new_text l.count [] l.bytes
