-- What the functions that read say of their answers.
use Rattle.std.specs.Prelude.{◌≡◌, ℕ, ◌-◌, ◌<◌, List, length, Result, Ok, Err}
use Rattle.qd_base.specs.declared.op.Entry.{Entry}
use Rattle.qd_fields.specs.declared.stop.Stop.{Stop}
use Rattle.qd_fields.specs.Reading.{Fails}
use Rattle.qd_wal_entry.specs.declared.fault.EntryFault.{EntryFault}
use Rattle.qd_wal_entry.specs.declared.fault.EntryFault.TheVariants as fault
use Rattle.qd_wal_entry.specs.declared.pieces.EntryCell.{EntryCell}
use Rattle.qd_wal_entry.specs.declared.pieces.EntryCell.TheVariants as stored
use Rattle.qd_wal_entry.specs.Spelling.{SpellsEntry}
use Rattle.qd_wal_entry.specs.Layout.{entry_from}

-- A method gives what is read at its place, and goes on behind it, unless memory was wanting.
abbrev pub Reads : {X B : Type 0} → Result X Stop → B → Result (X × B) ℕ → Type 0
Reads (Ok x) after read = read ≡ Ok (x, after)
Reads (Err e) after read = Fails e read

-- the text of a cell, where it has one, is among these
abbrev pub IsAmong : List (List ℕ) → EntryCell → Type 0
IsAmong texts stored.Null = Unit {0}
IsAmong texts (stored.Long x) = Unit {0}
IsAmong texts (stored.Bool b) = Unit {0}
IsAmong texts (stored.Text id) = id < length texts
IsAmong texts (stored.Time t) = Unit {0}

-- The bytes of an entry are damaged at a place.
abbrev pub IsDamagedAt : List ℕ → ℕ → Type 0
IsDamagedAt bytes at = (left : ℕ) × (entry_from bytes ≡ Err left) × (at ≡ length bytes - left)

-- why there is no entry
abbrev pub IsFault : List ℕ → EntryFault → Type 0
IsFault bytes fault.Memory = Unit {0}
IsFault bytes (fault.Damaged at) = IsDamagedAt bytes at

-- no transaction is spelled, unless memory was wanting
abbrev pub IsUnspelled : List ℕ → EntryFault → Type 0
IsUnspelled bytes fault.Memory = Unit {0}
IsUnspelled bytes (fault.Damaged at) = (e : Entry) → SpellsEntry bytes e → ⊥
