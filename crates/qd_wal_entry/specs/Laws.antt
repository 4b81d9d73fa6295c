-- The laws of entries.
use Rattle.std.specs.Prelude.{◌≡◌, ℕ, List, [], ◌++◌}
use Rattle.qd_base.specs.declared.op.Entry.{Entry}
use Rattle.qd_wal_entry.specs.Spelling.{SpellsEntry}
use Rattle.qd_wal_entry.specs.Reading.{IsDamagedAt}

-- Bytes spell one transaction, and a transaction has one spelling.
abbrev pub OneEntryIsSpelled : Type 0
OneEntryIsSpelled = (bytes : List ℕ) (a b : Entry) → SpellsEntry bytes a → SpellsEntry bytes b → a ≡ b

abbrev pub OneSpelling : Type 0
OneSpelling = (a b : List ℕ) (e : Entry) → SpellsEntry a e → SpellsEntry b e → a ≡ b

-- No spelling is the front of a longer one.
abbrev pub NoneIsAFront : Type 0
NoneIsAFront = (bytes more : List ℕ) (a b : Entry) → SpellsEntry bytes a → SpellsEntry (bytes ++ more) b → more ≡ []

-- Damaged bytes have one place of damage, and spell nothing.
abbrev pub DamageHasOnePlace : Type 0
DamageHasOnePlace = (bytes : List ℕ) (at other : ℕ) → IsDamagedAt bytes at → IsDamagedAt bytes other → at ≡ other

abbrev pub DamagedIsUnspelled : Type 0
DamagedIsUnspelled = (bytes : List ℕ) (at : ℕ) (e : Entry) → IsDamagedAt bytes at → SpellsEntry bytes e → ⊥
