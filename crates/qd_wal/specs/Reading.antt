-- Entries as they are read from the bytes of a segment.
use Rattle.std.specs.Prelude.{◌≡◌, ◌⊎◌, ℕ, ◌+◌, ◌<◌, min, List, length, Vec, Result, Ok, Err}
use Rattle.std.specs.declared.alloc.Global.{Global}
use Rattle.qd_base.specs.declared.op.Entry.{Entry}
use Rattle.qd_base.specs.declared.part.WalRef.{WalRef}
use Rattle.qd_durable.specs.declared.fault.LogFault.{LogFault}
use Rattle.qd_durable.specs.declared.fault.LogFault.TheVariants as fault
use Rattle.qd_io.specs.declared.fault.IoFault.{IoFault}
use Rattle.qd_wal_entry.specs.Spelling.{SpellsEntry}
use Rattle.qd_wal_entry.specs.Reading.{IsDamagedAt}
use Rattle.qd_wal.specs.Segments.{file_in, part_at}

-- the bytes at a place of a segment spell a transaction
pub record SpellsAt (bytes : List ℕ) (at : WalRef) (e : Entry) : Type 0 where
  pub whole : length (part_at bytes at) ≡ at.len
  pub spelled : SpellsEntry (part_at bytes at) e

-- The bytes that a read of the entry's place gave are all of its bytes, and spell the transaction. Which bytes a read may have
-- given is what a volume says, also one that tells nothing of what it holds.
pub record IsGiven (gives : ℕ → ℕ → List ℕ → Type 0) (at : WalRef) (e : Entry) : Type 0 where
  pub part : List ℕ
  pub given : gives (file_in at) at.start part
  pub whole : length part ≡ at.len
  pub spelled : SpellsEntry part e

-- a field of the entry breaks the layout, or bytes of the entry are missing
abbrev pub IsBroken : List ℕ → WalRef → ℕ → Type 0
IsBroken bytes at place = (k : ℕ) × IsDamagedAt (part_at bytes at) k × (place ≡ min (at.start + k) (length bytes))

-- the bytes that are there spell a transaction, and there are fewer than there are to be
abbrev pub IsCut : List ℕ → WalRef → ℕ → Type 0
IsCut bytes at place = (e : Entry) × SpellsEntry (part_at bytes at) e × (length (part_at bytes at) < at.len) × (place ≡ length bytes)

-- The segment is damaged at a byte: the first of the first field that breaks the layout, or where bytes are missing its
-- length.
abbrev pub IsDamagedIn : List ℕ → WalRef → ℕ → Type 0
IsDamagedIn bytes at place = IsBroken bytes at place ⊎ IsCut bytes at place

-- damaged there, so that no transaction is spelled
pub record IsUnread (bytes : List ℕ) (at : WalRef) (file place : ℕ) : Type 0 where
  pub segment : file ≡ file_in at
  pub damaged : IsDamagedIn bytes at place
  pub unspelled : (e : Entry) → SpellsAt bytes at e → ⊥

-- what is read: the transaction that is spelled, or where the segment is damaged
abbrev pub IsEntryRead : Result Entry LogFault → WalRef → List ℕ → Type 0
IsEntryRead (Ok e) at bytes = SpellsAt bytes at e
IsEntryRead (Err (fault.Damaged file place)) at bytes = IsUnread bytes at file place
IsEntryRead (Err fault.Vol) at bytes = Unit {0}
IsEntryRead (Err fault.Memory) at bytes = Unit {0}

-- the bytes of an entry, as far as they are there
abbrev pub IsPartRead : Result (Vec ℕ Global) IoFault → ℕ → WalRef → List ℕ → Type 0
IsPartRead (Ok part) len at bytes = len ≡ length bytes → part.items ≡ part_at bytes at
IsPartRead (Err fault) len at bytes = Unit {0}
