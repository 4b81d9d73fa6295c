-- A sequencer as contracts see it, and what holds of it over a told volume between two calls.
use Rattle.std.specs.Prelude.{◌≡◌, ◌⊎◌, ℕ, ◌+◌, ◌<◌, ◌≤◌, if◌then◌else◌, ◌==◌, unwrap_or, find, List, [], ◌∷◌, length, All, Option, None, Some}
use Rattle.std.specs.List.{IsDistinct}
use Rattle.qd_base.specs.declared.op.Entry.{Entry}
use Rattle.qd_base.specs.declared.part.WalRef.{WalRef}
use Rattle.qd_base.specs.declared.schema.Schema.{Schema}
use Rattle.qd_base.specs.Lawful.{Lawful}
use Rattle.qd_base.specs.Schemas.{schemas_from}
use Rattle.qd_volume.specs.Disk.{Disk}
use Rattle.qd_durable.specs.Moments.{EachNow}
use Rattle.qd_seq.specs.States.{Knows}
use Rattle.qd_wal.specs.declared.writer.WalWriter.{WalWriter}
use Rattle.qd_sequencer.specs.Histories.{AreSpelled, HasPending}

pub record Sequence : Type 0 where
  -- the places of all transactions, in commit order
  pub refs : List WalRef
  -- how many more fit into the memory that it has
  pub spare : ℕ
  -- the one whose gate may be open by a commit that failed
  pub pending : Option WalRef
  -- the schemas behind all transactions
  pub schemas : List Schema
  -- the writers that are kept, the oldest first
  pub writers : List WalWriter

-- ---- writers

-- the first writer of a log, which is numbered by the transactions before it
abbrev pub fresh : ℕ → WalWriter
fresh n = record { wal = n; segment = 0; end = 0 }

-- the writer of this number, or a new one where none is asked for or it isn't kept; so many transactions are before it
abbrev pub writer_of : List WalWriter → ℕ → Option ℕ → WalWriter
writer_of writers n None = fresh n
writer_of writers n (Some wal) = unwrap_or (find (λ (w : WalWriter). w.wal == wal) writers) (fresh n)

abbrev pub chosen : Sequence → Option ℕ → WalWriter
chosen s writer = writer_of s.writers (length s.refs) writer

-- a writer is kept in place of the one of its log, or behind all others
abbrev pub with_writer : List WalWriter → WalWriter → List WalWriter
with_writer [] w = w ∷ []
with_writer (x ∷ xs) w = if x.wal == w.wal then w ∷ xs else x ∷ with_writer xs w

-- all but the writer of a number
abbrev pub without_writer : List WalWriter → ℕ → List WalWriter
without_writer [] wal = []
without_writer (x ∷ xs) wal = if x.wal == wal then xs else x ∷ without_writer xs wal

-- So many transactions were committed by these writers: no two are of one log, none has a number that isn't given yet, and none
-- has more segments than there are transactions.
pub record AreKept (n : ℕ) (writers : List WalWriter) : Type 0 where
  pub numbered : All (λ (w : WalWriter). w.wal < n) writers
  pub short : All (λ (w : WalWriter). w.segment ≤ n) writers
  pub apart : IsDistinct (λ (a : WalWriter) (b : WalWriter). a.wal == b.wal) writers

-- an entry of a writer's log ends where the writer stands, or in front of that
abbrev pub IsInFront : WalWriter → WalRef → Type 0
IsInFront w ref = ref.wal ≡ w.wal → (ref.segment < w.segment) ⊎ ((ref.segment ≡ w.segment) × (ref.start + ref.len ≤ w.end))

-- ---- sequences

-- The volume holds the history, and the sequencer stands behind it.
pub record IsSequence (s : Sequence) (h : List Entry) (disk : Disk) : Type 0 where
  -- each image gives the references, or with them the one that is pending
  pub log : Knows s.refs s.pending disk
  -- which point to the transactions
  pub spelled : EachNow disk (AreSpelled s.refs h)
  pub lawful : Lawful h
  pub schemas : s.schemas ≡ schemas_from [] h
  -- the one that is pending has a transaction that the history may go on with
  pub pending : HasPending s.pending h disk
  -- each writer stands behind all entries of its log
  pub writers : All (λ (w : WalWriter). All (IsInFront w) s.refs) s.writers

-- all that a commit may change is as before; memory that was taken stays, and a reference may be pending
pub record IsAsBefore (old new : Sequence) : Type 0 where
  pub refs : new.refs ≡ old.refs
  pub schemas : new.schemas ≡ old.schemas
  pub writers : new.writers ≡ old.writers
