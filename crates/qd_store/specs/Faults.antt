-- When a call of a store answers which fault.
use Rattle.std.specs.Prelude.{◌≡◌, ◌≢◌, ◌≤◌, ℕ, None, Some, Result, Ok, Err, length}
use Rattle.qd_base.specs.declared.code.Code.{Code}
use Rattle.qd_base.specs.declared.op.Entry.{Entry}
use Rattle.qd_catalog.specs.Versions.{Versions, current_n}
use Rattle.qd_durable.specs.declared.fault.LogFault.{LogFault}
use Rattle.qd_durable.specs.declared.fault.LogFault.TheVariants as damage
use Rattle.qd_io.specs.Ends.{HasRisen}
use Rattle.qd_io.specs.declared.fault.IoFault.{IoFault}
use Rattle.qd_io.specs.declared.fault.IoFault.TheVariants as io
use Rattle.qd_lines.specs.declared.fault.LineFault.{LineFault}
use Rattle.qd_lines.specs.declared.fault.LineFault.TheVariants as lines
use Rattle.qd_sequencer.specs.declared.fault.CommitFault.{CommitFault}
use Rattle.qd_sequencer.specs.declared.fault.CommitFault.TheVariants as commit
use Rattle.qd_sequencer.specs.Sequences.{Sequence}
use Rattle.qd_versions.specs.declared.fault.PublishFault as root
use Rattle.qd_versions.specs.declared.fault.PublishFault.TheVariants as rooted
use Rattle.qd_writes.specs.declared.check.StmtFault.{StmtFault}
use Rattle.qd_writes.specs.declared.check.StmtFault.TheVariants as stmt
use Rattle.qd_store.specs.declared.fault.OpenFault.{OpenFault}
use Rattle.qd_store.specs.declared.fault.OpenFault.TheVariants as fault
use Rattle.qd_store.specs.declared.fault.PublishFault.{PublishFault}
use Rattle.qd_store.specs.declared.fault.PublishFault.TheVariants as publish
use Rattle.qd_store.specs.Stores.{Book}

-- An opening answers `Vol` exactly where it raises the volume's count of faults: the count is as before after every other answer.
abbrev pub CountsOpen : {T : Type 0} → ℕ → ℕ → Result T OpenFault → Type 0
CountsOpen before now (Ok answer) = now ≡ before
CountsOpen before now (Err fault.NotMade) = now ≡ before
CountsOpen before now (Err fault.Vol) = (before ≤ now) × HasRisen before now
CountsOpen before now (Err (fault.Damaged file at)) = now ≡ before
CountsOpen before now (Err fault.Memory) = now ≡ before

-- a fault of the volume, and one of its files, as those of an opening
abbrev pub open_fault : IoFault → OpenFault
open_fault io.Failed = fault.Vol
open_fault io.Memory = fault.Memory

abbrev pub open_damage : LogFault → OpenFault
open_damage damage.Vol = fault.Vol
open_damage (damage.Damaged file at) = fault.Damaged file at
open_damage damage.Memory = fault.Memory

-- Why nothing is committed: each refusal is one of which a fact holds, and `Full` says another.
abbrev pub Causes : (Code → ℕ → Type 0) → Type 0 → CommitFault → Type 0
Causes Refuses full (commit.Refused code place) = Refuses code place
Causes Refuses full commit.Full = full
Causes Refuses full commit.Vol = Unit {0}
Causes Refuses full commit.Memory = Unit {0}

-- A transaction is there of which a fact holds, and there is no room for it.
abbrev pub IsFullFor : Book → (Entry → Type 0) → Type 0
IsFullFor s Own = (s.limits.max_txns ≤ length s.sequence.refs) × (e : Entry) × Own e

-- What an earlier commit left is settled before anything is answered but the fault of that, or want of memory.
abbrev pub IsSettled : {T : Type 0} → Result T CommitFault → Sequence → Type 0
IsSettled (Ok answer) s = s.pending ≡ None
IsSettled (Err (commit.Refused code place)) s = s.pending ≡ None
IsSettled (Err commit.Full) s = s.pending ≡ None
IsSettled (Err commit.Vol) s = Unit {0}
IsSettled (Err commit.Memory) s = Unit {0}

-- the fault of a batch, and that of a statement, as those of a commit
abbrev pub line_fault : LineFault → CommitFault
line_fault (lines.Refused code line) = commit.Refused code line
line_fault lines.Memory = commit.Memory

abbrev pub stmt_fault : StmtFault → CommitFault
stmt_fault (stmt.Refused code place) = commit.Refused code place
stmt_fault stmt.Memory = commit.Memory

-- A publication answers `Vol` exactly where it raises the volume's count of faults: the count is as before after every other
-- answer.
abbrev pub CountsPublish : {T : Type 0} → ℕ → ℕ → Result T PublishFault → Type 0
CountsPublish before now (Ok answer) = now ≡ before
CountsPublish before now (Err (publish.Moved n)) = now ≡ before
CountsPublish before now (Err publish.NoRow) = now ≡ before
CountsPublish before now (Err publish.Vol) = (before ≤ now) × HasRisen before now
CountsPublish before now (Err (publish.Damaged file at)) = now ≡ before
CountsPublish before now (Err publish.Memory) = now ≡ before

-- no answer says that a file is damaged
abbrev pub IsUndamaged : {T : Type 0} → Result T PublishFault → Type 0
IsUndamaged (Err (publish.Damaged file at)) = ⊥
IsUndamaged _ = Unit {0}

-- the fault of a publication, as that of a store
abbrev pub root_fault : root.PublishFault → PublishFault
root_fault rooted.NoRow = publish.NoRow
root_fault rooted.Vol = publish.Vol
root_fault (rooted.Damaged file at) = publish.Damaged file at
root_fault rooted.Memory = publish.Memory
root_fault (rooted.Unremoved io.Failed) = publish.Vol
root_fault (rooted.Unremoved io.Memory) = publish.Memory

-- The current version isn't the one that was merged into, and is of so many transactions.
abbrev pub IsMoved : Versions → ℕ → ℕ → Type 0
IsMoved v base n = (current_n v ≡ Some n) × (n ≢ base)
