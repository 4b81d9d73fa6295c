-- What each call makes of a told volume: at every moment inside it, and behind it.
use Rattle.std.specs.Prelude.{◌≡◌, ◌⊎◌, ℕ, List, [], ◌∷◌, ◌++◌, length, Option, None, Result, Ok, Err}
use Rattle.std.specs.List.{AllByRecursion}
use Rattle.qd_base.specs.declared.op.Entry.{Entry}
use Rattle.qd_base.specs.declared.part.WalRef.{WalRef}
use Rattle.qd_base.specs.Lawful.{Lawful}
use Rattle.qd_volume.specs.Disk.{Disk}
use Rattle.qd_durable.specs.Moments.{EachNow, LeavesOnly, Moves, SameBut, Touches}
use Rattle.qd_seq.specs.States.{Knows}
use Rattle.qd_wal_entry.specs.Spelling.{SpellsEntry}
use Rattle.qd_wal.specs.Puts.{IsApart}
use Rattle.qd_sequencer.specs.Histories.{AreSpelled, HasPending, HoldsHistory, IsPending, MayHold, is_log_file}
use Rattle.qd_sequencer.specs.Sequences.{IsSequence, Sequence}

-- a call changes no other file than those of the logs
abbrev pub ChangesLogs : Disk → Disk → Type 0
ChangesLogs before after = Moves (SameBut is_log_file) before after

-- ---- the making

abbrev pub IsMade : {E : Type 0} → Result Sequence E → Disk → Type 0
IsMade (Ok s) disk = EachNow disk (HoldsHistory [] []) × IsSequence s [] disk
IsMade (Err fault) disk = Unit {0}

-- An empty sequencer is made. At each moment nothing but the first nine bytes of the log differs from what was there.
pub record Makes {E : Type 0} (result : Result Sequence E) (before after : Disk) : Type 0 where
  pub made : IsMade result after
  pub touches : Touches 1 0 9 before after
  pub elsewhere : ChangesLogs before after

-- ---- what may be pending

-- behind a call: what was so before it
abbrev pub PendsAsBefore : Option WalRef → Option WalRef → Disk → Disk → Type 0
PendsAsBefore old new before after = (e : Entry) → IsPending new after e → IsPending old before e

-- that, or a transaction of which a fact holds
abbrev pub PendsOwn : Option WalRef → Option WalRef → (Entry → Type 0) → Disk → Disk → Type 0
PendsOwn old new own before after = PendsAsBefore old new before after ⊎ ((e : Entry) → IsPending new after e → own e)

-- ---- the repair

-- What a failed commit left is settled: a crash leaves at each moment only what it might have left before.
pub record Settles (old new : Sequence) (before after : Disk) : Type 0 where
  pub any_moment : (h : List Entry) → IsSequence old h before → LeavesOnly before after (MayHold old.refs h (IsPending old.pending before))
  pub behind : (h : List Entry) → IsSequence old h before → IsSequence new h after
  pub pending : (h : List Entry) → IsSequence old h before → PendsAsBefore old.pending new.pending before after
  pub elsewhere : ChangesLogs before after

-- ---- an entry and its reference

-- the transaction of these bytes may go behind a history
pub record IsReady (refs : List WalRef) (h : List Entry) (at : WalRef) (e : Entry) (bytes : List ℕ) (disk : Disk) : Type 0 where
  pub log : Knows refs None disk
  pub spelled : EachNow disk (AreSpelled refs h)
  pub lawful : Lawful h
  pub next : Lawful (h ++ e ∷ [])
  pub apart : AllByRecursion (IsApart at) refs
  pub bytes_are : SpellsEntry bytes e
  pub long : at.len ≡ length bytes

-- what is known behind that: no other transaction is pending
abbrev pub IsEntered : {T E : Type 0} → Result T E → List WalRef → List Entry → WalRef → Entry → Option WalRef → Disk → Type 0
IsEntered (Ok n) refs h at e pending disk = EachNow disk (HoldsHistory (refs ++ at ∷ []) (h ++ e ∷ [])) × Knows (refs ++ at ∷ []) None disk × EachNow disk (AreSpelled (refs ++ at ∷ []) (h ++ e ∷ []))
IsEntered (Err fault) refs h at e pending disk = Knows refs pending disk × EachNow disk (AreSpelled refs h) × HasPending pending h disk × ((x : Entry) → IsPending pending disk x → x ≡ e)

-- An entry is put at a place, and the place is appended to the log.
pub record Enters {T E : Type 0} (result : Result T E) (refs : List WalRef) (at : WalRef) (bytes : List ℕ) (pending : Option WalRef) (before after : Disk) : Type 0 where
  pub any_moment : (h : List Entry) (e : Entry) → IsReady refs h at e bytes before → LeavesOnly before after (MayHold refs h (λ x. x ≡ e))
  pub behind : (h : List Entry) (e : Entry) → IsReady refs h at e bytes before → IsEntered result refs h at e pending after
  pub elsewhere : ChangesLogs before after

-- ---- a commit

-- After an Ok each image holds the history with one more transaction, one of the call's own; after an Err the history stays.
abbrev pub IsAccepted : {T E : Type 0} → Result T E → Sequence → List Entry → (Entry → Type 0) → Disk → Type 0
IsAccepted (Ok done) new h own disk = (e : Entry) × own e × EachNow disk (HoldsHistory new.refs (h ++ e ∷ [])) × IsSequence new (h ++ e ∷ []) disk
IsAccepted (Err fault) new h own disk = IsSequence new h disk

-- A transaction is committed, or none is. A crash leaves at each moment the history, or that with one more transaction: one of the
-- call's own, or the one that was pending before it. No other is pending behind it.
pub record Accepts {T E : Type 0} (result : Result T E) (old new : Sequence) (own : Entry → Type 0) (before after : Disk) : Type 0 where
  pub any_moment : (h : List Entry) → IsSequence old h before → LeavesOnly before after (MayHold old.refs h (λ e. own e ⊎ IsPending old.pending before e))
  pub behind : (h : List Entry) → IsSequence old h before → IsAccepted result new h own after
  pub pending : (h : List Entry) → IsSequence old h before → PendsOwn old.pending new.pending own before after
  pub elsewhere : ChangesLogs before after
