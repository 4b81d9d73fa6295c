-- The calls of a store with their answers: what each says of a told volume, what it acknowledges, and what it may leave behind.
use Rattle.std.specs.Prelude.{◌≡◌, ◌⊎◌, ℕ, ◌+◌, List, [], ◌∷◌, ◌++◌, length, None, Result, Ok, Err}
use Rattle.qd_base.specs.declared.op.Entry.{Entry}
use Rattle.qd_base.specs.declared.schema.Schema.{Schema}
use Rattle.qd_base.specs.Schemas.{schemas_from}
use Rattle.qd_ilp.specs.Whole.{Reading}
use Rattle.qd_sequencer.specs.declared.fault.CommitFault.{CommitFault}
use Rattle.qd_sequencer.specs.declared.fault.CommitFault.TheVariants as commit
use Rattle.qd_sequencer.specs.declared.fault.Committed.{Committed}
use Rattle.qd_sql_ast.specs.declared.tree.Stmt.{Stmt}
use Rattle.qd_txnfile.specs.Versions.{Version}
use Rattle.qd_versions.specs.Stores as versions
use Rattle.qd_volume.specs.Disk.{Disk}
use Rattle.qd_store.specs.declared.fault.PublishFault.{PublishFault}
use Rattle.qd_store.specs.Arriving.{SaysLines, SaysStmt}
use Rattle.qd_store.specs.Calls.{Commits, Stands}
use Rattle.qd_store.specs.Drafts.{IsNextOf, Merging}
use Rattle.qd_store.specs.Faults.{IsSettled}
use Rattle.qd_store.specs.Merges.{PublishesMerged}
use Rattle.qd_store.specs.Stores.{Book, IsStore}

-- What a commit is asked for: the lines of a batch, where those without a stamp take the time `now`; or what a statement does.
pub data Asked : Type 0 where
  Lines : (now : ℕ) (batch : Reading) → Asked
  Statement : (stmt : Stmt) → Asked

-- the transaction that it is over some schemas
abbrev pub Says : List Schema → Asked → Entry → Type 0
Says schemas (Lines now batch) = SaysLines schemas now batch
Says schemas (Statement stmt) = SaysStmt schemas stmt

-- A call with its answer.
pub data Call : Type 0 where
  -- a commit that answered Ok: it acknowledges its transaction
  Acknowledges : (asked : Asked) (done : Committed) (e : Entry) → Call
  -- a commit that answered Err
  Fails : (asked : Asked) (fault : CommitFault) → Call
  -- the publication of a merge into the current version, whatever it answered
  Publishes : (m : Merging) (result : Result ℕ PublishFault) → Call
  -- a sweep
  Sweeps : Call
  -- a call that leaves the volume as it is: a version or a writer goes, transactions are drafted, a part is read, or a merge isn't
  -- published because another one came before it
  Stays : Call

-- ---- what a call acknowledges

abbrev pub acknowledged_by : Call → List Entry
acknowledged_by (Acknowledges asked done e) = e ∷ []
acknowledged_by (Fails asked fault) = []
acknowledged_by (Publishes m result) = []
acknowledged_by Sweeps = []
acknowledged_by Stays = []

-- what some calls acknowledge, in order
abbrev pub acknowledged : List Call → List Entry
acknowledged [] = []
acknowledged (call ∷ calls) = acknowledged_by call ++ acknowledged calls

-- The number that a commit answered is its transaction's, counted from 1: so many there are with it.
abbrev pub IsNumbered : List Entry → Call → Type 0
IsNumbered h (Acknowledges asked done e) = done.n ≡ length h + 1
IsNumbered h (Fails asked fault) = Unit {0}
IsNumbered h (Publishes m result) = Unit {0}
IsNumbered h Sweeps = Unit {0}
IsNumbered h Stays = Unit {0}

-- so it is of some calls, from a history on
abbrev pub AreNumbered : List Entry → List Call → Type 0
AreNumbered h [] = Unit {0}
AreNumbered h (call ∷ calls) = IsNumbered h call × AreNumbered (h ++ acknowledged_by call) calls

-- ---- what it may leave behind the history

-- what a commit is asked for, behind a history
abbrev pub AsksFor : List Entry → Call → Entry → Type 0
AsksFor h (Acknowledges asked done e) x = Says (schemas_from [] h) asked x
AsksFor h (Fails asked fault) x = Says (schemas_from [] h) asked x
AsksFor h (Publishes m result) x = ⊥
AsksFor h Sweeps x = ⊥
AsksFor h Stays x = ⊥

-- A commit that failed may leave something, unless it was refused or found no room: what was left is settled before that is answered.
abbrev pub MayLeave : CommitFault → Type 0 → Type 0
MayLeave (commit.Refused code place) what = ⊥
MayLeave commit.Full what = ⊥
MayLeave commit.Vol what = what
MayLeave commit.Memory what = what

-- Which transaction may be left behind the history once a call has answered, by which might have been left before it: none behind a
-- commit that answered Ok; behind one that failed its own too.
abbrev pub LeavesBehind : List Entry → Call → (Entry → Type 0) → Entry → Type 0
LeavesBehind h (Acknowledges asked done e) Left x = ⊥
LeavesBehind h (Fails asked fault) Left x = MayLeave fault (Left x ⊎ Says (schemas_from [] h) asked x)
LeavesBehind h (Publishes m result) Left x = Left x
LeavesBehind h Sweeps Left x = Left x
LeavesBehind h Stays Left x = Left x

-- so behind some calls from a history on
abbrev pub MayBeLeft : List Entry → List Call → (Entry → Type 0) → Entry → Type 0
MayBeLeft h [] Left = Left
MayBeLeft h (call ∷ calls) Left = MayBeLeft (h ++ acknowledged_by call) calls (LeavesBehind h call Left)

-- ---- what it makes of a store

-- a commit answered Ok: what was committed is what it was asked for, it is the last, and nothing is pending
pub record IsAcknowledged (asked : Asked) (done : Committed) (e : Entry) (old new : Book) (before after : Disk) : Type 0 where
  pub told : Commits {T = Committed} {E = CommitFault} (Ok done) old new (Says old.sequence.schemas asked) before after
  pub own : Says old.sequence.schemas asked e
  pub number : done.n ≡ length new.sequence.refs
  pub settled : new.sequence.pending ≡ None

-- a commit answered Err: nothing was committed
pub record IsFailed (asked : Asked) (fault : CommitFault) (old new : Book) (before after : Disk) : Type 0 where
  pub told : Commits {T = Committed} {E = CommitFault} (Err fault) old new (Says old.sequence.schemas asked) before after
  pub settled : IsSettled {T = Committed} (Err fault) new.sequence

-- a merge of the history's next transactions is published, or the call failed
pub record IsPublished (h : List Entry) (m : Merging) (result : Result ℕ PublishFault) (old new : Book) (before after : Disk) : Type 0 where
  pub next_of : IsNextOf old h m
  pub told : PublishesMerged result old new m before after

-- a call leaves the volume as it is, and what holds of the store over any volume
pub record LeavesAll (old new : Book) (before after : Disk) : Type 0 where
  pub law : versions.IsStore old.versions
  pub holds : (h : List Entry) (next : Version) (disk : Disk) → IsStore old h next disk → IsStore new h next disk
  pub pending : new.sequence.pending ≡ old.sequence.pending
  pub volume : after ≡ before

-- One call of a store of a history, from what contracts see of the store and of its volume before it to what they see behind it. Each
-- case is what the call's own clauses say.
abbrev pub Step : List Entry → Call → Book → Book → Disk → Disk → Type 0
Step h (Acknowledges asked done e) old new before after = IsAcknowledged asked done e old new before after
Step h (Fails asked fault) old new before after = IsFailed asked fault old new before after
Step h (Publishes m result) old new before after = IsPublished h m result old new before after
Step h Sweeps old new before after = Stands old new before after
Step h Stays old new before after = LeavesAll old new before after

-- Calls one after the other, each of a store of the history and what was acknowledged since.
abbrev pub Steps : List Entry → List Call → Book → Book → Disk → Disk → Type 0
Steps h [] old new before after = (new ≡ old) × (after ≡ before)
Steps h (call ∷ calls) old new before after = (mid : Book) × (disk : Disk) × Step h call old mid before disk × Steps (h ++ acknowledged_by call) calls mid new disk after
