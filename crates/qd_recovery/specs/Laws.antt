-- What a stop leaves of a store, over all lists of calls.
use Rattle.std.specs.Prelude.{◌≡◌, ℕ, ◌≤◌, false, List, [], ◌∷◌, ◌++◌, length, Contains, None, Result, Ok, Err, IfOk, OnOk}
use Rattle.qd_base.specs.declared.op.Entry.{Entry}
use Rattle.qd_base.specs.Database.{Database}
use Rattle.qd_base.specs.Replay as replay
use Rattle.qd_base.specs.Schemas.{schemas_from}
use Rattle.qd_block.specs.Blocks.{Block}
use Rattle.qd_catalog.specs.declared.version.Version as catalog
use Rattle.qd_durable.specs.Moments.{EachNow, LeavesOnly, SameBut}
use Rattle.qd_sequencer.specs.declared.fault.CommitFault.{CommitFault}
use Rattle.qd_sequencer.specs.declared.fault.CommitFault.TheVariants as commit
use Rattle.qd_sequencer.specs.declared.fault.Committed.{Committed}
use Rattle.qd_sequencer.specs.Sequences.{without_writer}
use Rattle.qd_txnfile.specs.Versions.{Version}
use Rattle.qd_versions.specs.Stores as versions
use Rattle.qd_volume.specs.Disk.{Disk, Image}
use Rattle.qd_store.specs.declared.fault.OpenFault.{OpenFault}
use Rattle.qd_store.specs.declared.fault.PublishFault.{PublishFault}
use Rattle.qd_store.specs.declared.fault.PublishFault.TheVariants as publish
use Rattle.qd_store.specs.Arriving.{IsBehind}
use Rattle.qd_store.specs.Calls.{Commits, ShowsOneOf, Stands}
use Rattle.qd_store.specs.Drafts.{Drafted, IsDraft, IsDraftedFrom, IsMerged, IsNextOf, Merging}
use Rattle.qd_store.specs.Faults.{IsSettled}
use Rattle.qd_store.specs.Found.{Finds, Found}
use Rattle.qd_store.specs.Merges.{PublishesMerged}
use Rattle.qd_store.specs.Opening.{Opens}
use Rattle.qd_store.specs.Prefixes.{HoldsTables}
use Rattle.qd_store.specs.Stores.{Book, IsStore}
use Rattle.qd_recovery.specs.Calls.{Acknowledges, AreNumbered, Asked, Call, Fails, MayBeLeft, Publishes, Says, Stays, Step, Steps, Sweeps, acknowledged}
use Rattle.qd_recovery.specs.Runs.{Begins, Follows, HasNumber, IsAllOf, IsLeftBy, IsNoOlder, IsOpenedAs, MayStandBehind, Run, ShowsAll, Stops}

-- ---- whoever has made a call has its step

-- the call that a commit was
abbrev pub IsCommitOf : Asked → Result Committed CommitFault → Call → Type 0
IsCommitOf asked (Ok done) call = (e : Entry) × (call ≡ Acknowledges asked done e)
IsCommitOf asked (Err fault) call = call ≡ Fails asked fault

-- What the calls of a store say of a told volume gives their steps.
pub record CallsAreSteps : Type 0 where
  -- `accept_lines` and `accept_sql` (`told`, `said`, `count`, `settled`)
  pub commits : (h : List Entry) (asked : Asked) (result : Result Committed CommitFault) (old new : Book) (before after : Disk) → Commits result old new (Says old.sequence.schemas asked) before after
      → OnOk result (IsBehind old.sequence.schemas new.sequence.schemas (Says old.sequence.schemas asked)) → IfOk result (λ done. done.n ≡ length new.sequence.refs) → IsSettled result new.sequence
      → (call : Call) × IsCommitOf asked result call × Step h call old new before after
  -- `draft` (`told`) and `Draft::merge` (`merged`): what is merged are the history's next transactions, up to where the draft ends
  pub merges : (h : List Entry) (s : Book) (upto : ℕ) (d : Drafted) (m : Merging) → IsDraftedFrom (Ok d) s h upto
      → ((next : ℕ) (x : catalog.Version) (es : List Entry) (contents : ℕ → Block) (db : Database) → IsDraft next x es contents db d → IsMerged next x es contents db m) → IsNextOf s h m
  -- and they are while commits put others behind them (`versions` of these)
  pub waits : (h more : List Entry) (s t : Book) (m : Merging) → IsNextOf s h m → m.upto ≤ length h → t.versions ≡ s.versions → IsNextOf t (h ++ more) m
  -- `publish` (`told`)
  pub publishes : (h : List Entry) (m : Merging) (result : Result ℕ PublishFault) (old new : Book) (before after : Disk) → IsNextOf old h m → PublishesMerged result old new m before after → Step h (Publishes m result) old new before after
  -- `publish` of a merge that another publication came before, which is answered by `Moved` (`unmoved`)
  pub moves : (h : List Entry) (result : Result ℕ PublishFault) (old new : Book) (before after : Disk) → versions.IsStore old.versions
      → ((n : ℕ) → result ≡ Err (publish.Moved n) → (after ≡ before) × (new ≡ old))
      → (n : ℕ) → result ≡ Err (publish.Moved n) → Step h Stays old new before after
  -- `sweep` (`told`)
  pub sweeps : (h : List Entry) (old new : Book) (before after : Disk) → Stands old new before after → Step h Sweeps old new before after
  -- `retire` (`holds`, `sequence`, `storage`), with `keeps_its_law` (`versions`)
  pub retires : (h : List Entry) (old new : Book) (disk : Disk) → versions.IsStore old.versions → ((g : List Entry) (next : Version) (d : Disk) → IsStore old g next d → IsStore new g next d) → new.sequence ≡ old.sequence → Step h Stays old new disk disk
  -- `end_writer` (`holds`, `forgotten`, `storage`)
  pub ends : (h : List Entry) (writer : ℕ) (old new : Book) (disk : Disk) → versions.IsStore old.versions → ((g : List Entry) (next : Version) (d : Disk) → IsStore old g next d → IsStore new g next d)
      → new.sequence ≡ record old.sequence { writers = without_writer old.sequence.writers writer } → Step h Stays old new disk disk
  -- `draft` and `read_part` (`store`, `stays`), and where no call is made
  pub rests : (h : List Entry) (s : Book) (disk : Disk) → versions.IsStore s.versions → Step h Stays s s disk disk

-- ---- over all lists of calls

-- Behind any calls a store stands behind the history that it began with, and exactly the transactions that it acknowledged since, each
-- by its number.
pub record StoresGoOn : Type 0 where
  pub begins : (h : List Entry) (s : Book) (before after : Disk) (next : Version) → Begins s before after h → IsStore s h next after
  pub goes_on : (h : List Entry) (calls : List Call) (old new : Book) (before after : Disk) (next : Version) → IsStore old h next before → Steps h calls old new before after
      → (last : Version) × IsStore new (h ++ acknowledged calls) last after
  pub numbered : (h : List Entry) (calls : List Call) (old new : Book) (before after : Disk) (next : Version) → IsStore old h next before → Steps h calls old new before after → AreNumbered h calls

-- A stop at any moment leaves a whole store, with the history that the run began with, all transactions that it acknowledged, in order,
-- and at most one more; its version shows no fewer transactions than the current one did.
abbrev pub NoStopLosesAny : Type 0
NoStopLosesAny = (h : List Entry) (run : Run) (image : Image) (stop : Stops h run image) → ShowsOneOf (h ++ acknowledged run.calls) (MayStandBehind h run) (IsNoOlder stop.store) image

-- So it is however often the machine stops, where each run begins with what the stop before left.
pub record NoStopsLoseAny : Type 0 where
  pub left : (h : List Entry) (run : Run) (runs : List Run) (first last : Image) → Stops h run first → Follows first runs last → (f : Found) × Finds f last × IsLeftBy h (run ∷ runs) f.history
  -- Each transaction that any of the runs acknowledged has its number there.
  pub kept : (h found : List Entry) (runs : List Run) → IsLeftBy h runs found → (run : Run) → Contains runs run → (asked : Asked) (done : Committed) (e : Entry) → Contains run.calls (Acknowledges asked done e) → HasNumber done.n e found

-- ---- opening, and applying

-- A volume that has all of an image in which something is found is opened as that, and is never refused.
pub record OpeningGivesAll : Type 0 where
  pub opens : (f : Found) (image : Image) (result : Result Book OpenFault) (before after : Disk) → Finds f image → IsAllOf image before → Opens result before after → IsOpenedAs f result after
  -- A stop within the opening leaves that image again, and the volume has all of it whatever is answered.
  pub stays : (image : Image) (result : Result Book OpenFault) (before after : Disk) → IsAllOf image before → Opens result before after → LeavesOnly before after (SameBut (λ file. false) image) × IsAllOf image after
  -- So a store begins.
  pub begins : (f : Found) (image : Image) (s : Book) (before after : Disk) → Finds f image → IsAllOf image before → Opens (Ok s) before after → s.sequence.pending ≡ None → Begins s before after f.history
  -- Once calls have made its current version show all transactions, each image holds the database after the whole history.
  pub applied : (h : List Entry) (calls : List Call) (s t : Book) (volume before after : Disk) (x : catalog.Version) → Begins s volume before h → Steps h calls s t before after → ShowsAll t x
      → EachNow after (HoldsTables x.shape (replay.after (h ++ acknowledged calls)))

-- The whole sentence. Runs stop one after the other, each at any moment. What the last stop left is opened, and calls go on until the
-- current version shows all transactions: then the volume holds the database after a history that has, behind what the first run began
-- with, every transaction that was acknowledged, in order, and at most one more for each stop.
abbrev pub OpeningAndApplyingGivesAll : Type 0
OpeningAndApplyingGivesAll = (h : List Entry) (run : Run) (runs : List Run) (first last : Image) → Stops h run first → Follows first runs last
    → (f : Found) (s t : Book) (volume before after : Disk) (calls : List Call) (x : catalog.Version) → Finds f last → IsAllOf last volume → Opens (Ok s) volume before → s.sequence.pending ≡ None
    → Steps f.history calls s t before after → ShowsAll t x
    → IsLeftBy h (run ∷ runs) f.history × EachNow after (HoldsTables x.shape (replay.after (f.history ++ acknowledged calls)))

-- ---- worked examples

-- two commits answer Ok, each behind one that failed, and a third one fails
abbrev pub failing_in_turn : Asked → Asked → Asked → Committed → Entry → Entry → List Call
failing_in_turn a b c done x y = Fails a commit.Vol ∷ Acknowledges a done x ∷ Fails b commit.Vol ∷ Sweeps ∷ Acknowledges b done y ∷ Stays ∷ Fails c commit.Vol ∷ []

-- What they acknowledge is two transactions, and only the last commit's may be left behind these; where one more is answered that there
-- is no room, none may be.
pub record WorkedExamples : Type 0 where
  pub two : (a b c : Asked) (done : Committed) (x y : Entry) → acknowledged (failing_in_turn a b c done x y) ≡ x ∷ y ∷ []
  pub one_left : (a b c : Asked) (done : Committed) (x y e : Entry) → MayBeLeft [] (failing_in_turn a b c done x y) (λ z. ⊥) e → Says (schemas_from [] (x ∷ y ∷ [])) c e
  pub none_left : (a b c : Asked) (done : Committed) (x y e : Entry) → MayBeLeft [] (failing_in_turn a b c done x y ++ Fails c commit.Full ∷ []) (λ z. ⊥) e → ⊥
