-- Runs of a store that a stop ends, and what stops leave.
use Rattle.std.specs.Prelude.{◌≡◌, ◌⊎◌, ℕ, ◌+◌, ◌≤◌, false, List, [], ◌∷◌, ◌++◌, length, None, Some, Result, Ok, Err}
use Rattle.qd_base.specs.declared.op.Entry.{Entry}
use Rattle.qd_catalog.specs.declared.version.Version as catalog
use Rattle.qd_catalog.specs.Versions.{current_n, version_at}
use Rattle.qd_durable.specs.Moments.{EachNow, SameBut}
use Rattle.qd_txnfile.specs.Versions.{Version}
use Rattle.qd_volume.specs.Disk.{Disk, Image, images_since, moment, reads_of}
use Rattle.qd_store.specs.declared.fault.OpenFault.{OpenFault}
use Rattle.qd_store.specs.declared.fault.OpenFault.TheVariants as fault
use Rattle.qd_store.specs.Calls.{Creates, MayBe}
use Rattle.qd_store.specs.Found.{Finds, Found, IsUnmade, IsWhole}
use Rattle.qd_store.specs.Opening.{Opens}
use Rattle.qd_store.specs.Stores.{Book, IsStore}
use Rattle.qd_recovery.specs.Calls.{AreNumbered, AsksFor, Call, MayBeLeft, Step, Steps, acknowledged}

-- A store begins with a history: it was made on a volume without one, or it was opened over a whole one, with what is found there.
-- Nothing is pending then.
pub data Begins (s : Book) (before after : Disk) (h : List Entry) : Type 0 where
  Made : IsUnmade before → Creates {E = OpenFault} (Ok s) before after → s.sequence.pending ≡ None → h ≡ [] → Begins s before after h
  Opened : (f : Found) → IsWhole before → Finds f (reads_of before) → Opens (Ok s) before after → s.sequence.pending ≡ None → h ≡ f.history → Begins s before after h

-- ---- a stop

-- a run that a stop ends: the calls that answered, and the one within which the stop comes
pub record Run : Type 0 where
  pub calls : List Call
  pub last : Call

-- A store begins with a history, answers calls, and stops at some moment of one more, whatever that would have answered: an image is
-- left. A stop between two calls is one of a call that leaves the volume as it is.
pub record Stops (h : List Entry) (run : Run) (image : Image) : Type 0 where
  pub begun : Book
  -- the store before the last call, and as that would have left it
  pub store : Book
  pub later : Book
  pub volume : Disk
  pub opened : Disk
  pub before : Disk
  pub after : Disk
  pub begins : Begins begun volume opened h
  pub steps : Steps h run.calls begun store opened before
  pub last : Step (h ++ acknowledged run.calls) run.last store later before after
  pub left : images_since after (moment before) image

-- The one transaction that may stand behind what a run acknowledged: the last call's own, or that of a commit which the volume or want
-- of memory failed, behind the last one that was answered otherwise.
abbrev pub MayStandBehind : List Entry → Run → Entry → Type 0
MayStandBehind h run e = AsksFor (h ++ acknowledged run.calls) run.last e ⊎ MayBeLeft h run.calls (λ x. ⊥) e

-- a version shows no fewer transactions than the current one of a store
abbrev pub IsNoOlder : Book → Version → Type 0
IsNoOlder s v = (n : ℕ) → current_n s.versions.versions ≡ Some n → n ≤ v.n

-- ---- what is left is opened

-- all of an image is on the disk
abbrev pub IsAllOf : Image → Disk → Type 0
IsAllOf image disk = EachNow disk (SameBut (λ file. false) image)

-- It is opened as what is found in it, with the version that is found, and never refused: the volume fails, or there is no memory.
abbrev pub IsOpenedAs : Found → Result Book OpenFault → Disk → Type 0
IsOpenedAs f (Ok s) after = (s.versions.root.n ≡ f.n) × ((next : Version) → IsStore s f.history next after)
IsOpenedAs f (Err fault.NotMade) after = ⊥
IsOpenedAs f (Err (fault.Damaged file at)) after = ⊥
IsOpenedAs f (Err fault.Vol) after = Unit {0}
IsOpenedAs f (Err fault.Memory) after = Unit {0}

-- the current version shows all transactions of the history
pub record ShowsAll (s : Book) (x : catalog.Version) : Type 0 where
  pub current : version_at s.versions.versions s.versions.versions.current ≡ Some x
  pub all : x.n ≡ length s.sequence.refs

-- ---- several stops

-- What a stop leaves of a run: behind the history that it began with all that it acknowledged, in order and by their numbers, and one
-- transaction at most behind that.
pub record Leaves (h : List Entry) (run : Run) (found : List Entry) : Type 0 where
  pub numbered : AreNumbered h run.calls
  pub history : MayBe (h ++ acknowledged run.calls) (MayStandBehind h run) found

-- From an image on, each of some runs begins with what is found in the image that the stop before left. A run that ends by itself stops
-- within a call that leaves the volume as it is, and leaves what the volume reads.
abbrev pub Follows : Image → List Run → Image → Type 0
Follows image [] last = last ≡ image
Follows image (run ∷ runs) last = (f : Found) × (left : Image) × Finds f image × Stops f.history run left × Follows left runs last

-- a history that runs leave which stop one after the other
abbrev pub IsLeftBy : List Entry → List Run → List Entry → Type 0
IsLeftBy h [] found = found ≡ h
IsLeftBy h (run ∷ runs) found = (mid : List Entry) × Leaves h run mid × IsLeftBy mid runs found

-- a transaction has a number in a history, counted from 1
pub record HasNumber (n : ℕ) (e : Entry) (h : List Entry) : Type 0 where
  pub front : List Entry
  pub behind : List Entry
  pub is : h ≡ front ++ e ∷ behind
  pub number : n ≡ length front + 1
