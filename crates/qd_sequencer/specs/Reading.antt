-- What is read of the transactions behind a version.
use Rattle.std.specs.Prelude.{◌≡◌, ◌⊎◌, ℕ, List, [], ◌∷◌, fold, take, drop, None, Result, Ok, Err}
use Rattle.qd_base.specs.declared.op.Entry.{Entry}
use Rattle.qd_base.specs.declared.part.WalRef.{WalRef}
use Rattle.qd_base.specs.declared.schema.Schema.{Schema}
use Rattle.qd_base.specs.Lawful.{Lawful, LawfulFrom}
use Rattle.qd_base.specs.Schemas.{schemas_from, schemas_step}
use Rattle.qd_volume.specs.Disk.{Disk, Image, reads_of}
use Rattle.qd_durable.specs.declared.fault.LogFault.{LogFault}
use Rattle.qd_durable.specs.declared.fault.LogFault.TheVariants as fault
use Rattle.qd_durable.specs.Moments.{EachNow}
use Rattle.qd_seq.specs.States.{Knows}
use Rattle.qd_wal.specs.Reading.{IsUnread, SpellsAt}
use Rattle.qd_wal.specs.Segments.{file_in}
use Rattle.qd_sequencer.specs.Histories.{AreSpelled, IsLawfulOver}
use Rattle.qd_sequencer.specs.Sequences.{IsSequence, Sequence}

-- a transaction that is spelled, and isn't lawful over the schemas before it; its first byte is named
pub record IsUnlawful (bytes : List ℕ) (at : WalRef) (schemas : List Schema) (file place : ℕ) : Type 0 where
  pub segment : file ≡ file_in at
  pub start : place ≡ at.start
  pub entry : Entry
  pub spelled : SpellsAt bytes at entry
  pub unlawful : IsLawfulOver schemas entry → ⊥

-- no lawful transaction is at a place
abbrev pub IsBroken : List ℕ → WalRef → List Schema → ℕ → ℕ → Type 0
IsBroken bytes at schemas file place = IsUnread bytes at file place ⊎ IsUnlawful bytes at schemas file place

-- a lawful transaction is there
pub record IsGood (bytes : List ℕ) (at : WalRef) (schemas : List Schema) (e : Entry) : Type 0 where
  pub spelled : SpellsAt bytes at e
  pub lawful : IsLawfulOver schemas e

-- The first of some references where no lawful transaction is over the schemas that the ones before it leave.
abbrev pub BreaksOff : List WalRef → List Schema → Image → ℕ → ℕ → Type 0
BreaksOff [] schemas image file place = ⊥
BreaksOff (at ∷ more) schemas image file place = IsBroken (image (file_in at)) at schemas file place ⊎ ((e : Entry) × IsGood (image (file_in at)) at schemas e × BreaksOff more (fold schemas_step schemas e.ops) image file place)

-- these transactions are there, and leave these schemas
pub record AreRead (refs : List WalRef) (old new : List Schema) (image : Image) (es : List Entry) : Type 0 where
  pub spelled : AreSpelled refs es image
  pub lawful : LawfulFrom old es
  pub behind : new ≡ schemas_from old es

-- the next transaction is read, or none is there
abbrev pub IsNextRead : {T : Type 0} → Result T LogFault → WalRef → List Schema → List Schema → List ℕ → Type 0
IsNextRead (Ok done) at old new bytes = (e : Entry) × IsGood bytes at old e × (new ≡ fold schemas_step old e.ops)
IsNextRead (Err (fault.Damaged file place)) at old new bytes = IsBroken bytes at old file place
IsNextRead (Err fault.Vol) at old new bytes = Unit {0}
IsNextRead (Err fault.Memory) at old new bytes = Unit {0}

-- all of some references are followed, or the transactions break off
abbrev pub AreFollowed : {T : Type 0} → Result T LogFault → List WalRef → List Schema → List Schema → Image → Type 0
AreFollowed (Ok done) refs old new image = (es : List Entry) × AreRead refs old new image es
AreFollowed (Err (fault.Damaged file place)) refs old new image = BreaksOff refs old image file place
AreFollowed (Err fault.Vol) refs old new image = Unit {0}
AreFollowed (Err fault.Memory) refs old new image = Unit {0}

-- a history that a log gives, of which the first n transactions leave these schemas
pub record IsLogged (refs : List WalRef) (n : ℕ) (schemas : List Schema) (h : List Entry) (disk : Disk) : Type 0 where
  pub log : Knows refs None disk
  pub spelled : EachNow disk (AreSpelled refs h)
  pub lawful : Lawful h
  pub version : schemas ≡ schemas_from [] (take n h)

-- The transactions behind the first n are read, and the sequencer stands behind each such history; where they break off there is none.
abbrev pub IsTakenOver : Result Sequence LogFault → List WalRef → ℕ → List Schema → Disk → Type 0
IsTakenOver (Ok s) refs n schemas disk = ((es : List Entry) × AreRead (drop n refs) schemas s.schemas (reads_of disk) es) × ((h : List Entry) → IsLogged refs n schemas h disk → IsSequence s h disk)
IsTakenOver (Err (fault.Damaged file place)) refs n schemas disk = BreaksOff (drop n refs) schemas (reads_of disk) file place × ((h : List Entry) → IsLogged refs n schemas h disk → ⊥)
IsTakenOver (Err fault.Vol) refs n schemas disk = Unit {0}
IsTakenOver (Err fault.Memory) refs n schemas disk = Unit {0}
