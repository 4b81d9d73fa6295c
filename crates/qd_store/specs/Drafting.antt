-- What is read and taken on the way to a draft. No public clause cites this module.
use Rattle.std.specs.Prelude.{◌≡◌, ◌⊎◌, ℕ, ◌+◌, ◌<◌, ◌≤◌, List, [], ◌∷◌, drop, length, take, Some, Result, Ok, Err, Vec, slice_index_or, slice_range}
use Rattle.std.specs.List.{AllZip}
use Rattle.std.specs.declared.alloc.Global.{Global}
use Rattle.qd_base.specs.declared.op.Entry.{Entry}
use Rattle.qd_base.specs.declared.part.Part.{Part}
use Rattle.qd_base.specs.declared.part.WalRef.{WalRef}
use Rattle.qd_base.specs.declared.schema.Schema.{Schema}
use Rattle.qd_base.specs.Database.{StoredTable, schemas_of}
use Rattle.qd_base.specs.Lawful.{LawfulFrom}
use Rattle.qd_base.specs.Schemas.{HasNoSetKeys}
use Rattle.qd_block.specs.Blocks.{Block, IsWhole}
use Rattle.qd_catalog.specs.declared.version.Version.{Version}
use Rattle.qd_catalog.specs.Versions.{Versions, version_at}
use Rattle.qd_apply.specs.declared.olds.Late.{Late}
use Rattle.qd_apply.specs.declared.olds.OldPart.{OldPart}
use Rattle.qd_apply.specs.Arrivals.{arrivals, arrivals_from}
use Rattle.qd_apply.specs.Drafts.{Drafting}
use Rattle.qd_apply.specs.Next.{first_parts}
use Rattle.qd_apply.specs.Olds.{all_late, cut}
use Rattle.qd_column.specs.Cells.{CellsOf}
use Rattle.qd_column_files.specs.Damage.{IsSpelledAs}
use Rattle.qd_column_files.specs.Reading.{IsBlockRead}
use Rattle.qd_durable.specs.declared.fault.LogFault.{LogFault}
use Rattle.qd_durable.specs.declared.fault.LogFault.TheVariants as fault
use Rattle.qd_manifest.specs.declared.shape.TableParts.{TableParts}
use Rattle.qd_manifest.specs.Spelling.{no_part, schemas_in}
use Rattle.qd_scan.specs.Sources.{IsBlockOf}
use Rattle.qd_sequencer.specs.Histories.{AreSpelled, IsLawfulOver}
use Rattle.qd_sequencer.specs.Reading.{BreaksOff}
use Rattle.qd_volume.specs.Disk.{Image}
use Rattle.qd_wal.specs.Segments.{file_in}
use Rattle.qd_store.specs.Damage.{IsDraftDamage, IsPartRead, IsRoundAt, IsThere, LosesBlock}
use Rattle.qd_store.specs.Drafts.{before_keys, between, round_of}
use Rattle.qd_store.specs.Stores.{Book}

-- ---- transactions that are taken

-- Lawful transactions were taken into a draft.
pub record HasTaken (old new : Drafting) (es : List Entry) : Type 0 where
  pub lawful : LawfulFrom (schemas_of old.tables) es
  pub taken : new ≡ record old { upto = old.upto + length es; tables = arrivals_from old.tables es }

-- A transaction at a place is taken, where it is lawful.
abbrev pub IsTaken : Result Drafting LogFault → WalRef → Drafting → Entry → Type 0
IsTaken (Ok new) at old e = HasTaken old new (e ∷ [])
IsTaken (Err (fault.Damaged file place)) at old e = (file ≡ file_in at) × (place ≡ at.start) × (IsLawfulOver (schemas_of old.tables) e → ⊥)
IsTaken (Err fault.Vol) at old e = ⊥
IsTaken (Err fault.Memory) at old e = Unit {0}

-- so many at most, of which none sets keys
abbrev pub AreSomeTaken : ℕ → Drafting → Drafting → Type 0
AreSomeTaken most old new = (es : List Entry) × HasTaken old new es × HasNoSetKeys es × (length es ≤ most)

-- so many at most, and the first of them at least: none but that sets keys
abbrev pub IsSomeRound : ℕ → Drafting → Drafting → Type 0
IsSomeRound most old new = (es : List Entry) × HasTaken old new es × HasNoSetKeys (drop 1 es) × (0 < length es) × (length es ≤ most)

-- The transactions at some places before the first one that sets keys: they are read until that is known.
pub record AreBeforeKeys (refs : List WalRef) (es : List Entry) (image : Image) : Type 0 where
  pub read : List Entry
  pub spelled : AreSpelled (take (length read) refs) read image
  pub before : es ≡ before_keys read
  pub known : (length es < length read) ⊎ (length read ≡ length refs)

-- these are taken of a told volume, or they break off
abbrev pub AreTaken : Result Drafting LogFault → List WalRef → Drafting → Image → Type 0
AreTaken (Ok new) refs old image = (es : List Entry) × AreBeforeKeys refs es image × HasTaken old new es
AreTaken (Err (fault.Damaged file place)) refs old image = BreaksOff refs (schemas_of old.tables) image file place
AreTaken (Err fault.Vol) refs old image = Unit {0}
AreTaken (Err fault.Memory) refs old image = Unit {0}

-- the same of the round at some places
abbrev pub IsRoundTaken : Result Drafting LogFault → List WalRef → Drafting → Image → Type 0
IsRoundTaken (Ok new) refs old image = (es : List Entry) × IsRoundAt refs es image × HasTaken old new es
IsRoundTaken (Err (fault.Damaged file place)) refs old image = BreaksOff refs (schemas_of old.tables) image file place
IsRoundTaken (Err fault.Vol) refs old image = Unit {0}
IsRoundTaken (Err fault.Memory) refs old image = Unit {0}

-- ---- transactions that have arrived behind the current version

pub record HasArrived (next : ℕ) (x : Version) (es : List Entry) (d : Drafting) : Type 0 where
  pub lawful : LawfulFrom (schemas_in x.shape) es
  pub draft : d ≡ record {
    base = x.n;
    upto = x.n + length es;
    next_block = next;
    shape = x.shape;
    tables = arrivals (schemas_in x.shape) es;
  }

-- a round of them, up to a number at most
pub record IsArrivedOf (v : Versions) (upto : ℕ) (d : Drafting) (x : Version) (es : List Entry) : Type 0 where
  pub at : version_at v v.current ≡ Some x
  pub has : HasArrived v.next_block x es d
  pub keys : HasNoSetKeys (drop 1 es)
  pub some : 0 < length es
  pub most : x.n + length es ≤ upto

abbrev pub IsArrived : Versions → ℕ → Drafting → Type 0
IsArrived v upto d = (x : Version) × (es : List Entry) × IsArrivedOf v upto d x es

-- that of a history
abbrev pub IsArrivedFrom : Result Drafting LogFault → Book → List Entry → ℕ → Type 0
IsArrivedFrom (Ok d) s h upto = (x : Version) × (version_at s.versions.versions s.versions.versions.current ≡ Some x)
    × HasArrived s.versions.versions.next_block x (round_of (between h x.n upto)) d × (0 < length (between h x.n upto))
IsArrivedFrom (Err (fault.Damaged file at)) s h upto = ⊥
IsArrivedFrom (Err fault.Vol) s h upto = Unit {0}
IsArrivedFrom (Err fault.Memory) s h upto = Unit {0}

-- that at its places of a told volume, or where a draft finds damage before it plans
abbrev pub AreArrived : Result Drafting LogFault → Book → ℕ → Image → Type 0
AreArrived (Ok d) s upto image = (x : Version) × (es : List Entry) × (version_at s.versions.versions s.versions.versions.current ≡ Some x)
    × IsRoundAt (slice_range s.sequence.refs x.n upto) es image × HasArrived s.versions.versions.next_block x es d
AreArrived (Err (fault.Damaged file at)) s upto image = IsDraftDamage s upto image file at
AreArrived (Err fault.Vol) s upto image = Unit {0}
AreArrived (Err fault.Memory) s upto image = Unit {0}

-- ---- parts that rows are merged into

-- what is read of the designated times of a part: its block's files spell them, or where they are damaged
abbrev pub AreTimesRead : Result CellsOf LogFault → Schema → Part → Image → Type 0
AreTimesRead (Ok times) s p image = IsSpelledAs s p s.time_col image times
AreTimesRead (Err cause) s p image = IsBlockRead (Err cause) s p image

-- what is read of all of them, or which is lost
abbrev pub ArePartsRead : Result (Vec OldPart Global) LogFault → ℕ → List Late → List TableParts → Image → Type 0
ArePartsRead (Ok list) split lates shape image = AllZip (λ late old. IsPartRead split shape late (Ok old) image) lates list.items
ArePartsRead (Err (fault.Damaged file at)) split lates shape image = LosesBlock split lates shape image file at
ArePartsRead (Err fault.Vol) split lates shape image = Unit {0}
ArePartsRead (Err fault.Memory) split lates shape image = Unit {0}

-- the number of a part's block, and what a merge reads of the part over blocks by their numbers
abbrev pub number_there : List TableParts → Late → ℕ
number_there shape late = (slice_index_or (first_parts (drop late.table shape)) late.part no_part).block

abbrev pub old_there : (ℕ → Block) → ℕ → List TableParts → Late → OldPart
old_there contents split shape late = cut split late.first (contents (number_there shape late))

-- what is read of a part that is there, as of some block that is the part's
pub record IsReadOf (split : ℕ) (shape : List TableParts) (late : Late) (old : OldPart) : Type 0 where
  pub there : IsThere shape late
  pub block : Block
  pub of : IsBlockOf there.table.schema there.part block
  pub whole : IsWhole block
  pub read : old ≡ cut split late.first block

-- the same of all parts that these tables are merged into
abbrev pub AreRead : List (List ℕ) → ℕ → List TableParts → List StoredTable → List OldPart → Type 0
AreRead written split shape tables olds = AllZip (IsReadOf split shape) (all_late 0 written split shape tables) olds
