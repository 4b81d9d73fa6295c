-- Where a draft finds damage, whatever else the volume holds.
use Rattle.std.specs.Prelude.{◌≡◌, ◌⊎◌, ℕ, ◌<◌, List, [], ◌∷◌, length, map, take, Some, Result, Ok, Err, slice_get, slice_range}
use Rattle.qd_base.specs.declared.op.Entry.{Entry}
use Rattle.qd_base.specs.declared.part.Part.{Part}
use Rattle.qd_base.specs.declared.part.WalRef.{WalRef}
use Rattle.qd_base.specs.declared.schema.Schema.{Schema}
use Rattle.qd_base.specs.Lawful.{LawfulFrom}
use Rattle.qd_base.specs.Rows.{time_in}
use Rattle.qd_block.specs.Blocks.{Block}
use Rattle.qd_column.specs.Cells.{CellsOf}
use Rattle.qd_catalog.specs.declared.version.Version.{Version}
use Rattle.qd_catalog.specs.Versions.{version_at}
use Rattle.qd_apply.specs.declared.olds.Late.{Late}
use Rattle.qd_apply.specs.declared.olds.OldPart.{OldPart}
use Rattle.qd_apply.specs.Arrivals.{arrivals}
use Rattle.qd_apply.specs.Olds.{all_late, rows_staying, stay_of}
use Rattle.qd_apply.specs.Plans.{with_batch}
use Rattle.qd_durable.specs.declared.fault.LogFault.{LogFault}
use Rattle.qd_durable.specs.declared.fault.LogFault.TheVariants as fault
use Rattle.qd_column_files.specs.Damage.{IsSpelledAs}
use Rattle.qd_column_files.specs.Reading.{IsBlockRead}
use Rattle.qd_column_files.specs.Rests.{rest_of, HoldsTimed}
use Rattle.qd_manifest.specs.declared.shape.TableParts.{TableParts}
use Rattle.qd_manifest.specs.Spelling.{schemas_in}
use Rattle.qd_sequencer.specs.Histories.{AreSpelled}
use Rattle.qd_sequencer.specs.Reading.{BreaksOff}
use Rattle.qd_volume.specs.Disk.{Image}
use Rattle.qd_store.specs.Drafts.{round_of}
use Rattle.qd_store.specs.Grown.{rows_written}
use Rattle.qd_store.specs.Stores.{Book}

-- ---- the parts that rows are merged into

-- a version has the part
pub record IsThere (shape : List TableParts) (late : Late) : Type 0 where
  pub table : TableParts
  pub part : Part
  pub its_table : slice_get shape late.table ≡ Some table
  pub its_part : slice_get table.parts late.part ≡ Some part

-- What is read of a part: its designated times, which its block's files spell; what of it stays as it lies, which these tell; and the
-- rows behind that, of any block that is the part's and has these times, where the files hold one.
pub record IsOldOf (split first : ℕ) (s : Schema) (p : Part) (old : OldPart) (image : Image) : Type 0 where
  pub times : CellsOf
  pub spelled : IsSpelledAs s p s.time_col image times
  pub stay : old.stay ≡ stay_of split first (map time_in times.cells)
  pub rest : (b : Block) → HoldsTimed s p times image b → old.rest ≡ rest_of (rows_staying old.stay p.rows) b

-- that, or where the files are damaged, and then they hold no block that is the part's
abbrev pub IsOldRead : Result OldPart LogFault → ℕ → ℕ → Schema → Part → Image → Type 0
IsOldRead (Ok old) split first s p image = IsOldOf split first s p old image
IsOldRead (Err cause) split first s p image = IsBlockRead (Err cause) s p image

-- the same of a part of a version
pub record IsPartRead (split : ℕ) (shape : List TableParts) (late : Late) (result : Result OldPart LogFault) (image : Image) : Type 0 where
  pub there : IsThere shape late
  pub read : IsOldRead result split late.first there.table.schema there.part image

-- The files of the block of one of some parts are damaged; those before it were read. Damage of rows that stay as they lie, and
-- aren't read, may go unseen.
abbrev pub LosesBlock : ℕ → List Late → List TableParts → Image → ℕ → ℕ → Type 0
LosesBlock split [] shape image file at = ⊥
LosesBlock split (late ∷ more) shape image file at =
    IsPartRead split shape late (Err (fault.Damaged file at)) image ⊎ ((old : OldPart) × IsPartRead split shape late (Ok old) image × LosesBlock split more shape image file at)

-- ---- drafts

-- The transactions of the round at some references: those are read from the first one on until the round is known, which is where one
-- behind it is read, or all are.
pub record IsRoundAt (refs : List WalRef) (es : List Entry) (image : Image) : Type 0 where
  pub read : List Entry
  pub spelled : AreSpelled (take (length read) refs) read image
  pub round : es ≡ round_of read
  pub known : (length es < length read) ⊎ (length read ≡ length refs)

-- The damage that a draft over a version finds, in the order in which it is looked for: of the transactions at the references: the
-- first of them that is not spelled, or not lawful over the schemas before it; of the blocks of the parts that those of the round are
-- merged into, by how many rows the files of the version's blocks hold. What is damaged behind the round isn't looked for.
pub data IsDamagedOver (written : List (List ℕ)) (split : ℕ) (x : Version) (refs : List WalRef) (image : Image) : (file at : ℕ) → Type 0 where
  InEntries : (file at : ℕ) → BreaksOff refs (schemas_in x.shape) image file at → IsDamagedOver written split x refs image file at
  InBlocks : (es : List Entry) (file at : ℕ) → IsRoundAt refs es image → LawfulFrom (schemas_in x.shape) es
      → LosesBlock split (all_late 0 written split x.shape (map with_batch (arrivals (schemas_in x.shape) es))) x.shape image file at → IsDamagedOver written split x refs image file at

-- that of a draft of the transactions behind a store's current version, up to a number
abbrev pub IsDraftDamage : Book → ℕ → Image → ℕ → ℕ → Type 0
IsDraftDamage s upto image file at = (x : Version) × (version_at s.versions.versions s.versions.versions.current ≡ Some x) × IsDamagedOver (rows_written s.versions.versions x.shape) s.limits.split_rows x (slice_range s.sequence.refs x.n upto) image file at
