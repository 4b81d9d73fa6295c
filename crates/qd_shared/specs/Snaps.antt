-- Versions that a pass has pinned: what is copied of them, and their parts.
use Rattle.std.specs.Prelude.{◌≡◌, ℕ, ◌≤◌, List, length, Option, Some, None, IfOk, IfSome, Result, Ok, Err, slice_get}
use Rattle.qd_base.specs.declared.op.Entry.{Entry}
use Rattle.qd_base.specs.declared.part.Part.{Part}
use Rattle.qd_base.specs.Database.{Database}
use Rattle.qd_base.specs.Replay.{first}
use Rattle.qd_block.specs.Blocks.{Block}
use Rattle.qd_apply.specs.Stands.{StandsFor}
use Rattle.qd_durable.specs.declared.fault.LogFault.{LogFault}
use Rattle.qd_durable.specs.declared.fault.LogFault.TheVariants as fault
use Rattle.qd_io.specs.Ends.{HasRisen}
use Rattle.qd_manifest.specs.declared.shape.TableParts.{TableParts}
use Rattle.qd_manifest.specs.Spelling.{schemas_in}
use Rattle.qd_scan.specs.Sources.{IsBlockOf, rows_at, rows_in_part, table_rows}
use Rattle.qd_score.specs.declared.pins.Pin.{Pin}
use Rattle.qd_score_model.specs.declared.view.Phase.{Phase}
use Rattle.qd_score_model.specs.declared.view.Phase.TheVariants.{Pinned}
use Rattle.qd_score_model.specs.declared.view.Place.{Place}
use Rattle.qd_score_model.specs.Machine.{version_at}
use Rattle.qd_store_backend.specs.Backs.{current, n_in}
use Rattle.qd_versions.specs.Stores.{AreTables}
use Rattle.qd_shared.specs.declared.snap.Snap.{Snap}
use Rattle.qd_shared.specs.Desks.{Desk, items_in}
use Rattle.qd_shared.specs.Passes.{Holds, Pass, faults_of, history_of, view_of}

abbrev pub pinned_at : Pin → Place
pinned_at pin = record { n = pin.n; row = pin.row }

-- a pass has pinned the version of a place
abbrev pub IsPinned : Pass → Place → Type 0
IsPinned p place = (view_of p).phase ≡ Pinned place

-- a pass that is so far with its pin, and else is as it was
abbrev pub with_phase : Pass → Phase → Pass
with_phase p phase = record p { knows = record p.knows { view = record (view_of p) { phase = phase } } }

-- a pass that has noted, when it held the lock last, which tables the version of the first n transactions has
abbrev pub Notes : Pass → ℕ → List TableParts → Type 0
Notes p n shape = (row : ℕ) × (version_at (view_of p).noted row ≡ Some (record { n = n; shape = shape }))

-- the blocks of tables stand for a database
abbrev pub AreHeld : List TableParts → Database → Type 0
AreHeld shape db = (blocks : ℕ → Block) × StandsFor blocks shape db

-- What is copied of a version: its tables, their schemas and how many transactions they stand for.
pub record IsCopied (s : Snap) (history : Option (List Entry)) : Type 0 where
  pub schemas : s.schemas ≡ schemas_in s.shape
  pub tables : AreTables s.shape
  pub held : IfSome history (λ h. (s.n ≤ length h) × AreHeld s.shape (first h s.n))

-- that of the version which a pass has pinned
pub record IsSnapOf (p : Pass) (place : Place) (s : Snap) : Type 0 where
  pub number : s.n ≡ place.n
  pub within : s.n ≤ length (view_of p).seen
  pub noted : Notes p s.n s.shape
  pub copied : IsCopied s (history_of p)

-- tables have a part at a position of a table at a position
pub record HasPart (shape : List TableParts) (table i : ℕ) (t : TableParts) (p : Part) : Type 0 where
  pub its_table : slice_get shape table ≡ Some t
  pub its_part : slice_get t.parts i ≡ Some p

-- The rows of a part are read: those of the table behind the first n transactions, where these are told; and no damage is found then.
abbrev pub IsRowsOf : Result Block LogFault → Option (List Entry) → (n table : ℕ) → TableParts → Part → Type 0
IsRowsOf (Ok b) history n table t p = IfSome history (λ h. table_rows t.schema.cols b ≡ rows_in_part t.schema.time_col (rows_at (first h n) table) p)
IsRowsOf (Err (fault.Damaged file at)) history n table t p = history ≡ None
IsRowsOf (Err fault.Vol) history n table t p = Unit {0}
IsRowsOf (Err fault.Memory) history n table t p = Unit {0}

-- A part of a pinned version is read, in one hold.
pub record ReadsPart (result : Result Block LogFault) (old new : Pass) (place : Place) (shape : List TableParts) (table i : ℕ) : Type 0 where
  pub found : Desk
  pub left : Desk
  pub holds : Holds old new found left
  pub noted : Notes new place.n shape
  pub shown : n_in (current left.owned.store) ≡ n_in (current found.owned.store)
  pub items : items_in left ≡ items_in found
  pub history : history_of new ≡ left.history
  pub count : IfSome left.history (λ h. length (items_in left) ≡ length h)
  pub block : (t : TableParts) (p : Part) → HasPart shape table i t p → IfOk result (λ b. IsBlockOf t.schema p b)
  pub rows : (t : TableParts) (p : Part) → HasPart shape table i t p → IsRowsOf result (history_of new) place.n table t p
  pub vol : result ≡ Err fault.Vol → HasRisen (faults_of old) (faults_of new)
