-- Parts of versions, as they are read.
use Rattle.std.specs.Prelude.{◌≡◌, ℕ, List, Result, Ok, Err}
use Rattle.qd_base.specs.declared.op.Entry.{Entry}
use Rattle.qd_base.specs.declared.part.Part.{Part}
use Rattle.qd_base.specs.Replay.{first}
use Rattle.qd_block.specs.Blocks.{Block}
use Rattle.qd_durable.specs.declared.fault.LogFault.{LogFault}
use Rattle.qd_durable.specs.declared.fault.LogFault.TheVariants as fault
use Rattle.qd_manifest.specs.declared.shape.TableParts.{TableParts}
use Rattle.qd_scan.specs.Sources.{rows_at, rows_in_part, table_rows}
use Rattle.qd_versions.specs.Reading.{IsPartAt}
use Rattle.qd_store.specs.Stores.{Book}

-- A part of a version that shows the first transactions of a history is read: it has the rows of the table there between the part's
-- first and last time, as wide as the table is then. What the files hold is never damaged.
abbrev pub IsShownPart : Result Block LogFault → Book → List Entry → (row table i : ℕ) → Type 0
IsShownPart (Ok b) s h row table i = (t : TableParts) (p : Part) (part : IsPartAt s.versions.versions row table i t p) → table_rows t.schema.cols b ≡ rows_in_part t.schema.time_col (rows_at (first h part.version.n) table) p
IsShownPart (Err (fault.Damaged file at)) s h row table i = ⊥
IsShownPart (Err fault.Vol) s h row table i = Unit {0}
IsShownPart (Err fault.Memory) s h row table i = Unit {0}
