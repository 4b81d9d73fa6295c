-- A transaction that is ready to be committed, and what is asked of a batch and of a statement.
use Rattle.std.specs.Prelude.{◌≡◌, ℕ, ◌*◌, ◌<◌, ◌≤◌, List, length, fold, All, unwrap_or, IfSome}
use Rattle.qd_base.specs.declared.limits.TheConstants.{MAX_BATCH_CELLS, MAX_QUERY_BYTES}
use Rattle.qd_base.specs.declared.schema.Schema.{Schema}
use Rattle.qd_base.specs.declared.op.Entry.{Entry}
use Rattle.qd_base.specs.Schemas.{schemas_step}
use Rattle.qd_base.specs.Lawful.{AreLawful, AreSchemas, SetsKeysAlone, cells_of}
use Rattle.qd_ilp.specs.Whole.{IsReading, Reading}
use Rattle.qd_sql_ast.specs.declared.tree.Stmt.{Stmt}
use Rattle.qd_sql_ast.specs.declared.tree.Stmt.TheVariants as is
use Rattle.qd_wal_entry.specs.Spelling.{SpellsEntry}
use Rattle.qd_prepare.specs.declared.prepare.Prepared.{Prepared}

-- this is what is read of some text of bytes
abbrev pub IsRead : Reading → Type 0
IsRead reading = (text : List ℕ) × All (λ b. b < 256) text × IsReading text reading

-- the rows of an INSERT are no more than the text of a statement has room for
abbrev pub IsShort : Stmt → Type 0
IsShort (is.Insert i) = 4 * length i.tuples ≤ MAX_QUERY_BYTES
IsShort s = Unit {0}

-- A transaction is ready: its bytes are those of its entry, it is lawful over the schemas before it, keeps to the limit of
-- cells, and sets keys alone, and the schemas that it leaves are there, where they are others.
pub record IsPrepared (schemas : List Schema) (e : Entry) (p : Prepared) : Type 0 where
  pub bytes : SpellsEntry p.bytes e
  pub changes : AreLawful schemas e.ops
  pub cells : cells_of e ≤ MAX_BATCH_CELLS
  pub alone : SetsKeysAlone e.ops
  pub left : unwrap_or p.schemas schemas ≡ fold schemas_step schemas e.ops
  pub sound : IfSome p.schemas AreSchemas
