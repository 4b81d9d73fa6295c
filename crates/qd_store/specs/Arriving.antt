-- The transactions of batches and of statements, as commits take them.
use Rattle.std.specs.Prelude.{◌≡◌, ℕ, ◌==◌, Bool, List, [], ◌∷◌, ◌++◌, Option, find, fold, is_some, Ok}
use Rattle.qd_base.specs.declared.limits.Limits.{Limits}
use Rattle.qd_base.specs.declared.op.Entry.{Entry}
use Rattle.qd_base.specs.declared.schema.Schema.{Schema}
use Rattle.qd_base.specs.Schemas.{schemas_step}
use Rattle.qd_ilp.specs.Whole.{Reading}
use Rattle.qd_lines.specs.Walks.{SaysOf}
use Rattle.qd_meaning.specs.Write.{write}
use Rattle.qd_prepare.specs.declared.prepare.Prepared.{Prepared}
use Rattle.qd_prepare.specs.Prepared.{IsPrepared}
use Rattle.qd_sql_ast.specs.declared.tree.Stmt.{Stmt}
use Rattle.qd_sequencer.specs.Sequences.{Sequence, chosen, with_writer}
use Rattle.qd_wal.specs.declared.writer.WalWriter.{WalWriter}
use Rattle.qd_wal.specs.Segments.{behind, ref_for}

-- what the lines of a batch say, where those without a stamp take the time `now`
abbrev pub SaysLines : List Schema → ℕ → Reading → Entry → Type 0
SaysLines schemas now batch e = SaysOf schemas now batch (Ok e)

-- The transaction of a batch is ready to be committed behind some schemas.
abbrev pub IsReady : List Schema → ℕ → Reading → Prepared → Type 0
IsReady schemas now batch p = (e : Entry) × SaysLines schemas now batch e × IsPrepared schemas e p

-- what a statement does
abbrev pub SaysStmt : List Schema → Stmt → Entry → Type 0
SaysStmt schemas stmt e = write schemas stmt ≡ Ok e

-- The schemas are behind a transaction of which a fact holds.
abbrev pub IsBehind : List Schema → List Schema → (Entry → Type 0) → Type 0
IsBehind old new Own = (e : Entry) × Own e × (new ≡ fold schemas_step old e.ops)

-- whether a writer of a number is kept
abbrev pub is_kept : List WalWriter → ℕ → Bool
is_kept writers wal = is_some (find (λ (w : WalWriter). w.wal == wal) writers)

-- A transaction of so many bytes was written behind those of a writer, and the writer stands behind it now.
pub record IsPlaced (limits : Limits) (old new : Sequence) (writer : Option ℕ) : Type 0 where
  pub size : ℕ
  pub refs : new.refs ≡ old.refs ++ ref_for (chosen old writer) limits.seg_bytes size ∷ []
  pub writers : new.writers ≡ with_writer old.writers (behind (ref_for (chosen old writer) limits.seg_bytes size))
