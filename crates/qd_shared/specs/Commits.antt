-- What a commit does to a desk, and what a pass learns by it.
use mathlib.Core.List.{IsPrefix}
use Rattle.std.specs.Prelude.{◌≡◌, ℕ, List, length, Result, Err, IfErr, IfOk, IfSome}
use Rattle.qd_base.specs.declared.code.Code.{Code}
use Rattle.qd_base.specs.declared.op.Entry.{Entry}
use Rattle.qd_base.specs.declared.schema.Schema.{Schema}
use Rattle.qd_base.specs.Database.{schemas_of}
use Rattle.qd_base.specs.Replay.{after}
use Rattle.qd_ilp.specs.Whole.{Reading}
use Rattle.qd_lines.specs.declared.fault.LineFault.TheVariants as lines
use Rattle.qd_lines.specs.Walks.{IsLineFault}
use Rattle.qd_meaning.specs.Write.{write}
use Rattle.qd_sequencer.specs.declared.fault.CommitFault.{CommitFault}
use Rattle.qd_sequencer.specs.declared.fault.Committed.{Committed}
use Rattle.qd_sequencer.specs.Faults.{CountsFault}
use Rattle.qd_sql_ast.specs.declared.tree.Stmt.{Stmt}
use Rattle.qd_store.specs.Arriving.{SaysLines, SaysStmt}
use Rattle.qd_store.specs.Faults.{Causes, IsFullFor}
use Rattle.qd_store_backend.specs.Backs.{IsCountBehind, IsToldBehind}
use Rattle.qd_shared.specs.Desks.{Desk, IsDesk}
use Rattle.qd_shared.specs.Passes.{Holds, Pass, history_of}

-- what somebody asks to commit, over the schemas of the tables that are there: which transaction it is, and which refusals it meets
pub record Asked : Type 1 where
  pub Own : List Schema → Entry → Type 0
  pub Refuses : List Schema → Code → ℕ → Type 0

-- a batch of lines, of which those without a stamp take the time `now`
abbrev pub batch_at : ℕ → Reading → Asked
batch_at now batch = record {
  Own = λ schemas e. SaysLines schemas now batch e;
  Refuses = λ schemas code line. IsLineFault schemas now batch (lines.Refused code line);
}

-- a statement that writes
abbrev pub statement : Stmt → Asked
statement stmt = record {
  Own = λ schemas e. SaysStmt schemas stmt e;
  Refuses = λ schemas code place. write schemas stmt ≡ Err (record { code = code; place = place });
}

abbrev pub schemas_at : Desk → List Schema
schemas_at d = d.owned.store.sequence.schemas

-- what a desk tells of its store where the history is told: the schemas behind it, and how many transactions there are
pub record IsCounted (d : Desk) : Type 0 where
  pub schemas : IfSome d.history (λ h. schemas_at d ≡ schemas_of (after h))
  pub count : IfSome d.history (λ h. length d.owned.store.sequence.refs ≡ length h)

-- A transaction is committed to a desk as the last one, or none is, and a cause is given.
pub record CommitsTo (asked : Asked) (result : Result Committed CommitFault) (old new : Desk) : Type 0 where
  pub kept : IsDesk old
  pub counted : IsCounted old
  pub count : IsCountBehind result (length old.owned.store.sequence.refs) (length new.owned.store.sequence.refs)
  pub number : IfOk result (λ done. done.n ≡ length new.owned.store.sequence.refs)
  pub places : IsPrefix old.owned.store.sequence.refs new.owned.store.sequence.refs
  pub told : IsToldBehind result old.history new.history (asked.Own (schemas_at old))
  pub versions : new.owned.store.versions ≡ old.owned.store.versions
  pub limits : new.owned.store.limits ≡ old.owned.store.limits
  pub removed : new.removed ≡ old.removed
  pub causes : IfErr result (Causes (asked.Refuses (schemas_at old)) (IsFullFor old.owned.store (asked.Own (schemas_at old))))
  pub faults : CountsFault old.owned.storage.faults new.owned.storage.faults result

-- A pass commits, in one hold.
pub record Commits (asked : Asked) (result : Result Committed CommitFault) (old new : Pass) : Type 0 where
  pub found : Desk
  pub left : Desk
  pub holds : Holds old new found left
  pub history : history_of new ≡ left.history
  pub commits : CommitsTo asked result found left
