-- What a list of transactions keeps: its history, and how many of it are applied.
use Rattle.std.specs.Prelude.{◌≡◌, ℕ, ◌+◌, ◌*◌, ◌≤◌, List, [], ◌∷◌, ◌++◌, length, None, Some, Result, Ok, Err}
use Rattle.std.specs.List.{range_with_len}
use Rattle.qd_base.specs.Codes.{number_of}
use Rattle.qd_base.specs.declared.code.Code.{Code}
use Rattle.qd_base.specs.declared.limits.TheConstants.{MAX_QUERY_BYTES}
use Rattle.qd_base.specs.declared.schema.Schema.{Schema}
use Rattle.qd_base.specs.declared.op.Entry.{Entry}
use Rattle.qd_base.specs.Database.{schemas_of}
use Rattle.qd_base.specs.Lawful.{Lawful}
use Rattle.qd_base.specs.Replay.{after, first}
use Rattle.qd_base.specs.declared.request.Table.{Table}
use Rattle.qd_base.specs.declared.request.Reply.{Reply}
use Rattle.qd_base.specs.declared.request.Reply.TheVariants as reply
use Rattle.qd_ilp.specs.Transaction.{Says, start}
use Rattle.qd_ilp.specs.Whole.{Reading}
use Rattle.qd_sql_ast.specs.declared.tree.Stmt.{Stmt}
use Rattle.qd_sql_ast.specs.declared.tree.Stmt.TheVariants as is
use Rattle.qd_sql.specs.declared.stmt.SqlFault.{SqlFault}
use Rattle.qd_sql.specs.declared.stmt.SqlFault.TheVariants as fault
use Rattle.qd_meaning.specs.declared.refusal.Refusal.{Refusal}
use Rattle.qd_meaning.specs.Answer.{answer}
use Rattle.qd_meaning.specs.Write.{write}
use Rattle.qd_scan.specs.Sources.{SourceView}
use Rattle.qd_session.specs.Looks.{Shown}

-- the transactions, and the number of those that are applied
pub record Listed : Type 0 where
  pub history : List Entry
  pub applied : ℕ

-- what a list shows: it tells its transactions, and all of them are its own
abbrev pub listed_shown : Listed → Shown
listed_shown l = record {
  history = Some l.history;
  sequenced = length l.history;
  known = l.applied;
  own = range_with_len 1 (length l.history);
  faults = 0;
  pinned = [];
  pending = None;
}

-- what the lines of a batch say over the tables that are there
abbrev pub SaysOver : Listed → (time : ℕ) → Reading → Result Entry (Code × ℕ) → Type 0
SaysOver l time reading said = Says time (start (schemas_of (after l.history))) 1 reading.lines reading.whole said

-- a list with one transaction more
abbrev pub with_entry : Listed → Entry → Listed
with_entry l entry = record { history = l.history ++ entry ∷ []; applied = l.applied }

-- A batch was answered so: what its lines say is the next transaction, or it is refused and nothing is changed.
abbrev pub Writes : Listed → Listed → (time : ℕ) → Reading → Reply → Type 0
Writes old new time reading (reply.Done n) =
    (entry : Entry) × SaysOver old time reading (Ok entry) × (n ≡ length old.history + 1) × (new ≡ with_entry old entry)
Writes old new time reading (reply.Refused number line) = (c : Code) × (number ≡ number_of c) × SaysOver old time reading (Err (c, line)) × (new ≡ old)
Writes old new time reading _ = ⊥

-- the reply that gives an answer over the first n transactions
abbrev pub answered : ℕ → Result Table Refusal → Reply
answered n (Ok table) = reply.Rows n table
answered n (Err r) = reply.QueryRefused n (number_of r.code) r.place

-- a statement that asks was answered so: by its meaning over what is applied, and nothing is changed
abbrev pub AnswersStmt : Listed → Listed → Stmt → Reply → Type 0
AnswersStmt old new s given = (given ≡ answered old.applied (answer (first old.history old.applied) s)) × (new ≡ old)

-- A statement that writes was answered so: what it writes is the next transaction, or it is refused and nothing is changed.
abbrev pub WritesStmt : Listed → Listed → Stmt → Reply → Type 0
WritesStmt old new s (reply.Done n) =
    (entry : Entry) × (write (schemas_of (after old.history)) s ≡ Ok entry) × (n ≡ length old.history + 1) × (new ≡ with_entry old entry)
WritesStmt old new s (reply.Refused number place) =
    (r : Refusal) × (write (schemas_of (after old.history)) s ≡ Err r) × (number ≡ number_of r.code) × (place ≡ r.place) × (new ≡ old)
WritesStmt old new s _ = ⊥

-- A text was carried out so: its statement writes, or asks; or the text is refused.
abbrev pub CarriesOut : Listed → Listed → Result Stmt SqlFault → Reply → Type 0
CarriesOut old new (Ok (is.Create c)) given = WritesStmt old new (is.Create c) given
CarriesOut old new (Ok (is.Insert i)) given = WritesStmt old new (is.Insert i) given
CarriesOut old new (Ok (is.Alter a)) given = WritesStmt old new (is.Alter a) given
CarriesOut old new (Ok (is.Query q)) given = AnswersStmt old new (is.Query q) given
CarriesOut old new (Ok (is.Show name place)) given = AnswersStmt old new (is.Show name place) given
CarriesOut old new (Err (fault.Refused why place)) given = (given ≡ reply.Refused (number_of why) place) × (new ≡ old)
CarriesOut old new (Err fault.Memory) given = ⊥
CarriesOut old new (Err fault.TooDeep) given = ⊥

-- the rows of an INSERT are no more than a text has room for
abbrev pub IsShort : Stmt → Type 0
IsShort (is.Insert i) = 4 * length i.tuples ≤ MAX_QUERY_BYTES
IsShort s = Unit {0}

-- with all that is there applied
abbrev pub all_applied : Listed → Listed
all_applied l = record { history = l.history; applied = length l.history }

-- What is kept fits together: the transactions are lawful, the schemas are those that they leave, no more is applied than
-- there is, and the parts are those of the database that the applied ones come to.
pub record FitsTogether (history : List Entry) (applied : ℕ) (schemas : List Schema) (parts : SourceView) : Type 0 where
  pub within : applied ≤ length history
  pub lawful : Lawful history
  pub schemas_are : schemas ≡ schemas_of (after history)
  pub told : parts.database ≡ Some (first history applied)
