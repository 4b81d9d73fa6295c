-- An answer or a refusal, and never both; and where an answer looks.
use Rattle.std.proofs.Common.{◌≡◌, ℕ, List, [], ◌∷◌, Option, Some, None, Result, Ok, Err, refl, ap, ◌∙◌, Contains, arith}
use Rattle.std.specs.Prelude.{◌↔◌}
use Rattle.qd_base.specs.declared.request.Table.{Table}
use Rattle.qd_base.specs.Database.{Database, StoredTable}
use Rattle.qd_base.proofs.Lists.{Contains-cons}
use Rattle.qd_sql_ast.specs.declared.tree.Join.{Join}
use Rattle.qd_sql_ast.specs.declared.tree.Query.{Query}
use Rattle.qd_sql_ast.specs.declared.tree.Stmt.TheVariants as is
use Rattle.qd_meaning.specs.declared.refusal.Refusal.{Refusal}
use Rattle.qd_meaning.specs.Refusals.{least, judged}
use Rattle.qd_meaning.specs.Answer.{answer, stored, right_table, refusals, planned_in, query_faults, query_table, shown, shown_faults, table_of}
use Rattle.qd_meaning.specs.Write.{write_faults, transaction}
use Rattle.qd_meaning.specs.Laws.{RefusedHasNoAnswer, LooksAtNamedTables, right_names, tables_named}
use Rattle.qd_meaning.proofs.RefusalLemmas.{none-is_empty}

module _ {A : Type 0} (answer : A) where
  answered-none : (rs : List Refusal) (o : Option Refusal) → least rs ≡ o → (a : A) → judged o answer ≡ Ok a → rs ≡ []
  answered-none rs None e a h = none-is_empty rs e
  answered-none rs (Some r) e a h = absurd (cc)

  refused-least : (o : Option Refusal) (r : Refusal) → judged o answer ≡ Err r → o ≡ Some r
  refused-least None r h = absurd (cc)
  refused-least (Some s) r h = cc

  pub answers : (rs : List Refusal) → ((a : A) × (judged (least rs) answer ≡ Ok a)) ↔ (rs ≡ [])
  answers rs = (λ h. answered-none rs (least rs) refl h.0 h.1, λ e. (answer, ap (λ (xs : List Refusal). judged (least xs) answer) e))

  pub refuses : (rs : List Refusal) (r : Refusal) → (judged (least rs) answer ≡ Err r) ↔ (least rs ≡ Some r)
  refuses rs r = (λ h. refused-least (least rs) r h, λ e. ap (λ (o : Option Refusal). judged o answer) e)

pub refused-has-no-answer : RefusedHasNoAnswer
refused-has-no-answer =
    record {
      answered = λ db s. answers (table_of db s) (refusals db s);
      refused = λ db s r. refuses (table_of db s) (refusals db s) r;
      accepted = λ schemas s. answers (transaction schemas s) (write_faults schemas s);
      rejected = λ schemas s r. refuses (transaction schemas s) (write_faults schemas s) r;
    }

-- ---- where an answer looks

abbrev query_answer : Query → Option StoredTable → Option StoredTable → Result Table Refusal
query_answer q left right = judged (least (query_faults left right (planned_in left right q))) (query_table left right (planned_in left right q).plan)

abbrev shown_answer : ℕ → Option StoredTable → Result Table Refusal
shown_answer place t = judged (least (shown_faults t place)) (shown t)

abbrev Same : Database → Database → List (List ℕ) → Type 0
Same db db' names = (name : List ℕ) → Contains names name → stored db name ≡ stored db' name

head : (x : List ℕ) (xs : List (List ℕ)) → Contains (x ∷ xs) x
head x xs = (0, omega arith, refl)

right-same : (db db' : Database) (j : Option Join) → Same db db' (right_names j) → right_table db j ≡ right_table db' j
right-same db db' None same = refl
right-same db db' (Some j) same = same j.right.table.text (head j.right.table.text [])

query-same : (db db' : Database) (q : Query) → Same db db' (tables_named (is.Query q)) → answer db (is.Query q) ≡ answer db' (is.Query q)
query-same db db' q same =
    ap (λ (t : Option StoredTable). query_answer q t (right_table db q.join)) (same q.source.table.text (head q.source.table.text (right_names q.join)))
    ∙ ap (λ (t : Option StoredTable). query_answer q (stored db' q.source.table.text) t)
    (right-same db db' q.join (λ name c. same name (Contains-cons q.source.table.text (right_names q.join) name c)))

pub looks-at-named-tables : LooksAtNamedTables
looks-at-named-tables db db' (is.Query q) same = query-same db db' q same
looks-at-named-tables db db' (is.Show name place) same = ap (shown_answer place) (same name (head name []))
looks-at-named-tables db db' (is.Create c) same = refl
looks-at-named-tables db db' (is.Insert i) same = refl
looks-at-named-tables db db' (is.Alter a) same = refl
