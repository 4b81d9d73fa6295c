-- Worked examples: what CREATE, INSERT and ALTER do, and where they are refused. Beside each stands its text, by which its offsets go.
use Rattle.std.specs.Prelude.{◌≡◌, ℕ, false, true, List, [], ◌∷◌, codes, pos, neg_ℤ, Option, Some, None, Result, Ok, Err}
use Rattle.qd_base.specs.declared.code.Code.{Code}
use Rattle.qd_base.specs.declared.code.Code.TheVariants as code
use Rattle.qd_base.specs.declared.cell.Cell.TheVariants as cell
use Rattle.qd_base.specs.declared.schema.ColType.{ColType}
use Rattle.qd_base.specs.declared.schema.ColType.TheVariants as kind
use Rattle.qd_base.specs.declared.schema.PartUnit.TheVariants as unit
use Rattle.qd_base.specs.declared.schema.Schema.{Schema}
use Rattle.qd_base.specs.declared.op.Op.{Op}
use Rattle.qd_base.specs.declared.op.Op.TheVariants as op
use Rattle.qd_base.specs.declared.op.Entry.{Entry}
use Rattle.qd_sql_ast.specs.declared.tree.Name.{Name}
use Rattle.qd_sql_ast.specs.declared.tree.Lit.{Lit}
use Rattle.qd_sql_ast.specs.declared.tree.Lit.TheVariants as lit
use Rattle.qd_sql_ast.specs.declared.tree.Change.{Change}
use Rattle.qd_sql_ast.specs.declared.tree.Change.TheVariants as changes
use Rattle.qd_sql_ast.specs.declared.tree.ColumnDef.{ColumnDef}
use Rattle.qd_sql_ast.specs.declared.tree.Dedup.{Dedup}
use Rattle.qd_sql_ast.specs.declared.tree.Tuple.{Tuple}
use Rattle.qd_sql_ast.specs.declared.tree.Stmt.{Stmt}
use Rattle.qd_sql_ast.specs.declared.tree.Stmt.TheVariants as is
use Rattle.qd_meaning.specs.declared.refusal.Refusal.{Refusal}
use Rattle.qd_meaning.specs.Write.{write}
use Rattle.qd_meaning.specs.ExampleTables.{column, schema, second, text}

-- ---- trees

abbrev pub name : ℕ → List ℕ → Name
name place bytes = record { at = place; text = bytes }

abbrev pub def : ℕ → List ℕ → ColType → ColumnDef
def place bytes kind = record { name = name place bytes; kind = kind }

abbrev pub number : ℕ → ℕ → Lit
number place n = lit.Number (record { at = place; value = n })

abbrev pub minus : ℕ → ℕ → Lit
minus place n = lit.Minus place (record { at = place; value = n })

abbrev pub quoted : ℕ → List ℕ → Lit
quoted place bytes = lit.Text (record { at = place; text = bytes })

-- by day
abbrev pub create : Name → List ColumnDef → Name → Option Dedup → Stmt
create table columns time dedup = is.Create (record { table = table; columns = columns; time = time; unit = unit.Day; wal = None; dedup = dedup })

abbrev pub keys : ℕ → List Name → Option Dedup
keys place names = Some (record { at = place; keys = names })

abbrev pub tuple : ℕ → List Lit → Tuple
tuple place lits = record { at = place; lits = lits }

abbrev pub insert : Name → Option (List Name) → List Tuple → Stmt
insert table columns tuples = is.Insert (record { table = table; columns = columns; tuples = tuples })

-- the names of tables in ALTER stand behind its first two words
abbrev pub alter : List ℕ → Change → Stmt
alter table change = is.Alter (record { table = name 12 table; change = change })

abbrev pub with_keys : ℕ → List Name → Change
with_keys place names = changes.EnableDedup (record { at = place; keys = names })

abbrev pub done : Op → Result Entry Refusal
done change = Ok (record { ops = change ∷ [] })

abbrev pub refused : Code → ℕ → Result Entry Refusal
refused why place = Err (record { code = why; place = place })

-- ---- tables

abbrev pub keyed : Schema
keyed = record {
  name = codes "d";
  cols = column (codes "ts") kind.Time ∷ column (codes "k") kind.Symbol ∷ column (codes "v") kind.Long ∷ [];
  time_col = 0;
  unit = unit.Day;
  keys = 0 ∷ 1 ∷ [];
}

abbrev pub flagged : Schema
flagged = schema (codes "e") (column (codes "ts") kind.Time ∷ column (codes "v") kind.Long ∷ column (codes "ok") kind.Bool ∷ column (codes "s") kind.Varchar ∷ []) 0

-- two columns, the second one designated
abbrev pub timed : Schema
timed = schema (codes "t") (column (codes "v") kind.Long ∷ column (codes "timestamp") kind.Time ∷ []) 1

abbrev pub ts : ℕ → ColumnDef
ts place = def place (codes "ts") kind.Time

pub record WritesAreMade : Type 0 where
  -- CREATE TABLE d (ts TIMESTAMP, k SYMBOL, v LONG) TIMESTAMP(ts) PARTITION BY DAY WAL DEDUP UPSERT KEYS(ts, k)
  pub created :
      write [] (create (name 13 (codes "d")) (ts 16 ∷ def 30 (codes "k") kind.Symbol ∷ def 40 (codes "v") kind.Long ∷ []) (name 58 (codes "ts")) (keys 95 (name 100 (codes "ts") ∷ name 104 (codes "k") ∷ [])))
      ≡ done (op.Create keyed)
  -- INSERT INTO e VALUES (5000000, -5, TRUE, 'x')
  pub inserted :
      write (flagged ∷ []) (insert (name 12 (codes "e")) None (tuple 21 (number 22 5000000 ∷ minus 31 5 ∷ lit.True 35 ∷ quoted 41 (codes "x") ∷ []) ∷ []))
      ≡ done (op.Insert (codes "e") ((second 5 ∷ cell.Long (neg_ℤ (pos 5)) ∷ cell.Bool true ∷ text (codes "x") ∷ []) ∷ []))
  -- INSERT INTO E (S, ts) VALUES ('y', 7000000): columns left out hold NULL, or false
  pub listed :
      write (flagged ∷ []) (insert (name 12 (codes "E")) (Some (name 15 (codes "S") ∷ name 18 (codes "ts") ∷ [])) (tuple 29 (quoted 30 (codes "y") ∷ number 35 7000000 ∷ []) ∷ []))
      ≡ done (op.Insert (codes "e") ((second 7 ∷ cell.Null ∷ cell.Bool false ∷ text (codes "y") ∷ []) ∷ []))
  -- INSERT INTO e (ok, ts) VALUES (NULL, 0)
  pub null_truth :
      write (flagged ∷ []) (insert (name 12 (codes "e")) (Some (name 15 (codes "ok") ∷ name 19 (codes "ts") ∷ [])) (tuple 30 (lit.Null 31 ∷ number 37 0 ∷ []) ∷ []))
      ≡ done (op.Insert (codes "e") ((second 0 ∷ cell.Null ∷ cell.Bool false ∷ cell.Null ∷ []) ∷ []))
  -- ALTER TABLE T ADD COLUMN w SYMBOL
  pub added : write (timed ∷ []) (alter (codes "T") (changes.AddColumn (def 25 (codes "w") kind.Symbol))) ≡ done (op.AddColumn (codes "t") (column (codes "w") kind.Symbol))
  -- ALTER TABLE t DEDUP ENABLE UPSERT KEYS(timestamp)
  pub enabled : write (timed ∷ []) (alter (codes "t") (with_keys 34 (name 39 (codes "timestamp") ∷ []))) ≡ done (op.SetKeys (codes "t") (1 ∷ []))
  -- ALTER TABLE t DEDUP ENABLE UPSERT KEYS(v, timestamp)
  pub enabled_two : write (timed ∷ []) (alter (codes "t") (with_keys 34 (name 39 (codes "v") ∷ name 42 (codes "timestamp") ∷ []))) ≡ done (op.SetKeys (codes "t") (0 ∷ 1 ∷ []))
  -- ALTER TABLE d DEDUP DISABLE
  pub disabled : write (keyed ∷ []) (alter (codes "d") changes.DisableDedup) ≡ done (op.SetKeys (codes "d") [])

pub record AltersAreRefused : Type 0 where
  -- ALTER TABLE t DEDUP ENABLE UPSERT KEYS(v): without the designated column
  pub without_time : write (timed ∷ []) (alter (codes "t") (with_keys 34 (name 39 (codes "v") ∷ []))) ≡ refused code.Keys 34
  -- ALTER TABLE t DEDUP ENABLE UPSERT KEYS(timestamp, Timestamp): twice, without regard to case
  pub key_again : write (timed ∷ []) (alter (codes "t") (with_keys 34 (name 39 (codes "timestamp") ∷ name 50 (codes "Timestamp") ∷ []))) ≡ refused code.Keys 50
  -- ALTER TABLE t DEDUP ENABLE UPSERT KEYS(w, timestamp)
  pub no_column : write (timed ∷ []) (alter (codes "t") (with_keys 34 (name 39 (codes "w") ∷ name 42 (codes "timestamp") ∷ []))) ≡ refused code.UnknownColumn 39
  -- ALTER TABLE t ADD COLUMN V LONG
  pub column_again : write (timed ∷ []) (alter (codes "t") (changes.AddColumn (def 25 (codes "V") kind.Long))) ≡ refused code.DuplicateColumn 25
  -- ALTER TABLE t ADD COLUMN "a-b" LONG
  pub bad_name : write (timed ∷ []) (alter (codes "t") (changes.AddColumn (def 25 (codes "a-b") kind.Long))) ≡ refused code.Name 25
  -- ALTER TABLE f ADD COLUMN v LONG
  pub no_table : write (timed ∷ []) (alter (codes "f") (changes.AddColumn (def 25 (codes "v") kind.Long))) ≡ refused code.UnknownTable 12
  -- ALTER TABLE f DEDUP DISABLE
  pub none_to_disable : write (timed ∷ []) (alter (codes "f") changes.DisableDedup) ≡ refused code.UnknownTable 12
  -- ALTER TABLE f DEDUP ENABLE UPSERT KEYS("a-b"): names that may not be before those that aren't there
  pub names_first : write (timed ∷ []) (alter (codes "f") (with_keys 34 (name 39 (codes "a-b") ∷ []))) ≡ refused code.Name 39

pub record CreatesAreRefused : Type 0 where
  -- CREATE TABLE e (ts TIMESTAMP, v LONG) TIMESTAMP(ts) PARTITION BY DAY DEDUP UPSERT KEYS(v): without the designated column
  pub without_time : write [] (create (name 13 (codes "e")) (ts 16 ∷ def 30 (codes "v") kind.Long ∷ []) (name 48 (codes "ts")) (keys 82 (name 87 (codes "v") ∷ []))) ≡ refused code.Keys 82
  -- CREATE TABLE e (ts TIMESTAMP) TIMESTAMP(ts) PARTITION BY DAY DEDUP UPSERT KEYS(ts, TS): twice, without regard to case
  pub key_again : write [] (create (name 13 (codes "e")) (ts 16 ∷ []) (name 40 (codes "ts")) (keys 74 (name 79 (codes "ts") ∷ name 83 (codes "TS") ∷ []))) ≡ refused code.Keys 83
  -- CREATE TABLE E (ts TIMESTAMP) TIMESTAMP(ts) PARTITION BY DAY
  pub exists : write (flagged ∷ []) (create (name 13 (codes "E")) (ts 16 ∷ []) (name 40 (codes "ts")) None) ≡ refused code.TableExists 13
  -- CREATE TABLE e (ts TIMESTAMP, "a-b" LONG) TIMESTAMP(ts) PARTITION BY DAY
  pub bad_name : write [] (create (name 13 (codes "e")) (ts 16 ∷ def 30 (codes "a-b") kind.Long ∷ []) (name 52 (codes "ts")) None) ≡ refused code.Name 30
  -- CREATE TABLE "e..f" (ts TIMESTAMP) TIMESTAMP(ts) PARTITION BY DAY
  pub bad_table : write [] (create (name 13 (codes "e..f")) (ts 21 ∷ []) (name 45 (codes "ts")) None) ≡ refused code.Name 13
  -- CREATE TABLE e (ts TIMESTAMP, v LONG, V LONG) TIMESTAMP(ts) PARTITION BY DAY
  pub column_again : write [] (create (name 13 (codes "e")) (ts 16 ∷ def 30 (codes "v") kind.Long ∷ def 38 (codes "V") kind.Long ∷ []) (name 56 (codes "ts")) None) ≡ refused code.DuplicateColumn 38
  -- CREATE TABLE e (ts TIMESTAMP) TIMESTAMP(t) PARTITION BY DAY
  pub no_column : write [] (create (name 13 (codes "e")) (ts 16 ∷ []) (name 40 (codes "t")) None) ≡ refused code.UnknownColumn 40
  -- CREATE TABLE e (ts LONG) TIMESTAMP(ts) PARTITION BY DAY
  pub wrong_type : write [] (create (name 13 (codes "e")) (def 16 (codes "ts") kind.Long ∷ []) (name 35 (codes "ts")) None) ≡ refused code.Types 35

pub record InsertsAreRefused : Type 0 where
  -- INSERT INTO f VALUES (1)
  pub no_table : write (flagged ∷ []) (insert (name 12 (codes "f")) None (tuple 21 (number 22 1 ∷ []) ∷ [])) ≡ refused code.UnknownTable 12
  -- INSERT INTO e VALUES (0, 1): a tuple too short
  pub too_short : write (flagged ∷ []) (insert (name 12 (codes "e")) None (tuple 21 (number 22 0 ∷ number 25 1 ∷ []) ∷ [])) ≡ refused code.Types 21
  -- INSERT INTO e (ts, v) VALUES (0, 'x')
  pub wrong_literal : write (flagged ∷ []) (insert (name 12 (codes "e")) (Some (name 15 (codes "ts") ∷ name 19 (codes "v") ∷ [])) (tuple 29 (number 30 0 ∷ quoted 33 (codes "x") ∷ []) ∷ [])) ≡ refused code.Types 33
  -- INSERT INTO e (v) VALUES (1): the designated time is missing
  pub missing_time : write (flagged ∷ []) (insert (name 12 (codes "e")) (Some (name 15 (codes "v") ∷ [])) (tuple 25 (number 26 1 ∷ []) ∷ [])) ≡ refused code.TimeLiteral 25
  -- INSERT INTO e (v, ts) VALUES (1, NULL)
  pub null_for_time : write (flagged ∷ []) (insert (name 12 (codes "e")) (Some (name 15 (codes "v") ∷ name 18 (codes "ts") ∷ [])) (tuple 29 (number 30 1 ∷ lit.Null 33 ∷ []) ∷ [])) ≡ refused code.TimeLiteral 33
  -- INSERT INTO e (ts) VALUES (-1): a time before 1970
  pub too_early : write (flagged ∷ []) (insert (name 12 (codes "e")) (Some (name 15 (codes "ts") ∷ [])) (tuple 26 (minus 27 1 ∷ []) ∷ [])) ≡ refused code.TimeLiteral 27
  -- INSERT INTO e (x, ts) VALUES (-1, 'y', TRUE): names before types, types before times
  pub names_first : write (flagged ∷ []) (insert (name 12 (codes "e")) (Some (name 15 (codes "x") ∷ name 18 (codes "ts") ∷ [])) (tuple 29 (minus 30 1 ∷ quoted 34 (codes "y") ∷ lit.True 39 ∷ []) ∷ [])) ≡ refused code.UnknownColumn 15
  -- INSERT INTO e (v) VALUES ('x'), without a time
  pub types_first : write (flagged ∷ []) (insert (name 12 (codes "e")) (Some (name 15 (codes "v") ∷ [])) (tuple 25 (quoted 26 (codes "x") ∷ []) ∷ [])) ≡ refused code.Types 26
