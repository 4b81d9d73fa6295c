-- The laws of `put` and of replay, in words of their own.
use Rattle.std.specs.Prelude.{◌≡◌, ℕ, ◌+◌, ◌*◌, ◌^◌, ◌+ℤ◌, pos, ◌≤◌, false, List, [], ◌∷◌, ◌++◌, ◌==◌, filter, fold, length, All, Contains, ◌⊎◌, ◌↔◌, IsTrue}
use Rattle.std.specs.List.{IsDistinct, AllByRecursion}
use Rattle.qd_base.specs.declared.cell.Cell.{Cell}
use Rattle.qd_base.specs.declared.op.Entry.{Entry}
use Rattle.qd_base.specs.declared.op.Op.{Op}
use Rattle.qd_base.specs.declared.limits.TheConstants.{LAST_OFFSET, MAX_BATCH_CELLS, MAX_COLUMNS, MAX_LONG, MAX_NAME_BYTES, MAX_NESTING, MAX_NUMBER, MAX_QUERY_BYTES, MAX_RESULT_BYTES, MAX_SAMPLED_ROWS, MAX_STRIDE, MAX_SUFFIX_COUNT, MAX_TABLES, MAX_TEXT_BYTES, MAX_TIME, MAX_TXNS, MAX_WRITE_BYTES, NULL_LONG, NULL_TIME}
use Rattle.qd_base.specs.Rows.{Row, cell_eq, time_of, same_on, without_equals, put}
use Rattle.qd_base.specs.Schemas.{schemas_step, schemas_from, KeysStay}
use Rattle.qd_base.specs.Database.{Database, StoredTable, step, schemas_of}
use Rattle.qd_base.specs.Replay.{replay, after, first}
use Rattle.qd_base.specs.Lawful.{Lawful, AreSchemas, IsRowOf}

-- The rows stand in order of their designated timestamp: each one's is at most that of every row behind it.
abbrev pub IsInOrder : ℕ → List Row → Type 0
IsInOrder col [] = Unit {0}
IsInOrder col (row ∷ rows) = AllByRecursion (λ x. time_of col row ≤ time_of col x) rows × IsInOrder col rows

-- Each table of each database that a replay gives has its rows in order of time.
abbrev pub RowsStayInOrder : Type 0
RowsStayInOrder = (history : List Entry) → AllByRecursion (λ (t : StoredTable). IsInOrder t.schema.time_col t.rows) (after history)

-- the rows of one time
abbrev pub at_time : ℕ → ℕ → List Row → List Row
at_time col t rows = filter (λ x. time_of col x == t) rows

-- Without keys, rows of one time keep commit order: those that were there, then the new ones in their order. None is
-- lost. With keys, those of one time that a new row leaves keep their order, and it goes behind them.
pub record EqualTimesKeepOrder : Type 0 where
  pub without_keys : (col t : ℕ) (rows new : List Row) → at_time col t (fold (put col []) rows new) ≡ at_time col t rows ++ at_time col t new
  pub with_keys : (col t : ℕ) (keys : List ℕ) (rows : List Row) (row : Row) → at_time col t (put col keys rows row) ≡ at_time col t (without_equals keys rows row) ++ at_time col t (row ∷ [])

-- With keys, no two rows that were put into an empty table are equal on all of them, and no two of a table that a
-- lawful history leaves, where none of its transactions set that table's keys.
pub record KeysAreUnique : Type 0 where
  pub rows : (col k : ℕ) (ks : List ℕ) (new : List Row) → IsDistinct (same_on (k ∷ ks)) (fold (put col (k ∷ ks)) [] new)
  pub tables : (history : List Entry) → Lawful history → AllByRecursion (λ (t : StoredTable). KeysStay history t.schema.name → (t.schema.keys ≡ []) ⊎ IsDistinct (same_on t.schema.keys) t.rows) (after history)

-- With keys, the row that was put is there, and it is the only one with its keys; every other row that was there and
-- differs from it on a key is still there.
pub record LastOfEqualKeysStays : Type 0 where
  pub there : (col : ℕ) (keys : List ℕ) (rows : List Row) (row : Row) → Contains (put col keys rows row) row
  pub others : (col : ℕ) (keys : List ℕ) (rows : List Row) (row other : Row) → Contains rows other → same_on keys other row ≡ false → Contains (put col keys rows row) other
  pub only : (col k : ℕ) (ks : List ℕ) (rows : List Row) (row other : Row) → Contains (put col (k ∷ ks) rows row) other → (other ≡ row) ⊎ (same_on (k ∷ ks) other row ≡ false)

-- Replay of two lists, one behind the other, is replay of the second from the database of the first.
abbrev pub ReplayOfMore : Type 0
ReplayOfMore = (db : Database) (history more : List Entry) → replay db (history ++ more) ≡ replay (replay db history) more

-- A prefix doesn't depend on what follows it.
abbrev pub PrefixStandsAlone : Type 0
PrefixStandsAlone = (history more : List Entry) (n : ℕ) → n ≤ length history → first (history ++ more) n ≡ first history n

-- The schemas of a database change as a list of schemas does, at each change and so over a history.
pub record SchemasFollow : Type 0 where
  pub change : (db : Database) (o : Op) → schemas_of (step db o) ≡ schemas_step (schemas_of db) o
  pub history : (db : Database) (history : List Entry) → schemas_of (replay db history) ≡ schemas_from (schemas_of db) history

-- The schemas that a lawful history leaves: at most 1,024, each as a table may look like, and no two of one name.
abbrev pub LawfulSchemas : Type 0
LawfulSchemas = (history : List Entry) → Lawful history → AreSchemas (schemas_of (after history))

-- The rows that a lawful history leaves: each has a cell of the right kind for each column that its table has by then,
-- and a designated timestamp.
abbrev pub LawfulRows : Type 0
LawfulRows = (history : List Entry) → Lawful history → AllByRecursion (λ (t : StoredTable). All (IsRowOf t.schema) t.rows) (after history)

-- Two cells are equal exactly where they are one value; so NULL is equal to NULL alone.
abbrev pub CellsAreCompared : Type 0
CellsAreCompared = (a b : Cell) → IsTrue (cell_eq a b) ↔ (a ≡ b)

-- The greatest timestamp is the last microsecond of the year 9999, and the limits of payloads, names and texts are these.
pub record LimitsAreThese : Type 0 where
  -- days from 1970 to 10000, of which 1,947 are of leap years; each of 86,400 seconds
  pub time : MAX_TIME + 1 ≡ ((8030 * 365 + 1947) * 86400) * 1000000
  pub write : MAX_WRITE_BYTES ≡ 2 ^ 24
  pub query : MAX_QUERY_BYTES ≡ 2 ^ 16
  pub result : MAX_RESULT_BYTES ≡ 2 ^ 26
  pub text : MAX_TEXT_BYTES + 1 ≡ 2 ^ 16
  pub name : MAX_NAME_BYTES + 1 ≡ 2 ^ 7
  pub tables : MAX_TABLES ≡ 2 ^ 10
  pub columns : MAX_COLUMNS ≡ 2 ^ 8
  pub cells : MAX_BATCH_CELLS ≡ 2 ^ 22
  pub transactions : MAX_TXNS ≡ 2 ^ 22
  pub nesting : MAX_NESTING ≡ 2 ^ 8
  pub stride : MAX_STRIDE ≡ 10 ^ 6
  pub suffix : MAX_SUFFIX_COUNT ≡ 10 ^ 6
  pub sampled : MAX_SAMPLED_ROWS ≡ 10 ^ 6
  pub offset : LAST_OFFSET + 1 ≡ 2 ^ 64
  -- numbers of 64 bits: the one below all that a LONG may be stands for NULL
  pub null : NULL_LONG +ℤ pos (2 ^ 63) ≡ pos 0
  pub long : MAX_LONG +ℤ pos 1 ≡ pos (2 ^ 63)
  pub number : pos MAX_NUMBER ≡ MAX_LONG
  pub null_time : NULL_TIME + 1 ≡ 2 ^ 64
