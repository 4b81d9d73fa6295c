-- What CREATE TABLE makes, and where it is refused. QuestDB documentation, "CREATE TABLE", "Deduplication".
use Rattle.std.specs.Prelude.{ℕ, ◌==◌, Bool, true, false, not, ◌&&◌, nat_le, nat_lt, if◌then◌else◌, List, [], ◌∷◌, ◌++◌, map, length, is_some, slice_get, Option, Some, None, unwrap_or}
use Rattle.std.specs.List.{list_any, list_all, flat_map}
use Rattle.std.specs.Str.{is_utf8}
use Rattle.qd_base.specs.declared.limits.TheConstants.{MAX_COLUMNS, MAX_NAME_BYTES, MAX_TABLES}
use Rattle.qd_base.specs.declared.code.Code.TheVariants as code
use Rattle.qd_base.specs.declared.schema.ColType.{ColType}
use Rattle.qd_base.specs.declared.schema.ColType.TheVariants as kind
use Rattle.qd_base.specs.declared.schema.Col.{Col}
use Rattle.qd_base.specs.declared.schema.Schema.{Schema}
use Rattle.qd_base.specs.Names.{is_table_byte, is_column_byte}
use Rattle.qd_base.specs.Schemas.{same_name, table_at, column_at}
use Rattle.qd_sql_ast.specs.declared.tree.Name.{Name}
use Rattle.qd_sql_ast.specs.declared.tree.ColumnDef.{ColumnDef}
use Rattle.qd_sql_ast.specs.declared.tree.Dedup.{Dedup}
use Rattle.qd_sql_ast.specs.declared.tree.Create.{Create}
use Rattle.qd_meaning.specs.declared.refusal.Refusal.{Refusal}
use Rattle.qd_meaning.specs.Refusals.{at, unless}

-- ---- names

abbrev pub has_name_length : List ℕ → Bool
has_name_length name = nat_le 1 (length name) && nat_le (length name) MAX_NAME_BYTES

-- each dot stands behind a byte that is no dot, and the last byte is none; the test says that there is none before
abbrev pub dots_apart : Bool → List ℕ → Bool
dots_apart behind_dot [] = not behind_dot
dots_apart behind_dot (b ∷ bs) = if b == 46 then not behind_dot && dots_apart true bs else dots_apart false bs

-- what a column, and a table, may be called
abbrev pub is_column_name : List ℕ → Bool
is_column_name name = has_name_length name && is_utf8 name && list_all is_column_byte name

abbrev pub is_table_name : List ℕ → Bool
is_table_name name = has_name_length name && is_utf8 name && list_all is_table_byte name && dots_apart true name

abbrev pub column_name_faults : Name → List Refusal
column_name_faults n = unless (is_column_name n.text) code.Name n.at

abbrev pub table_name_faults : Name → List Refusal
table_name_faults n = unless (is_table_name n.text) code.Name n.at

-- a name that stands before in a list is refused with a code, at each place where it comes again
abbrev pub again_from : (Name → List Refusal) → List Name → List Name → List Refusal
again_from refuse before [] = []
again_from refuse before (n ∷ ns) = (if list_any (λ (m : Name). same_name m.text n.text) before then refuse n else []) ++ again_from refuse (n ∷ before) ns

abbrev pub named_twice : List Name → List Refusal
named_twice names = again_from (λ n. at code.DuplicateColumn n.at) [] names

-- ---- the schema

abbrev pub col_of : ColumnDef → Col
col_of c = record { name = c.name.text; kind = c.kind }

abbrev pub cols_of : Create → List Col
cols_of c = map col_of c.columns

abbrev pub place_in : List Col → Name → ℕ
place_in cols n = unwrap_or (column_at cols n.text) 0

abbrev pub keys_named : Option Dedup → List Name
keys_named None = []
keys_named (Some d) = d.keys

-- the table that is made
abbrev pub created : Create → Schema
created c = record {
  name = c.table.text;
  cols = cols_of c;
  time_col = place_in (cols_of c) c.time;
  unit = c.unit;
  keys = map (place_in (cols_of c)) (keys_named c.dedup);
}

-- ---- refusals

abbrev pub unknown_column : List Col → Name → List Refusal
unknown_column cols n = unless (is_some (column_at cols n.text)) code.UnknownColumn n.at

abbrev pub is_time_kind : ColType → Bool
is_time_kind kind.Time = true
is_time_kind _ = false

-- a column of another type can't be the designated one
abbrev pub not_designated : Name → Option Col → List Refusal
not_designated n None = []
not_designated n (Some col) = unless (is_time_kind col.kind) code.Types n.at

abbrev pub designated_faults : List Col → Name → List Refusal
designated_faults cols n = unknown_column cols n ++ not_designated n (slice_get cols (place_in cols n))

-- keys are distinct, with the designated column's name among them
abbrev pub key_faults : List ℕ → Dedup → List Refusal
key_faults time d = unless (list_any (λ (k : Name). same_name k.text time) d.keys) code.Keys d.at ++ again_from (λ n. at code.Keys n.at) [] d.keys

-- keys are distinct columns with the designated one among them
abbrev pub dedup_faults : List Col → Name → Option Dedup → List Refusal
dedup_faults cols time None = []
dedup_faults cols time (Some d) = flat_map column_name_faults d.keys ++ flat_map (unknown_column cols) d.keys ++ key_faults time.text d

abbrev pub table_faults : List Schema → Create → List Refusal
table_faults schemas c =
    table_name_faults c.table ++ unless (not (is_some (table_at schemas c.table.text))) code.TableExists c.table.at
    ++ unless (nat_lt (length schemas) MAX_TABLES) code.Tables c.table.at ++ unless (nat_le (length c.columns) MAX_COLUMNS) code.Columns c.table.at

-- all refusals of a CREATE over the schemas of the tables that are there
abbrev pub create_faults : List Schema → Create → List Refusal
create_faults schemas c =
    table_faults schemas c ++ flat_map (λ (d : ColumnDef). column_name_faults d.name) c.columns ++ named_twice (map (λ (d : ColumnDef). d.name) c.columns)
    ++ column_name_faults c.time ++ designated_faults (cols_of c) c.time ++ dedup_faults (cols_of c) c.time c.dedup
