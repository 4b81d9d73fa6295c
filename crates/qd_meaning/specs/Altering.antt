-- What ALTER TABLE changes, and where it is refused. QuestDB documentation, "ALTER TABLE ADD COLUMN", "ALTER TABLE DEDUP ENABLE",
-- "ALTER TABLE DEDUP DISABLE".
use Rattle.std.specs.Prelude.{ℕ, Bool, not, nat_le, nat_lt, List, [], ◌∷◌, ◌++◌, map, length, is_some, slice_get, Option, Some, None}
use Rattle.std.specs.List.{flat_map}
use Rattle.qd_base.specs.declared.limits.TheConstants.{MAX_COLUMNS}
use Rattle.qd_base.specs.declared.code.Code.TheVariants as code
use Rattle.qd_base.specs.declared.schema.Col.{Col}
use Rattle.qd_base.specs.declared.schema.Schema.{Schema}
use Rattle.qd_base.specs.declared.op.Op.{Op}
use Rattle.qd_base.specs.declared.op.Op.TheVariants as op
use Rattle.qd_base.specs.Schemas.{column_at}
use Rattle.qd_sql_ast.specs.declared.tree.Alter.{Alter}
use Rattle.qd_sql_ast.specs.declared.tree.Change.{Change}
use Rattle.qd_sql_ast.specs.declared.tree.Change.TheVariants as changes
use Rattle.qd_sql_ast.specs.declared.tree.ColumnDef.{ColumnDef}
use Rattle.qd_sql_ast.specs.declared.tree.Dedup.{Dedup}
use Rattle.qd_meaning.specs.declared.refusal.Refusal.{Refusal}
use Rattle.qd_meaning.specs.Refusals.{at, unless}
use Rattle.qd_meaning.specs.Creating.{col_of, column_name_faults, table_name_faults, unknown_column, key_faults, place_in}

-- ---- the change

-- a column behind the others, or keys for rows that come after; the table under its own name
abbrev pub changed : Schema → Change → Op
changed s (changes.AddColumn c) = op.AddColumn s.name (col_of c)
changed s (changes.EnableDedup d) = op.SetKeys s.name (map (place_in s.cols) d.keys)
changed s changes.DisableDedup = op.SetKeys s.name []

abbrev pub altered : Option Schema → Alter → List Op
altered None a = []
altered (Some s) a = changed s a.change ∷ []

-- ---- refusals

-- the names of columns in it
abbrev pub name_faults : Change → List Refusal
name_faults (changes.AddColumn c) = column_name_faults c.name
name_faults (changes.EnableDedup d) = flat_map column_name_faults d.keys
name_faults changes.DisableDedup = []

-- the table would have no more columns than a table may have
abbrev pub has_room : Schema → Change → Bool
has_room s (changes.AddColumn c) = nat_lt (length s.cols) MAX_COLUMNS
has_room s _ = nat_le (length s.cols) MAX_COLUMNS

-- the name of a column, where it is there
abbrev pub col_name : Option Col → List ℕ
col_name None = []
col_name (Some c) = c.name

-- the name of the designated column
abbrev pub time_name : Schema → List ℕ
time_name s = col_name (slice_get s.cols s.time_col)

-- a column is added that is there
abbrev pub added_faults : Schema → ColumnDef → List Refusal
added_faults s c = unless (not (is_some (column_at s.cols c.name.text))) code.DuplicateColumn c.name.at

-- keys are distinct columns with the designated one among them
abbrev pub new_keys_faults : Schema → Dedup → List Refusal
new_keys_faults s d = flat_map (unknown_column s.cols) d.keys ++ key_faults (time_name s) d

abbrev pub change_faults : Schema → Change → List Refusal
change_faults s (changes.AddColumn c) = added_faults s c
change_faults s (changes.EnableDedup d) = new_keys_faults s d
change_faults s changes.DisableDedup = []

abbrev pub faults_in : Schema → Alter → List Refusal
faults_in s a = unless (has_room s a.change) code.Columns a.table.at ++ change_faults s a.change

abbrev pub table_faults : Option Schema → Alter → List Refusal
table_faults None a = at code.UnknownTable a.table.at
table_faults (Some s) a = faults_in s a

-- all refusals of an ALTER, where its table is this one
abbrev pub alter_faults : Option Schema → Alter → List Refusal
alter_faults table a = table_name_faults a.table ++ name_faults a.change ++ table_faults table a
