-- What a statement that writes does: its transaction, or its refusal.
use Rattle.std.specs.Prelude.{List, [], ◌∷◌, Option, Some, None, Result}
use Rattle.qd_base.specs.declared.schema.Schema.{Schema}
use Rattle.qd_base.specs.declared.op.Op.{Op}
use Rattle.qd_base.specs.declared.op.Op.TheVariants as op
use Rattle.qd_base.specs.declared.op.Entry.{Entry}
use Rattle.qd_base.specs.Schemas.{schema_of}
use Rattle.qd_sql_ast.specs.declared.tree.Insert.{Insert}
use Rattle.qd_sql_ast.specs.declared.tree.Stmt.{Stmt}
use Rattle.qd_sql_ast.specs.declared.tree.Stmt.TheVariants as is
use Rattle.qd_meaning.specs.declared.refusal.Refusal.{Refusal}
use Rattle.qd_meaning.specs.Refusals.{least, judged}
use Rattle.qd_meaning.specs.Creating.{created, create_faults}
use Rattle.qd_meaning.specs.Inserting.{inserted_rows, insert_faults}
use Rattle.qd_meaning.specs.Altering.{altered, alter_faults}

-- the rows under the table's own name
abbrev pub inserted : Option Schema → Insert → List Op
inserted None i = []
inserted (Some s) i = op.Insert s.name (inserted_rows s i) ∷ []

-- all refusals that a statement meets over the schemas of the tables that are there
abbrev pub write_faults : List Schema → Stmt → List Refusal
write_faults schemas (is.Create c) = create_faults schemas c
write_faults schemas (is.Insert i) = insert_faults (schema_of schemas i.table.text) i
write_faults schemas (is.Alter a) = alter_faults (schema_of schemas a.table.text) a
write_faults schemas (is.Query q) = []
write_faults schemas (is.Show table place) = []

-- the changes that it makes where it meets none; a statement that asks makes none
abbrev pub changes : List Schema → Stmt → List Op
changes schemas (is.Create c) = op.Create (created c) ∷ []
changes schemas (is.Insert i) = inserted (schema_of schemas i.table.text) i
changes schemas (is.Alter a) = altered (schema_of schemas a.table.text) a
changes schemas (is.Query q) = []
changes schemas (is.Show table place) = []

abbrev pub transaction : List Schema → Stmt → Entry
transaction schemas s = record { ops = changes schemas s }

-- the transaction of a statement, or the least of its refusals
abbrev pub write : List Schema → Stmt → Result Entry Refusal
write schemas s = judged (least (write_faults schemas s)) (transaction schemas s)
