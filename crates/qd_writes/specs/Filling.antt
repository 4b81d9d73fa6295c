-- The rows of an INSERT and their refusals, where its table is there.
use Rattle.std.specs.Prelude.{List, [], ◌∷◌, Option, Some, None}
use Rattle.std.specs.List.{flat_map}
use Rattle.qd_base.specs.declared.schema.Schema.{Schema}
use Rattle.qd_base.specs.declared.op.Op.{Op}
use Rattle.qd_base.specs.declared.op.Op.TheVariants as op
use Rattle.qd_base.specs.Rows.{Row}
use Rattle.qd_sql_ast.specs.declared.tree.Insert.{Insert}
use Rattle.qd_meaning.specs.declared.refusal.Refusal.{Refusal}
use Rattle.qd_meaning.specs.Inserting.{inserted_rows, targets_of, tuple_faults}

abbrev pub filled_rows : Option Schema → Insert → List Row
filled_rows None i = []
filled_rows (Some s) i = inserted_rows s i

abbrev pub row_faults : Option Schema → Insert → List Refusal
row_faults None i = []
row_faults (Some s) i = flat_map (tuple_faults s.time_col (targets_of s.cols i.columns)) i.tuples

-- the change that puts rows into a table, where it is there
abbrev pub rows_put : Option Schema → List Row → List Op
rows_put None rows = []
rows_put (Some s) rows = op.Insert s.name rows ∷ []
