use Rattle.std.proofs.Common.{◌∙◌, ◌++◌, List, map, ap}
use Rattle.std.specs.List.{flat_map}
use Rattle.qd_sql_ast.specs.declared.tree.ColumnDef.{ColumnDef}
use Rattle.qd_sql_ast.specs.declared.tree.Create.{Create}
use Rattle.qd_meaning.specs.declared.refusal.Refusal.{Refusal}
use Rattle.qd_meaning.specs.Refusals.{least}
use Rattle.qd_meaning.specs.Creating.{col_of, cols_of, column_name_faults, dedup_faults, designated_faults, named_twice, table_faults}
use Rattle.qd_writes.proofs.create.create_fault.Goals as goal

pub returns : goal.returns
returns c =
    let cr : Create = c.args.create.now in
    let columns = c.as_slice-columns.ensures.items in
    let t : List Refusal = table_faults c.args.schemas.now cr in
    let n : List Refusal = flat_map (λ (d : ColumnDef). column_name_faults d.name) cr.columns in
    let w : List Refusal = named_twice (map (λ (d : ColumnDef). d.name) cr.columns) in
    let a : List Refusal = column_name_faults cr.time in
    let g : List Refusal = designated_faults (cols_of cr) cr.time in
    let k : List Refusal = dedup_faults (cols_of cr) cr.time cr.dedup in
    let names =
    c.both-names.ensures.least t n c.table_fault-table.ensures.least
    (c.column_names_fault.ensures.least ∙ ap (λ (ds : List ColumnDef). least (flat_map (λ (d : ColumnDef). column_name_faults d.name) ds)) columns) in
    let twice = c.both-twice.ensures.least (t ++ n) w names (c.in_ok-again.ensures.least ∙ ap (λ (ds : List ColumnDef). least (named_twice (map (λ (d : ColumnDef). d.name) ds))) columns) in
    let time = c.both-time.ensures.least (t ++ n ++ w) a twice c.column_name_fault.ensures.least in
    let designated =
    c.both-designated.ensures.least (t ++ n ++ w ++ a) g time
    (c.designated_fault.ensures.least ∙ ap (λ (ds : List ColumnDef). least (designated_faults (map col_of ds) cr.time)) columns) in
    record { least = c.both.ensures.least (t ++ n ++ w ++ a ++ g) k designated c.in_ok-dedup.ensures.least }
