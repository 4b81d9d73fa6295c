use Rattle.std.proofs.Common.{◌∙◌, ◌++◌, List, ap, rules}
use Rattle.std.specs.List.{flat_map}
use Rattle.std.specs.Option.{option_copied}
use Rattle.qd_sql_ast.specs.declared.tree.Name.{Name}
use Rattle.qd_meaning.specs.declared.refusal.Refusal.{Refusal}
use Rattle.qd_meaning.specs.Refusals.{least}
use Rattle.qd_meaning.specs.Creating.{column_name_faults, named_twice, table_name_faults}
use Rattle.qd_meaning.specs.Inserting.{listed, table_faults}
use Rattle.qd_writes.proofs.MetLemmas.{map_same}
use Rattle.qd_writes.proofs.insert.insert_fault.Goals as goal

pub returns : goal.returns
returns c =
    let names : List Name = listed c.args.insert.now.columns in
    let items = c.listed-names.ensures.names in
    let t : List Refusal = table_name_faults c.args.insert.now.table in
    let n : List Refusal = flat_map column_name_faults names in
    let w : List Refusal = named_twice names in
    let k : List Refusal = table_faults (option_copied c.args.table) c.args.insert.now in
    let fair =
    c.both-fair.ensures.least t n c.table_name_fault-table_name.ensures.least
    (c.soonest.ensures.least column_name_faults (record { judges = search rules }) ∙ ap (λ (ks : List Name). least (flat_map column_name_faults ks)) items) in
    let twice = c.both-twice.ensures.least (t ++ n) w fair (c.in_ok-again.ensures.least ∙ ap (λ (ks : List Name). least (named_twice ks)) (map_same _ ∙ items)) in
    record { least = c.both.ensures.least (t ++ n ++ w) k twice c.table_fault.ensures.least }
