use Rattle.std.proofs.Common.{◌∙◌, ◌++◌, List, ℕ, ap, rules}
use Rattle.std.specs.List.{flat_map}
use Rattle.qd_base.specs.declared.schema.Col.{Col}
use Rattle.qd_sql_ast.specs.declared.tree.Name.{Name}
use Rattle.qd_meaning.specs.declared.refusal.Refusal.{Refusal}
use Rattle.qd_meaning.specs.Refusals.{least}
use Rattle.qd_meaning.specs.Creating.{cols_of, column_name_faults, key_faults, unknown_column}
use Rattle.qd_writes.proofs.create.dedup_keys_fault.Goals as goal

pub returns : goal.returns
returns c =
    let keys : List Name = c.args.dedup.now.keys in
    let items = c.as_slice-keys.ensures.items in
    let cols : List Col = cols_of c.args.create.now in
    let n : List Refusal = flat_map column_name_faults keys in
    let u : List Refusal = flat_map (unknown_column cols) keys in
    let names = c.soonest-names.ensures.least column_name_faults (record { judges = search rules }) ∙ ap (λ (ks : List Name). least (flat_map column_name_faults ks)) items in
    let unknown = c.both-unknown.ensures.least n u names (c.in_ok-unknown_keys.ensures.least ∙ ap (λ (ks : List Name). least (flat_map (unknown_column cols) ks)) items) in
    let set = c.in_ok-set.ensures.least ∙ ap (λ (t : List ℕ). least (key_faults t c.args.dedup.now)) c.bytes.ensures.same in
    record { least = c.both.ensures.least (n ++ u) (key_faults c.args.create.now.time.text c.args.dedup.now) unknown set }
