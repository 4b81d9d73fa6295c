use Rattle.std.proofs.Common.{◌∙◌, Bool, List, [], ap}
use Rattle.std.specs.List.{list_any}
use Rattle.qd_base.specs.declared.code.Code.TheVariants as code
use Rattle.qd_base.specs.Schemas.{same_name}
use Rattle.qd_sql_ast.specs.declared.tree.Name.{Name}
use Rattle.qd_meaning.specs.declared.refusal.Refusal.{Refusal}
use Rattle.qd_meaning.specs.Refusals.{at, least, unless}
use Rattle.qd_meaning.specs.Creating.{again_from}
use Rattle.qd_writes.proofs.MetLemmas.{map_same}
use Rattle.qd_writes.proofs.keys.keys_fault.Goals as goal

pub returns : goal.returns
returns c =
    let keys : List Name = c.args.dedup.now.keys in
    let items = c.as_slice-keys.ensures.items in
    let m : List Refusal = unless (list_any (λ (k : Name). same_name k.text c.args.time.now) keys) code.Keys c.args.dedup.now.at in
    let w : List Refusal = again_from (λ (k : Name). at code.Keys k.at) [] keys in
    let timed =
    c.unless-timed.ensures.least ∙ ap (λ (b : Bool). least (unless b code.Keys c.args.dedup.now.at)) c.has_name.ensures.there
    ∙ ap (λ (ks : List Name). least (unless (list_any (λ (k : Name). same_name k.text c.args.time.now) ks) code.Keys c.args.dedup.now.at)) items in
    record { least = c.both.ensures.least m w timed (c.in_ok-twice.ensures.least ∙ ap (λ (ks : List Name). least (again_from (λ (k : Name). at code.Keys k.at) [] ks)) (map_same _ ∙ items)) }
