use Rattle.std.proofs.Common.{◌∙◌, ◌++◌, ◌∷◌, [], ap, sym, subst}
use Rattle.std.specs.List.{AllByRecursion}
use Rattle.qd_base.specs.declared.schema.Schema.{Schema}
use Rattle.qd_base.specs.Database.{StoredTable}
use Rattle.qd_base.specs.Lawful.{IsSchema}
use Rattle.qd_apply.specs.Waiting.{Waits}
use Rattle.qd_apply.proofs.ListLemmas.{waits_push}
use Rattle.qd_apply.proofs.tables.with_table.Goals as goal

pub new-table-requires : goal.new-table-requires
new-table-requires c = subst IsSchema (sym c.in_ok-copy.ensures.same) c.requires.schema

pub returns : goal.returns
returns c =
    let ts = c.args.tables.items in
    let t : StoredTable = c.new-table.result in
    let is = c.new-table.ensures ∙ ap (λ (s : Schema). let x : StoredTable = record { schema = s; rows = [] } in x) c.in_ok-copy.ensures.same in
    record {
      kept = subst (AllByRecursion Waits) (sym c.in_ok-push.ensures.items) (waits_push ts t c.requires.kept c.waits.ensures);
      step = c.in_ok-push.ensures.items ∙ ap (λ (x : StoredTable). ts ++ x ∷ []) is;
    }
