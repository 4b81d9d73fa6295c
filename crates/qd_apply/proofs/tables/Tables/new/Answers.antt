use Rattle.std.proofs.Common.{◌≡◌, ◌∙◌, ◌<◌, ◌++◌, ◌∷◌, [], List, length, ap, sym, subst, arith}
use Rattle.std.proofs.lemmas.List.{take_all}
use Rattle.qd_base.specs.declared.schema.Schema.{Schema}
use Rattle.qd_base.specs.Database.{StoredTable}
use Rattle.qd_base.specs.Lawful.{IsSchema}
use Rattle.qd_apply.specs.Arrivals.{without_rows}
use Rattle.qd_apply.proofs.ListLemmas.{all_lent, are_new, lent_at, without_more}
use Rattle.qd_apply.proofs.tables.Tables.new.Goals as goal

pub new-table-requires : goal.new-table-requires
new-table-requires c =
    let lt : c.loop-i.i < length c.args.schemas = omega (arith, c.loop-i-test.true, c.len-i-end.ensures.count) in
    subst IsSchema (sym c.in_ok-copy.ensures.same) (all_lent IsSchema c.args.schemas c.loop-i.i c.get.result.now lt c.get.ensures.item c.requires.each)

pub loop-i-preserved : goal.loop-i-preserved
loop-i-preserved c =
    let lt : c.loop-i.i < length c.args.schemas = omega (arith, c.loop-i-test.true, c.len-i-end.ensures.count) in
    let s : Schema = c.get.result.now in
    let is = c.new-table.ensures ∙ ap (λ (x : Schema). let t : StoredTable = record { schema = x; rows = [] } in t) c.in_ok-copy.ensures.same in
    c.in_ok-push.ensures.items
    ∙ ap (λ (l : List StoredTable). l ++ c.new-table.result ∷ []) c.loop-i.invariant
    ∙ ap (λ (t : StoredTable). without_rows (Rattle.std.proofs.Common.take c.loop-i.i c.args.schemas) ++ t ∷ []) is
    ∙ without_more c.args.schemas c.loop-i.i s lt (lent_at c.args.schemas c.loop-i.i s lt c.get.ensures.item)

pub invariant_of-result : goal.invariant_of-result
invariant_of-result c = are_new c.args.schemas c.loop-i.tables.items c.requires (c.loop-i.invariant ∙ ap without_rows (take_all c.loop-i.i c.args.schemas (omega (arith, c.loop-i-test.false, c.len-i-end.ensures.count))))
