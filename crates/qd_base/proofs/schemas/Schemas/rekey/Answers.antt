use Rattle.std.proofs.Common.{◌<◌, ℕ, List, [], length, refl, sym, ◌∙◌, subst}
use Rattle.qd_base.specs.declared.schema.Schema.{Schema}
use Rattle.qd_base.specs.NameIndex.{name_cmp, IsIndex}
use Rattle.qd_base.proofs.NameIndex.{names_kept}
use Rattle.qd_base.proofs.schemas.Schemas.rekey.Goals as goal

-- the table keeps its name
pub invariant_of-list : goal.invariant_of-list
invariant_of-list c =
    let within : c.args.i < length c.list.inside.items.items = subst (λ (l : List Schema). c.args.i < length l) (sym (c.list.view_is ∙ c.self.view_is)) c.requires in
    subst (λ (names : List (List ℕ)). IsIndex name_cmp [] names c.list.inside.order.items)
    (sym (names_kept (λ (s : Schema). s.name) c.list.inside.items.items c.args.i c.index_mut-schema.result.now (record c.index_mut-schema.result.now { keys = c.args.keys }) within c.index_mut-schema.ensures.value refl))
    c.list.invariant
