use Rattle.std.proofs.Common.{◌<◌, List, length, refl, sym, ◌∙◌, subst}
use Rattle.qd_base.specs.declared.schema.Schema.{Schema}
use Rattle.qd_base.proofs.NameIndex.{names_kept}
use Rattle.qd_lines.proofs.own.Own.add_column.Goals as goal

-- the table keeps its name
pub invariant_of-self : goal.invariant_of-self
invariant_of-self c =
    let schemas = c.self.inside.schemas.items in
    let within : c.args.i < length schemas = subst (λ (l : List Schema). c.args.i < length l) (sym c.self.view_is) c.requires.there in
    c.self.invariant ∙ sym (names_kept (λ (s : Schema). s.name) schemas c.args.i c.index_mut-schema.result.now (record c.index_mut-schema.result.now { cols = c.push.new.self }) within c.index_mut-schema.ensures.value refl)
