use Rattle.std.proofs.Common.{List, ◌++◌, ◌∷◌, [], ◌∙◌, sym, ap, subst₂}
use Rattle.qd_base.specs.declared.schema.Schema.{Schema}
use Rattle.qd_lines.specs.Owned.{AreNames}
use Rattle.qd_lines.proofs.OverlayLemmas.{named-pushed}
use Rattle.qd_lines.proofs.own.Own.push.Goals as goal

pub invariant_of-self-2 : goal.invariant_of-self-2
invariant_of-self-2 c =
    let items = c.in_ok-push-2.ensures.items ∙ ap (λ (ss : List Schema). ss ++ c.args.schema ∷ []) c.in_ok-reserve.ensures.items in
    subst₂ AreNames (sym c.in_ok-push.ensures.ok) (sym items)
    (named-pushed c.self.inside.names c.self.inside.schemas.items (record { text = c.in_ok-text.text }) c.args.schema c.self.invariant c.in_ok-text.ensures.same)
