use Rattle.std.proofs.Common.{◌≡◌, ◌∙◌, Bool, true, false, List, ap, sym, fold}
use Rattle.std.specs.Bool.{OnTrue}
use Rattle.qd_base.specs.declared.op.Op.{Op}
use Rattle.qd_base.specs.declared.schema.Schema.{Schema}
use Rattle.qd_base.specs.Database.{schemas_of}
use Rattle.qd_base.specs.Schemas.{schemas_step}
use Rattle.qd_apply.specs.Arrivals.{arrives}
use Rattle.qd_apply.proofs.ArrivalLemmas.{schemas_ops}
use Rattle.qd_apply.proofs.drafts.Draft.take.Goals as goal

on_yes : (b : Bool) (P : Type 0) → OnTrue b P → b ≡ true → P
on_yes true P h e = h
on_yes false P h e = absurd (cc (e))

pub invariant_of-result : goal.invariant_of-result
invariant_of-result c =
    let yes : c.in_ok-follow.field-0 ≡ true = c.if-not-branch.false in
    on_yes c.in_ok-follow.field-0 (c.follow.new.schemas ≡ fold schemas_step c.self.inside.judged c.args.entry.now.ops) c.in_ok-follow.ensures.behind yes
    ∙ ap (λ (l : List Schema). fold schemas_step l c.args.entry.now.ops) c.self.invariant
    ∙ sym (schemas_ops c.self.inside.tables c.args.entry.now.ops)
    ∙ ap (λ (ops : List Op). schemas_of (fold arrives c.self.inside.tables ops)) (sym c.as_slice.ensures.items)
    ∙ ap schemas_of (sym c.in_ok-tables.ensures.after)
