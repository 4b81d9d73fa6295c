use Rattle.std.proofs.Common.{◌≡◌, ◌∙◌, ℕ, Option, Contains, true, false, inl, inr, sym, ap, subst}
use Rattle.std.proofs.lemmas.Bool.{cases_Bool}
use Rattle.qd_catalog.specs.declared.blocks.Kept.{Kept}
use Rattle.qd_catalog.specs.Versions.{Versions, written_of, IsListed}
use Rattle.qd_catalog.specs.Tracked.{kept_in, listing}
use Rattle.qd_catalog.proofs.KeptLemmas.{rows_in_kept}
use Rattle.qd_catalog.proofs.catalog.Catalog.written.Goals as goal

pub returns-in-Some-clause-rows : goal.returns-in-Some-clause-rows
returns-in-Some-clause-rows c = ap (λ (o : Option Kept). (kept_in o).written) c.in-Some.ensures.value ∙ sym (rows_in_kept c.self.inside.kept.entries c.args.block) ∙ ap (λ (v : Versions). written_of v c.args.block) c.self.view_is

pub returns-in-Some-clause-unknown : goal.returns-in-Some-clause-unknown
returns-in-Some-clause-unknown c = λ unlisted unretired.
    absurd (unretired (subst (λ (v : Versions). Contains v.retired c.args.block) c.self.view_is (c.self.invariant.queues.all c.args.block c.in-Some.kept.now (sym c.in-Some.ensures.value) (λ r lt. elim (cases_Bool (listing c.self.inside.versions.items r c.args.block)) [
      | inl holds ↦ absurd (unlisted (subst (λ (v : Versions). IsListed v c.args.block) c.self.view_is (r, holds)))
      | inr none ↦ none
    ]))))

pub returns-in-None-clause-rows : goal.returns-in-None-clause-rows
returns-in-None-clause-rows c = ap (λ (o : Option Kept). (kept_in o).written) c.in-None.ensures.value ∙ sym (rows_in_kept c.self.inside.kept.entries c.args.block) ∙ ap (λ (v : Versions). written_of v c.args.block) c.self.view_is
