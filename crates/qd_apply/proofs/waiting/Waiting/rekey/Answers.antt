use Rattle.std.proofs.Common.{◌≡◌, ◌∙◌, ℕ, List, ap, sym, subst}
use Rattle.qd_base.specs.declared.schema.Schema.{Schema}
use Rattle.qd_base.specs.Database.{rekeyed, StoredTable}
use Rattle.qd_base.specs.Lawful.{IsSchema}
use Rattle.qd_base.specs.Schemas.{with_keys}
use Rattle.qd_apply.specs.Waiting.{waiting}
use Rattle.qd_apply.proofs.WaitLemmas.{waits_rekeyed}
use Rattle.qd_apply.proofs.waiting.Waiting.rekey.Goals as goal

pub invariant_of-self : goal.invariant_of-self
invariant_of-self c =
    let i = c.self.inside in
    let given : List ℕ = c.in_ok-self-inside.field-0 in
    let same : i.schema ≡ c.args.self.now.schema = ap (λ (x : StoredTable). x.schema) c.self.view_is in
    waits_rekeyed i.schema given i.stages.items i.current c.self.invariant
    (subst (λ (s : Schema). IsSchema (with_keys given s)) (sym same) (subst (λ (k : List ℕ). IsSchema (with_keys k c.args.self.now.schema)) (sym c.in_ok-self-inside.ensures.same) c.requires.sound))

pub returns : goal.returns
returns c =
    let i = c.self.inside in
    record {
      ok = ap (λ (k : List ℕ). rekeyed k (waiting i.schema i.stages.items i.current)) c.in_ok-self-inside.ensures.same
          ∙ ap (rekeyed c.args.keys.now) c.self.view_is;
    }
