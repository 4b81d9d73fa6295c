use Rattle.std.proofs.Common.{◌≡◌, ◌∙◌, ◌++◌, ◌∷◌, [], ℕ, List, OnOk, ap₂, subst}
use Rattle.qd_base.specs.declared.schema.Col.{Col}
use Rattle.qd_base.specs.Schemas.{column_at}
use Rattle.qd_meaning.specs.Outputs.{made_new}
use Rattle.qd_plan.specs.Names.{names}
use Rattle.qd_plan.proofs.TakenLemmas.{made_free}
use Rattle.qd_plan.proofs.outs.Outs.push.Goals as goal

pub returns-in-None : goal.returns-in-None
returns-in-None c =
    let cols : List Col = c.args.self.now in
    record {
      pushed =
          subst (λ (name : List ℕ). OnOk c.add.result (c.add.new.self ≡ cols ++ record { name = name; kind = c.args.kind } ∷ []))
          (made_free cols c.args.name (c.in-None.ensures.position ∙ ap₂ column_at c.self.view_is c.bytes.ensures.same)) c.add.ensures.added;
    }

pub returns-in-Some : goal.returns-in-Some
returns-in-Some c =
    let cols : List Col = c.args.self.now in
    record {
      pushed =
          subst (λ (name : List ℕ). OnOk c.push_again.result (c.push_again.new.self ≡ cols ++ record { name = made_new (names cols) name; kind = c.args.kind } ∷ []))
          c.bytes-in-Some.ensures.same c.push_again.ensures.pushed;
    }
