use Rattle.std.proofs.Common.{◌≡◌, ◌∙◌, ◌++◌, ◌∷◌, [], ℕ, List, ap, sym, subst₂}
use Rattle.qd_base.specs.declared.schema.Col.{Col}
use Rattle.qd_plan.specs.Names.{names, AreTried}
use Rattle.qd_plan.proofs.TriedLemmas.{tried_added}
use Rattle.qd_plan.proofs.outs.Outs.add.Goals as goal

-- the name of the column more is tried up to 0
pub invariant_of-self-2 : goal.invariant_of-self-2
invariant_of-self-2 c =
    let cols : List Col = c.self.inside.cols in
    let tried : List ℕ = c.self.inside.tried.items in
    let more : c.push-2.new.self.items ≡ tried ++ 0 ∷ [] = c.in_ok-push-2.ensures.items ∙ ap (λ (ts : List ℕ). ts ++ 0 ∷ []) c.in_ok-reserve.ensures.items in
    subst₂ (λ (cs : List Col) (ts : List ℕ). AreTried (names cs) ts) (sym c.in_ok-push.ensures.ok) (sym more) (tried_added cols tried (record { name = c.args.name; kind = c.args.kind }) c.self.invariant)
