use Rattle.std.proofs.Common.{◌≡◌, ◌∙◌, ◌≤◌, ◌++◌, ◌∷◌, [], ℕ, List, Some, length, set, sym, ap, subst, arith}
use Rattle.std.proofs.lemmas.List.{get_or_read}
use Rattle.qd_base.specs.declared.schema.Col.{Col}
use Rattle.qd_base.specs.Schemas.{column_at}
use Rattle.qd_meaning.specs.Outputs.{numbered}
use Rattle.qd_plan.specs.Names.{names, AreTried, IsLeastNew}
use Rattle.qd_plan.proofs.TakenLemmas.{made_taken}
use Rattle.qd_plan.proofs.TriedLemmas.{first_of_name, tried_before, tried_numbered}
use Rattle.qd_plan.proofs.outs.Outs.push_again.Goals as goal

pub least_new-requires : goal.least_new-requires
least_new-requires c = λ k a b.
    let cols : List Col = c.self.inside.cols in
    let tried : List ℕ = c.self.inside.tried.items in
    let there : Some c.args.at ≡ column_at cols c.args.name.now = sym (ap (λ (cs : List Col). column_at cs c.args.name.now) c.self.view_is ∙ c.requires.at) in
    let w = first_of_name cols c.args.name.now c.args.at there in
    let size : length tried ≡ length (names cols) = c.self.invariant.size in
    tried_before cols tried c.args.name.now c.args.at there c.self.invariant k a (subst (λ (n : ℕ). k ≤ n) (get_or_read tried c.args.at _ (omega (arith, w.0)) c.index.ensures 0) b)

pub invariant_of-self : goal.invariant_of-self
invariant_of-self c =
    let cols : List Col = c.args.self.now in
    let tried : List ℕ = c.self-2.inside.tried.items in
    let name : List ℕ = c.args.name.now in
    let number : ℕ = c.in_ok-made.number in
    let least = subst (λ (cs : List Col). IsLeastNew (names cs) name number) c.self.view_is c.in_ok-made.ensures.least in
    let same : c.self-2.inside.cols ≡ cols ++ record { name = numbered name number; kind = c.args.kind } ∷ [] =
    c.self-2.view_is ∙ c.in_ok-add.ensures.added ∙ ap (λ (n : List ℕ). cols ++ record { name = n; kind = c.args.kind } ∷ []) c.in_ok-made.ensures.text in
    subst (λ (cs : List Col). AreTried (names cs) (set tried c.args.at number)) (sym same)
    (tried_numbered cols tried name c.args.kind c.args.at number (sym c.requires.at) least (subst (λ (cs : List Col). AreTried (names cs) tried) same c.self-2.invariant))

pub returns : goal.returns
returns c =
    let cols : List Col = c.args.self.now in
    let name : List ℕ = c.args.name.now in
    let number : ℕ = c.in_ok-made.number in
    let least = subst (λ (cs : List Col). IsLeastNew (names cs) name number) c.self.view_is c.in_ok-made.ensures.least in
    record {
      pushed =
          c.self-2.view_is
          ∙ c.in_ok-add.ensures.added
          ∙ ap (λ (n : List ℕ). cols ++ record { name = n; kind = c.args.kind } ∷ []) (c.in_ok-made.ensures.text ∙ made_taken cols name c.args.at number (sym c.requires.at) least);
    }
