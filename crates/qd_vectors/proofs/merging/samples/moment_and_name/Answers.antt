use Rattle.std.proofs.Common.{◌∙◌, ℕ, List, [], ◌∷◌, ◌++◌, Contains, ap, sym, subst, refl, arith}
use Rattle.qd_vectors.proofs.merging.samples.moment_and_name.Goals as goal

pub returns : goal.returns
returns c =
    let keys = c.in_ok-push-2.ensures.ok ∙ ap (λ (ks : List ℕ). ks ++ 2 ∷ []) (c.in_ok-push.ensures.ok ∙ ap (λ (ks : List ℕ). ks ++ 0 ∷ []) c.new-keys.ensures.empty) in
    record { moment = subst (λ (ks : List ℕ). Contains ks 0) (sym keys) (0, omega arith, refl) }
