use Rattle.std.proofs.Common.{◌≡◌, ◌∷◌, ◌++◌, ◌+◌, ◌-◌, ◌∙◌, [], ℕ, List, Option, None, Some, replicate, sym, ap, arith}
use Rattle.std.proofs.lemmas.List.{replicate-append-replicate}
use Rattle.qd_catalog.specs.declared.version.Version.{Version}
use Rattle.qd_catalog.proofs.rows.first_row.Goals as goal

more_none : (k n : ℕ) → n ≡ k + 1 → replicate {A = Option Version} k None ++ None ∷ [] ≡ replicate {A = Option Version} n None
more_none k n e = replicate-append-replicate {A = Option Version} k 1 None ∙ ap (λ (m : ℕ). replicate {A = Option Version} m None) (sym e)

pub loop-preserved : goal.loop-preserved
loop-preserved c =
    let pushed : c.push-in-loop.new.self.items ≡ c.loop.versions.items ++ None ∷ [] = c.in_ok-push-2.ensures.items in
    pushed ∙ ap (λ (l : List (Option Version)). l ++ None ∷ []) c.loop.invariant
    ∙ ap (λ (l : List (Option Version)). Some c.args.version ∷ l) (more_none (c.loop.counter - 1) (c.loop.counter + 1 - 1) (omega arith))

pub returns : goal.returns
returns c =
    let all : c.loop.counter - 1 ≡ 63 = omega (arith, c.loop.auto.counter-end (omega arith)) in
    record { rows = c.loop.invariant ∙ ap (λ (k : ℕ). Some c.args.version ∷ replicate {A = Option Version} k None) all }
