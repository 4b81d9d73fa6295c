-- Positions among which the first ones in order are.
use Rattle.std.specs.Prelude.{◌≡◌, ℕ, ◌≤◌, Bool, true, not, List, [], ◌∷◌, ◌++◌, filter, length, take, Option, Some, None}
use Rattle.qd_order.specs.Orders.{arranged}

-- whether a position stands before another, if there is one
abbrev pub goes_before : (ℕ → ℕ → Bool) → ℕ → Option ℕ → Bool
goes_before lt i None = true
goes_before lt i (Some last) = lt i last

-- so many of some positions stand at most as far back as a last one, if there is one
abbrev pub HasFirst : (ℕ → ℕ → Bool) → ℕ → List ℕ → Option ℕ → Type 0
HasFirst lt most ps None = Unit {0}
HasFirst lt most ps (Some last) = most ≤ length (filter (λ p. not (lt last p)) (arranged lt ps))

-- where the first ones are among some positions, those of one position more are among others
abbrev pub KeepsFirst : (ℕ → ℕ → Bool) → ℕ → ℕ → List ℕ → List ℕ → Type 0
KeepsFirst lt most place old new = (ps : List ℕ) → take most (arranged lt old) ≡ take most (arranged lt ps) → take most (arranged lt new) ≡ take most (arranged lt (ps ++ place ∷ []))
