-- What holds of joins without keys, by times alone.
use Rattle.std.specs.Prelude.{◌≡◌, ℕ, Bool, ◌<◌, ◌≤◌, true, false, List, [], ◌∷◌, ◌++◌}
use Rattle.std.specs.List.{AllByRecursion}
use Rattle.qd_base.specs.Rows.{Row, time_of}
use Rattle.qd_meaning.specs.declared.parts.JoinSpec.{JoinSpec}
use Rattle.qd_meaning.specs.Joined.{joined}

-- a join without keys
abbrev pub keyless : Bool → JoinSpec
keyless strict = record { left = []; right = []; strict = strict }

pub record LastOfEqualTimes : Type 0 where
  pub asof :
      (left_time right_time : ℕ) (missing l r : Row) (front back : List Row) → time_of right_time r ≤ time_of left_time l
      → AllByRecursion (λ x. time_of left_time l < time_of right_time x) back → joined (keyless false) left_time right_time missing (l ∷ []) (front ++ r ∷ back) ≡ (l ++ r) ∷ []
  pub strict :
      (left_time right_time : ℕ) (missing l r : Row) (front back : List Row) → time_of right_time r < time_of left_time l
      → AllByRecursion (λ x. time_of left_time l ≤ time_of right_time x) back → joined (keyless true) left_time right_time missing (l ∷ []) (front ++ r ∷ back) ≡ (l ++ r) ∷ []
