-- What holds of joins and of last rows, over all lists of rows.
use Rattle.std.specs.Prelude.{◌≡◌, ℕ, true, false, List, [], ◌∷◌, ◌++◌, length}
use Rattle.std.specs.List.{AllByRecursion, IsDistinct, list_any}
use Rattle.qd_base.specs.Rows.{Row, same_on}
use Rattle.qd_meaning.specs.declared.parts.JoinSpec.{JoinSpec}
use Rattle.qd_meaning.specs.Joined.{joined, may_take}
use Rattle.qd_meaning.specs.Latest.{latest}

-- Each left row comes once, in order, and one by one: with the last right row that it may take, wherever that stands, and with the
-- missing one where it may take none.
pub record JoinsTakeTheLast : Type 0 where
  pub count : (spec : JoinSpec) (left_time right_time : ℕ) (missing : Row) (left right : List Row) → length (joined spec left_time right_time missing left right) ≡ length left
  pub one_by_one :
      (spec : JoinSpec) (left_time right_time : ℕ) (missing : Row) (front back right : List Row)
      → joined spec left_time right_time missing (front ++ back) right
      ≡ joined spec left_time right_time missing front right ++ joined spec left_time right_time missing back right
  pub last :
      (spec : JoinSpec) (left_time right_time : ℕ) (missing l r : Row) (front back : List Row) → may_take spec left_time right_time l r ≡ true
      → AllByRecursion (λ x. may_take spec left_time right_time l x ≡ false) back → joined spec left_time right_time missing (l ∷ []) (front ++ r ∷ back) ≡ (l ++ r) ∷ []
  pub none :
      (spec : JoinSpec) (left_time right_time : ℕ) (missing l : Row) (right : List Row)
      → AllByRecursion (λ x. may_take spec left_time right_time l x ≡ false) right → joined spec left_time right_time missing (l ∷ []) right ≡ (l ++ missing) ∷ []

-- No two of the last rows have the same keys, and for each row of the table one of them has its keys.
pub record LatestRowsStand : Type 0 where
  pub apart : (keys : List ℕ) (rows : List Row) → IsDistinct (same_on keys) (latest keys rows)
  pub each : (keys : List ℕ) (rows : List Row) → AllByRecursion (λ r. list_any (same_on keys r) (latest keys rows) ≡ true) rows
