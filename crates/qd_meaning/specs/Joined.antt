-- ASOF JOIN and LT JOIN. QuestDB documentation, "ASOF JOIN", "LT JOIN".
use Rattle.std.specs.Prelude.{ℕ, Bool, ◌&&◌, if◌then◌else◌, List, [], ◌∷◌, ◌++◌, map, filter, nat_le, nat_lt}
use Rattle.std.specs.List.{list_all, zip}
use Rattle.qd_base.specs.Rows.{Row, cell_at, cell_eq, time_of}
use Rattle.qd_meaning.specs.declared.parts.JoinSpec.{JoinSpec}

-- at most the left row's time, or below it
abbrev pub is_early : Bool → ℕ → ℕ → Bool
is_early strict left right = if strict then nat_lt right left else nat_le right left

-- a right row that a left row may take: its keys equal the left ones, NULL being equal to NULL, and its time is early enough
abbrev pub may_take : JoinSpec → ℕ → ℕ → Row → Row → Bool
may_take spec left_time right_time l r =
    list_all (λ k. cell_eq (cell_at l k.0) (cell_at r k.1)) (zip spec.left spec.right) && is_early spec.strict (time_of left_time l) (time_of right_time r)

-- the last of some rows, or another
abbrev pub last_or : Row → List Row → Row
last_or other [] = other
last_or other (r ∷ rs) = last_or r rs

-- For each left row, in order, the last right row that it may take behind it, or else what stands for a missing one. The two
-- numbers are the designated columns of both sides.
abbrev pub joined : JoinSpec → ℕ → ℕ → Row → List Row → List Row → List Row
joined spec left_time right_time missing left right = map (λ l. l ++ last_or missing (filter (may_take spec left_time right_time l) right)) left
