-- Output names that are taken, and the numbers behind them.
use Rattle.std.specs.Prelude.{◌≡◌, ℕ, ◌<◌, ◌≤◌, true, false, List, [], length, map, slice_index, slice_index_or}
use Rattle.qd_base.specs.declared.schema.Col.{Col}
use Rattle.qd_meaning.specs.Outputs.{is_taken, numbered}

-- the names of columns
abbrev pub names : List Col → List (List ℕ)
names cols = map (λ (c : Col). c.name) cols

-- up to a number all numbers make a name that is taken
abbrev pub IsTried : List (List ℕ) → List ℕ → ℕ → Type 0
IsTried taken name number = (k : ℕ) → 1 ≤ k → k ≤ number → is_taken taken (numbered name k) ≡ true

-- for each name a number up to which it was tried
pub record AreTried (taken : List (List ℕ)) (tried : List ℕ) : Type 0 where
  pub size : length tried ≡ length taken
  pub each : (i : ℕ) → i < length taken → IsTried taken (slice_index_or taken i []) (slice_index tried i)

-- the least number that makes a name new, and at most as many as names are taken
pub record IsLeastNew (taken : List (List ℕ)) (name : List ℕ) (number : ℕ) : Type 0 where
  pub low : 1 ≤ number
  pub few : number ≤ length taken
  pub is_new : is_taken taken (numbered name number) ≡ false
  pub others : (k : ℕ) → 1 ≤ k → k < number → is_taken taken (numbered name k) ≡ true
