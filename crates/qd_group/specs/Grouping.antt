-- Rows by groups, as numbers.
use Rattle.std.specs.Prelude.{◌≡◌, ℕ, zero, suc, ◌<◌, ◌==◌, ◌&&◌, Bool, List, [], ◌∷◌, ◌++◌, Option, Some, None, length, map, if◌then◌else◌, slice_index, slice_index_or}
use Rattle.std.specs.List.{list_any, range_with_len}
use Rattle.std.specs.Option.{option_map}
use Rattle.std.specs.Ordering.{is_eq}
use Rattle.std.specs.declared.cmp.Ordering.{Ordering}
use Rattle.qd_base.specs.declared.cell.Cell.{Cell}
use Rattle.qd_base.specs.Rows.{Row, cell_eq}
use Rattle.qd_meaning.specs.declared.parts.Agg.{Agg}
use Rattle.qd_meaning.specs.Grouped.{aggregate, key_of, same_key}
use Rattle.qd_expr.specs.Passing.{row_in}
use Rattle.qd_rows.specs.Sets.{ResultRows}
use Rattle.qd_value.specs.declared.bound.Bound.{Bound}
use Rattle.qd_value.specs.Value.{value}

-- the places below a number that are the same as no earlier one, in order
abbrev pub leaders : (ℕ → ℕ → Bool) → ℕ → List ℕ
leaders same zero = []
leaders same (suc n) = if list_any (λ i. same i n) (leaders same n) then leaders same n else leaders same n ++ n ∷ []

-- the position of the first item that passes a test
abbrev pub spot : {X : Type 0} → (X → Bool) → List X → Option ℕ
spot p [] = None
spot p (x ∷ xs) = if p x then Some 0 else option_map (λ k. suc k) (spot p xs)

-- so many rows by groups: the first row of each group, and for each row the number of its group
pub record AreGroups (same : ℕ → ℕ → Bool) (n : ℕ) (numbers firsts : List ℕ) : Type 0 where
  pub lead : firsts ≡ leaders same n
  pub count : length numbers ≡ n
  pub each : (i : ℕ) → i < n → spot (λ f. same f i) firsts ≡ Some (slice_index numbers i)

-- whether the items of two places are equal
abbrev pub same_items : {K : Type 0} → (K → K → Ordering) → List K → K → ℕ → ℕ → Bool
same_items cmp keys d i j = is_eq (cmp (slice_index_or keys i d) (slice_index_or keys j d))

-- whether two places have the same number in both of two lists
abbrev pub same_numbers : List ℕ → List ℕ → ℕ → ℕ → Bool
same_numbers a b i j = (slice_index a i == slice_index a j) && (slice_index b i == slice_index b j)

-- whether two rows of a set have equal values of an expression
abbrev pub same_values : Bound → ResultRows → ℕ → ℕ → Bool
same_values e s i j = cell_eq (value e (row_in s i)) (value e (row_in s j))

-- whether two rows of a set have equal keys
abbrev pub same_rows : List Bound → ResultRows → ℕ → ℕ → Bool
same_rows keys s i j = same_key (key_of keys (row_in s i)) (key_of keys (row_in s j))

-- the items of a group, by the items' numbers
abbrev pub members : {X : Type 0} → ℕ → List ℕ → List X → List X
members n [] xs = []
members n (m ∷ ms) [] = []
members n (m ∷ ms) (x ∷ xs) = if m == n then x ∷ members n ms xs else members n ms xs

-- what an aggregate makes of the rows of each group
abbrev pub answers_of : List ℕ → ℕ → List Row → Agg → List Cell
answers_of numbers groups rows agg = map (λ n. aggregate (members n numbers rows) agg) (range_with_len 0 groups)
