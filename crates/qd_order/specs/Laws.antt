-- What holds of all rows in order.
use Rattle.std.specs.Prelude.{◌≡◌, ℕ, Bool, false, List, All, AllPairs, Contains, filter, map, IsPermutation}
use Rattle.std.specs.List.Sorted.{ties}
use Rattle.qd_base.specs.Rows.{Row, cell_at}
use Rattle.qd_meaning.specs.Ordered.{ordered, row_before}
use Rattle.qd_order.specs.Orders.{IsOfOneClass}

-- for each key the rows have values of one class, or NULL, as in a column
abbrev pub AreOfOneClass : List (ℕ × Bool) → List Row → Type 0
AreOfOneClass keys rows = All (λ k. IsOfOneClass (map (λ r. cell_at r k.0) rows)) keys

-- ORDER BY sorts: its rows are the same ones, no row stands before an earlier one, and the rows that tie with one stand as
-- they stood before.
pub record OrderedSorts : Type 0 where
  pub permutation : (keys : List (ℕ × Bool)) (rows : List Row) → IsPermutation rows (ordered keys rows)
  pub sorted : (keys : List (ℕ × Bool)) (rows : List Row) → AreOfOneClass keys rows → AllPairs (λ a b. row_before keys b a ≡ false) (ordered keys rows)
  pub stable :
      (keys : List (ℕ × Bool)) (rows : List Row) (row : Row) → AreOfOneClass keys rows → Contains rows row
      → filter (ties (row_before keys) row) (ordered keys rows) ≡ filter (ties (row_before keys) row) rows
