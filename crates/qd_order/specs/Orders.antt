-- Positions of rows in order of the rows' keys. QuestDB documentation, "ORDER BY".
use Rattle.std.specs.Prelude.{◌≡◌, ℕ, ◌==◌, Bool, true, false, not, ◌&&◌, ◌||◌, if◌then◌else◌, ℤ, pos, List, [], ◌∷◌, ◌++◌, All, filter, fold, map, slice_index_or}
use Rattle.std.specs.Cmp.Lexicographic.{slice_cmp}
use Rattle.std.specs.Ordering.{nat_cmp, int_cmp, is_lt, ordering_then}
use Rattle.std.specs.declared.cmp.Ordering.{Ordering}
use Rattle.std.specs.declared.cmp.Ordering.TheVariants.{Equal}
use Rattle.qd_base.specs.declared.cell.Cell.{Cell}
use Rattle.qd_base.specs.declared.cell.Cell.TheVariants as cell
use Rattle.qd_base.specs.Rows.{Row, cell_at, cell_eq}
use Rattle.qd_value.specs.Cells.{is_null}
use Rattle.qd_meaning.specs.Ordered.{in_direction}

-- ---- items in order of a test

-- one item more behind all that it doesn't stand before
abbrev pub placed_by : {X : Type 0} → (X → X → Bool) → List X → X → List X
placed_by lt xs x = filter (λ y. not (lt x y)) xs ++ x ∷ filter (λ y. lt x y) xs

-- items in order; ties keep their order
abbrev pub arranged : {X : Type 0} → (X → X → Bool) → List X → List X
arranged lt xs = fold (placed_by lt) [] xs

-- ---- what rows have for keys

-- what the rows have for a key, and whether its greatest value comes first
abbrev pub Keyed : Type 0
Keyed = List Cell × Bool

abbrev pub keyed : List Row → ℕ × Bool → Keyed
keyed rows k = (map (λ r. cell_at r k.0) rows, k.1)

abbrev pub cell_in : Keyed → ℕ → Cell
cell_in k i = slice_index_or k.0 i cell.Null

-- whether the row of a position stands before that of another: the first key on which they differ decides
abbrev pub before : List Keyed → ℕ → ℕ → Bool
before [] i j = false
before (k ∷ ks) i j = in_direction k.1 (cell_in k i) (cell_in k j) || (cell_eq (cell_in k i) (cell_in k j) && before ks i j)

-- ---- how two values stand, whatever they are

abbrev pub class_of : Cell → ℕ
class_of cell.Null = 0
class_of (cell.Long x) = 1
class_of (cell.Bool x) = 2
class_of (cell.Text x) = 3
class_of (cell.Time x) = 4

abbrev pub number_in : Cell → ℤ
number_in (cell.Long x) = x
number_in _ = pos 0

abbrev pub size_in : Cell → ℕ
size_in (cell.Bool x) = if x then 1 else 0
size_in (cell.Time x) = x
size_in _ = 0

abbrev pub text_in : Cell → List ℕ
text_in (cell.Text x) = x
text_in _ = []

-- NULL is least, and values of several classes stand by class
abbrev pub cell_cmp : Cell → Cell → Ordering
cell_cmp a b = ordering_then (nat_cmp (class_of a) (class_of b)) (ordering_then (int_cmp (number_in a) (number_in b)) (ordering_then (nat_cmp (size_in a) (size_in b)) (slice_cmp nat_cmp (text_in a) (text_in b))))

abbrev pub keyed_cmp : Keyed → ℕ → ℕ → Ordering
keyed_cmp k i j = if k.1 then cell_cmp (cell_in k j) (cell_in k i) else cell_cmp (cell_in k i) (cell_in k j)

abbrev pub compared : List Keyed → ℕ → ℕ → Ordering
compared [] i j = Equal
compared (k ∷ ks) i j = ordering_then (keyed_cmp k i j) (compared ks i j)

-- two values of which one is NULL, or which are of one class
abbrev pub goes_with : Cell → Cell → Bool
goes_with a b = is_null b || (class_of a == class_of b)

-- values that all go with one of them
abbrev pub IsOfOneClass : List Cell → Type 0
IsOfOneClass cells = (lead : Cell) × All (λ c. goes_with lead c ≡ true) cells

-- whether the order of positions by comparison is that of the meaning
abbrev pub OrdersAlike : List Keyed → Type 0
OrdersAlike ks = (i j : ℕ) → is_lt (compared ks i j) ≡ before ks i j
