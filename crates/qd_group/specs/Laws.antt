-- What holds of all groups, and of the least and the greatest of all values.
use Rattle.std.specs.Prelude.{◌≡◌, ℕ, ◌+◌, ◌<◌, ◌⊎◌, Bool, false, if◌then◌else◌, List, [], ◌∷◌, Option, Some, None, All, AllPairs, Contains, count_by, map}
use Rattle.qd_base.specs.declared.cell.Cell.{Cell}
use Rattle.qd_base.specs.declared.cell.Cell.TheVariants as cell
use Rattle.qd_base.specs.Rows.{Row}
use Rattle.qd_value.specs.declared.bound.Bound.{Bound}
use Rattle.qd_value.specs.Cells.{Class, class_of}
use Rattle.qd_meaning.specs.declared.parts.Agg.TheVariants as agg
use Rattle.qd_meaning.specs.Grouped.{aggregate, groups_of, is_less, key_of, same_key, values}

-- how many keys stand before the first one that is the same
abbrev pub first_at : Row → List Row → ℕ
first_at key [] = 0
first_at key (k ∷ ks) = if same_key key k then 0 else first_at key ks + 1

-- Groups split rows: no two have the same key, each row is in exactly one, and they stand in the order in which rows of them
-- first appear.
pub record GroupsSplitRows : Type 0 where
  pub distinct : (keys : List Bound) (rows : List Row) → AllPairs (λ a b. same_key a b ≡ false) (groups_of keys rows)
  pub one : (keys : List Bound) (rows : List Row) (row : Row) → Contains rows row → count_by (λ key. same_key key (key_of keys row)) (groups_of keys rows) ≡ 1
  pub order : (keys : List Bound) (rows : List Row) → AllPairs (λ a b. first_at a (map (key_of keys) rows) < first_at b (map (key_of keys) rows)) (groups_of keys rows)

-- a value of a class, or NULL
abbrev pub IsOf : Class → Cell → Type 0
IsOf class c = (class_of c ≡ None) ⊎ (class_of c ≡ Some class)

-- A cell that goes first among some: it is one of them, and none of them goes before it; it is NULL where they all are.
pub record GoesFirst (before : Cell → Cell → Bool) (cells : List Cell) (best : Cell) : Type 0 where
  pub member : (best ≡ cell.Null) ⊎ Contains cells best
  pub null : best ≡ cell.Null → All (λ c. c ≡ cell.Null) cells
  pub none_before : All (λ c. before c best ≡ false) cells

-- `min` and `max` of values of one class go first among them.
pub record ExtremesGoFirst : Type 0 where
  pub least : (class : Class) (e : Bound) (rows : List Row) → All (IsOf class) (values e rows) → GoesFirst is_less (values e rows) (aggregate rows (agg.Min e))
  pub greatest : (class : Class) (e : Bound) (rows : List Row) → All (IsOf class) (values e rows) → GoesFirst (λ a b. is_less b a) (values e rows) (aggregate rows (agg.Max e))
