-- Rows in order of time stay so where some of them are kept, and where others stand beside them.
use Rattle.std.proofs.Common.{◌≡◌, ℕ, ◌<◌, ◌≤◌, Bool, true, false, cond, List, [], ◌∷◌, ◌++◌, All, length, map, sym, ap, subst, arith, inl, inr}
use Rattle.std.specs.List.{AllByRecursion, filter, list_any}
use Rattle.std.proofs.lemmas.Bool.{cases_lt}
use Rattle.std.proofs.lemmas.List.{get_or_append_left, get_or_past}
use Rattle.std.proofs.lemmas.List.Elements.{All-filter, All-from_recursion, recursion_from_All}
use Rattle.qd_base.specs.declared.cell.Cell.TheVariants as cell
use Rattle.qd_base.specs.declared.limits.TheConstants.{MAX_TIME}
use Rattle.qd_base.specs.declared.schema.Schema.{Schema}
use Rattle.qd_base.specs.Laws.{IsInOrder}
use Rattle.qd_base.specs.Lawful.{IsRowOf}
use Rattle.qd_base.specs.Rows.{Row, same_on, time_in, time_of}
use Rattle.qd_base.proofs.Order.{in_order-filter}
use Rattle.qd_meaning.specs.Latest.{latest}
use Rattle.qd_query.specs.Answers.{AreTimed}

-- ---- the rows that pass a test

pub timed_filter : (col : ℕ) (p : Row → Bool) (rows : List Row) → AreTimed col rows → AreTimed col (filter p rows)
timed_filter col p rows h = record {
  order = in_order-filter col p rows h.order;
  timely = All-filter p (λ (r : Row). time_of col r ≤ MAX_TIME) rows h.timely;
}

-- ---- the last rows of keys

module _ (keys : List ℕ) where
  one_all : (P : Row → Type 0) (b : Bool) (r : Row) (rs : List Row) → P r → AllByRecursion P rs → AllByRecursion P (cond b rs (r ∷ rs))
  one_all P true r rs h hs = hs
  one_all P false r rs h hs = (h, hs)

  latest_all : (P : Row → Type 0) (rows : List Row) → AllByRecursion P rows → AllByRecursion P (latest keys rows)
  latest_all P [] h = tt
  latest_all P (r ∷ rs) h = one_all P (list_any (same_on keys r) rs) r (latest keys rs) h.0 (latest_all P rs h.1)

  one_order : (col : ℕ) (b : Bool) (r : Row) (rs : List Row) → AllByRecursion (λ x. time_of col r ≤ time_of col x) rs → IsInOrder col rs → IsInOrder col (cond b rs (r ∷ rs))
  one_order col true r rs h hs = hs
  one_order col false r rs h hs = (h, hs)

  latest_order : (col : ℕ) (rows : List Row) → IsInOrder col rows → IsInOrder col (latest keys rows)
  latest_order col [] h = tt
  latest_order col (r ∷ rs) h = one_order col (list_any (same_on keys r) rs) r (latest keys rs) (latest_all (λ x. time_of col r ≤ time_of col x) rs h.0) (latest_order col rs h.1)

  pub timed_latest : (col : ℕ) (rows : List Row) → AreTimed col rows → AreTimed col (latest keys rows)
  timed_latest col rows h = record {
    order = latest_order col rows h.order;
    timely = All-from_recursion (λ (r : Row). time_of col r ≤ MAX_TIME) (latest keys rows) (latest_all (λ r. time_of col r ≤ MAX_TIME) rows (recursion_from_All (λ (r : Row). time_of col r ≤ MAX_TIME) rows h.timely));
  }

-- ---- rows with others beside them

-- a row that has its time has a cell for it
time_within : (s : Schema) (row : Row) → IsRowOf s row → s.time_col < length row
time_within s row h = elim (cases_lt s.time_col (length row)) [
  | inl low ↦ low
  | inr high ↦ absurd (h.timed (get_or_past row s.time_col cell.Null high))
]

time_stays : (col : ℕ) (r more : Row) → col < length r → time_of col (r ++ more) ≡ time_of col r
time_stays col r more low = ap time_in (get_or_append_left r more cell.Null col low)

module _ (s : Schema) (beside : Row → Row) where
  abbrev col : ℕ
  col = s.time_col

  same_time : (r : Row) → IsRowOf s r → time_of col (r ++ beside r) ≡ time_of col r
  same_time r h = time_stays col r (beside r) (time_within s r h)

  later : (t : ℕ) (rows : List Row) → AllByRecursion (IsRowOf s) rows → AllByRecursion (λ x. t ≤ time_of col x) rows → AllByRecursion (λ x. t ≤ time_of col x) (map (λ r. r ++ beside r) rows)
  later t [] fit h = tt
  later t (r ∷ rs) fit h = (let e = same_time r fit.0 in omega (arith, e, h.0), later t rs fit.1 h.1)

  earlier : (t : ℕ) (rows : List Row) → AllByRecursion (IsRowOf s) rows → AllByRecursion (λ x. time_of col x ≤ t) rows → AllByRecursion (λ x. time_of col x ≤ t) (map (λ r. r ++ beside r) rows)
  earlier t [] fit h = tt
  earlier t (r ∷ rs) fit h = (let e = same_time r fit.0 in omega (arith, e, h.0), earlier t rs fit.1 h.1)

  beside_order : (rows : List Row) → AllByRecursion (IsRowOf s) rows → IsInOrder col rows → IsInOrder col (map (λ r. r ++ beside r) rows)
  beside_order [] fit h = tt
  beside_order (r ∷ rs) fit h = (subst (λ (t : ℕ). AllByRecursion (λ x. t ≤ time_of col x) (map (λ y. y ++ beside y) rs)) (sym (same_time r fit.0)) (later (time_of col r) rs fit.1 h.0), beside_order rs fit.1 h.1)

  pub timed_beside : (rows : List Row) → All (IsRowOf s) rows → AreTimed col rows → AreTimed col (map (λ r. r ++ beside r) rows)
  timed_beside rows fit h =
      let each = recursion_from_All (IsRowOf s) rows fit in
      record {
        order = beside_order rows each h.order;
        timely = All-from_recursion (λ (r : Row). time_of col r ≤ MAX_TIME) (map (λ r. r ++ beside r) rows) (earlier MAX_TIME rows each (recursion_from_All (λ (r : Row). time_of col r ≤ MAX_TIME) rows h.timely));
      }
