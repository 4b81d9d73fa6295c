-- The last rows are those behind which no row has their keys.
use Rattle.std.proofs.Common.{◌≡◌, ℕ, Bool, true, false, ◌||◌, if◌then◌else◌, List, [], ◌∷◌, ◌++◌, refl, ap, ◌∙◌, true≢false}
use Rattle.std.specs.List.{AllByRecursion, list_any}
use Rattle.qd_base.specs.Rows.{Row, same_on}
use Rattle.qd_base.proofs.Lists.{each-weaker}
use Rattle.qd_meaning.specs.Latest.{latest}
use Rattle.qd_latest.specs.Laws.{IsLastOfKeys, LatestRowsAreLast}

module _ (keys : List ℕ) where
  none_any : (p : Row → Bool) (xs : List Row) → list_any p xs ≡ false → AllByRecursion (λ x. p x ≡ false) xs
  none_any p [] e = tt
  none_any p (x ∷ xs) e = go (p x) refl (none_any p xs) e
    where
      go : (b : Bool) → p x ≡ b → (list_any p xs ≡ false → AllByRecursion (λ y. p y ≡ false) xs) → (b || list_any p xs) ≡ false → AllByRecursion (λ y. p y ≡ false) (x ∷ xs)
      go true h rest e = absurd (true≢false e)
      go false h rest e = (h, rest e)

  any_none : (p : Row → Bool) (xs : List Row) → AllByRecursion (λ x. p x ≡ false) xs → list_any p xs ≡ false
  any_none p [] h = refl
  any_none p (x ∷ xs) h = ap (λ b. b || list_any p xs) h.0 ∙ any_none p xs h.1

  behind : (r : Row) (rows : List Row) (x : Row) → IsLastOfKeys keys rows x → IsLastOfKeys keys (r ∷ rows) x
  behind r rows x h = record { front = r ∷ h.front; back = h.back; there = ap (λ (l : List Row). r ∷ l) h.there; last = h.last }

  pub each-last : (rows : List Row) → AllByRecursion (IsLastOfKeys keys rows) (latest keys rows)
  each-last [] = tt
  each-last (r ∷ rs) = by (list_any (same_on keys r) rs) refl (each-weaker (IsLastOfKeys keys rs) (IsLastOfKeys keys (r ∷ rs)) (behind r rs) (latest keys rs) (each-last rs))
    where
      by : (b : Bool) → list_any (same_on keys r) rs ≡ b → AllByRecursion (IsLastOfKeys keys (r ∷ rs)) (latest keys rs) → AllByRecursion (IsLastOfKeys keys (r ∷ rs)) (if b then latest keys rs else r ∷ latest keys rs)
      by true e rest = rest
      by false e rest = (record { front = []; back = rs; there = refl; last = none_any (same_on keys r) rs e }, rest)

  pub all-last : (front back : List Row) (r : Row) → AllByRecursion (λ x. same_on keys r x ≡ false) back → (before : List Row) × (latest keys (front ++ r ∷ back) ≡ before ++ r ∷ latest keys back)
  all-last [] back r none = ([], ap (λ b. if b then latest keys back else r ∷ latest keys back) (any_none (same_on keys r) back none))
  all-last (x ∷ xs) back r none = by (list_any (same_on keys x) (xs ++ r ∷ back)) refl (all-last xs back r none)
    where
      by : (b : Bool) → list_any (same_on keys x) (xs ++ r ∷ back) ≡ b → (before : List Row) × (latest keys (xs ++ r ∷ back) ≡ before ++ r ∷ latest keys back)
          → (before : List Row) × ((if b then latest keys (xs ++ r ∷ back) else x ∷ latest keys (xs ++ r ∷ back)) ≡ before ++ r ∷ latest keys back)
      by true e rest = rest
      by false e rest = (x ∷ rest.0, ap (λ (l : List Row). x ∷ l) rest.1)

pub latest-rows-are-last : LatestRowsAreLast
latest-rows-are-last = record { each = each-last; all = all-last }
