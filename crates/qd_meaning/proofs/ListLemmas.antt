-- Joins and last rows, over lists.
use Rattle.std.proofs.Common.{◌≡◌, ℕ, Bool, true, false, ◌&&◌, ◌||◌, if◌then◌else◌, List, [], ◌∷◌, ◌++◌, refl, sym, ap, ◌∙◌, true≢false}
use Rattle.std.specs.List.{AllByRecursion, IsDistinct, filter, list_any}
use Rattle.std.proofs.lemmas.List.{map-append, length-map}
use Rattle.std.proofs.lemmas.List.Elements.{filter-append}
use Rattle.qd_base.specs.Rows.{Row, cell_eq, cell_at, same_on}
use Rattle.qd_base.proofs.Lists.{each-weaker, IsDistinct-cons, IsDistinct-nil}
use Rattle.qd_value.proofs.Orders.{cells-equal}
use Rattle.qd_meaning.specs.Joined.{last_or, may_take}
use Rattle.qd_meaning.specs.Latest.{latest}
use Rattle.qd_meaning.specs.ListLaws.{JoinsTakeTheLast, LatestRowsStand}

-- ---- joins

none-kept : (p : Row → Bool) (xs : List Row) → AllByRecursion (λ x. p x ≡ false) xs → filter p xs ≡ []
none-kept p [] h = refl
none-kept p (x ∷ xs) h = rw h.0 (none-kept p xs h.1)

last-behind : (other : Row) (xs : List Row) (r : Row) → last_or other (xs ++ r ∷ []) ≡ r
last-behind other [] r = refl
last-behind other (x ∷ xs) r = last-behind x xs r

first-kept : (p : Row → Bool) (r : Row) (back : List Row) → p r ≡ true → AllByRecursion (λ x. p x ≡ false) back → filter p (r ∷ back) ≡ r ∷ []
first-kept p r back e h = rw e (ap (λ (xs : List Row). r ∷ xs) (none-kept p back h))

kept-last : (p : Row → Bool) (other r : Row) (front back : List Row) → p r ≡ true → AllByRecursion (λ x. p x ≡ false) back → last_or other (filter p (front ++ r ∷ back)) ≡ r
kept-last p other r front back e h =
    ap (last_or other) (filter-append p front (r ∷ back) ∙ ap (λ (xs : List Row). filter p front ++ xs) (first-kept p r back e h)) ∙ last-behind other (filter p front) r

pub joins-take-the-last : JoinsTakeTheLast
joins-take-the-last =
    record {
      count = λ spec lt rt missing left right. length-map left _;
      one_by_one = λ spec lt rt missing front back right. map-append _ front back;
      last = λ spec lt rt missing l r front back e h. ap (λ (x : Row). (l ++ x) ∷ []) (kept-last (may_take spec lt rt l) missing r front back e h);
      none = λ spec lt rt missing l right h. ap (λ (xs : List Row). (l ++ last_or missing xs) ∷ []) (none-kept (may_take spec lt rt l) right h);
    }

-- ---- rows with the same keys

both : (a b : Bool) → (a && b) ≡ true → (a ≡ true) × (b ≡ true)
both true b e = (refl, e)
both false b e = absurd (true≢false (sym e))

same-self : (keys : List ℕ) (a : Row) → same_on keys a a ≡ true
same-self [] a = refl
same-self (k ∷ ks) a = rw ((cells-equal (cell_at a k) (cell_at a k)).1 refl) (same-self ks a)

same-through : (keys : List ℕ) (a b c : Row) → same_on keys a b ≡ true → same_on keys b c ≡ true → same_on keys a c ≡ true
same-through [] a b c h k = refl
same-through (n ∷ ns) a b c h k =
    let ab = both (cell_eq (cell_at a n) (cell_at b n)) (same_on ns a b) h in
    let bc = both (cell_eq (cell_at b n) (cell_at c n)) (same_on ns b c) k in
    rw ((cells-equal (cell_at a n) (cell_at c n)).1 ((cells-equal (cell_at a n) (cell_at b n)).0 ab.0 ∙ (cells-equal (cell_at b n) (cell_at c n)).0 bc.0)) (same-through ns a b c ab.1 bc.1)

-- ---- last rows

none-any : (p : Row → Bool) (xs : List Row) → list_any p xs ≡ false → AllByRecursion (λ x. p x ≡ false) xs
none-any p [] e = tt
none-any p (x ∷ xs) e = go (p x) refl (none-any p xs) e
  where
    go : (b : Bool) → p x ≡ b → (list_any p xs ≡ false → AllByRecursion (λ y. p y ≡ false) xs) → (b || list_any p xs) ≡ false → AllByRecursion (λ y. p y ≡ false) (x ∷ xs)
    go true h rest e = absurd (true≢false e)
    go false h rest e = (h, rest e)

module _ (keys : List ℕ) where
  each-cond : (P : Row → Type 0) (b : Bool) (r : Row) (xs : List Row) → P r → AllByRecursion P xs → AllByRecursion P (if b then xs else r ∷ xs)
  each-cond P true r xs h k = k
  each-cond P false r xs h k = (h, k)

  each-latest : (P : Row → Type 0) (rows : List Row) → AllByRecursion P rows → AllByRecursion P (latest keys rows)
  each-latest P [] h = tt
  each-latest P (r ∷ rs) h = each-cond P (list_any (same_on keys r) rs) r (latest keys rs) h.0 (each-latest P rs h.1)

  apart-cond : (r : Row) (rs : List Row) (b : Bool) → list_any (same_on keys r) rs ≡ b → IsDistinct (same_on keys) (latest keys rs) → IsDistinct (same_on keys) (if b then latest keys rs else r ∷ latest keys rs)
  apart-cond r rs true e d = d
  apart-cond r rs false e d = IsDistinct-cons (same_on keys) r (latest keys rs) (each-latest (λ y. same_on keys r y ≡ false) rs (none-any (same_on keys r) rs e)) d

  pub latest-apart : (rows : List Row) → IsDistinct (same_on keys) (latest keys rows)
  latest-apart [] = IsDistinct-nil (same_on keys)
  latest-apart (r ∷ rs) = apart-cond r rs (list_any (same_on keys r) rs) refl (latest-apart rs)

  through : (x r : Row) → same_on keys x r ≡ true → (rows : List Row) → list_any (same_on keys r) rows ≡ true → list_any (same_on keys x) rows ≡ true
  through x r same [] e = e
  through x r same (y ∷ ys) e = go (same_on keys r y) refl (through x r same ys) e
    where
      go : (b : Bool) → same_on keys r y ≡ b → (list_any (same_on keys r) ys ≡ true → list_any (same_on keys x) ys ≡ true) → (b || list_any (same_on keys r) ys) ≡ true
          → (same_on keys x y || list_any (same_on keys x) ys) ≡ true
      go true h rest e = rw (same-through keys x r y same h) refl
      go false h rest e = or-right (same_on keys x y) (list_any (same_on keys x) ys) (rest e)
        where
          or-right : (a b : Bool) → b ≡ true → (a || b) ≡ true
          or-right true b h = refl
          or-right false b h = h

  member : (x : Row) (rows : List Row) → list_any (same_on keys x) rows ≡ true → list_any (same_on keys x) (latest keys rows) ≡ true
  member x [] e = e
  member x (r ∷ rs) e = go (list_any (same_on keys r) rs) (same_on keys x r) refl refl (member x rs) e
    where
      go : (b c : Bool) → list_any (same_on keys r) rs ≡ b → same_on keys x r ≡ c → (list_any (same_on keys x) rs ≡ true → list_any (same_on keys x) (latest keys rs) ≡ true)
          → (c || list_any (same_on keys x) rs) ≡ true → list_any (same_on keys x) (if b then latest keys rs else r ∷ latest keys rs) ≡ true
      go true true later same rest e = rest (through x r same rs later)
      go true false later same rest e = rest e
      go false true later same rest e = rw same refl
      go false false later same rest e = rw same (rest e)

  or_true : (a b : Bool) → b ≡ true → (a || b) ≡ true
  or_true true b h = refl
  or_true false b h = h

  itself : (rows : List Row) → AllByRecursion (λ r. list_any (same_on keys r) rows ≡ true) rows
  itself [] = tt
  itself (x ∷ xs) = (
    rw (same-self keys x) refl,
    each-weaker (λ r. list_any (same_on keys r) xs ≡ true) (λ r. list_any (same_on keys r) (x ∷ xs) ≡ true) (λ r h. or_true (same_on keys r x) (list_any (same_on keys r) xs) h) xs (itself xs),
  )

  pub latest-each : (rows : List Row) → AllByRecursion (λ r. list_any (same_on keys r) (latest keys rows) ≡ true) rows
  latest-each rows = each-weaker (λ r. list_any (same_on keys r) rows ≡ true) (λ r. list_any (same_on keys r) (latest keys rows) ≡ true) (λ r h. member r rows h) rows (itself rows)

pub latest-rows-stand : LatestRowsStand
latest-rows-stand = record { apart = latest-apart; each = latest-each }
