-- Positions in order are those of rows in order.
use Rattle.std.proofs.Common.{◌≡◌, ℕ, zero, suc, ◌+◌, ◌-◌, ◌<◌, min, Bool, true, false, not, ◌&&◌, ◌||◌, cond, List, [], ◌∷◌, ◌++◌, Option, Some, None, length, take, drop, map, get_or, filter, fold, All, refl, sym, ap, ap₂, subst, ◌∙◌, arith}
use Rattle.std.specs.Prelude.{slice_get}
use Rattle.std.specs.List.{range_with_len}
use Rattle.std.proofs.lemmas.Option.{slice_get-get_or}
use Rattle.std.proofs.lemmas.List.{append-nil, append_assoc, map-append, map-id, take-map, drop-map, length-map, nil_from_length}
use Rattle.std.proofs.lemmas.List.Elements.{All-append, All-cons, All-drop, All-filter, All-head, All-nil, All-tail, All-take, filter_agree}
use Rattle.std.proofs.lemmas.List.FromFn.{fill_by_all, get_or-range_with_len, length-range_with_len, map-range_with_len_more}
use Rattle.std.proofs.lemmas.List.Sums.{fold-append}
use Rattle.qd_base.specs.declared.cell.Cell.TheVariants as cell
use Rattle.qd_base.specs.Rows.{Row, cell_at, cell_eq}
use Rattle.qd_meaning.specs.declared.parts.AskPlan.{AskPlan}
use Rattle.qd_meaning.specs.declared.parts.Cut.{Cut}
use Rattle.qd_meaning.specs.declared.parts.Cut.TheVariants as cut
use Rattle.qd_meaning.specs.Ordered.{in_direction, limited, ordered, row_before}
use Rattle.qd_meaning.specs.Answer.{finished, output_row}
use Rattle.qd_order.specs.Cuts.{cut_places, shown_rows}
use Rattle.qd_order.specs.Orders.{Keyed, arranged, before, keyed, placed_by}

-- ---- how rows stand

pub get_default : {X Y : Type 0} (f : X → Y) (xs : List X) (i : ℕ) (d : X) → get_or (map f xs) i (f d) ≡ f (get_or xs i d)
get_default f [] i d = refl
get_default f (x ∷ xs) zero d = refl
get_default f (x ∷ xs) (suc i) d = get_default f xs i d

pub rows_before : (rows : List Row) (keys : List (ℕ × Bool)) (i j : ℕ) → row_before keys (get_or rows i []) (get_or rows j []) ≡ before (map (keyed rows) keys) i j
rows_before rows [] i j = refl
rows_before rows (k ∷ ks) i j =
    let at : (n : ℕ) → cell_at (get_or rows n []) k.0 ≡ get_or (map (λ (r : Row). cell_at r k.0) rows) n cell.Null = λ n. sym (get_default (λ (r : Row). cell_at r k.0) rows n []) in
    ap₂ (λ (a b : Bool). a || b) (ap₂ (in_direction k.1) (at i) (at j)) (ap₂ (λ (a b : Bool). a && b) (ap₂ cell_eq (at i) (at j)) (rows_before rows ks i j))

-- ---- images

pub filter-map : {A B : Type 0} (p : B → Bool) (f : A → B) (xs : List A) → filter p (map f xs) ≡ map f (filter (λ x. p (f x)) xs)
filter-map p f [] = refl
filter-map p f (x ∷ xs) = elim (p (f x)) as (λ b. cond b (f x ∷ filter p (map f xs)) (filter p (map f xs)) ≡ map f (cond b (x ∷ filter (λ x. p (f x)) xs) (filter (λ x. p (f x)) xs))) [ true ↦ ap (λ l. f x ∷ l) (filter-map p f xs) | false ↦ filter-map p f xs ]

module _ {X Y : Type 0} (f : X → Y) (lt : X → X → Bool) (by : Y → Y → Bool) (same : (a b : X) → by (f a) (f b) ≡ lt a b) where
  placed_image : (xs : List X) (x : X) → map f (placed_by lt xs x) ≡ placed_by by (map f xs) (f x)
  placed_image xs x =
      map-append f (filter (λ y. not (lt x y)) xs) (x ∷ filter (λ y. lt x y) xs)
      ∙ ap₂ (λ (a b : List Y). a ++ f x ∷ b)
      (ap (map f) (filter_agree (λ y. not (lt x y)) (λ y. not (by (f x) (f y))) (λ y. ap not (sym (same x y))) xs) ∙ sym (filter-map (λ y. not (by (f x) y)) f xs))
      (ap (map f) (filter_agree (λ y. lt x y) (λ y. by (f x) (f y)) (λ y. sym (same x y)) xs) ∙ sym (filter-map (λ y. by (f x) y) f xs))

  fold_image : (ks xs : List X) → map f (fold (placed_by lt) ks xs) ≡ fold (placed_by by) (map f ks) (map f xs)
  fold_image ks [] = refl
  fold_image ks (x ∷ xs) = fold_image (placed_by lt ks x) xs ∙ ap (λ l. fold (placed_by by) l (map f xs)) (placed_image ks x)

  pub arranged_image : (xs : List X) → map f (arranged lt xs) ≡ arranged by (map f xs)
  arranged_image xs = fold_image [] xs

pub rows_again : (rows : List Row) → map (λ i. get_or rows i []) (range_with_len 0 (length rows)) ≡ rows
rows_again rows = sym (fill_by_all (λ i. get_or rows i []) rows (length rows) [] refl (λ k low. refl))

pub ordered_image : (order : List (ℕ × Bool)) (rows : List Row) → map (λ i. get_or rows i []) (arranged (before (map (keyed rows) order)) (range_with_len 0 (length rows))) ≡ ordered order rows
ordered_image order rows = arranged_image (λ i. get_or rows i []) (before (map (keyed rows) order)) (row_before order) (rows_before rows order) (range_with_len 0 (length rows)) ∙ ap (arranged (row_before order)) (rows_again rows)

cut_image : (f : ℕ → Row) (limit : Option Cut) (ps : List ℕ) → map f (cut_places limit ps) ≡ limited limit (map f ps)
cut_image f None ps = refl
cut_image f (Some (cut.First n)) ps = sym (take-map f n ps)
cut_image f (Some (cut.Last n)) ps = sym (drop-map f (length ps - n) ps) ∙ ap (λ m. drop (m - n) (map f ps)) (sym (length-map ps f))
cut_image f (Some (cut.Between a b)) ps = sym (drop-map f a (take b ps)) ∙ ap (drop a) (sym (take-map f b ps))

-- the rows of the positions that are given
pub given_rows : (order : List (ℕ × Bool)) (limit : Option Cut) (rows : List Row) (columns : List Keyed) (n : ℕ) (ps : List ℕ) → columns ≡ map (keyed rows) order → n ≡ length rows
    → ps ≡ cut_places limit (arranged (before columns) (range_with_len 0 n)) → map (λ i. get_or rows i []) ps ≡ limited limit (ordered order rows)
given_rows order limit rows columns n ps are count is =
    ap (map (λ i. get_or rows i [])) (is ∙ ap₂ (λ (ks : List Keyed) m. cut_places limit (arranged (before ks) (range_with_len 0 m))) are count)
    ∙ cut_image (λ i. get_or rows i []) limit (arranged (before (map (keyed rows) order)) (range_with_len 0 (length rows)))
    ∙ ap (limited limit) (ordered_image order rows)

-- the same without keys
pub given_first : (limit : Option Cut) (rows : List Row) (n : ℕ) (ps : List ℕ) → n ≡ length rows → ps ≡ cut_places limit (range_with_len 0 n) → map (λ i. get_or rows i []) ps ≡ limited limit (ordered [] rows)
given_first limit rows n ps count is = given_rows [] limit rows [] n ps refl count (is ∙ ap (cut_places limit) (sym (unmoved (range_with_len 0 n))))
  where
    all : (xs : List ℕ) → filter (λ y. true) xs ≡ xs
    all [] = refl
    all (x ∷ xs) = ap (λ l. x ∷ l) (all xs)

    none : (xs : List ℕ) → filter (λ y. false) xs ≡ []
    none [] = refl
    none (x ∷ xs) = none xs

    unmoved_from : (ks xs : List ℕ) → fold (placed_by (before [])) ks xs ≡ ks ++ xs
    unmoved_from ks [] = sym (append-nil ks)
    unmoved_from ks (x ∷ xs) = unmoved_from (placed_by (before []) ks x) xs ∙ ap (λ l. l ++ xs) (ap₂ (λ (a b : List ℕ). a ++ x ∷ b) (all ks) (none ks)) ∙ append_assoc ks (x ∷ []) xs

    unmoved : (xs : List ℕ) → arranged (before []) xs ≡ xs
    unmoved xs = unmoved_from [] xs

-- ---- positions are those of rows

module _ {X : Type 0} (P : X → Type 0) (lt : X → X → Bool) where
  all_fold : (ks xs : List X) → All P ks → All P xs → All P (fold (placed_by lt) ks xs)
  all_fold ks [] ha hx = ha
  all_fold ks (x ∷ xs) ha hx =
      all_fold (placed_by lt ks x) xs
      (All-append P (filter (λ y. not (lt x y)) ks) (x ∷ filter (λ y. lt x y) ks) (All-filter (λ y. not (lt x y)) P ks ha) (All-cons P x (filter (λ y. lt x y) ks) (All-head P x xs hx) (All-filter (λ y. lt x y) P ks ha)))
      (All-tail P x xs hx)

  pub all_arranged : (xs : List X) → All P xs → All P (arranged lt xs)
  all_arranged xs h = all_fold [] xs (All-nil P) h

all_cut : (P : ℕ → Type 0) (limit : Option Cut) (ps : List ℕ) → All P ps → All P (cut_places limit ps)
all_cut P None ps h = h
all_cut P (Some (cut.First n)) ps h = All-take P n ps h
all_cut P (Some (cut.Last n)) ps h = All-drop P (length ps - n) ps h
all_cut P (Some (cut.Between a b)) ps h = All-drop P a (take b ps) (All-take P b ps h)

range_within : (n : ℕ) → All (λ i. i < n) (range_with_len 0 n)
range_within n = λ k d low. let size = length-range_with_len 0 n in let at = get_or-range_with_len 0 n k d (omega arith) in omega arith

pub given_within : (limit : Option Cut) (columns : List Keyed) (n m : ℕ) (ps : List ℕ) → n ≡ m → ps ≡ cut_places limit (arranged (before columns) (range_with_len 0 n)) → All (λ i. i < m) ps
given_within limit columns n m ps same is =
    let whole = all_cut (λ i. i < n) limit (arranged (before columns) (range_with_len 0 n)) (all_arranged (λ i. i < n) (before columns) (range_with_len 0 n) (range_within n)) in
    subst (λ k. All (λ i. i < k) ps) same (subst (All (λ i. i < n)) (sym is) whole)

pub first_within : (limit : Option Cut) (n m : ℕ) (ps : List ℕ) → n ≡ m → ps ≡ cut_places limit (range_with_len 0 n) → All (λ i. i < m) ps
first_within limit n m ps same is = subst (λ k. All (λ i. i < k) ps) same (subst (All (λ i. i < n)) (sym is) (all_cut (λ i. i < n) limit (range_with_len 0 n) (range_within n)))

-- ---- neighbours

take-range : (n a m : ℕ) → take n (range_with_len a m) ≡ range_with_len a (min m n)
take-range zero a m = ap (range_with_len a) (let least : 0 ≡ min m 0 = omega arith in least)
take-range (suc n) a zero = ap (range_with_len a) (let least : 0 ≡ min 0 (suc n) = omega arith in least)
take-range (suc n) a (suc m) = ap (λ l. a ∷ l) (take-range n (a + 1) m) ∙ ap (range_with_len a) (let least : suc (min m n) ≡ min (suc m) (suc n) = omega arith in least)

drop-range : (n a m : ℕ) → drop n (range_with_len a m) ≡ range_with_len (a + n) (m - n)
drop-range zero a m = ap₂ range_with_len (let same : a ≡ a + 0 = omega arith in same) (let same : m ≡ m - 0 = omega arith in same)
drop-range (suc n) a zero = ap (range_with_len (a + suc n)) (let none : 0 ≡ 0 - suc n = omega arith in none)
drop-range (suc n) a (suc m) = drop-range n (a + 1) m ∙ ap₂ range_with_len (let same : (a + 1) + n ≡ a + suc n = omega arith in same) (let same : m - n ≡ suc m - suc n = omega arith in same)

pub range_at : (from n i : ℕ) → i < length (range_with_len from n) → slice_get (range_with_len from n) i ≡ Some (from + i)
range_at from n i low = let size = length-range_with_len from n in slice_get-get_or (range_with_len from n) i 0 low ∙ ap Some (get_or-range_with_len from n i 0 (omega arith))

pub first_range : (n m to : ℕ) → to ≡ min m n → range_with_len 0 (to - 0) ≡ take n (range_with_len 0 m)
first_range n m to is = ap (range_with_len 0) (let same : to - 0 ≡ min m n = omega arith in same) ∙ sym (take-range n 0 m)

pub last_range : (n m from : ℕ) → from ≡ m - n → range_with_len from (m - from) ≡ drop (length (range_with_len 0 m) - n) (range_with_len 0 m)
last_range n m from is =
    let size = length-range_with_len 0 m in
    ap₂ range_with_len (let same : from ≡ 0 + (length (range_with_len 0 m) - n) = omega arith in same) (let same : m - from ≡ m - (length (range_with_len 0 m) - n) = omega arith in same)
    ∙ sym (drop-range (length (range_with_len 0 m) - n) 0 m)

pub middle_range : (a b m to : ℕ) → to ≡ min m b → range_with_len a (to - a) ≡ drop a (take b (range_with_len 0 m))
middle_range a b m to is =
    ap₂ range_with_len (let same : a ≡ 0 + a = omega arith in same) (ap (λ k. k - a) is) ∙ sym (drop-range a 0 (min m b)) ∙ ap (drop a) (sym (take-range b 0 m))

pub range_more : (n : ℕ) → range_with_len 0 (n + 1) ≡ range_with_len 0 n ++ n ∷ []
range_more n = sym (map-id (range_with_len 0 (n + 1))) ∙ map-range_with_len_more (λ (x : ℕ). x) 0 n n (omega arith) ∙ ap (λ l. l ++ n ∷ []) (map-id (range_with_len 0 n))

-- one position more
pub arranged_next : (lt : ℕ → ℕ → Bool) (n : ℕ) → arranged lt (range_with_len 0 (n + 1)) ≡ placed_by lt (arranged lt (range_with_len 0 n)) n
arranged_next lt n = ap (arranged lt) (range_more n) ∙ fold-append (placed_by lt) [] (range_with_len 0 n) (n ∷ [])

-- ---- the rows of a plan

shown_length : (p : AskPlan) (rows : List Row) → length (shown_rows p rows) ≡ length rows
shown_length p rows = length-map rows (output_row p.picks p.out)

pub plan_given : (p : AskPlan) (rows : List Row) (columns : List Keyed) (n : ℕ) (ps : List ℕ) → columns ≡ map (keyed (shown_rows p rows)) p.order → n ≡ length rows
    → ps ≡ cut_places p.limit (arranged (before columns) (range_with_len 0 n)) → map (λ i. get_or (shown_rows p rows) i []) ps ≡ (finished p rows).rows
plan_given p rows columns n ps are count is = given_rows p.order p.limit (shown_rows p rows) columns n ps are (count ∙ sym (shown_length p rows)) is

pub plan_first : (p : AskPlan) (rows : List Row) (n : ℕ) (ps : List ℕ) → length p.order ≡ 0 → n ≡ length rows → ps ≡ cut_places p.limit (range_with_len 0 n) → map (λ i. get_or (shown_rows p rows) i []) ps ≡ (finished p rows).rows
plan_first p rows n ps none count is =
    given_first p.limit (shown_rows p rows) n ps (count ∙ sym (shown_length p rows)) is ∙ ap (λ (o : List (ℕ × Bool)). limited p.limit (ordered o (shown_rows p rows))) (sym (nil_from_length p.order none))
