-- Filters of lists in order, and times between two moments.
use Rattle.std.proofs.Common.{◌≡◌, ℕ, zero, suc, ◌+◌, ◌-◌, ◌<◌, ◌≤◌, Bool, true, false, cond, leb, List, [], ◌∷◌, length, map, take, drop, get_or, refl, sym, ap, ◌∙◌, arith, All, slice_range}
use Rattle.std.specs.Prelude.{filter, ◌&&◌}
use Rattle.std.proofs.lemmas.Bool.{leb-true, le-leb, lt-leb, true≢false}
use Rattle.qd_base.specs.Rows.{Row, time_of}
use Rattle.qd_scan.specs.Scans.{IsBetween}
use Rattle.qd_scan.specs.Sources.{rows_between}

-- a test that items pass from one place on, so many of them, and nowhere else
pub filter_part : {X : Type 0} (p : X → Bool) (xs : List X) (from n : ℕ) → from + n ≤ length xs
    → ((k : ℕ) (d : X) → k < from → p (get_or xs k d) ≡ false)
    → ((k : ℕ) (d : X) → from ≤ k → k < from + n → p (get_or xs k d) ≡ true)
    → ((k : ℕ) (d : X) → from + n ≤ k → k < length xs → p (get_or xs k d) ≡ false)
    → filter p xs ≡ take n (drop from xs)
filter_part p [] zero zero h low in' high = refl
filter_part p [] zero (suc n) h low in' high = absurd (omega arith)
filter_part p [] (suc from) n h low in' high = absurd (omega arith)
filter_part p (x ∷ xs) zero zero h low in' high =
    ap (λ t. cond t (x ∷ filter p xs) (filter p xs)) (high zero x (omega arith) (omega arith))
    ∙ filter_part p xs zero zero (omega arith) (λ k d lt. absurd (omega arith)) (λ k d ge lt. absurd (omega arith)) (λ k d ge lt. high (suc k) d (omega arith) (omega arith))
filter_part p (x ∷ xs) zero (suc n) h low in' high =
    ap (λ t. cond t (x ∷ filter p xs) (filter p xs)) (in' zero x (omega arith) (omega arith))
    ∙ ap (λ l. x ∷ l) (filter_part p xs zero n (omega arith) (λ k d lt. absurd (omega arith)) (λ k d ge lt. in' (suc k) d (omega arith) (omega arith)) (λ k d ge lt. high (suc k) d (omega arith) (omega arith)))
filter_part p (x ∷ xs) (suc from) n h low in' high =
    ap (λ t. cond t (x ∷ filter p xs) (filter p xs)) (low zero x (omega arith))
    ∙ filter_part p xs from n (omega arith) (λ k d lt. low (suc k) d (omega arith)) (λ k d ge lt. in' (suc k) d (omega arith) (omega arith)) (λ k d ge lt. high (suc k) d (omega arith) (omega arith))

pub filter_none : {X : Type 0} (p : X → Bool) (xs : List X) → All (λ x. p x ≡ false) xs → filter p xs ≡ []
filter_none p [] h = refl
filter_none p (x ∷ xs) h = ap (λ t. cond t (x ∷ filter p xs) (filter p xs)) (h zero x (omega arith)) ∙ filter_none p xs (λ k d lt. h (suc k) d (omega arith))

pub filter_whole : {X : Type 0} (p : X → Bool) (xs : List X) → All (λ x. p x ≡ true) xs → filter p xs ≡ xs
filter_whole p [] h = refl
filter_whole p (x ∷ xs) h = ap (λ t. cond t (x ∷ filter p xs) (filter p xs)) (h zero x (omega arith)) ∙ ap (λ l. x ∷ l) (filter_whole p xs (λ k d lt. h (suc k) d (omega arith)))

-- the test of a time
abbrev pub is_between : ℕ → ℕ → ℕ → Row → Bool
is_between col lo hi r = leb lo (time_of col r) && leb (time_of col r) hi

and_false : (b : Bool) → (b && false) ≡ false
and_false true = refl
and_false false = refl

pub passes_between : (col lo hi : ℕ) (r : Row) → lo ≤ time_of col r → time_of col r ≤ hi → is_between col lo hi r ≡ true
passes_between col lo hi r low high = ap (λ b. b && leb (time_of col r) hi) (le-leb lo (time_of col r) low) ∙ le-leb (time_of col r) hi high

pub fails_before : (col lo hi : ℕ) (r : Row) → time_of col r < lo → is_between col lo hi r ≡ false
fails_before col lo hi r low = ap (λ b. b && leb (time_of col r) hi) (lt-leb lo (time_of col r) low)

pub fails_behind : (col lo hi : ℕ) (r : Row) → hi < time_of col r → is_between col lo hi r ≡ false
fails_behind col lo hi r high = ap (λ b. leb lo (time_of col r) && b) (lt-leb (time_of col r) hi high) ∙ and_false (leb lo (time_of col r))

both_true : (a b : Bool) → (a && b) ≡ true → (a ≡ true) × (b ≡ true)
both_true true b e = (refl, e)
both_true false b e = absurd (true≢false (sym e))

pub is_between_holds : (col lo hi : ℕ) (r : Row) → is_between col lo hi r ≡ true → IsBetween col lo hi r
is_between_holds col lo hi r e =
    let both = both_true (leb lo (time_of col r)) (leb (time_of col r) hi) e in
    (leb-true lo (time_of col r) both.0, leb-true (time_of col r) hi both.1)

pub none_between_before : (col lo hi : ℕ) (rows : List Row) → All (λ r. time_of col r < lo) rows → rows_between col lo hi rows ≡ []
none_between_before col lo hi rows h = filter_none (is_between col lo hi) rows (λ k d lt. fails_before col lo hi (get_or rows k d) (h k d lt))

pub none_between_behind : (col lo hi : ℕ) (rows : List Row) → All (λ r. hi < time_of col r) rows → rows_between col lo hi rows ≡ []
none_between_behind col lo hi rows h = filter_none (is_between col lo hi) rows (λ k d lt. fails_behind col lo hi (get_or rows k d) (h k d lt))

pub all_between : (col lo hi : ℕ) (rows : List Row) → All (IsBetween col lo hi) rows → rows_between col lo hi rows ≡ rows
all_between col lo hi rows h = filter_whole (is_between col lo hi) rows (λ k d lt. passes_between col lo hi (get_or rows k d) (h k d lt).0 (h k d lt).1)

-- the images that pass are the images of what passes, where their tests agree
pub filter_images : {X Y : Type 0} (p : X → Bool) (q : Y → Bool) (f : X → Y) (xs : List X) → All (λ x. q (f x) ≡ p x) xs → filter q (map f xs) ≡ map f (filter p xs)
filter_images p q f [] h = refl
filter_images p q f (x ∷ xs) h =
    ap (λ t. cond t (f x ∷ filter q (map f xs)) (filter q (map f xs))) (h zero x (omega arith))
    ∙ ap (λ l. cond (p x) (f x ∷ l) l) (filter_images p q f xs (λ k d lt. h (suc k) d (omega arith)))
    ∙ image_of (p x) f x (filter p xs)
  where
    image_of : {X Y : Type 0} (b : Bool) (f : X → Y) (x : X) (xs : List X) → cond b (f x ∷ map f xs) (map f xs) ≡ map f (cond b (x ∷ xs) xs)
    image_of true f x xs = refl
    image_of false f x xs = refl
