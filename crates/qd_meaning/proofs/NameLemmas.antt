-- Output names are told apart.
use Rattle.std.proofs.Common.{◌≡◌, ℕ, zero, suc, ◌+◌, ◌<◌, ◌≤◌, ◌^◌, ◌%◌, Bool, true, false, not, ◌||◌, cond, if◌then◌else◌, List, [], ◌∷◌, ◌++◌, length, map, Option, Some, None, unwrap_or, refl, sym, ap, ◌∙◌, subst, arith, true≢false}
use Rattle.std.specs.List.{AllByRecursion, IsDistinct, list_any, find, range_with_len}
use Rattle.std.specs.Fmt.{decimal}
use Rattle.std.specs.Char.{to_ascii_lowercase}
use Rattle.std.proofs.lemmas.Bool.{lt-ltb}
use Rattle.std.proofs.lemmas.List.{map-append, append_cancel_left, length-append}
use Rattle.std.proofs.lemmas.List.Folds.{list_any-append}
use Rattle.std.proofs.lemmas.List.FromFn.{length-map-range_with_len}
use Rattle.std.proofs.lemmas.Map.Made.{length-le_from_is_member}
use Rattle.std.proofs.lemmas.Fmt.{decimal_by_steps, decimal_injective}
use Rattle.std.proofs.lemmas.Slice.Eq.{bytes_eq-Decides}
use Rattle.qd_base.specs.Schemas.{same_name}
use Rattle.qd_base.proofs.Alike.{names_equal, turned}
use Rattle.qd_base.proofs.Lists.{each-weaker, IsDistinct-cons, IsDistinct-nil}
use Rattle.qd_meaning.specs.Outputs.{is_taken, numbered, least_new, made_new, names_from}

-- ---- numbers in names

lower-digit : (d : ℕ) → d < 10 → to_ascii_lowercase (48 + d) ≡ 48 + d
lower-digit d small = rw (lt-ltb (48 + d) 65 (omega arith)) refl

lower-push : (ds : List ℕ) (d : ℕ) → d < 10 → map to_ascii_lowercase ds ≡ ds → map to_ascii_lowercase (ds ++ (48 + d) ∷ []) ≡ ds ++ (48 + d) ∷ []
lower-push ds d small e = map-append to_ascii_lowercase ds ((48 + d) ∷ []) ∙ ap (λ (xs : List ℕ). xs ++ to_ascii_lowercase (48 + d) ∷ []) e ∙ ap (λ (x : ℕ). ds ++ x ∷ []) (lower-digit d small)

lower-decimal : (n : ℕ) → n < 2 ^ 64 → map to_ascii_lowercase (decimal n) ≡ decimal n
lower-decimal n small =
    decimal_by_steps (λ m ds. map to_ascii_lowercase ds ≡ ds) (λ m h. ap (λ (x : ℕ). x ∷ []) (lower-digit m h)) (λ m ds h before. lower-push ds (m % 10) (omega arith) before) n small

same-lower : (a b : List ℕ) → same_name a b ≡ true → map to_ascii_lowercase a ≡ map to_ascii_lowercase b
same-lower a b e = (bytes_eq-Decides (map to_ascii_lowercase a) (map to_ascii_lowercase b)).0 e

same-numbers : (name : List ℕ) (m n : ℕ) → m < 2 ^ 64 → n < 2 ^ 64 → same_name (numbered name m) (numbered name n) ≡ true → m ≡ n
same-numbers name m n h k e =
    let lower : List ℕ → List ℕ = λ xs. map to_ascii_lowercase xs in
    let whole : lower name ++ lower (decimal m) ≡ lower name ++ lower (decimal n) =
    sym (map-append to_ascii_lowercase name (decimal m)) ∙ same-lower (numbered name m) (numbered name n) e ∙ map-append to_ascii_lowercase name (decimal n) in
    let ends : lower (decimal m) ≡ lower (decimal n) = append_cancel_left (lower name) (lower (decimal m)) (lower (decimal n)) whole in
    decimal_injective m n h k (sym (lower-decimal m h) ∙ ends ∙ lower-decimal n k)

not-true_false : (b : Bool) → (b ≡ true → ⊥) → b ≡ false
not-true_false true f = absurd (f refl)
not-true_false false f = refl

apart : (name : List ℕ) (m n : ℕ) → m < n → n < 2 ^ 64 → same_name (numbered name m) (numbered name n) ≡ false
apart name m n lt small = not-true_false (same_name (numbered name m) (numbered name n)) (λ e. let same = same-numbers name m n (omega arith) small e in omega arith)

-- the names with these numbers
abbrev candidates : List ℕ → ℕ → ℕ → List (List ℕ)
candidates name from n = map (numbered name) (range_with_len from n)

apart-from : (name : List ℕ) (m from n : ℕ) → m < from → from + n ≤ 2 ^ 64 → AllByRecursion (λ y. same_name (numbered name m) y ≡ false) (candidates name from n)
apart-from name m from zero lt small = tt
apart-from name m from (suc n) lt small = (apart name m from lt (omega arith), apart-from name m (from + 1) n (omega arith) (omega arith))

candidates-distinct : (name : List ℕ) (from n : ℕ) → from + n ≤ 2 ^ 64 → IsDistinct same_name (candidates name from n)
candidates-distinct name from zero small = IsDistinct-nil same_name
candidates-distinct name from (suc n) small =
    IsDistinct-cons same_name (numbered name from) (candidates name (from + 1) n) (apart-from name from (from + 1) n (omega arith) (omega arith)) (candidates-distinct name (from + 1) n (omega arith))

-- ---- the least number that makes a name new

find-passes : (p : ℕ → Bool) (xs : List ℕ) (n : ℕ) → find p xs ≡ Some n → p n ≡ true
find-passes p [] n e = absurd (cc)
find-passes p (x ∷ xs) n e = go (p x) refl (find-passes p xs n) e
  where
    go : (b : Bool) → p x ≡ b → (find p xs ≡ Some n → p n ≡ true) → cond b (Some x) (find p xs) ≡ Some n → p n ≡ true
    go true h rest e = let same : x ≡ n = cc in subst (λ y. p y ≡ true) same h
    go false h rest e = rest e

none-passes : (p : ℕ → Bool) (xs : List ℕ) → find p xs ≡ None → AllByRecursion (λ x. p x ≡ false) xs
none-passes p [] e = tt
none-passes p (x ∷ xs) e = go (p x) refl (none-passes p xs) e
  where
    go : (b : Bool) → p x ≡ b → (find p xs ≡ None → AllByRecursion (λ y. p y ≡ false) xs) → cond b (Some x) (find p xs) ≡ None → AllByRecursion (λ y. p y ≡ false) (x ∷ xs)
    go true h rest e = absurd (cc)
    go false h rest e = (h, rest e)

not-false_true : (b : Bool) → not b ≡ false → b ≡ true
not-false_true true e = refl
not-false_true false e = absurd (true≢false e)

not-true_is_false : (b : Bool) → not b ≡ true → b ≡ false
not-true_is_false true e = absurd (true≢false (sym e))
not-true_is_false false e = refl

either : (b x y : Bool) → (x ≡ true → y ≡ true) → (b || x) ≡ true → (b || y) ≡ true
either true x y f e = refl
either false x y f e = f e

-- names that are one are one with the same names
any-alike : (q c : List ℕ) → same_name q c ≡ true → (xs : List (List ℕ)) → list_any (same_name c) xs ≡ true → list_any (same_name q) xs ≡ true
any-alike q c same [] e = e
any-alike q c same (x ∷ xs) e =
    rw (names_equal.congr q c x same) (either (same_name c x) (list_any (same_name c) xs) (list_any (same_name q) xs) (any-alike q c same xs) e)

-- a name that is one with a member of the first list is one with a member of the second
member-through : (taken : List (List ℕ)) (q : List ℕ) (cs : List (List ℕ)) → AllByRecursion (λ c. is_taken taken c ≡ true) cs → list_any (same_name q) cs ≡ true → list_any (same_name q) taken ≡ true
member-through taken q [] h e = absurd (true≢false (sym e))
member-through taken q (c ∷ cs) h e = go (same_name q c) refl (member-through taken q cs h.1) e
  where
    go : (b : Bool) → same_name q c ≡ b → (list_any (same_name q) cs ≡ true → list_any (same_name q) taken ≡ true) → (b || list_any (same_name q) cs) ≡ true → list_any (same_name q) taken ≡ true
    go true same rest e = any-alike q c same taken h.0
    go false same rest e = rest e

all-taken : (taken : List (List ℕ)) (name : List ℕ) (xs : List ℕ) → AllByRecursion (λ n. not (is_taken taken (numbered name n)) ≡ false) xs → AllByRecursion (λ c. is_taken taken c ≡ true) (map (numbered name) xs)
all-taken taken name [] h = tt
all-taken taken name (x ∷ xs) h = (not-false_true (is_taken taken (numbered name x)) h.0, all-taken taken name xs h.1)

-- not all of these names are taken
never-all : (taken : List (List ℕ)) (name : List ℕ) → length taken < 2 ^ 63 → AllByRecursion (λ n. not (is_taken taken (numbered name n)) ≡ false) (range_with_len 1 (length taken + 1)) → ⊥
never-all taken name small h =
    let count : length (candidates name 1 (length taken + 1)) ≡ length taken + 1 = length-map-range_with_len (numbered name) 1 (length taken + 1) in
    let most : length (candidates name 1 (length taken + 1)) ≤ length taken =
    length-le_from_is_member names_equal (candidates name 1 (length taken + 1)) taken (candidates-distinct name 1 (length taken + 1) (omega arith))
    (λ q. member-through taken q (candidates name 1 (length taken + 1)) (all-taken taken name (range_with_len 1 (length taken + 1)) h)) in
    omega arith

new-number : (taken : List (List ℕ)) (name : List ℕ) → length taken < 2 ^ 63 → is_taken taken (numbered name (least_new taken name)) ≡ false
new-number taken name small = go (find (λ n. not (is_taken taken (numbered name n))) (range_with_len 1 (length taken + 1))) refl
  where
    go : (o : Option ℕ) → find (λ n. not (is_taken taken (numbered name n))) (range_with_len 1 (length taken + 1)) ≡ o → is_taken taken (numbered name (unwrap_or o 0)) ≡ false
    go None e = absurd (never-all taken name small (none-passes (λ n. not (is_taken taken (numbered name n))) (range_with_len 1 (length taken + 1)) e))
    go (Some n) e = not-true_is_false (is_taken taken (numbered name n)) (find-passes (λ n. not (is_taken taken (numbered name n))) (range_with_len 1 (length taken + 1)) n e)

made-new : (taken : List (List ℕ)) (name : List ℕ) → length taken < 2 ^ 63 → is_taken taken (made_new taken name) ≡ false
made-new taken name small = go (is_taken taken name) refl
  where
    go : (b : Bool) → is_taken taken name ≡ b → is_taken taken (if b then numbered name (least_new taken name) else name) ≡ false
    go true e = new-number taken name small
    go false e = e

-- ---- all names

or-false : (a b : Bool) → (a || (b || false)) ≡ false → (a ≡ false) × (b ≡ false)
or-false true b e = absurd (true≢false e)
or-false false true e = absurd (true≢false e)
or-false false false e = (refl, refl)

-- what isn't among more isn't among fewer
split-taken : (taken : List (List ℕ)) (name y : List ℕ) → is_taken (taken ++ name ∷ []) y ≡ false → (is_taken taken y ≡ false) × (same_name name y ≡ false)
split-taken taken name y e =
    let both = or-false (is_taken taken y) (same_name y name) (sym (list_any-append (same_name y) taken (name ∷ [])) ∙ e) in (both.0, turned y name false both.1)

longer : (taken : List (List ℕ)) (name : List ℕ) (ns : List (List ℕ)) → length taken + suc (length ns) < 2 ^ 63 → length (taken ++ name ∷ []) + length ns < 2 ^ 63
longer taken name ns small = let e = length-append taken (name ∷ []) in omega arith

-- a new name in front of names that are apart from it and from one another
apart-behind : (taken : List (List ℕ)) (name : List ℕ) (rest : List (List ℕ)) → is_taken taken name ≡ false
    → AllByRecursion (λ y. is_taken (taken ++ name ∷ []) y ≡ false) rest × IsDistinct same_name rest
    → AllByRecursion (λ y. is_taken taken y ≡ false) (name ∷ rest) × IsDistinct same_name (name ∷ rest)
apart-behind taken name rest fresh h =
    let both =
    each-weaker (λ y. is_taken (taken ++ name ∷ []) y ≡ false) (λ y. (is_taken taken y ≡ false) × (same_name name y ≡ false)) (λ y e. split-taken taken name y e) rest h.0 in (
      (fresh, each-weaker (λ y. (is_taken taken y ≡ false) × (same_name name y ≡ false)) (λ y. is_taken taken y ≡ false) (λ y k. k.0) rest both),
      IsDistinct-cons same_name name rest (each-weaker (λ y. (is_taken taken y ≡ false) × (same_name name y ≡ false)) (λ y. same_name name y ≡ false) (λ y k. k.1) rest both) h.1,
    )

pub names-apart : (taken ns : List (List ℕ)) → length taken + length ns < 2 ^ 63 → AllByRecursion (λ y. is_taken taken y ≡ false) (names_from taken ns) × IsDistinct same_name (names_from taken ns)
names-apart taken [] small = (tt, IsDistinct-nil same_name)
names-apart taken (n ∷ ns) small =
    let name = made_new taken n in
    apart-behind taken name (names_from (taken ++ name ∷ []) ns) (made-new taken n (omega arith)) (names-apart (taken ++ name ∷ []) ns (longer taken name ns small))
