-- Output names that are taken, and the least number that makes one new.
use Rattle.std.proofs.Common.{◌≡◌, ℕ, zero, suc, ◌+◌, ◌<◌, ◌≤◌, ◌⊎◌, inl, inr, Bool, true, false, not, ◌||◌, cond, if◌then◌else◌, List, [], ◌∷◌, length, Option, Some, None, unwrap_or, is_some, refl, sym, ap, ap₂, ◌∙◌, subst, arith}
use Rattle.std.specs.List.{find, list_any, range_with_len}
use Rattle.std.proofs.lemmas.Bool.{cases_lt}
use Rattle.qd_base.specs.declared.schema.Col.{Col}
use Rattle.qd_base.specs.Schemas.{same_name, column_at}
use Rattle.qd_base.proofs.Texts.{some_place}
use Rattle.qd_base.proofs.Alike.{names_equal}
use Rattle.qd_meaning.specs.Outputs.{is_taken, numbered, least_new, made_new}
use Rattle.qd_plan.specs.Names.{names, IsLeastNew}

-- ---- a name that is taken, or isn't

pub taken_any : (cols : List Col) (name : List ℕ) → is_taken (names cols) name ≡ list_any (λ (c : Col). same_name c.name name) cols
taken_any [] name = refl
taken_any (c ∷ cs) name = ap₂ (λ (x y : Bool). x || y) (names_equal.symm name c.name) (taken_any cs name)

pub taken_at : (cols : List Col) (name : List ℕ) → is_taken (names cols) name ≡ is_some (column_at cols name)
taken_at cols name = taken_any cols name ∙ sym (some_place (λ (c : Col). same_name c.name name) cols)

pub missing : (cols : List Col) (name : List ℕ) → None ≡ column_at cols name → is_taken (names cols) name ≡ false
missing cols name e = taken_at cols name ∙ ap (λ (o : Option ℕ). is_some o) (sym e)

pub found : (cols : List Col) (name : List ℕ) (i : ℕ) → Some i ≡ column_at cols name → is_taken (names cols) name ≡ true
found cols name i e = taken_at cols name ∙ ap (λ (o : Option ℕ). is_some o) (sym e)

pub or_true : (b : Bool) → (b || true) ≡ true
or_true true = refl
or_true false = refl

-- ---- the least number that makes a name new

pub find_at : (p : ℕ → Bool) (from n m : ℕ) → from ≤ m → m < from + n → p m ≡ true → ((k : ℕ) → from ≤ k → k < m → p k ≡ false) → find p (range_with_len from n) ≡ Some m
find_at p from zero m low high here before = absurd (omega arith)
find_at p from (suc n) m low high here before = go (λ lt. find_at p (from + 1) n m (omega arith) (omega arith) here (λ k a b. before k (omega arith) b)) (cases_lt from m)
  where
    go : (from < m → find p (range_with_len (from + 1) n) ≡ Some m) → (from < m) ⊎ (m ≤ from) → find p (range_with_len from (suc n)) ≡ Some m
    go rest (inl lt) = rw (before from (omega arith) lt) (rest lt)
    go rest (inr le) =
        let e : m ≡ from = omega arith in
        subst (λ (x : ℕ). cond (p from) (Some from) (find p (range_with_len (from + 1) n)) ≡ Some x) (sym e) (rw (subst (λ (x : ℕ). p x ≡ true) e here) refl)

pub least_is : (taken : List (List ℕ)) (name : List ℕ) (n : ℕ) → IsLeastNew taken name n → least_new taken name ≡ n
least_is taken name n h =
    let low = h.low in
    let few = h.few in
    ap (λ (o : Option ℕ). unwrap_or o 0)
    (find_at (λ k. not (is_taken taken (numbered name k))) 1 (length taken + 1) n low (omega arith) (ap not h.is_new) (λ k a b. ap not (h.others k a b)))

pub made_taken : (cols : List Col) (name : List ℕ) (i n : ℕ) → Some i ≡ column_at cols name → IsLeastNew (names cols) name n → numbered name n ≡ made_new (names cols) name
made_taken cols name i n e h =
    sym (ap (λ (b : Bool). if b then numbered name (least_new (names cols) name) else name) (found cols name i e) ∙ ap (numbered name) (least_is (names cols) name n h))

pub made_free : (cols : List Col) (name : List ℕ) → None ≡ column_at cols name → name ≡ made_new (names cols) name
made_free cols name e = sym (ap (λ (b : Bool). if b then numbered name (least_new (names cols) name) else name) (missing cols name e))
