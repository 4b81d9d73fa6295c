-- Which facts of names are so or aren't.
use Rattle.std.proofs.Common.{◌≡◌, ◌≢◌, ℕ, zero, suc, ◌-◌, ◌<◌, ◌≤◌, ◌⊎◌, inl, inr, Bool, true, false, List, [], ◌∷◌, length, refl, sym, subst, arith, true≢false, All, Contains}
use Rattle.std.specs.Prelude.{slice_index}
use Rattle.std.specs.Bool.{Decides}
use Rattle.std.specs.Str.{IsUtf8, is_utf8}
use Rattle.std.specs.List.{AllByRecursion, IsDistinct}
use Rattle.std.proofs.lemmas.Bool.{cases_lt}
use Rattle.std.proofs.lemmas.Bool.Decides.{eqb_tells}
use Rattle.std.proofs.lemmas.List.Elements.{All-from_recursion, recursion_from_All}
use Rattle.std.proofs.lemmas.Str.{IsUtf8-from_is_utf8, is_utf8-from_IsUtf8}
use Rattle.qd_base.specs.declared.limits.TheConstants.{MAX_NAME_BYTES}
use Rattle.qd_base.specs.Names.{IsApart, IsColumnName, IsTableName, is_column_byte, is_table_byte}
use Rattle.qd_base.proofs.Lists.{Contains-cons}
use Rattle.qd_ilp.specs.Line.{Item}

-- a fact is so, or it isn't
abbrev pub Decided : Type 0 → Type 0
Decided P = P ⊎ (P → ⊥)

pub told : (P : Type 0) → Decided P → (b : Bool) × Decides b P
told P (inl p) = (true, (λ e. p, λ q. refl))
told P (inr f) = (false, (λ e. absurd (true≢false (sym e)), λ q. absurd (f q)))

pub both_decided : (P Q : Type 0) → Decided P → Decided Q → Decided (P × Q)
both_decided P Q (inl p) (inl q) = inl (p, q)
both_decided P Q (inl p) (inr g) = inr (λ h. g h.1)
both_decided P Q (inr f) d = inr (λ h. f h.0)

pub one_decided : (P Q : Type 0) → Decided P → Decided Q → Decided (P ⊎ Q)
one_decided P Q (inl p) d = inl (inl p)
one_decided P Q (inr f) (inl q) = inl (inr q)
one_decided P Q (inr f) (inr g) = inr (λ h. elim h [ inl p ↦ f p | inr q ↦ g q ])

pub not_decided : (P : Type 0) → Decided P → Decided (P → ⊥)
not_decided P (inl p) = inr (λ f. f p)
not_decided P (inr f) = inl f

then_decided : (P Q : Type 0) → Decided P → Decided Q → Decided (P → Q)
then_decided P Q d (inl q) = inl (λ p. q)
then_decided P Q (inl p) (inr g) = inr (λ f. g (f p))
then_decided P Q (inr f) (inr g) = inl (λ p. absurd (f p))

same_decided : (P Q : Type 0) → (P → Q) → (Q → P) → Decided P → Decided Q
same_decided P Q f g (inl p) = inl (f p)
same_decided P Q f g (inr n) = inr (λ q. n (g q))

pub true_decided : (b : Bool) → Decided (b ≡ true)
true_decided true = inl refl
true_decided false = inr (λ e. true≢false (sym e))

pub false_decided : (b : Bool) → Decided (b ≡ false)
false_decided true = inr (λ e. true≢false e)
false_decided false = inl refl

pub le_decided : (a b : ℕ) → Decided (a ≤ b)
le_decided a b = elim (cases_lt b a) [ inl lt ↦ inr (λ le. omega arith) | inr le ↦ inl le ]

pub lt_decided : (a b : ℕ) → Decided (a < b)
lt_decided a b = elim (cases_lt a b) [ inl lt ↦ inl lt | inr le ↦ inr (λ lt. omega arith) ]

equal_decided : (a b : ℕ) → Decided (a ≡ b)
equal_decided a b = elim (eqb_tells a b) [ inl e ↦ inl e.1 | inr e ↦ inr e.1 ]

pub each_decided : {X : Type 0} (P : X → Type 0) → ((x : X) → Decided (P x)) → (xs : List X) → Decided (AllByRecursion P xs)
each_decided P d [] = inl tt
each_decided P d (x ∷ xs) = both_decided (P x) (AllByRecursion P xs) (d x) (each_decided P d xs)

pub distinct_decided : {X : Type 0} (e : X → X → Bool) (xs : List X) → Decided (IsDistinct e xs)
unfolding IsDistinct
distinct_decided e [] = inl tt
distinct_decided e (x ∷ xs) = both_decided (AllByRecursion (λ y. e x y ≡ false) xs) (IsDistinct e xs) (each_decided (λ y. e x y ≡ false) (λ y. false_decided (e x y)) xs) (distinct_decided e xs)

-- a fact of each number below another
below_decided : (P : ℕ → Type 0) → ((i : ℕ) → Decided (P i)) → (n : ℕ) → Decided ((i : ℕ) → i < n → P i)
below_decided P d zero = inl (λ i lt. absurd (omega arith))
below_decided P d (suc n) = go (below_decided P d n) (d n)
  where
    go : Decided ((i : ℕ) → i < n → P i) → Decided (P n) → Decided ((i : ℕ) → i < suc n → P i)
    go (inl f) (inl p) = inl (λ i lt. elim (cases_lt i n) [ inl below ↦ f i below | inr upto ↦ subst P (let e : n ≡ i = omega arith in e) p ])
    go (inl f) (inr g) = inr (λ h. g (h n (omega arith)))
    go (inr f) q = inr (λ h. f (λ i lt. h i (omega arith)))

-- ---- names

utf8_decided : (bytes : List ℕ) → Decided (IsUtf8 bytes)
utf8_decided bytes = same_decided (is_utf8 bytes ≡ true) (IsUtf8 bytes) (IsUtf8-from_is_utf8 bytes) (is_utf8-from_IsUtf8 bytes) (true_decided (is_utf8 bytes))

bytes_decided : (p : ℕ → Bool) (bytes : List ℕ) → Decided (All (λ b. p b ≡ true) bytes)
bytes_decided p bytes =
    same_decided (AllByRecursion (λ b. p b ≡ true) bytes) (All (λ b. p b ≡ true) bytes) (All-from_recursion (λ b. p b ≡ true) bytes) (recursion_from_All (λ b. p b ≡ true) bytes)
    (each_decided (λ b. p b ≡ true) (λ b. true_decided (p b)) bytes)

abbrev IsBehind : List ℕ → ℕ → Type 0
IsBehind name i = slice_index name i ≡ 46 → (0 < i) × (slice_index name (i - 1) ≢ 46)

apart_decided : (name : List ℕ) → Decided (IsApart name)
apart_decided name =
    same_decided (((i : ℕ) → i < length name → IsBehind name i) × (slice_index name (length name - 1) ≢ 46)) (IsApart name) (λ h. record { each = h.0; last = h.1 }) (λ h. (h.each, h.last))
    (both_decided ((i : ℕ) → i < length name → IsBehind name i) (slice_index name (length name - 1) ≢ 46)
    (below_decided (IsBehind name) (λ i. then_decided (slice_index name i ≡ 46) ((0 < i) × (slice_index name (i - 1) ≢ 46)) (equal_decided (slice_index name i) 46) (both_decided (0 < i) (slice_index name (i - 1) ≢ 46) (lt_decided 0 i) (not_decided (slice_index name (i - 1) ≡ 46) (equal_decided (slice_index name (i - 1)) 46)))) (length name))
    (not_decided (slice_index name (length name - 1) ≡ 46) (equal_decided (slice_index name (length name - 1)) 46)))

abbrev Sized : List ℕ → Type 0
Sized name = (1 ≤ length name) × ((length name ≤ MAX_NAME_BYTES) × IsUtf8 name)

sized_decided : (name : List ℕ) → Decided (Sized name)
sized_decided name = both_decided (1 ≤ length name) ((length name ≤ MAX_NAME_BYTES) × IsUtf8 name) (le_decided 1 (length name)) (both_decided (length name ≤ MAX_NAME_BYTES) (IsUtf8 name) (le_decided (length name) MAX_NAME_BYTES) (utf8_decided name))

pub column_name_decided : (name : List ℕ) → Decided (IsColumnName name)
column_name_decided name =
    same_decided (Sized name × All (λ b. is_column_byte b ≡ true) name) (IsColumnName name)
    (λ h. record { some = h.0.0; short = h.0.1.0; text = h.0.1.1; bytes = h.1 }) (λ h. ((h.some, (h.short, h.text)), h.bytes))
    (both_decided (Sized name) (All (λ b. is_column_byte b ≡ true) name) (sized_decided name) (bytes_decided is_column_byte name))

pub table_name_decided : (name : List ℕ) → Decided (IsTableName name)
table_name_decided name =
    same_decided (Sized name × (All (λ b. is_table_byte b ≡ true) name × IsApart name)) (IsTableName name)
    (λ h. record { some = h.0.0; short = h.0.1.0; text = h.0.1.1; bytes = h.1.0; dots = h.1.1 }) (λ h. ((h.some, (h.short, h.text)), (h.bytes, h.dots)))
    (both_decided (Sized name) (All (λ b. is_table_byte b ≡ true) name × IsApart name) (sized_decided name) (both_decided (All (λ b. is_table_byte b ≡ true) name) (IsApart name) (bytes_decided is_table_byte name) (apart_decided name)))

-- all items are named as columns may be, or one isn't
pub items_named : (items : List Item) → AllByRecursion (λ (i : Item). IsColumnName i.name) items ⊎ ((item : Item) × Contains items item × (IsColumnName item.name → ⊥))
items_named [] = inl tt
items_named (i ∷ is) = go (column_name_decided i.name) (items_named is)
  where
    go : Decided (IsColumnName i.name) → AllByRecursion (λ (x : Item). IsColumnName x.name) is ⊎ ((item : Item) × Contains is item × (IsColumnName item.name → ⊥)) → AllByRecursion (λ (x : Item). IsColumnName x.name) (i ∷ is) ⊎ ((item : Item) × Contains (i ∷ is) item × (IsColumnName item.name → ⊥))
    go (inl h) (inl all) = inl (h, all)
    go (inl h) (inr w) = inr (w.0, Contains-cons i is w.0 w.1, w.2)
    go (inr f) d = inr (i, (0, omega arith, refl), f)
