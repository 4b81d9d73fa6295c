-- The tests of names decide which names there may be, and the tests of lists whether an element stands among others.
use Rattle.std.proofs.Common.{◌≡◌, ◌≢◌, ℕ, zero, suc, ◌+◌, ◌-◌, ◌<◌, ◌≤◌, Bool, true, false, cond, ltb, leb, eqb, not, ◌&&◌, ◌||◌, nat_eq, List, [], ◌∷◌, ◌++◌, length, get_or, slice_index, is_some, Some, None, All, refl, sym, ap, subst, ◌∙◌, inl, inr, arith, true≢false}
use Rattle.std.specs.List.{AllByRecursion, IsDistinct, list_all, list_any, position, position_or_len}
use Rattle.std.specs.Str.{IsUtf8, is_utf8}
use Rattle.std.proofs.lemmas.Bool.{cases_lt, cases_eq, and_parts, and_from, or_cases, or_left, or_right, not-true, not_from_false, leb-true, le-leb, ltb-true, lt-ltb, eq-eqb, ne_eqb, eqb-false, le-ltb, or_parts, or_from}
use Rattle.std.proofs.lemmas.List.{length-append, get_or_at}
use Rattle.std.proofs.lemmas.List.Sums.{AllPass-from_list_all, list_all-from_AllPass}
use Rattle.std.proofs.lemmas.Str.{IsUtf8-from_is_utf8, is_utf8-from_IsUtf8}
use Rattle.qd_base.specs.declared.limits.TheConstants.{MAX_NAME_BYTES}
use Rattle.qd_base.specs.Names.{is_column_byte, is_table_byte, IsColumnName, IsTableName}
use Rattle.qd_manifest.specs.Rules.{each_below, is_short_text, is_column_name, dot_apart, is_table_name}

-- two tests of one fact give one answer
pub same_test : (b c : Bool) (P : Type 0) → (b ≡ true → P) → (P → b ≡ true) → (c ≡ true → P) → (P → c ≡ true) → b ≡ c
same_test true c P f g h k = sym (k (f refl))
same_test false true P f g h k = g (h refl)
same_test false false P f g h k = refl

below_true : (p : ℕ → Bool) (n : ℕ) → each_below p n ≡ true → (i : ℕ) → i < n → p i ≡ true
below_true p zero e i lt = absurd (omega arith)
below_true p (suc n) e i lt =
    let h = and_parts (each_below p n) (p n) e in
    elim (cases_lt i n) [
      | inl less ↦ below_true p n h.0 i less
      | inr le ↦ (let same : i ≡ n = omega arith in ap p same ∙ h.1)
    ]

below_all : (p : ℕ → Bool) (n : ℕ) → ((i : ℕ) → i < n → p i ≡ true) → each_below p n ≡ true
below_all p zero h = refl
below_all p (suc n) h = and_from (each_below p n) (p n) (below_all p n (λ i lt. h i (omega arith))) (h n (omega arith))

differs : (y : ℕ) → not (eqb y 46) ≡ true → y ≢ 46
differs y e same = true≢false (sym (eq-eqb y 46 same) ∙ not-true (eqb y 46) e)

differs_test : (y : ℕ) → y ≢ 46 → not (eqb y 46) ≡ true
differs_test y h = not_from_false (eqb y 46) (ne_eqb y 46 h)

dot_means : (x y i : ℕ) → (not (eqb x 46) || (ltb 0 i && not (eqb y 46))) ≡ true → x ≡ 46 → (0 < i) × (y ≢ 46)
dot_means x y i e same =
    elim (or_cases (not (eqb x 46)) (ltb 0 i && not (eqb y 46)) e) [
      | inl apart ↦ absurd (differs x apart same)
      | inr both ↦ (let h = and_parts (ltb 0 i) (not (eqb y 46)) both in (ltb-true 0 i h.0, differs y h.1))
    ]

dot_test : (x y i : ℕ) → (x ≡ 46 → (0 < i) × (y ≢ 46)) → (not (eqb x 46) || (ltb 0 i && not (eqb y 46))) ≡ true
dot_test x y i h =
    elim (cases_eq x 46) [
      | inl same ↦ (let k = h same in or_right (not (eqb x 46)) (ltb 0 i && not (eqb y 46)) (and_from (ltb 0 i) (not (eqb y 46)) (lt-ltb 0 i k.0) (differs_test y k.1)))
      | inr other ↦ or_left (not (eqb x 46)) (ltb 0 i && not (eqb y 46)) (differs_test x other)
    ]

record IsShort (name : List ℕ) : Type 0 where
  some : 1 ≤ length name
  short : length name ≤ MAX_NAME_BYTES
  text : IsUtf8 name

short_means : (name : List ℕ) → is_short_text name ≡ true → IsShort name
short_means name e =
    let a = and_parts (leb 1 (length name)) (leb (length name) MAX_NAME_BYTES && is_utf8 name) e in
    let b = and_parts (leb (length name) MAX_NAME_BYTES) (is_utf8 name) a.1 in
    record { some = leb-true 1 (length name) a.0; short = leb-true (length name) MAX_NAME_BYTES b.0; text = IsUtf8-from_is_utf8 name b.1 }

short_test : (name : List ℕ) → 1 ≤ length name → length name ≤ MAX_NAME_BYTES → IsUtf8 name → is_short_text name ≡ true
short_test name some short text =
    and_from (leb 1 (length name)) (leb (length name) MAX_NAME_BYTES && is_utf8 name) (le-leb 1 (length name) some)
    (and_from (leb (length name) MAX_NAME_BYTES) (is_utf8 name) (le-leb (length name) MAX_NAME_BYTES short) (is_utf8-from_IsUtf8 name text))

pub column_named : (name : List ℕ) → is_column_name name ≡ true → IsColumnName name
unfolding is_column_name
column_named name e =
    let a = and_parts (is_short_text name) (list_all is_column_byte name) e in
    let s = short_means name a.0 in
    record { some = s.some; short = s.short; text = s.text; bytes = AllPass-from_list_all is_column_byte name a.1 }

pub column_test : (name : List ℕ) → IsColumnName name → is_column_name name ≡ true
unfolding is_column_name
column_test name h = and_from (is_short_text name) (list_all is_column_byte name) (short_test name h.some h.short h.text) (list_all-from_AllPass is_column_byte name h.bytes)

pub table_named : (name : List ℕ) → is_table_name name ≡ true → IsTableName name
unfolding is_table_name
table_named name e =
    let dots = each_below (dot_apart name) (length name) in
    let last = not (eqb (slice_index name (length name - 1)) 46) in
    let a = and_parts (is_short_text name) (list_all is_table_byte name && (dots && last)) e in
    let b = and_parts (list_all is_table_byte name) (dots && last) a.1 in
    let c = and_parts dots last b.1 in
    let s = short_means name a.0 in
    record {
      some = s.some;
      short = s.short;
      text = s.text;
      bytes = AllPass-from_list_all is_table_byte name b.0;
      dots = record {
        each = λ i lt is. dot_means (slice_index name i) (slice_index name (i - 1)) i (below_true (dot_apart name) (length name) c.0 i lt) is;
        last = differs (slice_index name (length name - 1)) c.1;
      };
    }

pub table_test : (name : List ℕ) → IsTableName name → is_table_name name ≡ true
unfolding is_table_name
table_test name h =
    let dots = each_below (dot_apart name) (length name) in
    let last = not (eqb (slice_index name (length name - 1)) 46) in
    and_from (is_short_text name) (list_all is_table_byte name && (dots && last)) (short_test name h.some h.short h.text)
    (and_from (list_all is_table_byte name) (dots && last) (list_all-from_AllPass is_table_byte name h.bytes)
    (and_from dots last (below_all (dot_apart name) (length name) (λ i lt. dot_test (slice_index name i) (slice_index name (i - 1)) i (h.dots.each i lt)))
    (differs_test (slice_index name (length name - 1)) h.dots.last)))

-- ---- among others

-- nothing passes, and there is no position
module _ {X : Type 0} (p : X → Bool) where
  none_len : (xs : List X) → AllByRecursion (λ x. p x ≡ false) xs → position_or_len p xs ≡ length xs
  none_len [] h = refl
  none_len (x ∷ xs) h = rw h.0 (ap (λ n. 1 + n) (none_len xs h.1) ∙ omega arith)

  pub position-absent : (xs : List X) → AllByRecursion (λ x. p x ≡ false) xs → is_some (position p xs) ≡ false
  position-absent xs h = rw (none_len xs h) (go (length xs))
    where
      go : (n : ℕ) → is_some (cond (ltb n n) (Some n) None) ≡ false
      go n = rw (le-ltb n n (omega arith)) refl

-- a list of distinct elements, seen from one of them
module _ {X : Type 0} (e : X → X → Bool) where
  among : (x : X) (before : List X) (after : List X) → AllByRecursion (λ y. e x y ≡ false) (before ++ after) → AllByRecursion (λ y. e x y ≡ false) after
  among x [] after h = h
  among x (y ∷ ys) after h = among x ys after h.1

  pub distinct_before : (before : List X) (x : X) (after : List X) → IsDistinct e (before ++ x ∷ after) → AllByRecursion (λ y. e y x ≡ false) before
  unfolding IsDistinct
  distinct_before [] x after d = tt
  distinct_before (y ∷ ys) x after d = ((among y ys (x ∷ after) d.0).0, distinct_before ys x after d.1)

-- a number isn't among others
pub absent_each : (x : ℕ) (xs : List ℕ) → list_any (nat_eq x) xs ≡ false → AllByRecursion (λ y. nat_eq y x ≡ false) xs
absent_each x [] e = tt
absent_each x (y ∷ ys) e =
    let h = or_parts (eqb x y) (list_any (nat_eq x) ys) e in
    (ne_eqb y x (λ same. eqb-false x y h.0 (sym same)), absent_each x ys h.1)

pub each_absent : (x : ℕ) (xs : List ℕ) → AllByRecursion (λ y. nat_eq y x ≡ false) xs → list_any (nat_eq x) xs ≡ false
each_absent x [] h = refl
each_absent x (y ∷ ys) h = or_from (eqb x y) (list_any (nat_eq x) ys) (ne_eqb x y (λ same. eqb-false y x h.0 (sym same))) (each_absent x ys h.1)
