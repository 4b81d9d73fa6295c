-- How values and rows stand: the order of comparisons is total, and it is the meaning's where values are of one class.
use Rattle.std.proofs.Common.{◌≡◌, ℕ, zero, suc, ◌+◌, ◌≤◌, ◌<◌, drop, take, eqb, inl, inr, Bool, true, false, ◌&&◌, ◌||◌, cond, List, [], ◌∷◌, length, map, get_or, All, refl, sym, ap, ap₂, subst, ◌∙◌}
use Rattle.std.specs.Cmp.{IsTotalOrder, IsStrictWeakOrder, unsigned_tied}
use Rattle.std.specs.Cmp.Lexicographic.{texts_ties}
use Rattle.std.specs.Ordering.{nat_cmp, int_cmp, is_lt, is_eq, is_ne, ordering_reverse, ordering_then}
use Rattle.std.specs.declared.cmp.Ordering.{Ordering}
use Rattle.std.specs.declared.cmp.Ordering.TheVariants.{Less, Equal, Greater}
use Rattle.std.proofs.lemmas.Bool.{or_cases, eqb-true, eq-eqb, or_left, or_right}
use Rattle.std.proofs.lemmas.Cmp.{on_total, then_total, back_total, nat_cmp_total, int_cmp_total, nat_list_cmp_total}
use Rattle.std.proofs.lemmas.List.{drop_more, drop_all, map_more, take_all}
use Rattle.std.proofs.lemmas.List.Elements.{All-head, All-push, All-tail, All-weaker}
use Rattle.std.proofs.lemmas.List.Sorted.{ranks_by}
use Rattle.qd_base.specs.declared.cell.Cell.{Cell}
use Rattle.qd_base.specs.declared.cell.Cell.TheVariants as cell
use Rattle.qd_base.specs.Rows.{cell_eq}
use Rattle.qd_value.specs.Cells.{is_null}
use Rattle.qd_meaning.specs.Ordered.{in_direction, stands_before}
use Rattle.qd_order.specs.declared.keys.Key.{Key}
use Rattle.qd_order.specs.declared.keys.Key.TheVariants as key
use Rattle.qd_order.specs.contracts.keys.KeyOrd.TheImpl as key_ord
use Rattle.qd_order.specs.Keys.{lent}
use Rattle.qd_order.specs.Orders.{Keyed, before, cell_cmp, cell_in, class_of, compared, goes_with, keyed_cmp, number_in, size_in, text_in, IsOfOneClass, OrdersAlike}

-- ---- the order is total

pub cell_total : IsTotalOrder cell_cmp
cell_total = then_total (on_total class_of nat_cmp_total) (then_total (on_total number_in int_cmp_total) (then_total (on_total size_in nat_cmp_total) (on_total text_in nat_list_cmp_total)))

keyed_total : (k : Keyed) → IsTotalOrder (keyed_cmp k)
keyed_total k = by k.1
  where
    by : (b : Bool) → IsTotalOrder (λ i j. cond b (cell_cmp (cell_in k j) (cell_in k i)) (cell_cmp (cell_in k i) (cell_in k j)))
    by true = back_total (on_total (cell_in k) cell_total)
    by false = on_total (cell_in k) cell_total

pub compared_total : (ks : List Keyed) → IsTotalOrder (compared ks)
compared_total [] = record { antisymm = λ i j. refl; trans = λ i j m p q. p; congr = λ i j m p. refl }
compared_total (k ∷ ks) = then_total (keyed_total k) (compared_total ks)

-- so where it is the meaning's, the meaning's is a strict weak order
pub before_weak : (ks : List Keyed) → OrdersAlike ks → IsStrictWeakOrder (before ks)
before_weak ks alike =
    let weak = ranks_by (compared_total ks) (λ (i : ℕ). i) in
    record {
      one_way = λ i j e. sym (alike j i) ∙ weak.one_way i j (alike i j ∙ e);
      chain = λ i j m p q. sym (alike i m) ∙ weak.chain i j m (alike i j ∙ p) (alike j m ∙ q);
    }

-- ---- two values

level : (r : Ordering) → ordering_then r Equal ≡ r
level Less = refl
level Equal = refl
level Greater = refl

-- values are level exactly where they are one
pub level_cells : (a b : Cell) → is_eq (cell_cmp a b) ≡ cell_eq a b
level_cells cell.Null cell.Null = refl
level_cells (cell.Long x) (cell.Long y) = ap is_eq (level (int_cmp x y))
level_cells (cell.Bool true) (cell.Bool true) = refl
level_cells (cell.Bool true) (cell.Bool false) = refl
level_cells (cell.Bool false) (cell.Bool true) = refl
level_cells (cell.Bool false) (cell.Bool false) = refl
level_cells (cell.Text x) (cell.Text y) = sym (texts_ties x y)
level_cells (cell.Time x) (cell.Time y) = ap is_eq (level (nat_cmp x y)) ∙ unsigned_tied x y
level_cells _ _ = refl

-- a value beside NULL, or two of one class
abbrev fit : Cell → Cell → Bool
fit a b = is_null a || (is_null b || eqb (class_of a) (class_of b))

less_cells : (a b : Cell) → fit a b ≡ true → is_lt (cell_cmp a b) ≡ stands_before a b
less_cells cell.Null cell.Null h = refl
less_cells cell.Null (cell.Long y) h = refl
less_cells cell.Null (cell.Bool y) h = refl
less_cells cell.Null (cell.Text y) h = refl
less_cells cell.Null (cell.Time y) h = refl
less_cells (cell.Long x) cell.Null h = refl
less_cells (cell.Bool x) cell.Null h = refl
less_cells (cell.Text x) cell.Null h = refl
less_cells (cell.Time x) cell.Null h = refl
less_cells (cell.Long x) (cell.Long y) h = ap is_lt (level (int_cmp x y))
less_cells (cell.Bool true) (cell.Bool true) h = refl
less_cells (cell.Bool true) (cell.Bool false) h = refl
less_cells (cell.Bool false) (cell.Bool true) h = refl
less_cells (cell.Bool false) (cell.Bool false) h = refl
less_cells (cell.Text x) (cell.Text y) h = refl
less_cells (cell.Time x) (cell.Time y) h = ap is_lt (level (nat_cmp x y))
less_cells a b h = cc

fit_both : (lead a b : Cell) → goes_with lead a ≡ true → goes_with lead b ≡ true → fit a b ≡ true
fit_both lead a b ha hb = elim (or_cases (is_null a) (eqb (class_of lead) (class_of a)) ha) [
  | inl e ↦ or_left (is_null a) (is_null b || eqb (class_of a) (class_of b)) e
  | inr ea ↦ or_right (is_null a) (is_null b || eqb (class_of a) (class_of b)) (elim (or_cases (is_null b) (eqb (class_of lead) (class_of b)) hb) [
    | inl e ↦ or_left (is_null b) (eqb (class_of a) (class_of b)) e
    | inr eb ↦ or_right (is_null b) (eqb (class_of a) (class_of b)) (eq-eqb (class_of a) (class_of b) (sym (eqb-true (class_of lead) (class_of a) ea) ∙ eqb-true (class_of lead) (class_of b) eb))
  ])
]

-- what goes with NULL is NULL
pub null_goes : (k c : Cell) → goes_with cell.Null c ≡ true → goes_with k c ≡ true
null_goes k cell.Null h = refl
null_goes k (cell.Long x) h = cc
null_goes k (cell.Bool x) h = cc
null_goes k (cell.Text x) h = cc
null_goes k (cell.Time x) h = cc

pub alike_goes : (a b : Cell) → true ≡ eqb (class_of a) (class_of b) → goes_with a b ≡ true
alike_goes a b h = or_right (is_null b) (eqb (class_of a) (class_of b)) (sym h)

pub itself_goes : (a : Cell) → goes_with a a ≡ true
itself_goes a = or_right (is_null a) (eqb (class_of a) (class_of a)) (eq-eqb (class_of a) (class_of a) refl)

-- ---- two positions

goes_at : (lead : Cell) (cells : List Cell) → All (λ c. goes_with lead c ≡ true) cells → (i : ℕ) → goes_with lead (get_or cells i cell.Null) ≡ true
goes_at lead [] all i = refl
goes_at lead (c ∷ cs) all zero = All-head (λ c. goes_with lead c ≡ true) c cs all
goes_at lead (c ∷ cs) all (suc i) = goes_at lead cs (All-tail (λ c. goes_with lead c ≡ true) c cs all) i

turned : (r : Ordering) → is_eq (ordering_reverse r) ≡ is_eq r
turned Less = refl
turned Equal = refl
turned Greater = refl

keyed_less : (k : Keyed) → IsOfOneClass k.0 → (i j : ℕ) → is_lt (keyed_cmp k i j) ≡ in_direction k.1 (cell_in k i) (cell_in k j)
keyed_less k one i j = by k.1
  where
    at : (n : ℕ) → goes_with one.0 (cell_in k n) ≡ true
    at n = goes_at one.0 k.0 one.1 n

    by : (b : Bool) → is_lt (cond b (cell_cmp (cell_in k j) (cell_in k i)) (cell_cmp (cell_in k i) (cell_in k j))) ≡ in_direction b (cell_in k i) (cell_in k j)
    by true = less_cells (cell_in k j) (cell_in k i) (fit_both one.0 (cell_in k j) (cell_in k i) (at j) (at i))
    by false = less_cells (cell_in k i) (cell_in k j) (fit_both one.0 (cell_in k i) (cell_in k j) (at i) (at j))

keyed_level : (k : Keyed) (i j : ℕ) → is_eq (keyed_cmp k i j) ≡ cell_eq (cell_in k i) (cell_in k j)
keyed_level k i j = by k.1
  where
    by : (b : Bool) → is_eq (cond b (cell_cmp (cell_in k j) (cell_in k i)) (cell_cmp (cell_in k i) (cell_in k j))) ≡ cell_eq (cell_in k i) (cell_in k j)
    by true = ap is_eq (cell_total.antisymm (cell_in k j) (cell_in k i)) ∙ turned (cell_cmp (cell_in k i) (cell_in k j)) ∙ level_cells (cell_in k i) (cell_in k j)
    by false = level_cells (cell_in k i) (cell_in k j)

less_then : (a b : Ordering) → is_lt (ordering_then a b) ≡ (is_lt a || (is_eq a && is_lt b))
less_then Less b = refl
less_then Equal b = refl
less_then Greater b = refl

-- keys of which none has values of two classes order positions as the meaning does
pub orders_alike : (ks : List Keyed) → All (λ (k : Keyed). IsOfOneClass k.0) ks → OrdersAlike ks
orders_alike [] all i j = refl
orders_alike (k ∷ ks) all i j =
    less_then (keyed_cmp k i j) (compared ks i j)
    ∙ ap₂ (λ (a b : Bool). a || b) (keyed_less k (All-head (λ (k : Keyed). IsOfOneClass k.0) k ks all) i j)
    (ap₂ (λ (a b : Bool). a && b) (keyed_level k i j) (orders_alike ks (All-tail (λ (k : Keyed). IsOfOneClass k.0) k ks all) i j))

-- ---- keys one after another

then_found : (o x : Ordering) → is_ne o ≡ true → o ≡ ordering_then o x
then_found Less x h = refl
then_found Equal x h = cc
then_found Greater x h = refl

then_level : (o x : Ordering) → is_ne o ≡ false → ordering_then o x ≡ x
then_level Less x h = cc
then_level Equal x h = refl
then_level Greater x h = cc

or_rest : (d e x : Bool) → d ≡ false → e ≡ true → (d || (e && x)) ≡ x
or_rest true e x p q = cc
or_rest false true x p q = refl
or_rest false false x p q = cc

or_none : (d e x : Bool) → d ≡ false → e ≡ false → (d || (e && x)) ≡ false
or_none true e x p q = cc
or_none false true x p q = cc
or_none false false x p q = refl

module _ {C : Type 0} (f : C → Keyed) (cols : List C) (n : ℕ) (i j : ℕ) where
  compared_rest : (c : C) → n < length cols → c ≡ get_or cols n c → compared (map f (drop n cols)) i j ≡ ordering_then (keyed_cmp (f c) i j) (compared (map f (drop (n + 1) cols)) i j)
  compared_rest c low is = ap (λ l. compared (map f l) i j) (drop_more cols n c low ∙ ap (λ x. x ∷ drop (n + 1) cols) (sym is))

  pub compared_next : (c : C) (r : Ordering) → n < length cols → c ≡ get_or cols n c → r ≡ keyed_cmp (f c) i j → is_ne r ≡ false
      → compared (map f (drop n cols)) i j ≡ compared (map f cols) i j → compared (map f (drop (n + 1) cols)) i j ≡ compared (map f cols) i j
  compared_next c r low is found level all =
      sym (compared_rest c low is ∙ then_level (keyed_cmp (f c) i j) (compared (map f (drop (n + 1) cols)) i j) (ap is_ne (sym found) ∙ level)) ∙ all

  pub compared_here : (c : C) (r : Ordering) → n < length cols → c ≡ get_or cols n c → r ≡ keyed_cmp (f c) i j → is_ne r ≡ true → compared (map f (drop n cols)) i j ≡ compared (map f cols) i j → r ≡ compared (map f cols) i j
  compared_here c r low is found apart all = found ∙ then_found (keyed_cmp (f c) i j) (compared (map f (drop (n + 1) cols)) i j) (ap is_ne (sym found) ∙ apart) ∙ sym (compared_rest c low is) ∙ all

  pub compared_end : length cols ≤ n → compared (map f (drop n cols)) i j ≡ compared (map f cols) i j → Equal ≡ compared (map f cols) i j
  compared_end high all = sym (ap (λ l. compared (map f l) i j) (drop_all n cols high)) ∙ all

  before_rest : (c : C) → n < length cols → c ≡ get_or cols n c
      → before (map f (drop n cols)) i j ≡ (in_direction (f c).1 (cell_in (f c) i) (cell_in (f c) j) || (cell_eq (cell_in (f c) i) (cell_in (f c) j) && before (map f (drop (n + 1) cols)) i j))
  before_rest c low is = ap (λ l. before (map f l) i j) (drop_more cols n c low ∙ ap (λ x. x ∷ drop (n + 1) cols) (sym is))

  pub before_next : (c : C) → n < length cols → c ≡ get_or cols n c → in_direction (f c).1 (cell_in (f c) i) (cell_in (f c) j) ≡ false → cell_eq (cell_in (f c) i) (cell_in (f c) j) ≡ true
      → before (map f (drop n cols)) i j ≡ before (map f cols) i j → before (map f (drop (n + 1) cols)) i j ≡ before (map f cols) i j
  before_next c low is first same all =
      sym (before_rest c low is ∙ or_rest (in_direction (f c).1 (cell_in (f c) i) (cell_in (f c) j)) (cell_eq (cell_in (f c) i) (cell_in (f c) j)) (before (map f (drop (n + 1) cols)) i j) first same) ∙ all

  pub before_here : (c : C) → n < length cols → c ≡ get_or cols n c → in_direction (f c).1 (cell_in (f c) i) (cell_in (f c) j) ≡ true → before (map f (drop n cols)) i j ≡ before (map f cols) i j → true ≡ before (map f cols) i j
  before_here c low is first all = sym (before_rest c low is ∙ or_left (in_direction (f c).1 (cell_in (f c) i) (cell_in (f c) j)) (cell_eq (cell_in (f c) i) (cell_in (f c) j) && before (map f (drop (n + 1) cols)) i j) first) ∙ all

  pub before_apart : (c : C) → n < length cols → c ≡ get_or cols n c → in_direction (f c).1 (cell_in (f c) i) (cell_in (f c) j) ≡ false → cell_eq (cell_in (f c) i) (cell_in (f c) j) ≡ false
      → before (map f (drop n cols)) i j ≡ before (map f cols) i j → false ≡ before (map f cols) i j
  before_apart c low is first apart all =
      sym (before_rest c low is ∙ or_none (in_direction (f c).1 (cell_in (f c) i) (cell_in (f c) j)) (cell_eq (cell_in (f c) i) (cell_in (f c) j)) (before (map f (drop (n + 1) cols)) i j) first apart) ∙ all

  pub before_end : length cols ≤ n → before (map f (drop n cols)) i j ≡ before (map f cols) i j → false ≡ before (map f cols) i j
  before_end high all = sym (ap (λ l. before (map f l) i j) (drop_all n cols high)) ∙ all

-- ---- keys

pub class_more : (lead next : Cell) (keys given : List Key) (n : ℕ) (d : Key) → given ≡ keys → n < length given → ((c : Cell) → goes_with lead c ≡ true → goes_with next c ≡ true) → goes_with next (lent (get_or given n d)) ≡ true
    → All (λ c. goes_with lead c ≡ true) (map lent (take n keys)) → All (λ c. goes_with next c ≡ true) (map lent (take (n + 1) keys))
class_more lead next keys given n d same low kept added all =
    let P : Cell → Type 0 = λ c. goes_with next c ≡ true in
    subst (All P) (sym (map_more lent keys n d (subst (λ (l : List Key). n < length l) same low)))
    (All-push P (map lent (take n keys)) (lent (get_or keys n d)) (All-weaker (λ c. goes_with lead c ≡ true) P kept (map lent (take n keys)) all) (ap (λ (l : List Key). goes_with next (lent (get_or l n d))) (sym same) ∙ added))

pub class_all : (lead : Cell) (keys : List Key) (n : ℕ) → length keys ≤ n → All (λ c. goes_with lead c ≡ true) (map lent (take n keys)) → IsOfOneClass (map lent keys)
class_all lead keys n high all = (lead, subst (λ (l : List Key). All (λ c. goes_with lead c ≡ true) (map lent l)) (take_all n keys high) all)

abbrev key_cmp : Key → Key → Ordering
key_cmp = (key_ord.ghosts).cmp

pub keys_compared : (a b : Key) → key_cmp a b ≡ cell_cmp (lent a) (lent b)
keys_compared key.Null key.Null = refl
keys_compared (key.Long x) (key.Long y) = sym (level (int_cmp x y))
keys_compared (key.Truth true) (key.Truth true) = refl
keys_compared (key.Truth true) (key.Truth false) = refl
keys_compared (key.Truth false) (key.Truth true) = refl
keys_compared (key.Truth false) (key.Truth false) = refl
keys_compared (key.Text x) (key.Text y) = refl
keys_compared (key.Time x) (key.Time y) = sym (level (nat_cmp x y))
keys_compared _ _ = refl
