-- Without a fill a sample is grouping by bucket and keys.
use Rattle.std.proofs.Common.{◌≡◌, ℕ, Bool, true, false, cond, eqb, List, [], ◌∷◌, ◌++◌, map, filter, refl, sym, ap, ap₂, ◌∙◌, subst}
use Rattle.std.specs.Prelude.{not, ◌&&◌, ◌||◌, IsPermutation}
use Rattle.std.specs.List.{flat_map, list_any}
use Rattle.std.specs.Bool.{Decides}
use Rattle.std.proofs.lemmas.Bool.{cond-true}
use Rattle.std.proofs.lemmas.Simd.{map-map}
use Rattle.std.proofs.lemmas.Slice.Eq.{slice_eq-Decides}
use Rattle.std.proofs.lemmas.List.Sorted.{IsPermutation-append, IsPermutation-cons, IsPermutation-map, IsPermutation-middle, IsPermutation-refl, IsPermutation-trans}
use Rattle.qd_base.specs.declared.cell.Cell.TheVariants as cell
use Rattle.qd_base.specs.Rows.{Row, time_of}
use Rattle.qd_group.proofs.Distincts.{keys_equiv}
use Rattle.qd_meaning.specs.declared.parts.Agg.{Agg}
use Rattle.qd_meaning.specs.declared.parts.GroupSpec.{GroupSpec}
use Rattle.qd_meaning.specs.Grouped.{aggregates, distinct, groups_of, key_of, keys_of, rows_of, same_key}
use Rattle.qd_meaning.specs.Joined.{last_or}
use Rattle.qd_meaning.specs.Sampled.{align_of, filled_from, in_bucket, nulls, row_of, sample_row, skips, starts, unfilled}
use Rattle.qd_time.specs.Buckets.{bucket_start}
use Rattle.qd_value.proofs.Orders.{cells-equal}
use Rattle.qd_value.specs.declared.bound.Bound.{Bound}
use Rattle.qd_sample.specs.Laws.{groups_in, SampleIsGrouping}
use Rattle.qd_sample.proofs.Lists.{filter-filter, filter_alike}

-- ---- tests of keys

abbrev differs : Row → Row → Bool
differs x y = not (same_key x y)

-- some key is this one
abbrev among : List Row → Row → Bool
among ks k = list_any (same_key k) ks

and_later : (a b c : Bool) → (a ≡ true → b ≡ c) → (a && b) ≡ (a && c)
and_later true b c same = same refl
and_later false b c same = refl

and_self : (a : Bool) → (a && a) ≡ a
and_self true = refl
and_self false = refl

from_differs : (b : Bool) → not b ≡ true → b ≡ false
from_differs true other = absurd cc
from_differs false other = refl

-- keys are the same where they are one key
key_same : (a b : Row) → Decides (same_key a b) (a ≡ b)
key_same a b = slice_eq-Decides cells-equal a b (same_key a b) refl

turned : (a b : Row) → same_key b a ≡ false → same_key a b ≡ false
turned a b other = keys_equiv.symm a b ∙ other

filter_turned : (p q : Row → Bool) (xs : List Row) → filter p (filter q xs) ≡ filter q (filter p xs)
filter_turned p q xs = filter-filter p q xs ∙ filter_alike (λ x. q x && p x) (λ x. p x && q x) (λ x. by (q x) (p x)) xs ∙ sym (filter-filter q p xs)
  where
    by : (a b : Bool) → (a && b) ≡ (b && a)
    by true true = refl
    by true false = refl
    by false true = refl
    by false false = refl

filter_all : (xs : List Row) → filter (λ x. true) xs ≡ xs
filter_all [] = refl
filter_all (x ∷ xs) = ap (λ (l : List Row). x ∷ l) (filter_all xs)

-- ---- a key that stands among others

-- a filter of a list with one item more
kept_more : (q : Row → Bool) (k : Row) (xs ys : List Row) → IsPermutation (filter q xs) (filter q ys) → IsPermutation (filter q (k ∷ xs)) (filter q (k ∷ ys))
kept_more q k xs ys are = by (q k)
  where
    by : (b : Bool) → IsPermutation (cond b (k ∷ filter q xs) (filter q xs)) (cond b (k ∷ filter q ys) (filter q ys))
    by true = IsPermutation-cons k (filter q xs) (filter q ys) are
    by false = are

kept_turned : (q : Row → Bool) (x y : Row) (xs : List Row) → IsPermutation (filter q (x ∷ y ∷ xs)) (filter q (y ∷ x ∷ xs))
kept_turned q x y xs = by (q x) (q y)
  where
    by : (a b : Bool) → IsPermutation (cond a (x ∷ cond b (y ∷ filter q xs) (filter q xs)) (cond b (y ∷ filter q xs) (filter q xs))) (cond b (y ∷ cond a (x ∷ filter q xs) (filter q xs)) (cond a (x ∷ filter q xs) (filter q xs)))
    by true true = IsPermutation-middle (x ∷ []) y (filter q xs)
    by true false = IsPermutation-refl (x ∷ filter q xs)
    by false true = IsPermutation-refl (y ∷ filter q xs)
    by false false = IsPermutation-refl (filter q xs)

-- two lists, of which each filter is a permutation of the other's
abbrev Alike : List Row → List Row → Type 0
Alike xs ys = (q : Row → Bool) → IsPermutation (filter q xs) (filter q ys)

alike_refl : (xs : List Row) → Alike xs xs
alike_refl xs q = IsPermutation-refl (filter q xs)

alike_trans : (xs ys zs : List Row) → Alike xs ys → Alike ys zs → Alike xs zs
alike_trans xs ys zs a b q = IsPermutation-trans (filter q xs) (filter q ys) (filter q zs) (a q) (b q)

alike_more : (k : Row) (xs ys : List Row) → Alike xs ys → Alike (k ∷ xs) (k ∷ ys)
alike_more k xs ys are q = kept_more q k xs ys (are q)

alike_turned : (x y : Row) (xs : List Row) → Alike (x ∷ y ∷ xs) (y ∷ x ∷ xs)
alike_turned x y xs q = kept_turned q x y xs

alike_kept : (p : Row → Bool) (xs ys : List Row) → Alike xs ys → Alike (filter p xs) (filter p ys)
alike_kept p xs ys are q =
    subst (λ (l : List Row). IsPermutation l (filter q (filter p ys))) (sym (filter-filter q p xs))
    (subst (λ (l : List Row). IsPermutation (filter (λ x. p x && q x) xs) l) (sym (filter-filter q p ys)) (are (λ x. p x && q x)))

alike_from : (xs ys : List Row) → xs ≡ ys → Alike xs ys
alike_from xs ys is = subst (Alike xs) is (alike_refl xs)

-- a key that isn't among some, isn't among the distinct ones
none_left : (k : Row) (ys : List Row) → among ys k ≡ false → filter (differs k) (distinct ys) ≡ distinct ys
none_left k [] none = refl
none_left k (y ∷ ys) none = by (same_key k y) refl none (λ other. none_left k ys other)
  where
    by : (b : Bool) → same_key k y ≡ b → (b || list_any (same_key k) ys) ≡ false → (list_any (same_key k) ys ≡ false → filter (differs k) (distinct ys) ≡ distinct ys)
        → filter (differs k) (y ∷ filter (differs y) (distinct ys)) ≡ y ∷ filter (differs y) (distinct ys)
    by true is other rest = absurd cc
    by false is other rest =
        ap (λ (b : Bool). cond (not b) (y ∷ filter (differs k) (filter (differs y) (distinct ys))) (filter (differs k) (filter (differs y) (distinct ys)))) is
        ∙ ap (λ (l : List Row). y ∷ l) (filter_turned (differs k) (differs y) (distinct ys) ∙ ap (filter (differs y)) (rest other))

here_same : (k y : Row) (ys : List Row) → k ≡ y → filter (differs k) (y ∷ filter (differs y) (distinct ys)) ≡ filter (differs y) (distinct ys)
here_same k y ys is =
    ap (λ (b : Bool). cond (not b) (y ∷ filter (differs k) (filter (differs y) (distinct ys))) (filter (differs k) (filter (differs y) (distinct ys)))) ((key_same k y).1 is)
    ∙ ap (λ (x : Row). filter (differs x) (filter (differs y) (distinct ys))) is
    ∙ filter-filter (differs y) (differs y) (distinct ys)
    ∙ filter_alike (λ x. differs y x && differs y x) (differs y) (λ x. and_self (differs y x)) (distinct ys)

later_other : (k y : Row) (ys : List Row) → same_key k y ≡ false → y ∷ filter (differs y) (k ∷ filter (differs k) (distinct ys)) ≡ y ∷ k ∷ filter (differs k) (filter (differs y) (distinct ys))
later_other k y ys other =
    ap (λ (b : Bool). y ∷ cond (not b) (k ∷ filter (differs y) (filter (differs k) (distinct ys))) (filter (differs y) (filter (differs k) (distinct ys)))) (turned y k other)
    ∙ ap (λ (l : List Row). y ∷ k ∷ l) (filter_turned (differs y) (differs k) (distinct ys))

-- one that is among some stands before the distinct ones without it
to_front : (k : Row) (ys : List Row) → among ys k ≡ true → Alike (k ∷ filter (differs k) (distinct ys)) (distinct ys)
to_front k [] there = absurd cc
to_front k (y ∷ ys) there = by (same_key k y) refl there (λ found. to_front k ys found)
  where
    by : (b : Bool) → same_key k y ≡ b → (b || list_any (same_key k) ys) ≡ true → (list_any (same_key k) ys ≡ true → Alike (k ∷ filter (differs k) (distinct ys)) (distinct ys))
        → Alike (k ∷ filter (differs k) (y ∷ filter (differs y) (distinct ys))) (y ∷ filter (differs y) (distinct ys))
    by true is found rest =
        let same : k ≡ y = (key_same k y).0 is in
        alike_from (k ∷ filter (differs k) (y ∷ filter (differs y) (distinct ys))) (y ∷ filter (differs y) (distinct ys)) (ap₂ (λ (x : Row) (l : List Row). x ∷ l) same (here_same k y ys same))
    by false is found rest =
        let left : List Row = filter (differs y) (distinct ys) in
        subst (λ (l : List Row). Alike (k ∷ l) (y ∷ filter (differs y) (distinct ys))) (sym (ap (λ (b : Bool). cond (not b) (y ∷ filter (differs k) (filter (differs y) (distinct ys))) (filter (differs k) (filter (differs y) (distinct ys)))) is))
        (alike_trans (k ∷ y ∷ filter (differs k) left) (y ∷ k ∷ filter (differs k) left) (y ∷ left) (alike_turned k y (filter (differs k) left))
        (subst (λ (l : List Row). Alike l (y ∷ filter (differs y) (distinct ys))) (later_other k y ys is)
        (alike_more y (filter (differs y) (k ∷ filter (differs k) (distinct ys))) left (alike_kept (differs y) (k ∷ filter (differs k) (distinct ys)) (distinct ys) (rest found)))))

-- ---- the keys of some rows among those of all

-- behind a key, one is among it and others where it is among the others
behind : (k : Row) (some : List Row) (x : Row) → (differs k x && (same_key x k || among some x)) ≡ (differs k x && among some x)
behind k some x = and_later (differs k x) (same_key x k || among some x) (among some x) (λ other. ap (λ (b : Bool). b || among some x) (turned x k (from_differs (same_key k x) other)))

taken : (k : Row) (some all : List Row) → filter (among (k ∷ some)) (filter (differs k) all) ≡ filter (differs k) (filter (among some) all)
taken k some all =
    filter-filter (among (k ∷ some)) (differs k) all
    ∙ filter_alike (λ x. differs k x && among (k ∷ some) x) (λ x. differs k x && among some x) (behind k some) all
    ∙ sym (filter-filter (among some) (differs k) all)
    ∙ filter_turned (among some) (differs k) all

with_key : (k : Row) (some all : List Row) → Alike (filter (among some) all) (distinct some) → Alike (filter (among (k ∷ some)) (k ∷ filter (differs k) all)) (k ∷ filter (differs k) (distinct some))
with_key k some all are =
    subst (λ (b : Bool). Alike (cond (b || among some k) (k ∷ filter (among (k ∷ some)) (filter (differs k) all)) (filter (among (k ∷ some)) (filter (differs k) all))) (k ∷ filter (differs k) (distinct some))) (sym ((key_same k k).1 refl))
    (subst (λ (l : List Row). Alike (k ∷ l) (k ∷ filter (differs k) (distinct some))) (sym (taken k some all))
    (alike_more k (filter (differs k) (filter (among some) all)) (filter (differs k) (distinct some)) (alike_kept (differs k) (filter (among some) all) (distinct some) are)))

without_key : (k : Row) (some all : List Row) (b : Bool) → among some k ≡ b → Alike (filter (among some) all) (distinct some)
    → Alike (cond b (k ∷ filter (among some) (filter (differs k) all)) (filter (among some) (filter (differs k) all))) (distinct some)
without_key k some all true is are =
    alike_trans (k ∷ filter (among some) (filter (differs k) all)) (k ∷ filter (differs k) (distinct some)) (distinct some)
    (subst (λ (l : List Row). Alike (k ∷ l) (k ∷ filter (differs k) (distinct some))) (filter_turned (differs k) (among some) all)
    (alike_more k (filter (differs k) (filter (among some) all)) (filter (differs k) (distinct some)) (alike_kept (differs k) (filter (among some) all) (distinct some) are)))
    (to_front k some is)
without_key k some all false is are =
    subst (λ (l : List Row). Alike l (distinct some)) (filter_turned (differs k) (among some) all)
    (subst (Alike (filter (differs k) (filter (among some) all))) (none_left k some is) (alike_kept (differs k) (filter (among some) all) (distinct some) are))

-- the keys of some of the rows, among those of all
keys_kept : (f : Row → Row) (p : Row → Bool) (rows : List Row) → Alike (filter (among (map f (filter p rows))) (distinct (map f rows))) (distinct (map f (filter p rows)))
keys_kept f p [] = alike_refl []
keys_kept f p (r ∷ rs) = by (p r) (keys_kept f p rs)
  where
    by : (b : Bool) → Alike (filter (among (map f (filter p rs))) (distinct (map f rs))) (distinct (map f (filter p rs)))
        → Alike (filter (among (map f (cond b (r ∷ filter p rs) (filter p rs)))) (f r ∷ filter (differs (f r)) (distinct (map f rs)))) (distinct (map f (cond b (r ∷ filter p rs) (filter p rs))))
    by true are = with_key (f r) (map f (filter p rs)) (distinct (map f rs)) are
    by false are = without_key (f r) (map f (filter p rs)) (distinct (map f rs)) (among (map f (filter p rs)) (f r)) refl are

-- ---- the rows of a bucket

-- a key gives a row where some row has it
row_some : (aggs : List Agg) (start : ℕ) (key : Row) (q : Row → Bool) (f : Row → Row) (rows : List Row)
    → row_of aggs start key (filter (λ row. q (f row)) rows) ≡ cond (list_any q (map f rows)) (sample_row start key (aggregates aggs (filter (λ row. q (f row)) rows)) ∷ []) []
row_some aggs start key q f [] = refl
row_some aggs start key q f (r ∷ rs) = by (q (f r)) (row_some aggs start key q f rs)
  where
    by : (b : Bool) → row_of aggs start key (filter (λ row. q (f row)) rs) ≡ cond (list_any q (map f rs)) (sample_row start key (aggregates aggs (filter (λ row. q (f row)) rs)) ∷ []) []
        → row_of aggs start key (cond b (r ∷ filter (λ row. q (f row)) rs) (filter (λ row. q (f row)) rs))
        ≡ cond (b || list_any q (map f rs)) (sample_row start key (aggregates aggs (cond b (r ∷ filter (λ row. q (f row)) rs) (filter (λ row. q (f row)) rs))) ∷ []) []
    by true rest = refl
    by false rest = rest

-- what a key gives over some rows
abbrev of_key : GroupSpec → ℕ → List Row → Row → Row
of_key group start here key = sample_row start key (aggregates group.aggs (rows_of group.keys key here))

keys_give : (group : GroupSpec) (start : ℕ) (here keys : List Row)
    → flat_map (λ key. row_of group.aggs start key (rows_of group.keys key here)) keys ≡ map (of_key group start here) (filter (among (map (key_of group.keys) here)) keys)
keys_give group start here [] = refl
keys_give group start here (k ∷ ks) =
    ap₂ (λ (a b : List Row). a ++ b) (row_some group.aggs start k (same_key k) (key_of group.keys) here) (keys_give group start here ks)
    ∙ by (among (map (key_of group.keys) here) k)
  where
    by : (b : Bool) → cond b (of_key group start here k ∷ []) [] ++ map (of_key group start here) (filter (among (map (key_of group.keys) here)) ks)
        ≡ map (of_key group start here) (cond b (k ∷ filter (among (map (key_of group.keys) here)) ks) (filter (among (map (key_of group.keys) here)) ks))
    by true = refl
    by false = refl

-- without keys all rows have one
one_key : (rows : List Row) → filter (differs []) (distinct (map (key_of []) rows)) ≡ []
one_key [] = refl
one_key (r ∷ rs) = ap (filter (differs [])) (one_key rs)

groups_are : (keys : List Bound) (r : Row) (rs : List Row) → groups_of keys (r ∷ rs) ≡ keys_of keys (r ∷ rs)
groups_are [] r rs = ap (λ (l : List Row). [] ∷ l) (sym (one_key rs))
groups_are (k ∷ ks) r rs = refl

-- the groups of a bucket's rows, by their keys
groups_give : (group : GroupSpec) (start : ℕ) (here : List Row) → groups_in group start here ≡ map (of_key group start here) (keys_of group.keys here)
groups_give group start [] = refl
groups_give group start (r ∷ rs) =
    map-map (λ (answer : Row). cell.Time start ∷ answer) (λ key. key ++ aggregates group.aggs (rows_of group.keys key (r ∷ rs))) (groups_of group.keys (r ∷ rs))
    ∙ ap (map (of_key group start (r ∷ rs))) (groups_are group.keys r rs)

-- what a bucket gives
bucket_groups : (group : GroupSpec) (start : ℕ) (p : Row → Bool) (rows : List Row)
    → IsPermutation (flat_map (λ key. row_of group.aggs start key (rows_of group.keys key (filter p rows))) (keys_of group.keys rows)) (groups_in group start (filter p rows))
bucket_groups group start p rows =
    let here = filter p rows in
    let f = key_of group.keys in
    let kept : List Row = filter (among (map f here)) (distinct (map f rows)) in
    let same : IsPermutation (filter (λ x. true) (filter (among (map f here)) (distinct (map f rows)))) (filter (λ x. true) (distinct (map f here))) = keys_kept f p rows (λ x. true) in
    let keys = subst (λ (l : List Row). IsPermutation l (distinct (map f here))) (filter_all kept) (subst (IsPermutation (filter (λ x. true) kept)) (filter_all (distinct (map f here))) same) in
    subst (λ (l : List Row). IsPermutation l (groups_in group start here)) (sym (keys_give group start here (keys_of group.keys rows)))
    (subst (IsPermutation (map (of_key group start here) kept)) (sym (groups_give group start here))
    (IsPermutation-map (of_key group start here) kept (distinct (map f here)) keys))

-- ---- the whole

buckets_alike : (f g : ℕ → List Row) → ((start : ℕ) → IsPermutation (f start) (g start)) → (list : List ℕ) → IsPermutation (flat_map f list) (flat_map g list)
buckets_alike f g same [] = IsPermutation-refl []
buckets_alike f g same (start ∷ more) = IsPermutation-append (f start) (g start) (flat_map f more) (flat_map g more) (same start) (buckets_alike f g same more)

pub sample-is-grouping : SampleIsGrouping
sample-is-grouping spec col r rs skip =
    let rows : List Row = r ∷ rs in
    let align = align_of spec.offset (time_of col r) in
    let list = starts spec.stride align (time_of col r) (time_of col (last_or r rs)) in
    let keys = keys_of spec.group.keys rows in
    let groups = flat_map (λ start. groups_in spec.group start (in_bucket spec.stride align col start rows)) list in
    subst (λ (l : List Row). IsPermutation l groups)
    (sym (cond-true (skips spec.fills) (unfilled spec align col keys list rows) (filled_from spec align col keys list (map (λ k. nulls spec.group.aggs) keys) rows) skip))
    (buckets_alike (λ start. flat_map (λ key. row_of spec.group.aggs start key (rows_of spec.group.keys key (in_bucket spec.stride align col start rows))) keys) (λ start. groups_in spec.group start (in_bucket spec.stride align col start rows))
    (λ start. bucket_groups spec.group start (λ row. eqb (bucket_start spec.stride align (time_of col row)) start) rows) list)
