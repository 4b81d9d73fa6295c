-- Where items stand, and what is made of them.
use Rattle.std.proofs.Common.{◌≡◌, ℕ, suc, ◌+◌, Bool, true, false, ◌||◌, if◌then◌else◌, eqb, List, [], ◌∷◌, ◌++◌, length, map, None, refl, sym, ap, ap₂, ◌∙◌, arith, true≢false, add-zero}
use Rattle.std.specs.List.{flat_map, range_with_len}
use Rattle.std.proofs.lemmas.Bool.{eqb-true}
use Rattle.qd_base.specs.declared.schema.ColType.{ColType}
use Rattle.qd_value.specs.declared.bound.Bound.{Bound}
use Rattle.qd_meaning.specs.declared.parts.Agg.{Agg}
use Rattle.qd_meaning.specs.declared.parts.Work.TheVariants as work
use Rattle.qd_meaning.specs.Items.{Part, Value, Made, Shows, Role, Start, Key, Makes, aggs_among, bound_in, is_made, keys_among, picks_from, role_of, some_made}
use Rattle.qd_meaning.specs.Planned.{made_kinds, work_of}
use Rattle.qd_plan.specs.Showing.{pick, plain_work, roles, seats_from}
use Rattle.qd_plan.proofs.ItemLemmas.{made_kind}

-- ---- where the items stand

behind : (k n : ℕ) → k + (n + 1) ≡ (k + n) + 1
behind k n = omega arith

pub one_behind : (a b : ℕ) → a ≡ b → 1 + a ≡ b + 1
one_behind a b e = omega arith

pub none_before : (a b : ℕ) → a ≡ b → 0 + a ≡ b
none_before a b e = omega arith

picks_same : (keys aggs k a : ℕ) (rs : List Role) → map (pick keys aggs) (seats_from k a rs) ≡ picks_from (keys + k) (aggs + a) rs
picks_same keys aggs k a [] = refl
picks_same keys aggs k a (Start ∷ rs) = ap (λ (ns : List ℕ). 0 ∷ ns) (picks_same keys aggs k a rs)
picks_same keys aggs k a (Key e ∷ rs) =
    ap (λ (ns : List ℕ). (keys + k) ∷ ns) (picks_same keys aggs (k + 1) a rs ∙ ap (λ (n : ℕ). picks_from n (aggs + a) rs) (behind keys k))
picks_same keys aggs k a (Makes g ∷ rs) =
    ap (λ (ns : List ℕ). (aggs + a) ∷ ns) (picks_same keys aggs k (a + 1) rs ∙ ap (λ (n : ℕ). picks_from (keys + k) n rs) (behind aggs a))

pub picks_all : (keys aggs key made : ℕ) (rs : List Role) → keys ≡ key → aggs ≡ made → map (pick keys aggs) (seats_from 0 0 rs) ≡ picks_from key made rs
picks_all keys aggs key made rs e f = picks_same keys aggs 0 0 rs ∙ ap₂ (λ (m n : ℕ). picks_from m n rs) (add-zero keys ∙ e) (add-zero aggs ∙ f)

or-false : (b c : Bool) → (b || c) ≡ false → c ≡ false
or-false true c e = absurd (true≢false e)
or-false false c e = e

-- without aggregates and buckets each item is a key
pub picks_plain : (shown : List Shows) (k m : ℕ) → some_made shown ≡ false → picks_from k m (roles None shown) ≡ range_with_len k (length (roles None shown))
picks_plain [] k m e = refl
picks_plain (s ∷ ss) k m e = go (picks_plain ss (k + 1) m) s.part e
  where
    go : (some_made ss ≡ false → picks_from (k + 1) m (roles None ss) ≡ range_with_len (k + 1) (length (roles None ss))) → (p : Part) → (is_made p || some_made ss) ≡ false
        → picks_from k m (role_of None p ∷ roles None ss) ≡ range_with_len k (suc (length (roles None ss)))
    go rest (Value x) h = ap (λ (ns : List ℕ). k ∷ ns) (rest h)
    go rest (Made a) h = absurd (true≢false h)

-- ---- what is made

keys_plain : (shown : List Shows) → keys_among (roles None shown) ≡ flat_map (λ (i : Shows). bound_in i.part) shown
keys_plain [] = refl
keys_plain (s ∷ ss) = go (keys_plain ss) s.part
  where
    go : keys_among (roles None ss) ≡ flat_map (λ (i : Shows). bound_in i.part) ss → (p : Part) → keys_among (role_of None p ∷ roles None ss) ≡ bound_in p ++ flat_map (λ (i : Shows). bound_in i.part) ss
    go rest (Value x) = ap (λ (es : List Bound). x.bound ∷ es) rest
    go rest (Made a) = rest

kinds_none : (shown : List Shows) → some_made shown ≡ false → made_kinds shown ≡ []
kinds_none [] e = refl
kinds_none (s ∷ ss) e = go (kinds_none ss) s.part e
  where
    go : (some_made ss ≡ false → made_kinds ss ≡ []) → (p : Part) → (is_made p || some_made ss) ≡ false → made_kind s.kind p ++ made_kinds ss ≡ []
    go rest (Value x) h = rest h
    go rest (Made a) h = absurd (true≢false h)

grouped : (shown : List Shows) (keys : List Bound) (aggs : List Agg) → some_made shown ≡ true → plain_work (made_kinds shown) keys aggs ≡ work.Group (record { keys = keys; aggs = aggs })
grouped [] keys aggs e = absurd (true≢false (sym e))
grouped (s ∷ ss) keys aggs e = go (grouped ss keys aggs) s.part e
  where
    go : (some_made ss ≡ true → plain_work (made_kinds ss) keys aggs ≡ work.Group (record { keys = keys; aggs = aggs })) → (p : Part) → (is_made p || some_made ss) ≡ true
        → plain_work (made_kind s.kind p ++ made_kinds ss) keys aggs ≡ work.Group (record { keys = keys; aggs = aggs })
    go rest (Value x) h = rest h
    go rest (Made a) h = refl

pub work_plain : (shown : List Shows) → plain_work (made_kinds shown) (keys_among (roles None shown)) (aggs_among (roles None shown)) ≡ work_of None (some_made shown) (flat_map (λ (i : Shows). bound_in i.part) shown) (roles None shown)
work_plain shown = go (some_made shown) refl
  where
    go : (b : Bool) → some_made shown ≡ b
        → plain_work (made_kinds shown) (keys_among (roles None shown)) (aggs_among (roles None shown)) ≡ work_of None b (flat_map (λ (i : Shows). bound_in i.part) shown) (roles None shown)
    go true e = grouped shown (keys_among (roles None shown)) (aggs_among (roles None shown)) e
    go false e =
        ap (λ (ks : List ColType). plain_work ks (keys_among (roles None shown)) (aggs_among (roles None shown))) (kinds_none shown e) ∙ ap work.Plain (keys_plain shown)

pub picks_none : (shown : List Shows) (keys aggs : ℕ) → keys ≡ 0 → aggs ≡ length (keys_among (roles None shown))
    → map (pick keys aggs) (seats_from 0 0 (roles None shown)) ≡ (if some_made shown then picks_from 0 (length (keys_among (roles None shown))) (roles None shown) else range_with_len 0 (length (roles None shown)))
picks_none shown keys aggs e f = picks_all keys aggs 0 (length (keys_among (roles None shown))) (roles None shown) e f ∙ go (some_made shown) refl
  where
    go : (b : Bool) → some_made shown ≡ b → picks_from 0 (length (keys_among (roles None shown))) (roles None shown) ≡ (if b then picks_from 0 (length (keys_among (roles None shown))) (roles None shown) else range_with_len 0 (length (roles None shown)))
    go true e = refl
    go false e = picks_plain shown 0 (length (keys_among (roles None shown))) e

pub work_empty : (kinds : List ColType) (keys : List Bound) (aggs : List Agg) → eqb (length kinds) 0 ≡ true → work.Plain keys ≡ plain_work kinds keys aggs
work_empty [] keys aggs e = refl
work_empty (k ∷ ks) keys aggs e = let none = eqb-true (suc (length ks)) 0 e in absurd (omega arith)

pub work_filled : (kinds : List ColType) (keys : List Bound) (aggs : List Agg) → eqb (length kinds) 0 ≡ false → work.Group (record { keys = keys; aggs = aggs }) ≡ plain_work kinds keys aggs
work_filled [] keys aggs e = absurd (true≢false e)
work_filled (k ∷ ks) keys aggs e = refl
