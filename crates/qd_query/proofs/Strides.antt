-- The samples of a query without refusals: their stride and offset are in range, and their fills fit.
use Rattle.std.proofs.Common.{◌≡◌, ◌⊎◌, inl, inr, ℕ, zero, suc, ◌+◌, ◌*◌, ◌≤◌, Bool, true, false, cond, eqb, leb, List, [], ◌∷◌, ◌++◌, length, map, Option, Some, None, refl, sym, ap, ◌∙◌, arith}
use Rattle.std.specs.Prelude.{◌&&◌, ◌||◌, ℤ}
use Rattle.std.proofs.Math.Dec.{le→leb}
use Rattle.std.proofs.lemmas.Bool.{and_parts, eqb-true, leb-true, or_cases}
use Rattle.std.proofs.lemmas.List.{length-map}
use Rattle.qd_base.specs.declared.code.Code.{Code}
use Rattle.qd_base.specs.declared.code.Code.TheVariants as code
use Rattle.qd_base.specs.declared.schema.ColType.{ColType}
use Rattle.qd_sql_ast.specs.declared.tree.AlignTo.{AlignTo}
use Rattle.qd_sql_ast.specs.declared.tree.AlignTo.TheVariants as align
use Rattle.qd_sql_ast.specs.declared.tree.Fills.{Fills}
use Rattle.qd_sql_ast.specs.declared.tree.Sampled.{Sampled}
use Rattle.qd_value.specs.declared.bound.Bound.{Bound}
use Rattle.qd_meaning.specs.declared.parts.Agg.{Agg}
use Rattle.qd_meaning.specs.declared.refusal.Refusal.{Refusal}
use Rattle.qd_meaning.specs.Items.{Key, Made, Part, Role, Shows, Start, Value, agg_in, aggs_among, is_made, role_by, role_of}
use Rattle.qd_meaning.specs.Planned as parts
use Rattle.qd_meaning.specs.Refusals.{unless}
use Rattle.qd_meaning.specs.Sampling.{align_faults, before, behind, fill_of, fills_faults, fills_of, is_digit, list_faults, minutes_of, offset_of, offset_of_text, or_none, two_digits}
use Rattle.qd_meaning.specs.Typing.{Form, NumberAt, Other, Plain, TextAt}
use Rattle.qd_sample.specs.Sampling.{IsOffset}
use Rattle.qd_query.specs.Answers.{HasStride, IsWork}

-- ---- lists of refusals

pub front : {X : Type 0} (xs ys : List X) → xs ++ ys ≡ [] → xs ≡ []
front [] ys e = refl
front (x ∷ xs) ys e = cc

pub back : {X : Type 0} (xs ys : List X) → xs ++ ys ≡ [] → ys ≡ []
back [] ys e = e
back (x ∷ xs) ys e = cc

-- ---- offsets

abbrev IsLow : Option ℕ → Type 0
IsLow None = Unit {0}
IsLow (Some n) = n ≤ 1439

-- hours and minutes in range are less than a day
low_by : (t : Bool) (h m : ℕ) → (t ≡ true → (h ≤ 23) × (m ≤ 59)) → IsLow (cond t (Some (h * 60 + m)) None)
low_by true h m low = let both = low refl in omega (arith, both.0, both.1)
low_by false h m low = tt

minutes_low : (bs : List ℕ) → IsLow (minutes_of bs)
minutes_low [] = tt
minutes_low (a ∷ []) = tt
minutes_low (a ∷ b ∷ []) = tt
minutes_low (a ∷ b ∷ c ∷ []) = tt
minutes_low (a ∷ b ∷ c ∷ d ∷ []) = tt
minutes_low (a ∷ b ∷ c ∷ d ∷ e ∷ []) =
    let h = two_digits a b in
    let m = two_digits d e in
    low_by (is_digit a && is_digit b && eqb c 58 && is_digit d && is_digit e && leb h 23 && leb m 59) h m
    (λ holds.
    let all = and_parts (is_digit a && is_digit b && eqb c 58 && is_digit d && is_digit e && leb h 23) (leb m 59) holds in
    let hours = and_parts (is_digit a && is_digit b && eqb c 58 && is_digit d && is_digit e) (leb h 23) all.0 in
    (leb-true h 23 hours.1, leb-true m 59 all.1))
minutes_low (a ∷ b ∷ c ∷ d ∷ e ∷ f ∷ bs) = tt

behind_fits : (o : Option ℕ) → IsLow o → IsOffset (behind o)
behind_fits None low = tt
behind_fits (Some n) low = (omega arith, record { le = le→leb n 1439 low })

before_fits : (o : Option ℕ) → IsLow o → IsOffset (before o)
before_fits None low = tt
before_fits (Some zero) low = (omega arith, omega arith)
before_fits (Some (suc n)) low = (record { le = le→leb n 1438 (omega (arith, low)) }, omega arith)

either_fits : (b : Bool) (x y : Option ℤ) → IsOffset x → IsOffset y → IsOffset (cond b x y)
either_fits true x y hx hy = hx
either_fits false x y hx hy = hy

text_fits : (text : List ℕ) → IsOffset (offset_of_text text)
text_fits [] = tt
text_fits (b ∷ bs) =
    either_fits (eqb b 43) (behind (minutes_of bs)) (cond (eqb b 45) (before (minutes_of bs)) (behind (minutes_of (b ∷ bs)))) (behind_fits (minutes_of bs) (minutes_low bs))
    (either_fits (eqb b 45) (before (minutes_of bs)) (behind (minutes_of (b ∷ bs))) (before_fits (minutes_of bs) (minutes_low bs)) (behind_fits (minutes_of (b ∷ bs)) (minutes_low (b ∷ bs))))

or_none_fits : (o : Option ℤ) → IsOffset o → IsOffset (or_none o)
or_none_fits None h = (omega arith, omega arith)
or_none_fits (Some m) h = h

offset_fits : (a : Option AlignTo) → IsOffset (offset_of a)
offset_fits None = (omega arith, omega arith)
offset_fits (Some (align.Calendar None)) = (omega arith, omega arith)
offset_fits (Some (align.Calendar (Some t))) = or_none_fits (offset_of_text t.text) (text_fits t.text)
offset_fits (Some align.First) = tt

-- ---- fills

held : (test : Bool) (why : Code) (place : ℕ) (others : List Refusal) → unless test why place ++ others ≡ [] → test ≡ true
held true why place others none = refl
held false why place others none = cc

fills_fit : (f : Option Fills) (kinds : List ColType) (aggs : List Agg) → length aggs ≡ length kinds → fills_faults f kinds ≡ [] → (length (fills_of f) ≡ 1) ⊎ (length (fills_of f) ≡ length aggs)
fills_fit None kinds aggs same none = inl refl
fills_fit (Some f) kinds aggs same none = elim (or_cases (eqb (length f.fills) 1) (eqb (length f.fills) (length kinds)) (held (eqb (length f.fills) 1 || eqb (length f.fills) (length kinds)) code.Types f.at (list_faults f.fills kinds) none)) [
  | inl one ↦ inl (length-map f.fills fill_of ∙ eqb-true (length f.fills) 1 one)
  | inr each ↦ inr (length-map f.fills fill_of ∙ eqb-true (length f.fills) (length kinds) each ∙ sym same)
]

-- ---- as many aggregates as types of them

start_or_key : (b : Bool) (e : Bound) → agg_in (cond b Start (Key e)) ≡ []
start_or_key true e = refl
start_or_key false e = refl

no_agg : (buckets : Option ℕ) (form : Form) (e : Bound) → agg_in (role_by buckets form e) ≡ []
no_agg None form e = refl
no_agg (Some t) (Plain n col) e = start_or_key (eqb n t) e
no_agg (Some t) (TextAt text place) e = refl
no_agg (Some t) (NumberAt n b place) e = refl
no_agg (Some t) Other e = refl

one_more : (buckets : Option ℕ) (p : Part) (kind : ColType) (roles : List Role) (kinds : List ColType)
    → length (aggs_among roles) ≡ length kinds → length (agg_in (role_of buckets p) ++ aggs_among roles) ≡ length (cond (is_made p) (kind ∷ []) [] ++ kinds)
one_more buckets (Value x) kind roles kinds more = ap (λ (made : List Agg). length (made ++ aggs_among roles)) (no_agg buckets x.form x.bound) ∙ more
one_more buckets (Made a) kind roles kinds more = ap suc more

pub as_many : (buckets : Option ℕ) (items : List Shows) → length (aggs_among (map (λ (i : Shows). role_of buckets i.part) items)) ≡ length (parts.made_kinds items)
as_many buckets [] = refl
as_many buckets (i ∷ is) = one_more buckets i.part i.kind (map (λ (j : Shows). role_of buckets j.part) is) (parts.made_kinds is) (as_many buckets is)

-- ---- the work of a query

pub is_work : (s : Option Sampled) (made : Bool) (es : List Bound) (roles : List Role) (kinds : List ColType)
    → HasStride s → length (aggs_among roles) ≡ length kinds → parts.sampled_faults s kinds ≡ [] → IsWork (parts.work_of s made es roles)
is_work None true es roles kinds stride same none = tt
is_work None false es roles kinds stride same none = tt
is_work (Some s) made es roles kinds stride same none =
    let test : List Refusal = unless (leb 1 (length kinds)) code.Keys s.at in
    let fills : List Refusal = fills_faults s.fills kinds in
    (stride, offset_fits s.align, fills_fit s.fills kinds (aggs_among roles) same (back test fills (front (test ++ fills) (align_faults s.align) none)))
