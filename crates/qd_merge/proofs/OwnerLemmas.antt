-- Which part a time belongs to, by where parts begin and end.
use Rattle.std.proofs.Common.{◌≡◌, ◌≢◌, ◌⊎◌, ℕ, zero, suc, ◌+◌, ◌-◌, ◌<◌, ◌≤◌, min, max, Bool, true, false, not, ◌&&◌, cond, eqb, ltb, leb, List, [], ◌∷◌, length, get_or, refl, sym, ap, ap₂, ◌∙◌, arith, All, Option, Some, None, is_some, subst, inl, inr}
use Rattle.std.specs.Option.{option_or}
use Rattle.std.proofs.lemmas.Bool.{lt-ltb, le-ltb, le-leb, lt-leb, eq-eqb, ne_eqb, cases_lt}
use Rattle.std.proofs.lemmas.Option.{none-some, same_Some}
use Rattle.qd_base.specs.declared.limits.TheConstants.{MAX_TIME}
use Rattle.qd_base.specs.declared.part.Part.{Part}
use Rattle.qd_base.specs.declared.unit.TimeUnit.{TimeUnit}
use Rattle.qd_time.specs.Units.{start_of, end_of}
use Rattle.qd_time.proofs.UnitLemmas.{in_unit, start_of-within}
use Rattle.qd_merge.specs.Acts.{partition_end, part_end}
use Rattle.qd_merge.specs.Owners.{begins_by, first_with, is_beside, last_with, no_part, owner, AreInOrder}
use Rattle.qd_merge.proofs.Plans.{end_cases, past_end}

-- the owner among parts that are numbered from a number on
abbrev pub owner_from : TimeUnit → ℕ → ℕ → List Part → Option ℕ
owner_from u t n ps = option_or (last_with (begins_by u t) n ps) (first_with (is_beside u t) n ps)

-- ---- lists of parts

pub last_none : (f : Part → Bool) (n : ℕ) (ps : List Part) → ((k : ℕ) → k < length ps → f (get_or ps k no_part) ≡ false) → last_with f n ps ≡ None
last_none f n [] h = refl
last_none f n (p ∷ ps) h = rw (last_none f (suc n) ps (λ k lt. h (suc k) (omega arith)), h zero (omega arith)) refl

pub first_none : (f : Part → Bool) (n : ℕ) (ps : List Part) → ((k : ℕ) → k < length ps → f (get_or ps k no_part) ≡ false) → first_with f n ps ≡ None
first_none f n [] h = refl
first_none f n (p ∷ ps) h = rw (h zero (omega arith)) (first_none f (suc n) ps (λ k lt. h (suc k) (omega arith)))

or_nothing : (x : Option ℕ) → option_or x None ≡ x
or_nothing None = refl
or_nothing (Some n) = refl

-- the last part that passes is one of those from the number on
low_or : (n : ℕ) (a b : Option ℕ) → ((k : ℕ) → a ≡ Some k → n ≤ k) → ((k : ℕ) → b ≡ Some k → n ≤ k) → (k : ℕ) → option_or a b ≡ Some k → n ≤ k
low_or n None b ha hb k e = hb k e
low_or n (Some j) b ha hb k e = ha k e

low_if : (n : ℕ) (b : Bool) (k : ℕ) → cond b (Some n) None ≡ Some k → n ≤ k
low_if n true k e = omega (arith, same_Some n k e)
low_if n false k e = absurd (none-some k e)

pub last_low : (f : Part → Bool) (n : ℕ) (ps : List Part) (k : ℕ) → last_with f n ps ≡ Some k → n ≤ k
last_low f n [] k e = low_if n false k e
last_low f n (p ∷ ps) k e = low_or n (last_with f (suc n) ps) (cond (f p) (Some n) None) (λ j ej. let l = last_low f (suc n) ps j ej in omega arith) (λ j ej. low_if n (f p) j ej) k e

pub first_low : (f : Part → Bool) (n : ℕ) (ps : List Part) (k : ℕ) → first_with f n ps ≡ Some k → n ≤ k
first_low f n [] k e = low_if n false k e
first_low f n (p ∷ ps) k e = pick (f p) refl (λ later. first_low f (suc n) ps k later)
  where
    pick : (b : Bool) → f p ≡ b → (first_with f (suc n) ps ≡ Some k → suc n ≤ k) → n ≤ k
    pick true fp more = low_if n true k (sym (ap (λ c. cond c (Some n) (first_with f (suc n) ps)) fp) ∙ e)
    pick false fp more = let l = more (sym (ap (λ c. cond c (Some n) (first_with f (suc n) ps)) fp) ∙ e) in omega arith

pub owner_low : (u : TimeUnit) (t n : ℕ) (ps : List Part) (k : ℕ) → owner_from u t n ps ≡ Some k → n ≤ k
owner_low u t n ps k e = low_or n (last_with (begins_by u t) n ps) (first_with (is_beside u t) n ps) (λ j ej. last_low (begins_by u t) n ps j ej) (λ j ej. first_low (is_beside u t) n ps j ej) k e

-- a part that passes has a last one that does
pub record IsFrom (n : ℕ) (x : Option ℕ) : Type 0 where
  pub number : ℕ
  pub is : x ≡ Some number

pub last_some : (f : Part → Bool) (n : ℕ) (p : Part) (ps : List Part) → f p ≡ true → IsFrom n (last_with f n (p ∷ ps))
last_some f n p ps fp = pick (last_with f (suc n) ps) refl
  where
    pick : (x : Option ℕ) → last_with f (suc n) ps ≡ x → IsFrom n (last_with f n (p ∷ ps))
    pick None e = record { number = n; is = rw (e, fp) refl }
    pick (Some k) e = record { number = k; is = rw e refl }

-- ---- partitions

pub start_rises : (u : TimeUnit) (a b : ℕ) → a ≤ b → start_of u a ≤ start_of u b
start_rises u a b le = elim (cases_lt (start_of u b) (start_of u a)) [
  | inl less ↦
      (let ia = in_unit u a in
      let ib = in_unit u b in
      let same : start_of u a ≡ start_of u b = start_of-within u b a (omega (arith, ia.0)) (omega (arith, ib.1)) in
      omega arith)
  | inr done ↦ done
]

-- a moment of a part's partition
pub within_part : (u : TimeUnit) (a t : ℕ) → start_of u a ≤ t → t < partition_end u a → t ≤ MAX_TIME → start_of u t ≡ start_of u a
within_part u a t low high moment = elim (end_cases u a) [
  | inl within ↦ (let e = within.1 in start_of-within u a t low (omega arith))
  | inr past ↦ (let far = past.0 in start_of-within u a t low (omega arith))
]

pub behind_part : (u : TimeUnit) (a t : ℕ) → partition_end u a ≤ t → t ≤ MAX_TIME → start_of u t ≢ start_of u a
behind_part u a t late moment = elim (end_cases u a) [
  | inl within ↦ (let e = within.1 in past_end u a t (omega arith))
  | inr past ↦ (let e = past.1 in absurd (omega arith))
]

-- a partition ends behind each of its moments
pub end_later : (u : TimeUnit) (a : ℕ) → a ≤ MAX_TIME → a < partition_end u a
end_later u a moment = elim (end_cases u a) [
  | inl within ↦ (let e = within.1 in let i = in_unit u a in omega (arith, i.1))
  | inr past ↦ (let e = past.1 in omega arith)
]

-- ---- one part, and those behind it
module _ (u : TimeUnit) (t n : ℕ) (p : Part) (ps : List Part) (ordered : AreInOrder (p ∷ ps)) (moment : t ≤ MAX_TIME) (begins : p.lo ≤ MAX_TIME) where
  later_lo : (k : ℕ) → k < length (p ∷ ps) → p.lo ≤ (get_or (p ∷ ps) k no_part).lo
  later_lo zero lt = omega arith
  later_lo (suc k) lt = let o = ordered zero (suc k) (omega arith) lt in omega arith

  -- a time before the part's partition belongs to none of them
  pub early_owner : t < start_of u p.lo → owner_from u t n (p ∷ ps) ≡ None
  early_owner early =
      let not_beside : (k : ℕ) → k < length (p ∷ ps) → is_beside u t (get_or (p ∷ ps) k no_part) ≡ false = λ k lt.
      let q = (get_or (p ∷ ps) k no_part).lo in
      let up = start_rises u p.lo q (later_lo k lt) in
      let it = in_unit u t in
      ne_eqb (start_of u q) (start_of u t) (λ same. absurd (omega (arith, it.0))) in
      ap₂ option_or (last_none (begins_by u t) n (p ∷ ps) (λ k lt. ap (λ b. b && leb (get_or (p ∷ ps) k no_part).lo t) (not_beside k lt))) (first_none (is_beside u t) n (p ∷ ps) not_beside)

  -- a time of the part's partition, before the next part of that, belongs to the part
  pub own_owner : start_of u p.lo ≤ t → t < part_end u p ps → owner_from u t n (p ∷ ps) ≡ Some n
  own_owner low high =
      let in_part : t < partition_end u p.lo = shorter ps high in
      let same : start_of u p.lo ≡ start_of u t = sym (within_part u p.lo t low in_part moment) in
      let beside : is_beside u t p ≡ true = eq-eqb (start_of u p.lo) (start_of u t) same in
      let none : last_with (begins_by u t) (suc n) ps ≡ None = last_none (begins_by u t) (suc n) ps (λ k lt. no_later k lt) in
      pick (begins_by u t p) refl none beside
    where
      shorter : (qs : List Part) → t < part_end u p qs → t < partition_end u p.lo
      shorter [] h = h
      shorter (q ∷ qs) h = omega arith

      next_later : (qs : List Part) → t < part_end u p qs → (k : ℕ) → AreInOrder (p ∷ qs) → k < length qs → t < (get_or qs k no_part).lo
      next_later [] h k o lt = absurd (omega arith)
      next_later (q ∷ qs) h zero o lt = omega arith
      next_later (q ∷ qs) h (suc k) o lt = let up = o 1 (suc (suc k)) (omega arith) (omega arith) in omega arith

      no_and : (a b : Bool) → b ≡ false → (a && b) ≡ false
      no_and true b e = e
      no_and false b e = refl

      no_later : (k : ℕ) → k < length ps → begins_by u t (get_or ps k no_part) ≡ false
      no_later k lt = no_and (is_beside u t (get_or ps k no_part)) (leb (get_or ps k no_part).lo t) (lt-leb (get_or ps k no_part).lo t (next_later ps high k ordered lt))

      pick : (b : Bool) → begins_by u t p ≡ b → last_with (begins_by u t) (suc n) ps ≡ None → is_beside u t p ≡ true → owner_from u t n (p ∷ ps) ≡ Some n
      pick true e none beside = rw (none, e) refl
      pick false e none beside = rw (none, e, beside) refl

  -- a later time belongs to the part no more
  pub late_owner : part_end u p ps ≤ t → owner_from u t n (p ∷ ps) ≡ owner_from u t (suc n) ps
  late_owner late = elim (cases_lt t (partition_end u p.lo)) [
    | inl inside ↦ next ps late inside ordered
    | inr outside ↦
        (let apart : is_beside u t p ≡ false = ne_eqb (start_of u p.lo) (start_of u t) (λ same. behind_part u p.lo t outside moment (sym same)) in
        let no_begin : begins_by u t p ≡ false = ap (λ b. b && leb p.lo t) apart in
        ap₂ (λ a b. option_or (option_or (last_with (begins_by u t) (suc n) ps) (cond a (Some n) None)) (cond b (Some n) (first_with (is_beside u t) (suc n) ps))) no_begin apart
        ∙ ap (λ x. option_or x (first_with (is_beside u t) (suc n) ps)) (or_nothing (last_with (begins_by u t) (suc n) ps)))
  ]
    where
      next : (qs : List Part) → part_end u p qs ≤ t → t < partition_end u p.lo → AreInOrder (p ∷ qs) → owner_from u t n (p ∷ qs) ≡ owner_from u t (suc n) qs
      next [] h inside o = absurd (omega arith)
      next (q ∷ qs) h inside o =
          let up = o zero 1 (omega arith) (omega arith) in
          let ip = in_unit u p.lo in
          let from_q : q.lo ≤ t = omega arith in
          let t_in : start_of u t ≡ start_of u p.lo = within_part u p.lo t (omega (arith, ip.0)) inside moment in
          let q_in : start_of u q.lo ≡ start_of u p.lo = within_part u p.lo q.lo (omega (arith, ip.0)) (omega arith) (omega arith) in
          let begun : begins_by u t q ≡ true = ap₂ (λ a b. a && b) (eq-eqb (start_of u q.lo) (start_of u t) (q_in ∙ sym t_in)) (le-leb q.lo t from_q) in
          let last = last_some (begins_by u t) (suc n) q qs begun in
          let e = last.is in
          ap (λ x. option_or (option_or x (cond (begins_by u t p) (Some n) None)) (first_with (is_beside u t) n (p ∷ q ∷ qs))) e ∙ sym (ap (λ x. option_or x (first_with (is_beside u t) (suc n) (q ∷ qs))) e)
