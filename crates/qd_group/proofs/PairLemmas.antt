-- Pairs of numbers that are numbered one after another, by a table with a place for each pair.
use Rattle.std.proofs.Common.{◌≡◌, ℕ, ◌+◌, ◌*◌, ◌<◌, Bool, true, false, cond, eqb, Option, Some, None, List, [], ◌∷◌, ◌++◌, length, set, get_or, replicate, refl, sym, ap, ap₂, ◌∙◌, arith, subst, inl, inr}
use Rattle.std.specs.Prelude.{◌&&◌, unwrap_or}
use Rattle.std.proofs.lemmas.Bool.{cases_eq, eq-eqb, ne_eqb, cond-true, cond-false}
use Rattle.std.proofs.lemmas.List.{length-set, length-replicate, get_or-replicate, get_or-set_same, get_or-set_other}
use Rattle.std.proofs.lemmas.Nat.{div-mul-add, mod-mul-add}
use Rattle.std.specs.Prelude.{◌/◌, ◌%◌}
use Rattle.qd_group.specs.Grouping.{spot, same_numbers, AreGroups}
use Rattle.qd_group.proofs.Leaders.{groups_none, groups_more}
use Rattle.qd_group.proofs.Spots.{or_last, spot-push, spot-some}

-- whether a place of two lists has these numbers
abbrev pub is_pair : List ℕ → List ℕ → ℕ → ℕ → ℕ → Bool
is_pair a b x y f = eqb (get_or a f 0) x && eqb (get_or b f 0) y

-- the first pairs are grouped, and a table has the number of each pair of them
pub record Tabled (a b : List ℕ) (width : ℕ) (table : List (Option ℕ)) (n : ℕ) (ns fs : List ℕ) : Type 0 where
  pub groups : AreGroups (same_numbers a b) n ns fs
  pub found : (x y : ℕ) → y < width → x * width + y < length table → get_or table (x * width + y) None ≡ spot (is_pair a b x y) fs

pub tabled_none : (a b : List ℕ) (width size : ℕ) (table : List (Option ℕ)) (ns fs : List ℕ) → table ≡ replicate size None → ns ≡ [] → fs ≡ [] → Tabled a b width table 0 ns fs
tabled_none a b width size table ns fs none no_ns no_fs = record {
  groups = subst (λ (l : List ℕ). AreGroups (same_numbers a b) 0 l fs) (sym no_ns) (subst (λ (l : List ℕ). AreGroups (same_numbers a b) 0 [] l) (sym no_fs) (groups_none (same_numbers a b)));
  found = λ x y narrow low.
      ap (λ (t : List (Option ℕ)). get_or t (x * width + y) None) none
      ∙ get_or-replicate size (x * width + y) None None (omega (arith, ap length none, length-replicate {A = Option ℕ} size None))
      ∙ ap (spot (is_pair a b x y)) (sym no_fs);
}

-- pairs with one place are one pair
pair_of : (x y z w width : ℕ) → y < width → w < width → z * width + w ≡ x * width + y → (x ≡ z) × (y ≡ w)
pair_of x y z w width y_low w_low same = (
  sym (div-mul-add x width y y_low) ∙ sym (ap (λ k. k / width) same) ∙ div-mul-add z width w w_low,
  sym (mod-mul-add x width y y_low) ∙ sym (ap (λ k. k % width) same) ∙ mod-mul-add z width w w_low,
)

pairs_apart : (x y z w width : ℕ) → (z * width + w ≡ x * width + y → ⊥) → (eqb x z && eqb y w) ≡ false
pairs_apart x y z w width apart = elim (cases_eq x z) [
  | inl one ↦ elim (cases_eq y w) [
    | inl two ↦ absurd (apart (ap₂ (λ p q. p * width + q) (sym one) (sym two)))
    | inr other ↦ ap (λ t. eqb x z && t) (ne_eqb y w other) ∙ none (eqb x z)
  ]
  | inr other ↦ ap (λ t. t && eqb y w) (ne_eqb x z other)
]
  where
    none : (t : Bool) → (t && false) ≡ false
    none true = refl
    none false = refl

-- one pair more
module _ (a b : List ℕ) (width : ℕ) (table more : List (Option ℕ)) (n number : ℕ) (ns fs more_ns more_fs : List ℕ) where
  pub tabled_more : get_or b n 0 < width → get_or a n 0 * width + get_or b n 0 < length table → Tabled a b width table n ns fs → number ≡ unwrap_or (get_or table (get_or a n 0 * width + get_or b n 0) None) (length fs)
      → more ≡ set table (get_or a n 0 * width + get_or b n 0) (Some number) → more_ns ≡ ns ++ number ∷ [] → more_fs ≡ cond (eqb number (length fs)) (fs ++ length ns ∷ []) fs → Tabled a b width more (n + 1) more_ns more_fs
  tabled_more narrow low are number_is more_is ns_is fs_is = record {
    groups = groups_more (same_numbers a b) n number ns fs more_ns more_fs self are.groups (number_is ∙ ap (λ o. unwrap_or o (length fs)) here) ns_is fs_is;
    found = found;
  }
    where
      x : ℕ
      x = get_or a n 0

      y : ℕ
      y = get_or b n 0

      self : is_pair a b x y n ≡ true
      self = ap₂ (λ s t. s && t) (eq-eqb x x refl) (eq-eqb y y refl)

      here : get_or table (x * width + y) None ≡ spot (is_pair a b x y) fs
      here = are.found x y narrow low

      pushed : more_fs ≡ cond (eqb number (length fs)) (fs ++ n ∷ []) fs
      pushed = fs_is ∙ ap (λ k. cond (eqb number (length fs)) (fs ++ k ∷ []) fs) are.groups.count

      -- what the pair of this place finds
      of_this : (o : Option ℕ) → spot (is_pair a b x y) fs ≡ o → number ≡ unwrap_or o (length fs) → Some number ≡ spot (is_pair a b x y) more_fs
      of_this None at is =
          sym (ap (spot (is_pair a b x y)) (pushed ∙ cond-true (eqb number (length fs)) (fs ++ n ∷ []) fs (eq-eqb number (length fs) is))
          ∙ spot-push (is_pair a b x y) fs n
          ∙ ap₂ (λ o t. or_last o t (length fs)) at self
          ∙ ap Some (sym is))
      of_this (Some k) at is =
          let there = spot-some (is_pair a b x y) fs k 0 at in
          sym (ap (spot (is_pair a b x y)) (pushed ∙ cond-false (eqb number (length fs)) (fs ++ n ∷ []) fs (ne_eqb number (length fs) (λ e. omega (arith, there.0, is, e))))
          ∙ at ∙ ap Some (sym is))

      unlasted : (o : Option ℕ) → or_last o false (length fs) ≡ o
      unlasted None = refl
      unlasted (Some k) = refl

      -- what another pair finds
      of_other : (z w : ℕ) → is_pair a b z w n ≡ false → (t : Bool) → eqb number (length fs) ≡ t → spot (is_pair a b z w) fs ≡ spot (is_pair a b z w) more_fs
      of_other z w apart true e =
          sym (ap (spot (is_pair a b z w)) (pushed ∙ cond-true (eqb number (length fs)) (fs ++ n ∷ []) fs e)
          ∙ spot-push (is_pair a b z w) fs n
          ∙ ap (λ t. or_last (spot (is_pair a b z w) fs) t (length fs)) apart
          ∙ unlasted (spot (is_pair a b z w) fs))
      of_other z w apart false e = sym (ap (spot (is_pair a b z w)) (pushed ∙ cond-false (eqb number (length fs)) (fs ++ n ∷ []) fs e))

      found : (z w : ℕ) → w < width → z * width + w < length more → get_or more (z * width + w) None ≡ spot (is_pair a b z w) more_fs
      found z w w_low there = elim (cases_eq (z * width + w) (x * width + y)) [
        | inl same ↦
            (let pair = pair_of x y z w width narrow w_low same in
            ap₂ (λ (t : List (Option ℕ)) (k : ℕ). get_or t k None) more_is same
            ∙ get_or-set_same table (x * width + y) (Some number) None low
            ∙ of_this (spot (is_pair a b x y) fs) refl (number_is ∙ ap (λ o. unwrap_or o (length fs)) here)
            ∙ ap₂ (λ p q. spot (is_pair a b p q) more_fs) pair.0 pair.1)
        | inr apart ↦
            ap (λ (t : List (Option ℕ)). get_or t (z * width + w) None) more_is
            ∙ get_or-set_other table (x * width + y) (z * width + w) (Some number) None apart
            ∙ are.found z w w_low (omega (arith, there, ap length more_is, length-set table (x * width + y) (Some number)))
            ∙ of_other z w (pairs_apart x y z w width apart) (eqb number (length fs)) refl
      ]
