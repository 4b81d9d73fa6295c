-- What stamps begin with.
use Rattle.std.proofs.Common.{◌≡◌, ℕ, Bool, true, false, List, [], ◌∷◌, refl, sym, ap, ◌∙◌, None, inl, inr}
use Rattle.std.specs.Prelude.{not, ◌||◌, ◌&&◌, ◌==◌}
use Rattle.std.specs.List.{list_all}
use Rattle.std.proofs.lemmas.Bool.{cases_Bool}
use Rattle.qd_ilp.specs.Cut.{ends_word, word}
use Rattle.qd_ilp.specs.Value.{is_stamp, is_empty, is_digit, is_numeral, begins_numeral, unsigned}
use Rattle.qd_ilp.specs.Line.{stamp_at}
use Rattle.qd_ilp.proofs.Numbers.{and_true}
use Rattle.qd_ilp.proofs.Cuts.{word_ends, word_goes}

or_right : (p q : Bool) → q ≡ true → (p || q) ≡ true
or_right true q h = refl
or_right false q h = h

pub and_both : (p q : Bool) → p ≡ true → q ≡ true → (p && q) ≡ true
and_both true q h k = k
and_both false q h k = h

digits_numerals : (ds : List ℕ) → list_all is_digit ds ≡ true → list_all is_numeral ds ≡ true
digits_numerals [] all = refl
digits_numerals (d ∷ ds) all =
    let both = and_true (is_digit d) (list_all is_digit ds) all in
    and_both (is_numeral d) (list_all is_numeral ds) (or_right (d == 45) (is_digit d) both.0) (digits_numerals ds both.1)

pub stamp_numerals : (w : List ℕ) → is_stamp w ≡ true → list_all is_numeral w ≡ true
stamp_numerals [] h = refl
stamp_numerals (b ∷ bs) h =
    elim (cases_Bool (b == 45)) [
      | inl minus ↦
          let body : unsigned (b ∷ bs) ≡ bs = rw minus refl in
          let all = (and_true (not (is_empty (unsigned (b ∷ bs)))) (list_all is_digit (unsigned (b ∷ bs))) h).1 in
          let digits : list_all is_digit bs ≡ true = ap (list_all is_digit) (sym body) ∙ all in
          and_both (is_numeral b) (list_all is_numeral bs) (rw minus refl) (digits_numerals bs digits)
      | inr plain ↦
          let body : unsigned (b ∷ bs) ≡ b ∷ bs = rw plain refl in
          let all = (and_true (not (is_empty (unsigned (b ∷ bs)))) (list_all is_digit (unsigned (b ∷ bs))) h).1 in
          let digits : list_all is_digit (b ∷ bs) ≡ true = ap (list_all is_digit) (sym body) ∙ all in
          digits_numerals (b ∷ bs) digits
    ]

pub both_ways : (b : Bool) → b ≡ true → b ≡ false → ⊥
both_ways b yea nay = cc

stamp_begins : (text : List ℕ) → is_stamp (word text).0 ≡ true → begins_numeral text ≡ true
stamp_begins [] h = absurd (both_ways (is_stamp (word []).0) h (ap (λ c. is_stamp c.0) (word_ends [] refl)))
stamp_begins (b ∷ bs) h =
    elim (cases_Bool (ends_word (b ∷ bs))) [
      | inl ends ↦ absurd (both_ways (is_stamp (word (b ∷ bs)).0) h (ap (λ c. is_stamp c.0) (word_ends (b ∷ bs) ends)))
      | inr goes ↦
          let all = stamp_numerals (b ∷ (word bs).0) (ap (λ c. is_stamp c.0) (sym (word_goes b bs goes)) ∙ h) in
          (and_true (is_numeral b) (list_all is_numeral (word bs).0) all).0
    ]

pub no_stamp_here : (text : List ℕ) → begins_numeral text ≡ false → stamp_at text ≡ None
unfolding stamp_at
no_stamp_here text h =
    elim (cases_Bool (is_stamp (word text).0)) [
      | inl stamped ↦ absurd (both_ways (begins_numeral text) (stamp_begins text stamped) h)
      | inr other ↦ rw other refl
    ]
