-- What stands behind tags and fields: what is read is spelled so, and what is spelled so is read.
use Rattle.std.proofs.Common.{◌≡◌, ℕ, zero, suc, true, false, List, [], ◌∷◌, ◌++◌, drop, refl, sym, ap, subst, ◌∙◌, Option, Some, None, inl, inr}
use Rattle.std.specs.Prelude.{◌||◌, ◌&&◌, ◌==◌, if◌then◌else◌}
use Rattle.std.proofs.lemmas.Bool.{cases_Bool, eqb-true}
use Rattle.qd_ilp.specs.Cut.{◌>>=◌, begins, at_end, ends_word, word}
use Rattle.qd_ilp.specs.Value.{Moment, is_stamp, stamp}
use Rattle.qd_ilp.specs.Line.{after_spaces, behind_end, stamp_at, tail_at}
use Rattle.qd_ilp.specs.Grammar.{Word, spaces, Spaced, EndsLine, Tail}
use Rattle.qd_ilp.proofs.Numbers.{and_true}
use Rattle.qd_ilp.proofs.Cuts.{or_false}
use Rattle.qd_ilp.proofs.Grammars.{chosen, some, none, bound, no_some, some_is, some_both, begins_so, word_of_text, word_is_cut}

pub space_here : (b : ℕ) (bs : List ℕ) → (b == 32) ≡ true → after_spaces (b ∷ bs) ≡ after_spaces bs
unfolding after_spaces
space_here b bs h = rw h refl

pub no_space : (b : ℕ) (bs : List ℕ) → (b == 32) ≡ false → after_spaces (b ∷ bs) ≡ b ∷ bs
unfolding after_spaces
no_space b bs h = rw h refl

no_spaces : after_spaces [] ≡ []
unfolding after_spaces
no_spaces = refl

pub spaced_of : (text : List ℕ) → Spaced text (after_spaces text)
spaced_of [] = let P : List ℕ → Type 0 = λ l. Spaced [] l in subst P (sym no_spaces) (0, refl, refl)
spaced_of (b ∷ bs) =
    let P : List ℕ → Type 0 = λ l. Spaced (b ∷ bs) l in
    elim (cases_Bool (b == 32)) [
      | inl space ↦
          let again = spaced_of bs in
          let whole : b ∷ bs ≡ 32 ∷ (spaces again.0 ++ after_spaces bs) = ap (λ (x : ℕ). let l : List ℕ = x ∷ bs in l) (eqb-true b 32 space) ∙ ap (λ (l : List ℕ). let k : List ℕ = 32 ∷ l in k) again.1 in
          subst P (sym (space_here b bs space)) (suc again.0, whole, again.2)
      | inr other ↦ subst P (sym (no_space b bs other)) (0, refl, other)
    ]

behind_spaces : (n : ℕ) (rest : List ℕ) → begins 32 rest ≡ false → after_spaces (spaces n ++ rest) ≡ rest
behind_spaces zero [] other = no_spaces
behind_spaces zero (b ∷ bs) other = no_space b bs other
behind_spaces (suc n) rest other = space_here 32 (spaces n ++ rest) refl ∙ behind_spaces n rest other

pub spaced_is : (text rest : List ℕ) → Spaced text rest → after_spaces text ≡ rest
spaced_is text rest spelled = ap after_spaces spelled.1 ∙ behind_spaces spelled.0 rest spelled.2

pub ends_spelled : (text rest : List ℕ) → behind_end text ≡ some rest → EndsLine text rest
ends_spelled [] rest e = inl (refl, sym (some_is [] rest e))
ends_spelled (b ∷ bs) rest e =
    elim (chosen (b == 10) (some bs) (if b == 13 && begins 10 bs then some (drop 1 bs) else none) (some rest) e) [
      | inl lf ↦ inr (inl (ap (λ (x : ℕ). let l : List ℕ = x ∷ bs in l) (eqb-true b 10 lf.0) ∙ ap (λ (l : List ℕ). let k : List ℕ = 10 ∷ l in k) (some_is bs rest lf.1)))
      | inr other ↦
          elim (chosen (b == 13 && begins 10 bs) (some (drop 1 bs)) none (some rest) other.1) [
            | inl cr ↦
                let both = and_true (b == 13) (begins 10 bs) cr.0 in
                let lf : bs ≡ 10 ∷ rest = begins_so 10 bs both.1 ∙ ap (λ (l : List ℕ). let k : List ℕ = 10 ∷ l in k) (some_is (drop 1 bs) rest cr.1) in
                inr (inr (ap (λ (x : ℕ). let l : List ℕ = x ∷ bs in l) (eqb-true b 13 both.0) ∙ ap (λ (l : List ℕ). let k : List ℕ = 13 ∷ l in k) lf))
            | inr bad ↦ absurd (no_some rest bad.1)
          ]
    ]

pub ends_is : (text rest : List ℕ) → EndsLine text rest → behind_end text ≡ some rest
ends_is text rest spelled =
    elim spelled [
      | inl end ↦ ap behind_end end.0 ∙ ap some (sym end.1)
      | inr line ↦ elim line [ inl lf ↦ ap behind_end lf | inr cr ↦ ap behind_end cr ]
    ]

pub ends_there : (text rest : List ℕ) → EndsLine text rest → at_end text ≡ true
ends_there text rest spelled =
    elim spelled [
      | inl end ↦ ap at_end end.0
      | inr line ↦ elim line [ inl lf ↦ ap at_end lf | inr cr ↦ ap at_end cr ]
    ]

-- ---- tails

abbrev pub tailed : Option Moment → List ℕ → Option Moment × List ℕ
tailed moment rest = (moment, rest)

stamp_spelled : (text more : List ℕ) (moment : Option Moment) (rest : List ℕ) → begins 32 text ≡ true → Spaced text more → stamp_at more ≡ some (tailed moment rest) → Tail text moment rest
unfolding stamp_at
stamp_spelled text more moment rest space spaced e =
    elim (chosen (is_stamp (word more).0) (behind_end (after_spaces (word more).1) >>= λ r. Some (tailed (Some (stamp (word more).0)) r)) none (some (tailed moment rest)) e) [
      | inl stamped ↦
          let found = bound (behind_end (after_spaces (word more).1)) (λ r. Some (tailed (Some (stamp (word more).0)) r)) (tailed moment rest) stamped.1 in
          let both = some_both (some (stamp (word more).0)) moment found.0 rest found.2 in
          let whole : Tail text (Some (stamp (word more).0)) found.0 =
          (more, (word more).0, (word more).1, after_spaces (word more).1, space, spaced, word_of_text more, stamped.0, refl, spaced_of (word more).1, ends_spelled (after_spaces (word more).1) found.0 found.1) in
          let Q : Option Moment → Type 0 = λ m. Tail text m found.0 in
          let R : List ℕ → Type 0 = λ r. Tail text moment r in
          subst R both.1 (subst Q both.0 whole)
      | inr bad ↦ absurd (no_some (tailed moment rest) bad.1)
    ]

pub tail_spelled : (text : List ℕ) (moment : Option Moment) (rest : List ℕ) → tail_at text ≡ some (tailed moment rest) → Tail text moment rest
unfolding tail_at
tail_spelled text moment rest e =
    elim (chosen (at_end (after_spaces text)) (behind_end (after_spaces text) >>= λ r. Some (tailed None r)) (if begins 32 text then stamp_at (after_spaces text) else none) (some (tailed moment rest)) e) [
      | inl ends ↦
          let found = bound (behind_end (after_spaces text)) (λ r. Some (tailed None r)) (tailed moment rest) ends.1 in
          let both = some_both none moment found.0 rest found.2 in
          let whole : Tail text None found.0 = (after_spaces text, spaced_of text, ends_spelled (after_spaces text) found.0 found.1) in
          let Q : Option Moment → Type 0 = λ m. Tail text m found.0 in
          let R : List ℕ → Type 0 = λ r. Tail text moment r in
          subst R both.1 (subst Q both.0 whole)
      | inr goes ↦
          elim (chosen (begins 32 text) (stamp_at (after_spaces text)) none (some (tailed moment rest)) goes.1) [
            | inl space ↦ stamp_spelled text (after_spaces text) moment rest space.0 (spaced_of text) space.1
            | inr bad ↦ absurd (no_some (tailed moment rest) bad.1)
          ]
    ]

pub no_end : (text : List ℕ) → ends_word text ≡ false → at_end text ≡ false
no_end [] h = h
no_end (b ∷ bs) h = (or_false (b == 44 || b == 32) (at_end (b ∷ bs)) h).1

stamp_goes : (text w rest : List ℕ) → Word text w rest → is_stamp w ≡ true → at_end text ≡ false
stamp_goes text [] rest spelled stamped = absurd cc
stamp_goes text (b ∷ w) rest spelled stamped = no_end text spelled.2

pub tail_is : (text : List ℕ) (moment : Option Moment) (rest : List ℕ) → Tail text moment rest → tail_at text ≡ some (tailed moment rest)
unfolding tail_at stamp_at
tail_is text None rest spelled = rw (spaced_is text spelled.0 spelled.1, ends_there spelled.0 rest spelled.2, ends_is spelled.0 rest spelled.2) refl
tail_is text (Some moment) rest spelled =
    let goes = stamp_goes spelled.0 spelled.1 spelled.2 spelled.6 spelled.7 in
    rw (spaced_is text spelled.0 spelled.5, goes, spelled.4, word_is_cut spelled.0 spelled.1 spelled.2 spelled.6, spelled.7, spaced_is spelled.2 spelled.3 spelled.9, ends_is spelled.3 rest spelled.10)
    (ap (λ (m : Moment). some (tailed (Some m) rest)) (sym spelled.8))
