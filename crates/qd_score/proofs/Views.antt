-- The view of a seat after the steps of a pin.
use Rattle.std.proofs.Common.{◌≡◌, ◌≢◌, ℕ, ◌/◌, ◌%◌, Bool, true, List, [], ◌∷◌, ◌++◌, append_assoc, sym, ap, ◌∙◌}
use Rattle.std.specs.Prelude.{if◌then◌else◌}
use Rattle.qd_score_model.specs.declared.limits.TheConstants.{ROWS}
use Rattle.qd_score_model.specs.declared.view.Place.{Place}
use Rattle.qd_score_model.specs.declared.view.Phase.TheVariants.{Idle, Trying, Pinned}
use Rattle.qd_score_model.specs.Machine.{looked, tries, confirmed, dropped, same_place}
use Rattle.qd_score.specs.declared.table.Knows.{Knows}
use Rattle.qd_score.specs.Rule.{with_view, place_of}
use Rattle.qd_score.specs.Pinning.{pinned_by, moved_on}
use Rattle.qd_score.proofs.Words.{other_place, own_place}

-- the place of a word, from its two parts
pub place_parts : (n row word : ℕ) → n ≡ word / ROWS → row ≡ word % ROWS → place_of word ≡ record { n = n; row = row }
place_parts n row word a b = λ i. record { n = sym a i; row = sym b i }

module _ {I S B : Type 0} where
  -- the places that the view has read before, and two more
  two_more : (k : Knows I S B) (first second : Place) → (k.view.reads ++ first ∷ []) ++ second ∷ [] ≡ k.view.reads ++ first ∷ second ∷ []
  two_more k first second = append_assoc k.view.reads (first ∷ []) (second ∷ [])

  -- the place that was looked at is current still
  pub view_pinned : (k a b c : Knows I S B) (word now : ℕ) (place : Place) → a ≡ with_view k (looked k.view (place_of word)) → b ≡ with_view a (tries a.view (place_of word)) → c ≡ with_view b (confirmed b.view (place_of now) (place_of word)) → now ≡ word → place_of word ≡ place
      → c ≡ with_view k (pinned_by k.view place)
  view_pinned k a b c word now place is_a is_b is_c same parts = (is_c ∙ ap (λ (j : Knows I S B). with_view j (confirmed j.view (place_of now) (place_of word))) (is_b ∙ ap (λ (j : Knows I S B). with_view j (tries j.view (place_of word))) is_a))
      ∙ (ap (λ (p : Bool × (ℕ × List Place)). with_view k (record k.view { phase = if p.0 then Pinned (place_of word) else Trying (place_of word); known = p.1.0; reads = p.1.1 })) (λ i. (test i, ((place_of (same i)).n, reads i))) ∙ ap (λ (p : Place). with_view k (pinned_by k.view p)) parts)
    where
      test : same_place (place_of now) (place_of word) ≡ true
      test = ap (λ n. same_place (place_of n) (place_of word)) same ∙ own_place (place_of word)

      reads : (k.view.reads ++ place_of word ∷ []) ++ place_of now ∷ [] ≡ k.view.reads ++ place_of word ∷ place_of word ∷ []
      reads = two_more k (place_of word) (place_of now) ∙ ap (λ n. k.view.reads ++ place_of word ∷ place_of n ∷ []) same

  -- another place is current, and the row is counted on still
  pub view_trying : (b c : Knows I S B) (word now : ℕ) → c ≡ with_view b (confirmed b.view (place_of now) (place_of word)) → now ≢ word → c.view.phase ≡ Trying (place_of word)
  view_trying b c word now is_c ne = ap (λ (j : Knows I S B). j.view.phase) is_c ∙ ap (λ (t : Bool). if t then Pinned (place_of word) else Trying (place_of word)) (other_place now word ne)

  -- the row isn't counted on any more
  pub view_moved : (k a b c d : Knows I S B) (word now : ℕ) → a ≡ with_view k (looked k.view (place_of word)) → b ≡ with_view a (tries a.view (place_of word)) → c ≡ with_view b (confirmed b.view (place_of now) (place_of word)) → d ≡ with_view c (dropped c.view)
      → d ≡ with_view k (moved_on k.view (place_of word) (place_of now))
  view_moved k a b c d word now is_a is_b is_c is_d = is_d ∙ (ap (λ (j : Knows I S B). with_view j (dropped j.view)) (is_c ∙ ap (λ (j : Knows I S B). with_view j (confirmed j.view (place_of now) (place_of word))) (is_b ∙ ap (λ (j : Knows I S B). with_view j (tries j.view (place_of word))) is_a))
      ∙ ap (λ (ps : List Place). with_view k (record k.view { phase = Idle; known = (place_of now).n; reads = ps })) (two_more k (place_of word) (place_of now)))
