-- Seats stay seats of their table.
use Rattle.std.proofs.Common.{◌≡◌, ◌≢◌, ℕ, ⊎_elim, false, List, [], ◌∷◌, Some, None, refl, sym, ap, ◌∙◌, subst}
use Rattle.std.specs.Prelude.{Option}
use Rattle.atomic_table.specs.Table.{Me}
use Rattle.atomic_table.specs.Seated.{TableId}
use Rattle.atomic_table.specs.declared.shared.Seat.{Seat}
use Rattle.qd_score_model.specs.declared.view.Mode.{Mode}
use Rattle.qd_score_model.specs.declared.view.Sight.{Sight}
use Rattle.qd_score_model.specs.declared.view.Version.{Version}
use Rattle.qd_score_model.specs.declared.view.View.{View}
use Rattle.qd_score_model.specs.Machine.{Book, MayOpen, newcomer, sees, refuses}
use Rattle.qd_score_model.proofs.Boards.{same_or_other}
use Rattle.qd_score.specs.declared.table.Knows.{Knows}
use Rattle.qd_score.specs.Rule.{Stands, with_view, first_seat}
use Rattle.qd_score.specs.Publishing.{HasChanged, HasTried, without_row}
use Rattle.qd_score.specs.Calls.{MaySit, IsSeatOf}
use Rattle.qd_score.proofs.Parts.{first_stands}

module _ {I S B : Type 0} where
  -- the same slots, and a view that sees as much of the book
  pub same_sits : (z : TableId) (s t : Seat (Option B) (Knows I S B)) → MaySit z s → t.table_id ≡ s.table_id → (k : Knows I S B) → t.me ≡ (k, s.me.1) → k.view.hold ≡ s.me.0.view.hold → k.view.spent ≡ false → MaySit z t
  same_sits z s t is same k me hold spent = record {
    of = same ∙ is.of;
    there = ap (λ (m : Me (Option B) (Knows I S B)). m.0.view.spent) me ∙ spent;
    without = λ e. slots ∙ is.without (before ∙ e);
    holding = λ h e. slots ∙ is.holding h (before ∙ e);
  }
    where
      slots : t.me.1 ≡ s.me.1
      slots = ap (λ (m : Me (Option B) (Knows I S B)). m.1) me

      before : s.me.0.view.hold ≡ t.me.0.view.hold
      before = sym hold ∙ sym (ap (λ (m : Me (Option B) (Knows I S B)). m.0.view.hold) me)

  -- a seat that was split off
  pub new_sits : (z : TableId) (t : Seat (Option B) (Knows I S B)) (k : Knows I S B) (mode : Mode) → t.table_id ≡ z → t.me ≡ (with_view k (newcomer k.view mode), []) → MaySit z t
  new_sits z t k mode of me = record {
    of = of;
    there = ap (λ (m : Me (Option B) (Knows I S B)). m.0.view.spent) me;
    without = λ e. ap (λ (m : Me (Option B) (Knows I S B)). m.1) me;
    holding = λ h e. let n : t.me.0.view.hold ≡ None = ap (λ (m : Me (Option B) (Knows I S B)). m.0.view.hold) me in absurd (cc);
  }

module _ {I S B : Type 0} (blocks : S → List ℕ) where
  -- the same seat, with the same view and slots
  pub again : (z : TableId) (s t : Seat (Option B) (Knows I S B)) → IsSeatOf blocks z s → t.table_id ≡ s.table_id → t.me ≡ s.me → IsSeatOf blocks z t
  again z s t is same me = record { sits = same_sits z s t is.sits same s.me.0 me refl is.sits.there; stands = subst (λ (m : Me (Option B) (Knows I S B)). Stands blocks m.0.view) (sym me) is.stands }

  -- a seat after a step, with the same slots, and a view that sees as much of the book
  pub stepped_seat : (z : TableId) (s t : Seat (Option B) (Knows I S B)) → IsSeatOf blocks z s → t.table_id ≡ s.table_id → (w : View I S) → t.me ≡ (with_view s.me.0 w, s.me.1) → w.hold ≡ s.me.0.view.hold → w.spent ≡ false → Stands blocks t.me.0.view → IsSeatOf blocks z t
  stepped_seat z s t is same w me hold spent stands = record { sits = same_sits z s t is.sits same (with_view s.me.0 w) me hold spent; stands = stands }

  -- a seat that has the slot, and sees the book
  pub held_seat : (z : TableId) (t : Seat (Option B) (Knows I S B)) (k : Knows I S B) (h : Sight I S) → t.table_id ≡ z → t.me ≡ (k, (0, None) ∷ []) → k.view.hold ≡ Some h → k.view.spent ≡ false → Stands blocks k.view → IsSeatOf blocks z t
  held_seat z t k h of me hold spent stands = record {
    sits = record {
      of = of;
      there = ap (λ (m : Me (Option B) (Knows I S B)). m.0.view.spent) me ∙ spent;
      without = λ e. let n : t.me.0.view.hold ≡ Some h = ap (λ (m : Me (Option B) (Knows I S B)). m.0.view.hold) me ∙ hold in absurd (cc);
      holding = λ g e. ap (λ (m : Me (Option B) (Knows I S B)). m.1) me;
    };
    stands = subst (λ (m : Me (Option B) (Knows I S B)). Stands blocks m.0.view) (sym me) stands;
  }

  -- the holder's seat, after a step on its own sight of the book
  pub sees_seat : (z : TableId) (s t : Seat (Option B) (Knows I S B)) → IsSeatOf blocks z s → t.table_id ≡ s.table_id → (h g : Sight I S) (w : View I S) → s.me.0.view.hold ≡ Some h → t.me ≡ (with_view s.me.0 w, s.me.1) → w.hold ≡ Some g → w.spent ≡ false → Stands blocks t.me.0.view → IsSeatOf blocks z t
  sees_seat z s t is same h g w held me hold spent stands = held_seat z t (with_view s.me.0 w) g (same ∙ is.sits.of) (me ∙ ap (λ (c : List (ℕ × Option B)). (with_view s.me.0 w, c)) (is.sits.holding h held)) hold spent (subst (λ (m : Me (Option B) (Knows I S B)). Stands blocks m.0.view) me stands)

  -- a seat that has no slot, and sees nothing of the book
  pub free_seat : (z : TableId) (t : Seat (Option B) (Knows I S B)) (k : Knows I S B) → t.table_id ≡ z → t.me ≡ (k, []) → k.view.hold ≡ None → k.view.spent ≡ false → Stands blocks k.view → IsSeatOf blocks z t
  free_seat z t k of me hold spent stands = record {
    sits = record {
      of = of;
      there = ap (λ (m : Me (Option B) (Knows I S B)). m.0.view.spent) me ∙ spent;
      without = λ e. ap (λ (m : Me (Option B) (Knows I S B)). m.1) me;
      holding = λ g e. let n : t.me.0.view.hold ≡ None = ap (λ (m : Me (Option B) (Knows I S B)). m.0.view.hold) me ∙ hold in absurd (cc);
    };
    stands = subst (λ (m : Me (Option B) (Knows I S B)). Stands blocks m.0.view) (sym me) stands;
  }

module _ {I S B : Type 0} (blocks : S → List ℕ) where
  -- the holder's seat after a step on its own sight of the book
  pub changed_seat : (z : TableId) (s t : Seat (Option B) (Knows I S B)) (change : Sight I S → Sight I S) → IsSeatOf blocks z s → t.table_id ≡ s.table_id → HasChanged blocks change s.me t.me → IsSeatOf blocks z t
  changed_seat z s t change is same ch = sees_seat blocks z s t is same ch.hold (change ch.hold) (sees s.me.0.view (change ch.hold)) ch.held ch.seat refl is.sits.there ch.stands

  -- the holder's seat after it tried to retire a row
  pub tried_seat : (z : TableId) (s t : Seat (Option B) (Knows I S B)) (row found : ℕ) → IsSeatOf blocks z s → t.table_id ≡ s.table_id → HasTried blocks row s.me found t.me → IsSeatOf blocks z t
  tried_seat z s t row found is same h = ⊎_elim
      (λ (e : found ≡ 1). changed_seat z s t (λ g. without_row g row) is same (h.gone e))
      (λ (ne : found ≢ 1). stepped_seat blocks z s t is same (refuses s.me.0.view row found) (h.stays ne) refl is.sits.there h.stands)
      (same_or_other found 1)

  -- the same, where the book went back into its slot for the step
  pub live_seat : (z : TableId) (s e f t : Seat (Option B) (Knows I S B)) (change : Sight I S → Sight I S) (inside : B) → IsSeatOf blocks z s → e.me ≡ (s.me.0, (0, Some inside) ∷ []) → HasChanged blocks change e.me f.me → t.me ≡ (f.me.0, (0, None) ∷ []) → t.table_id ≡ z → IsSeatOf blocks z t
  live_seat z s e f t change inside is before ch after of = held_seat blocks z t f.me.0 (change ch.hold) of after (ap (λ (m : Me (Option B) (Knows I S B)). m.0.view.hold) ch.seat) (ap (λ (m : Me (Option B) (Knows I S B)). m.0.view.spent) ch.seat ∙ (ap (λ (m : Me (Option B) (Knows I S B)). m.0.view.spent) before ∙ is.sits.there)) ch.stands

  pub live_known : (s e f t : Seat (Option B) (Knows I S B)) (change : Sight I S → Sight I S) (inside : B) → e.me ≡ (s.me.0, (0, Some inside) ∷ []) → (ch : HasChanged blocks change e.me f.me) → t.me ≡ (f.me.0, (0, None) ∷ []) → t.me.0 ≡ with_view s.me.0 (sees s.me.0.view (change ch.hold))
  live_known s e f t change inside before ch after = ap (λ (m : Me (Option B) (Knows I S B)). m.0) after ∙ (ap (λ (m : Me (Option B) (Knows I S B)). m.0) ch.seat ∙ ap (λ (m : Me (Option B) (Knows I S B)). with_view m.0 (sees m.0.view (change ch.hold))) before)

module _ {I S B F : Type 0} (book : B → Book I S) (sound : B → Type 0) (fixed : B → F) (blocks : S → List ℕ) where
  pub first_sits : (z : TableId) (t : Seat (Option B) (Knows I S B)) (x : B) (first : Version S) → MayOpen blocks (book x) first → t.table_id ≡ z → t.me.0 ≡ first_seat book sound fixed x → t.me.1 ≡ [] → IsSeatOf blocks z t
  first_sits z t x first may of known slots = record {
    sits = record {
      of = of;
      there = ap (λ (k : Knows I S B). k.view.spent) known;
      without = λ e. slots;
      holding = λ h e. let n : t.me.0.view.hold ≡ None = ap (λ (k : Knows I S B). k.view.hold) known in absurd (cc);
    };
    stands = subst (λ (k : Knows I S B). Stands blocks k.view) (sym known) (first_stands book sound fixed blocks x first may);
  }
