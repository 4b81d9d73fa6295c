-- The lock is taken and given back, and a seat looks at it.
use Rattle.std.proofs.Common.{◌≡◌, ℕ, ◌-◌, ◌<◌, false, List, [], ◌∷◌, length, set, Some, refl, sym, ap, ◌∙◌, subst, inl, inr, ⊎_elim, arith}
use Rattle.std.specs.Prelude.{◌==◌, slice_index, slice_set, Option, IfSome}
use mathlib.Core.Option.{some, none}
use lib.ListN.{get_elem?}
use prog.Atomic.{either}
use Rattle.atomic_table.specs.Table.{Me, step, Allows, Act, keeps, takes, gives, put_back, rest, Valid, stepped, carried_after}
use Rattle.qd_score_model.specs.declared.view.Sight.{Sight}
use Rattle.qd_score_model.specs.declared.view.View.{View}
use Rattle.qd_score_model.specs.declared.view.Mode.TheVariants.{Sole}
use Rattle.qd_score_model.specs.Machine.{Book, Board, behind, Take, Give, Share, MayGive, sight, took, gave, shared}
use Rattle.qd_score_model.proofs.Follows.{all_added}
use Rattle.qd_score.specs.declared.table.Knows.{Knows}
use Rattle.qd_score.specs.Rule.{IsFree, IsHeld, Ruled, IsInOrder, with_view, sight_of, ComesFrom}
use Rattle.qd_score.specs.Plays.{Takes, Gives, Learns, Shares}
use Rattle.qd_score.specs.Calls.{MayGiveBack}
use Rattle.qd_score.proofs.Words.{word_here, lock_words, held_by}
use Rattle.qd_score.proofs.Steps.{ruled_by, ruled_again, slot_again, stands_there, view_there}

module _ {I S B F : Type 0} (book : B → Book I S) (sound : B → Type 0) (fixed : B → F) (blocks : S → List ℕ) where
  pub takes_lock : (slots id : ℕ) (me : Me (Option B) (Knows I S B)) → me.0.view.spent ≡ false → me.1 ≡ []
      → Allows (Ruled book sound fixed blocks) slots id me 0 (λ n. either (n == 0) 1 n) (Takes book sound fixed blocks (step slots 0 0 1 none) me)
  takes_lock slots id me spent empty t r len at small = ⊎_elim free held r.slot
    where
      there : 0 < length t.words
      there = let c = r.words.count in omega arith

      new : ℕ
      new = either (slice_index t.words 0 == 0) 1 (slice_index t.words 0)

      Goal : Type 0
      Goal = (w : Knows I S B) × (a : Act (Option B)) × Valid t.homes me.1 a × Ruled book sound fixed blocks (stepped t 0 new id me.1 w a) × Takes book sound fixed blocks (step slots 0 0 1 none) me (slice_index t.words 0) (w, carried_after me.1 a)

      free : IsFree book sound fixed r.state.board r.origin t.words t.homes → Goal
      free f =
          let h = sight_of (book f.inside) in
          let seen : sight r.state.board ≡ h = sym (λ i. record { history = f.history i; present = f.present i; faults = f.faults i; removed = f.removed i; current = f.current i; versions = f.versions i }) in
          let r' = ruled_by book sound fixed blocks t r id me.0 at spent Take f.holder refl (took me.0.view h) (ap (took me.0.view) seen) spent (set t.words 0 new) (slice_set t.homes 0 none) (lock_words t.words new r.words)
          (inr (record { seat = id; holder = refl; lock = word_here t.words 0 new there ∙ ap (λ n. either (n == 0) 1 n) f.lock; home = ap (λ hs. slice_set hs 0 none) f.home })) in (
            with_view me.0 (took me.0.view h),
            takes 0 (Some f.inside),
            ap (λ hs. get_elem? hs 0) f.home,
            r'.0,
            record {
              took = λ zero. record {
                inside = f.inside;
                slot = ap (λ (c : List (ℕ × Option B)). (0, Some f.inside) ∷ c) empty;
                view = refl;
                comes = subst (λ (o : Option B). IfSome o (λ origin. ComesFrom book sound fixed origin f.inside)) (sym (r.origins id me.0 at spent)) f.comes;
                finds = subst (IsInOrder blocks) seen (record { rows = r.kept.versions.rows; within = r.kept.history.versions; greatest = r.kept.versions.newest f.holder; present = r.kept.blocks_present f.holder });
                whole = λ room. subst (λ (o : Option B). IfSome o (λ origin. me.0.view.own ≡ behind (length (book origin).history) (length (book f.inside).history - length (book origin).history))) (sym (r.origins id me.0 at spent))
                    (let all = all_added blocks r.state r.kept id me.0.view (view_there book sound fixed blocks t r id me.0 at) spent room in all ∙ (ap (λ (n : ℕ). behind n (length r.state.board.history - n)) r.opened ∙ ap (λ (n : ℕ). behind (length (book r.origin).history) (n - length (book r.origin).history)) (sym (ap length f.history))));
                stands = r'.1;
              };
              missed = λ ne. absurd (ne f.lock);
            },
          )

      held : IsHeld r.state.board t.words t.homes → Goal
      held h = (
        me.0,
        keeps,
        tt,
        ruled_again book sound fixed blocks t r id me.0 at new (ap (λ n. either (n == 0) 1 n) h.lock ∙ sym h.lock),
        record { took = λ zero. let l = h.lock in absurd (omega arith); missed = λ ne. refl },
      )

  may_give : (b : Board I S) (seat : ℕ) (v : View I S) (h : Sight I S) (x : Book I S) → b.holder ≡ Some seat → sight b ≡ h → MayGiveBack blocks v h x → MayGive blocks b seat v x
  may_give b seat v h x holder seen may =
      let m = subst (λ (g : Sight I S). MayGiveBack blocks v g x) (sym seen) may in record {
        holder = holder;
        history = m.history;
        keeper = m.keeper;
        faults = m.faults;
        removed = m.removed;
        versions = m.versions;
        current = m.current;
        greatest = m.greatest;
        present = m.present;
      }

  pub gives_lock : (slots id : ℕ) (me : Me (Option B) (Knows I S B)) (h : Sight I S) (x : B) → me.0.view.spent ≡ false → me.0.view.hold ≡ Some h → me.1 ≡ (0, Some x) ∷ [] → MayGiveBack blocks me.0.view h (book x) → IfSome me.0.origin (λ origin. ComesFrom book sound fixed origin x)
      → Allows (Ruled book sound fixed blocks) slots id me 0 (λ n. 0) (λ n. Gives book sound fixed blocks (step slots 0 0 0 none) me 0)
  gives_lock slots id me h x spent hold had may comes t r len at small =
      let r' = ruled_by book sound fixed blocks t r id me.0 at spent (Give (book x)) (may_give r.state.board id me.0.view h (book x) holds.0 holds.1 may) refl (gave me.0.view h (book x)) (ap (λ (g : Sight I S). gave me.0.view g (book x)) holds.1) spent (set t.words 0 0) (put_back t.homes me.1) (lock_words t.words 0 r.words)
      (inl (record {
        holder = refl;
        lock = word_here t.words 0 0 (let c = r.words.count in omega arith);
        inside = x;
        home = ap (put_back t.homes) had ∙ ap (λ hs. slice_set hs 0 (some (Some x))) home;
        history = refl;
        versions = may.versions ∙ sym (ap (λ (g : Sight I S). g.versions) holds.1);
        current = may.current ∙ sym (ap (λ (g : Sight I S). g.current) holds.1);
        present = refl;
        faults = refl;
        removed = refl;
        comes = subst (λ (o : Option B). IfSome o (λ origin. ComesFrom book sound fixed origin x)) (r.origins id me.0 at spent) comes;
      })) in (
        with_view me.0 (gave me.0.view h (book x)),
        gives,
        tt,
        r'.0,
        record { hold = h; inside = x; held = hold; had = had; slot = ap rest had; view = refl; stands = r'.1 },
      )
    where
      holds : (r.state.board.holder ≡ Some id) × (sight r.state.board ≡ h)
      holds = held_by r.state.board id h (sym (r.kept.one_holder.holds id me.0.view (view_there book sound fixed blocks t r id me.0 at)) ∙ hold)

      home : t.homes ≡ none ∷ []
      home = ⊎_elim (λ (f : IsFree book sound fixed r.state.board r.origin t.words t.homes). let a = f.holder in let b = holds.0 in absurd (cc)) (λ (g : IsHeld r.state.board t.words t.homes). g.home) r.slot

  -- the same, of a seat that is known by what it was
  pub gives_lock_at : (slots id : ℕ) (me : Me (Option B) (Knows I S B)) (k : Knows I S B) (h : Sight I S) (x : B) → me ≡ (k, (0, Some x) ∷ []) → k.view.spent ≡ false → k.view.hold ≡ Some h → MayGiveBack blocks k.view h (book x) → IfSome k.origin (λ origin. ComesFrom book sound fixed origin x)
      → Allows (Ruled book sound fixed blocks) slots id me 0 (λ n. 0) (λ n. Gives book sound fixed blocks (step slots 0 0 0 none) me 0)
  gives_lock_at slots id me k h x is spent hold may comes = subst (λ (m : Me (Option B) (Knows I S B)). Allows (Ruled book sound fixed blocks) slots id m 0 (λ n. 0) (λ n. Gives book sound fixed blocks (step slots 0 0 0 none) m 0)) (sym is) (gives_lock slots id (k, (0, Some x) ∷ []) h x spent hold refl may comes)

  pub learns : (slots id : ℕ) (me : Me (Option B) (Knows I S B)) → me.0.view.spent ≡ false
      → Allows (Ruled book sound fixed blocks) slots id me 0 (λ n. n) (Learns blocks (step slots 0 0 0 none) me)
  learns slots id me spent t r len at small = (me.0, keeps, tt, ruled_again book sound fixed blocks t r id me.0 at (slice_index t.words 0) refl, record { seat = refl; stands = stands_there book sound fixed blocks t r id me.0 at spent })

  pub shares : (slots id : ℕ) (me : Me (Option B) (Knows I S B)) → me.0.view.spent ≡ false → me.0.view.mode ≡ Sole
      → Allows (Ruled book sound fixed blocks) slots id me 0 (λ n. n) (Shares blocks (step slots 0 0 0 none) me)
  shares slots id me spent sole t r len at small =
      let r' = ruled_by book sound fixed blocks t r id me.0 at spent Share sole refl (shared me.0.view) refl spent (set t.words 0 (slice_index t.words 0)) t.homes (lock_words t.words (slice_index t.words 0) r.words)
      (slot_again book sound fixed blocks r.state.board r.origin t.words t.homes (slice_index t.words 0) (let c = r.words.count in omega arith) refl r.slot) in (
        with_view me.0 (shared me.0.view),
        keeps,
        tt,
        r'.0,
        record { seat = refl; stands = r'.1 },
      )
