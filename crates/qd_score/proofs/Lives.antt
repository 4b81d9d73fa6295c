-- The holder makes a version live and current, and retires one.
use Rattle.std.proofs.Common.{◌≡◌, ◌≢◌, ℕ, ◌+◌, ◌*◌, ◌%◌, ◌^◌, ◌<◌, ◌≤◌, Bool, true, false, List, [], ◌∷◌, length, set, Some, None, refl, sym, ap, ◌∙◌, subst, ⊎_elim, arith}
use Rattle.std.specs.Prelude.{◌==◌, if◌then◌else◌, is_some, slice_index, slice_set, Option}
use mathlib.Core.Option.{none}
use prog.Atomic.{either}
use Rattle.atomic_table.specs.Table.{Me, step, Allows, Act, keeps, Valid, stepped, carried_after}
use Rattle.qd_score_model.specs.declared.limits.TheConstants.{ROWS}
use Rattle.qd_score_model.specs.declared.view.Place.{Place}
use Rattle.qd_score_model.specs.declared.view.Sight.{Sight}
use Rattle.qd_score_model.specs.declared.view.Version.{Version}
use Rattle.qd_score_model.specs.declared.view.View.{View}
use Rattle.qd_score_model.specs.Machine.{Book, Board, GoLive, SetCurrent, Retire, MayGoLive, MaySetCurrent, MayRetire, put_at, version_at, sight, sees, refuses, retired}
use Rattle.qd_score_model.proofs.Boards.{put_same, put_other, test_same, test_other, same_of_test, below_rows, live_now, live_still}
use Rattle.qd_score_model.proofs.Follows.{pins_small, no_pins}
use Rattle.qd_score.specs.declared.limits.TheConstants.{VERSIONS_END}
use Rattle.qd_score.specs.declared.table.Knows.{Knows}
use Rattle.qd_score.specs.Rule.{Ruled, Stands, with_view, place_word, row_word}
use Rattle.qd_score.specs.Publishing.{MayMakeLive, MayMakeCurrent, MayLetGo, with_live, with_current, without_row, GoesLive, SetsCurrent, Retires}
use Rattle.qd_score.proofs.Words.{held_by, row_words, place_words, place_of_word, turned_on}
use Rattle.qd_score.proofs.Steps.{ruled_by, ruled_to, slot_else, slot_held, holds, view_there}

module _ {I S : Type 0} (blocks : S → List ℕ) where
  -- a row that the holder sees live is one of the scoreboard's
  pub held_row : (v : View I S) (h : Sight I S) (row : ℕ) (x : Version S) → Stands blocks v → v.hold ≡ Some h → version_at h.versions row ≡ Some x → row < ROWS
  held_row v h row x st hold live =
      let own = held_by st.0.board st.1 h (sym (st.2.one_holder.holds st.1 v st.3) ∙ hold) in
      let below = below_rows h.versions row x live in
      let rows : length h.versions ≡ ROWS = ap (λ (g : Sight I S). length g.versions) (sym own.1) ∙ st.2.versions.rows in omega arith

one_version : {S : Type 0} (o : Option (Version S)) (x y : Version S) → o ≡ Some x → o ≡ Some y → x ≡ y
one_version o x y a b = (cc)

abbrev first_of : {B : Type 0} → List (ℕ × Option B) → Option B
first_of [] = None
first_of (p ∷ ps) = p.1

one_some : {B : Type 0} (x y : B) → Some x ≡ Some y → x ≡ y
one_some x y e = (cc)

pub one_book : {B : Type 0} (x y : B) (c : List (ℕ × Option B)) → c ≡ (0, Some x) ∷ [] → c ≡ (0, Some y) ∷ [] → x ≡ y
one_book x y c a b = one_some x y (sym (ap first_of a) ∙ ap first_of b)

module _ {I S B F : Type 0} (book : B → Book I S) (sound : B → Type 0) (fixed : B → F) (blocks : S → List ℕ) where
  pub lives : (slots id : ℕ) (me : Me (Option B) (Knows I S B)) (h : Sight I S) (row : ℕ) (inside : B) (x : Version S) → me.1 ≡ (0, Some inside) ∷ [] → version_at (book inside).versions row ≡ Some x → me.0.view.spent ≡ false → me.0.view.hold ≡ Some h → MayMakeLive h row x
      → Allows (Ruled book sound fixed blocks) slots id me (row + 2) (λ n. (n + 1) % 2 ^ 64) (GoesLive book blocks (step slots (row + 2) 1 0 none) me)
  lives slots id me h row inside x had live spent hold may t r len at small =
      let own = holds book sound fixed blocks t r id me.0 at h hold in
      let m = subst (λ (g : Sight I S). MayMakeLive g row x) (sym own.1) may in
      let b = r.state.board in
      let dead : b.live row ≡ false = r.kept.versions.live row ∙ ap is_some m.dead in
      let need : MayGoLive b id row x = record { holder = own.0; is_row = m.is_row; dead = dead; greatest = m.greatest; newer = m.newer; within = m.within } in
      let n = (slice_index t.words (row + 2) + 1) % 2 ^ 64 in
      let c = record b { live = put_at b.live row true; versions = slice_set b.versions row (Some x) } in
      let show = row_words t.words row n r.words
      (ap (λ w. (w + 1) % 2 ^ 64) (r.words.rows row m.is_row ∙ ap (row_word (b.pins row)) dead) ∙ (turned_on (b.pins row) (pins_small blocks r.state r.kept row) ∙ ap (row_word (b.pins row)) (sym (put_same b.live row row true refl))))
      (λ j ne. (refl, put_other b.live row j true ne))
      (λ j y e. ⊎_elim (λ (s : (j ≡ row) × (x ≡ y)). subst (λ (z : Version S). z.n < VERSIONS_END) s.1 m.small) (λ (s : (j ≢ row) × (version_at b.versions j ≡ Some y)). r.words.small j y s.1) (live_now b.versions row x (let l = r.kept.versions.rows in let i = m.is_row in omega arith) j y e)) in
      let v = sees me.0.view (with_live h row x) in
      let r' = ruled_by book sound fixed blocks t r id me.0 at spent (GoLive row x) need refl v (ap (λ (g : Sight I S). sees me.0.view (with_live g row x)) own.1) spent (set t.words (row + 2) n) t.homes show (slot_held book sound fixed blocks t r id own.0 c own.0 (row + 2) n (λ (e : 0 ≡ row + 2). omega arith)) in (
        with_view me.0 v,
        keeps,
        tt,
        r'.0,
        (λ j other y e has there.
            let row_is : row ≡ j = omega arith in
            let x_is : x ≡ y = one_version (version_at (book inside).versions row) x y live ((λ i. version_at (book (one_book inside other me.1 had has i)).versions (row_is i)) ∙ there) in
            record { hold = h; held = hold; seat = λ i. (with_view me.0 (sees me.0.view (with_live h (row_is i) (x_is i))), me.1); stands = r'.1 }),
      )

  -- the same, of a seat that is known by what it was
  pub lives_at : (slots id : ℕ) (me : Me (Option B) (Knows I S B)) (k : Knows I S B) (h : Sight I S) (row : ℕ) (inside : B) (x : Version S) → me ≡ (k, (0, Some inside) ∷ []) → version_at (book inside).versions row ≡ Some x → k.view.spent ≡ false → k.view.hold ≡ Some h → MayMakeLive h row x
      → Allows (Ruled book sound fixed blocks) slots id me (row + 2) (λ n. (n + 1) % 2 ^ 64) (GoesLive book blocks (step slots (row + 2) 1 0 none) me)
  lives_at slots id me k h row inside x is live spent hold may = subst (λ (m : Me (Option B) (Knows I S B)). Allows (Ruled book sound fixed blocks) slots id m (row + 2) (λ n. (n + 1) % 2 ^ 64) (GoesLive book blocks (step slots (row + 2) 1 0 none) m)) (sym is) (lives slots id (k, (0, Some inside) ∷ []) h row inside x refl live spent hold may)

  pub sets_current : (slots id : ℕ) (me : Me (Option B) (Knows I S B)) (h : Sight I S) (place : Place) → me.0.view.spent ≡ false → me.0.view.hold ≡ Some h → MayMakeCurrent h place → place.row < ROWS
      → Allows (Ruled book sound fixed blocks) slots id me 1 (λ n. place_word place) (λ n. SetsCurrent blocks (step slots 1 (place_word place) 0 none) me (place_word place))
  sets_current slots id me h place spent hold may lt t r len at small =
      let own = holds book sound fixed blocks t r id me.0 at h hold in
      let m = subst (λ (g : Sight I S). MayMakeCurrent g place) (sym own.1) may in
      let need : MaySetCurrent r.state.board id place = record { holder = own.0; live = m.live; newer = m.newer } in
      let c = record r.state.board { current = place } in
      let v = sees me.0.view (with_current h place) in
      let r' = ruled_by book sound fixed blocks t r id me.0 at spent (SetCurrent place) need refl v (ap (λ (g : Sight I S). sees me.0.view (with_current g place)) own.1) spent (set t.words 1 (place_word place)) t.homes
      (place_words t.words (place_word place) place r.words refl lt)
      (slot_held book sound fixed blocks t r id own.0 c own.0 1 (place_word place) (λ e. omega arith)) in (
        with_view me.0 v,
        keeps,
        tt,
        r'.0,
        record { hold = h; held = hold; seat = ap (λ (p : Place). (with_view me.0 (sees me.0.view (with_current h p)), me.1)) (sym (place_of_word place lt)); stands = r'.1 },
      )

  pub retires : (slots id : ℕ) (me : Me (Option B) (Knows I S B)) (h : Sight I S) (row : ℕ) → me.0.view.spent ≡ false → me.0.view.hold ≡ Some h → MayLetGo h row → row < ROWS
      → Allows (Ruled book sound fixed blocks) slots id me (row + 2) (λ n. either (n == 1) 0 n) (Retires blocks (step slots (row + 2) 1 0 none) me)
  retires slots id me h row spent hold may lt t r len at small = choose (b.pins row == 0) refl
    where
      b : Board I S
      b = r.state.board

      found : ℕ
      found = slice_index t.words (row + 2)

      new : ℕ
      new = either (found == 1) 0 found

      own : (b.holder ≡ Some id) × (sight b ≡ h)
      own = holds book sound fixed blocks t r id me.0 at h hold

      m : MayLetGo (sight b) row
      m = subst (λ (g : Sight I S). MayLetGo g row) (sym own.1) may

      live : b.live row ≡ true
      live = r.kept.versions.live row ∙ ap is_some m.live.1

      need : MayRetire b id row
      need = record { holder = own.0; live = live; other = m.other }

      -- the row is live, so its word is odd
      word : found ≡ row_word (b.pins row) true
      word = r.words.rows row lt ∙ ap (row_word (b.pins row)) live

      Goal : Type 0
      Goal = (w : Knows I S B) × (a : Act (Option B)) × Valid t.homes me.1 a × Ruled book sound fixed blocks (stepped t (row + 2) new id me.1 w a) × Retires blocks (step slots (row + 2) 1 0 none) me found (w, carried_after me.1 a)

      choose : (p : Bool) → (b.pins row == 0) ≡ p → Goal
      choose true e =
          let none_left : b.pins row ≡ 0 = same_of_test (b.pins row) 0 e in
          let one : found ≡ 1 = word ∙ ap (λ k. row_word k true) none_left in
          let v = sees me.0.view (without_row h row) in
          let r' = ruled_to book sound fixed blocks t r id me.0 at spent (Retire row) need refl v
          (ap (λ p. if p then sees me.0.view (sight (retired b row)) else refuses me.0.view row (2 * b.pins row + 1)) e ∙ ap (λ (g : Sight I S). sees me.0.view (without_row g row)) own.1) spent
          (retired b row) (ap (λ p. if p then retired b row else b) e) (set t.words (row + 2) new) t.homes
          (row_words t.words row new r.words (ap (λ k. either (k == 1) 0 k) one ∙ (sym (ap (λ k. row_word k false) none_left) ∙ ap (row_word (b.pins row)) (sym (put_same b.live row row false refl)))) (λ j ne. (refl, put_other b.live row j false ne))
          (λ j y l. r.words.small j y (live_still b.versions row (let n = r.kept.versions.rows in omega arith) j y l).1))
          (slot_held book sound fixed blocks t r id own.0 (retired b row) own.0 (row + 2) new (λ f. omega arith)) in (
            with_view me.0 v,
            keeps,
            tt,
            r'.0,
            (λ j f. let same : row ≡ j = omega arith in record {
              gone = λ is. record { hold = h; held = hold; seat = ap (λ k. (with_view me.0 (sees me.0.view (without_row h k)), me.1)) same; stands = r'.1 };
              stays = λ ne. absurd (ne one);
              pinned = λ ne. absurd (ne one);
              alone = λ sole idle. one;
              stands = r'.1;
            }),
          )
      choose false e =
          let some_left : b.pins row ≢ 0 = λ z. let q = test_same (b.pins row) 0 z in absurd (cc) in
          let more : 3 ≤ found = omega (arith, word) in
          let other : found ≢ 1 = λ is. omega arith in
          let kept_as : new ≡ found = ap (λ p. either p 0 found) (test_other found 1 other) in
          let v = refuses me.0.view row found in
          let r' = ruled_to book sound fixed blocks t r id me.0 at spent (Retire row) need refl v
          (ap (λ p. if p then sees me.0.view (sight (retired b row)) else refuses me.0.view row (2 * b.pins row + 1)) e ∙ ap (refuses me.0.view row) (sym word)) spent
          b (ap (λ p. if p then retired b row else b) e) (set t.words (row + 2) new) t.homes
          (row_words t.words row new r.words (kept_as ∙ r.words.rows row lt) (λ j ne. (refl, refl)) r.words.small)
          (slot_else book sound fixed blocks b b r.origin t.words t.homes (row + 2) new (λ f. omega arith) refl refl r.slot) in (
            with_view me.0 v,
            keeps,
            tt,
            r'.0,
            (λ j f. let same : row ≡ j = omega arith in record {
              gone = λ is. absurd (other is);
              stays = λ ne. ap (λ k. (with_view me.0 (refuses me.0.view k found), me.1)) same;
              pinned = λ ne. more;
              alone = λ sole idle. absurd (some_left (no_pins blocks r.state r.kept id me.0.view (view_there book sound fixed blocks t r id me.0 at) sole idle row));
              stands = r'.1;
            }),
          )
