-- A seat looks at the current place, counts on its row, looks again, and counts on it no longer.
use Rattle.std.proofs.Common.{◌≡◌, ◌≢◌, ◌⊎◌, ℕ, ◌+◌, ◌-◌, ◌%◌, ◌^◌, ◌<◌, ◌≤◌, true, false, List, set, Some, refl, sym, ap, ◌∙◌, subst, ⊎_elim, arith}
use Rattle.std.specs.Prelude.{◌&&◌, slice_index, Option}
use mathlib.Core.Option.{some, none}
use lib.ListN.{get_elem?}
use Rattle.atomic_table.specs.Table.{State as TableState, Me, step, Allows, keeps}
use Rattle.qd_score_model.specs.declared.limits.TheConstants.{ROWS}
use Rattle.qd_score_model.specs.declared.view.Mode.TheVariants.{Keeper}
use Rattle.qd_score_model.specs.declared.view.Place.{Place}
use Rattle.qd_score_model.specs.declared.view.Phase.TheVariants.{Idle, Looked, Trying, Pinned}
use Rattle.qd_score_model.specs.declared.view.Sight.{Sight}
use Rattle.qd_score_model.specs.declared.view.View.{View}
use Rattle.qd_score_model.specs.Machine.{Book, Board, State, Look, Raise, Confirm, Drop, HeldRaise, put_at, same_place, looked, tries, confirmed, dropped, pinned_held}
use Rattle.qd_score_model.specs.Kept.{Kept, PhaseFits, WasCurrent}
use Rattle.qd_score_model.proofs.Boards.{put_same, put_other, same_or_other, test_same, below_rows, one_at_same}
use Rattle.qd_score_model.proofs.Follows.{pins_small}
use Rattle.qd_score_model.proofs.Frame.{once_on}
use Rattle.qd_score_model.proofs.Lists.{sum_at_le}
use Rattle.qd_score.specs.declared.table.Knows.{Knows}
use Rattle.qd_score.specs.Rule.{WordsShow, Ruled, Stands, with_view, place_of, row_word}
use Rattle.qd_score.specs.Pinning.{place_in, current_in, Looks, Raises, Confirms, Releases, Reads, HeldRaises}
use Rattle.qd_score.proofs.Words.{row_words, place_words, place_of_word, one_more, one_less}
use Rattle.qd_score.proofs.Steps.{ruled_by, ruled_same, slot_else, holds, view_there}

module _ {I S : Type 0} (blocks : S → List ℕ) where
  -- a row that a seat counts on has a pin
  some_pin : (s : State I S) → Kept blocks s → (id : ℕ) (v : View I S) (place : Place) → get_elem? s.views id ≡ some v → (v.phase ≡ Trying place) ⊎ (v.phase ≡ Pinned place) → 0 < s.board.pins place.row
  some_pin s k id v place at on =
      let c = sum_at_le (λ (u : View I S). once_on place.row u.phase) s.views id v at in
      let p = k.pins.pins place.row in
      let e : once_on place.row v.phase ≡ 1 = ⊎_elim (λ (e : v.phase ≡ Trying place). ap (once_on place.row) e ∙ one_at_same place.row place.row refl) (λ (e : v.phase ≡ Pinned place). ap (once_on place.row) e ∙ one_at_same place.row place.row refl) on in omega arith

  -- the row of a pin is one of the scoreboard's
  pub pinned_row : (v : View I S) (place : Place) → Stands blocks v → v.phase ≡ Pinned place → place.row < ROWS
  pinned_row v place st on =
      let live = subst (PhaseFits st.0.board) on (st.2.phases st.1 v st.3) in
      let below = below_rows st.0.board.versions place.row live.0 live.1 in
      let rows = st.2.versions.rows in omega arith

module _ {I S B F : Type 0} (book : B → Book I S) (sound : B → Type 0) (fixed : B → F) (blocks : S → List ℕ) where
  -- the current place is that of its word
  shown : (t : TableState (Option B) (Knows I S B)) (r : Ruled book sound fixed blocks t) → r.state.board.current ≡ place_of (slice_index t.words 1)
  shown t r = sym (ap place_of r.words.place ∙ place_of_word r.state.board.current r.words.row)

  pub looks : (slots id : ℕ) (me : Me (Option B) (Knows I S B)) → me.0.view.spent ≡ false → me.0.view.phase ≡ Idle → me.0.view.mode ≢ Keeper
      → Allows (Ruled book sound fixed blocks) slots id me 1 (λ n. n) (Looks blocks (step slots 1 0 0 none) me)
  looks slots id me spent idle kind t r len at small =
      let now = shown t r in
      let v = looked me.0.view (place_of (slice_index t.words 1)) in
      let r' = ruled_by book sound fixed blocks t r id me.0 at spent Look (idle, kind) refl v (ap (looked me.0.view) now) spent (set t.words 1 (slice_index t.words 1)) t.homes
      (place_words t.words (slice_index t.words 1) r.state.board.current r.words r.words.place r.words.row)
      (slot_else book sound fixed blocks r.state.board r.state.board r.origin t.words t.homes 1 (slice_index t.words 1) (λ e. omega arith) refl refl r.slot) in (
        with_view me.0 v,
        keeps,
        tt,
        r'.0,
        record { seat = refl; newer = subst (λ (p : Place). me.0.view.known ≤ p.n) now (r.kept.history.seats id me.0.view (view_there book sound fixed blocks t r id me.0 at)).known; stands = r'.1 },
      )

  -- the word of a row with one pin more
  raised : (t : TableState (Option B) (Knows I S B)) (r : Ruled book sound fixed blocks t) (row : ℕ) → row < ROWS
      → WordsShow r.state.board.current (put_at r.state.board.pins row (r.state.board.pins row + 1)) r.state.board.live r.state.board.versions (set t.words (row + 2) ((slice_index t.words (row + 2) + 2) % 2 ^ 64))
  raised t r row lt = row_words t.words row ((slice_index t.words (row + 2) + 2) % 2 ^ 64) r.words
      (ap (λ n. (n + 2) % 2 ^ 64) (r.words.rows row lt) ∙ (one_more (r.state.board.pins row) (r.state.board.live row) (pins_small blocks r.state r.kept row) ∙ ap (λ p. row_word p (r.state.board.live row)) (sym (put_same r.state.board.pins row row (r.state.board.pins row + 1) refl))))
      (λ j ne. (put_other r.state.board.pins row j (r.state.board.pins row + 1) ne, refl))
      r.words.small

  pub raises : (slots id : ℕ) (me : Me (Option B) (Knows I S B)) (place : Place) → me.0.view.spent ≡ false → me.0.view.phase ≡ Looked place → place.row < ROWS
      → Allows (Ruled book sound fixed blocks) slots id me (place.row + 2) (λ n. (n + 2) % 2 ^ 64) (Raises blocks (step slots (place.row + 2) 2 0 none) me)
  raises slots id me place spent on lt t r len at small =
      let n = (slice_index t.words (place.row + 2) + 2) % 2 ^ 64 in
      let v = tries me.0.view place in
      let r' = ruled_by book sound fixed blocks t r id me.0 at spent (Raise place) on refl v refl spent (set t.words (place.row + 2) n) t.homes (raised t r place.row lt)
      (slot_else book sound fixed blocks r.state.board (record r.state.board { pins = put_at r.state.board.pins place.row (r.state.board.pins place.row + 1) }) r.origin t.words t.homes (place.row + 2) n (λ e. omega arith) refl refl r.slot) in (
        with_view me.0 v,
        keeps,
        tt,
        r'.0,
        record { seat = ap (λ (p : Place). (with_view me.0 (tries me.0.view p), me.1)) (sym (ap place_in on)); stands = r'.1 },
      )

  pub confirms : (slots id : ℕ) (me : Me (Option B) (Knows I S B)) (place : Place) → me.0.view.spent ≡ false → me.0.view.phase ≡ Trying place
      → Allows (Ruled book sound fixed blocks) slots id me 1 (λ n. n) (Confirms blocks (step slots 1 0 0 none) me)
  confirms slots id me place spent on t r len at small =
      let now = shown t r in
      let v = confirmed me.0.view (place_of (slice_index t.words 1)) place in
      let r' = ruled_by book sound fixed blocks t r id me.0 at spent (Confirm place) on refl v (ap (λ (p : Place). confirmed me.0.view p place) now) spent (set t.words 1 (slice_index t.words 1)) t.homes
      (place_words t.words (slice_index t.words 1) r.state.board.current r.words r.words.place r.words.row)
      (slot_else book sound fixed blocks r.state.board r.state.board r.origin t.words t.homes 1 (slice_index t.words 1) (λ e. omega arith) refl refl r.slot) in (
        with_view me.0 v,
        keeps,
        tt,
        r'.0,
        record {
          seat = ap (λ (p : Place). (with_view me.0 (confirmed me.0.view (place_of (slice_index t.words 1)) p), me.1)) (sym (ap place_in on));
          newer = subst (λ (p : Place). same_place p (place_in me.0.view.phase) ≡ false → (place_in me.0.view.phase).n < p.n) now (subst (λ (p : Place). same_place r.state.board.current p ≡ false → p.n < r.state.board.current.n) (sym (ap place_in on)) (newer r.state.board (subst (PhaseFits r.state.board) on (r.kept.phases id me.0.view (view_there book sound fixed blocks t r id me.0 at)))));
          stands = r'.1;
        },
      )
    where
      -- what was current and isn't any more is older
      newer : (b : Board I S) → WasCurrent b place → same_place b.current place ≡ false → place.n < b.current.n
      newer b was other = ⊎_elim
          (λ (same : place.n ≡ b.current.n). let w = was.1 same in let t : same_place b.current place ≡ true = (λ i. test_same b.current.n place.n (sym same) i && test_same b.current.row place.row (sym w) i) in absurd (cc))
          (λ (ne : place.n ≢ b.current.n). let l = was.0 in omega arith)
          (same_or_other place.n b.current.n)

  pub releases : (slots id : ℕ) (me : Me (Option B) (Knows I S B)) (place : Place) → me.0.view.spent ≡ false → (me.0.view.phase ≡ Trying place) ⊎ (me.0.view.phase ≡ Pinned place) → place.row < ROWS
      → Allows (Ruled book sound fixed blocks) slots id me (place.row + 2) (λ n. (n + (2 ^ 64 - 2)) % 2 ^ 64) (Releases blocks (step slots (place.row + 2) 2 0 none) me)
  releases slots id me place spent on lt t r len at small =
      let n = (slice_index t.words (place.row + 2) + (2 ^ 64 - 2)) % 2 ^ 64 in
      let pins = put_at r.state.board.pins place.row (r.state.board.pins place.row - 1) in
      let show = row_words t.words place.row n r.words
      (ap (λ w. (w + (2 ^ 64 - 2)) % 2 ^ 64) (r.words.rows place.row lt) ∙ (one_less (r.state.board.pins place.row) (r.state.board.live place.row) (pins_small blocks r.state r.kept place.row) (some_pin blocks r.state r.kept id me.0.view place (view_there book sound fixed blocks t r id me.0 at) on)
      ∙ ap (λ p. row_word p (r.state.board.live place.row)) (sym (put_same r.state.board.pins place.row place.row (r.state.board.pins place.row - 1) refl))))
      (λ j ne. (put_other r.state.board.pins place.row j (r.state.board.pins place.row - 1) ne, refl))
      r.words.small in
      let v = dropped me.0.view in
      let r' = ruled_by book sound fixed blocks t r id me.0 at spent (Drop place) on refl v refl spent (set t.words (place.row + 2) n) t.homes show
      (slot_else book sound fixed blocks r.state.board (record r.state.board { pins = pins }) r.origin t.words t.homes (place.row + 2) n (λ e. omega arith) refl refl r.slot) in (
        with_view me.0 v,
        keeps,
        tt,
        r'.0,
        record { seat = refl; stands = r'.1 },
      )

  -- the same, where the row is known by another name
  pub releases_at : (slots id : ℕ) (me : Me (Option B) (Knows I S B)) (place : Place) (row : ℕ) → place.row ≡ row → me.0.view.spent ≡ false → (me.0.view.phase ≡ Trying place) ⊎ (me.0.view.phase ≡ Pinned place) → row < ROWS
      → Allows (Ruled book sound fixed blocks) slots id me (row + 2) (λ n. (n + (2 ^ 64 - 2)) % 2 ^ 64) (Releases blocks (step slots (row + 2) 2 0 none) me)
  releases_at slots id me place row is spent on lt = subst (λ k. Allows (Ruled book sound fixed blocks) slots id me (k + 2) (λ n. (n + (2 ^ 64 - 2)) % 2 ^ 64) (Releases blocks (step slots (k + 2) 2 0 none) me)) is (releases slots id me place spent on (subst (λ k. k < ROWS) (sym is) lt))

  pub reads : (slots id : ℕ) (me : Me (Option B) (Knows I S B)) (h : Sight I S) → me.0.view.hold ≡ Some h
      → Allows (Ruled book sound fixed blocks) slots id me 1 (λ n. n) (Reads blocks (step slots 1 0 0 none) me)
  reads slots id me h hold t r len at small = (
    me.0,
    keeps,
    tt,
    ruled_same book sound fixed blocks t r id me.0 at 1,
    record { seat = refl; place = sym (shown t r) ∙ (ap (λ (g : Sight I S). g.current) (holds book sound fixed blocks t r id me.0 at h hold).1 ∙ sym (ap current_in hold)) },
  )

  pub held_raises : (slots id : ℕ) (me : Me (Option B) (Knows I S B)) (h : Sight I S) → me.0.view.spent ≡ false → me.0.view.hold ≡ Some h → me.0.view.phase ≡ Idle → me.0.view.mode ≢ Keeper → (row : ℕ) → row ≡ h.current.row → row < ROWS
      → Allows (Ruled book sound fixed blocks) slots id me (row + 2) (λ n. (n + 2) % 2 ^ 64) (HeldRaises blocks (step slots (row + 2) 2 0 none) me)
  held_raises slots id me h spent hold idle kind row same lt t r len at small =
      let own = holds book sound fixed blocks t r id me.0 at h hold in
      let now : r.state.board.current ≡ h.current = ap (λ (g : Sight I S). g.current) own.1 in
      let here : row ≡ r.state.board.current.row = same ∙ sym (ap (λ (p : Place). p.row) now) in
      let n = (slice_index t.words (row + 2) + 2) % 2 ^ 64 in
      let v = pinned_held me.0.view h.current in
      let c = record r.state.board { pins = put_at r.state.board.pins r.state.board.current.row (r.state.board.pins r.state.board.current.row + 1) } in
      let show = subst (λ k. WordsShow r.state.board.current (put_at r.state.board.pins k (r.state.board.pins k + 1)) r.state.board.live r.state.board.versions (set t.words (row + 2) n)) here (raised t r row lt) in
      let r' = ruled_by book sound fixed blocks t r id me.0 at spent HeldRaise (own.0, idle, kind) refl v (ap (pinned_held me.0.view) now) spent (set t.words (row + 2) n) t.homes show
      (slot_else book sound fixed blocks r.state.board c r.origin t.words t.homes (row + 2) n (λ e. omega arith) refl refl r.slot) in (
        with_view me.0 v,
        keeps,
        tt,
        r'.0,
        record { seat = ap (λ (p : Place). (with_view me.0 (pinned_held me.0.view p), me.1)) (sym (ap current_in hold)); stands = r'.1 },
      )
