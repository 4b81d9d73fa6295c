-- Seats are split and joined, and the first one opens the table.
use Rattle.std.proofs.Common.{◌≡◌, ◌≢◌, ℕ, zero, suc, ◌+◌, ◌-◌, ◌*◌, ◌<◌, lit<, replicate, true, false, List, [], ◌∷◌, ◌++◌, set, Some, refl, sym, ap, ◌∙◌, subst, inl, ⊎_elim, arith}
use Rattle.std.specs.Prelude.{slice_index, Option, ◌==◌, All}
use mathlib.Core.Option.{some, some-injective, some-ne-none}
use mathlib.Core.List.{IsPrefix}
use lib.ListN.{get_elem?}
use Rattle.atomic_table.specs.Table.{Splits, Joins, opening as table_opening}
use Rattle.atomic_table.proofs.Lists.{at_set, at_snoc, set_else}
use Rattle.qd_score_model.specs.declared.limits.TheConstants.{ROWS}
use Rattle.qd_score_model.specs.declared.view.Mode.{Mode}
use Rattle.qd_score_model.specs.declared.view.Place.{Place}
use Rattle.qd_score_model.specs.declared.view.Version.{Version}
use Rattle.qd_score_model.specs.declared.view.View.{View}
use Rattle.qd_score_model.specs.Machine.{Book, Split, MaySplit, MayOpen, happens, lent, newcomer, joined, gone, opening}
use Rattle.qd_score_model.specs.Kept.{Kept}
use Rattle.qd_score_model.proofs.Boards.{test_other}
use Rattle.qd_score_model.proofs.Runs.{kept_happens, opened_happens}
use Rattle.qd_score_model.proofs.Seats.{joins, kept_opening}
use Rattle.qd_score.specs.declared.limits.TheConstants.{VERSIONS_END}
use Rattle.qd_score.specs.declared.table.Knows.{Knows}
use Rattle.qd_score.specs.Rule.{Ruled, Stands, view_in, with_view, nobody, first_seat, place_word, row_word}
use Rattle.qd_score.specs.Calls.{IsLoose, HasSeenBoth}
use Rattle.qd_score.proofs.Words.{map_set, map_push}
use Rattle.qd_score.proofs.Steps.{view_there}

module _ {I S B : Type 0} (blocks : S → List ℕ) where
  -- the view shows what both had seen, and it stands
  pub seen_both : (k w now : Knows I S B) → Stands blocks now.view → now ≡ with_view k (joined k.view w.view) → HasSeenBoth k.view w.view now.view
  seen_both k w now st is = record { first = met 0 [] (omega arith); other = met 1 [] (omega arith) }
    where
      met : All (λ xs. IsPrefix xs now.view.seen) (k.view.seen ∷ w.view.seen ∷ k.view.met)
      met = subst (All (λ xs. IsPrefix xs now.view.seen)) (ap (λ (z : Knows I S B). z.view.met) is) (st.2.history.seats st.1 now.view st.3).met

module _ {I S B F : Type 0} (book : B → Book I S) (sound : B → Type 0) (fixed : B → F) (blocks : S → List ℕ) where
  pub splits : (id : ℕ) (k : Knows I S B) (mode : Mode) → k.view.spent ≡ false → MaySplit k.view mode
      → Splits (Ruled book sound fixed blocks) id k (with_view k (lent k.view)) (with_view k (newcomer k.view mode))
  splits id k mode spent may t r at = record {
    state = happens r.state id k.view (Split mode);
    origin = r.origin;
    kept = kept_happens blocks r.state id k.view (Split mode) r.kept (view_there book sound fixed blocks t r id k at) spent may;
    opened = opened_happens blocks r.state id k.view (Split mode) ∙ r.opened;
    views = map_push view_in (set t.views id left) right ∙ ap (λ (vs : List (View I S)). vs ++ newcomer k.view mode ∷ []) (map_set view_in t.views id left ∙ ap (λ (vs : List (View I S)). set vs id (lent k.view)) r.views);
    origins = origins;
    words = r.words;
    slot = r.slot;
  }
    where
      left : Knows I S B
      left = with_view k (lent k.view)

      right : Knows I S B
      right = with_view k (newcomer k.view mode)

      own : k.origin ≡ Some r.origin
      own = r.origins id k at spent

      origins : (seat : ℕ) (j : Knows I S B) → get_elem? (set t.views id left ++ right ∷ []) seat ≡ some j → j.view.spent ≡ false → j.origin ≡ Some r.origin
      origins seat j there stands = ⊎_elim
          (λ (e : get_elem? (set t.views id left) seat ≡ some j). ⊎_elim
          (λ (x : (seat ≡ id) × (left ≡ j)). ap (λ (z : Knows I S B). z.origin) (sym x.1) ∙ own)
          (λ (x : (seat ≢ id) × (get_elem? t.views seat ≡ some j)). r.origins seat j x.1 stands)
          (at_set t.views id seat left j e))
          (λ (e : right ≡ j). ap (λ (z : Knows I S B). z.origin) (sym e) ∙ own)
          (at_snoc (set t.views id left) right j seat there)

  pub joins_seat : (id : ℕ) (k : Knows I S B) (other : ℕ) (w : Knows I S B) → k.view.spent ≡ false → w.view.spent ≡ false → IsLoose w.view
      → Joins (Ruled book sound fixed blocks) id k other w (with_view k (joined k.view w.view)) nobody
  joins_seat id k other w spent stands loose t r at apart there = record {
    state = record { board = r.state.board; views = set (set r.state.views id (joined k.view w.view)) other gone };
    origin = r.origin;
    kept = joins blocks r.state id k.view other w.view r.kept (view_there book sound fixed blocks t r id k at) spent (record { apart = apart; there = view_there book sound fixed blocks t r other w before; stands = stands; no_lock = loose.no_lock; no_pin = loose.no_pin });
    opened = r.opened;
    views = map_set view_in (set t.views id both) other nobody ∙ ap (λ (vs : List (View I S)). set vs other gone) (map_set view_in t.views id both ∙ ap (λ (vs : List (View I S)). set vs id (joined k.view w.view)) r.views);
    origins = origins;
    words = r.words;
    slot = r.slot;
  }
    where
      both : Knows I S B
      both = with_view k (joined k.view w.view)

      before : get_elem? t.views other ≡ some w
      before = sym (set_else t.views id other both apart) ∙ there

      origins : (seat : ℕ) (j : Knows I S B) → get_elem? (set (set t.views id both) other nobody) seat ≡ some j → j.view.spent ≡ false → j.origin ≡ Some r.origin
      origins seat j here still = ⊎_elim
          (λ (x : (seat ≡ other) × (nobody ≡ j)). let s : true ≡ j.view.spent = ap (λ (z : Knows I S B). z.view.spent) x.1 in absurd (cc))
          (λ (x : (seat ≢ other) × (get_elem? (set t.views id both) seat ≡ some j)). ⊎_elim
          (λ (y : (seat ≡ id) × (both ≡ j)). ap (λ (z : Knows I S B). z.origin) (sym y.1) ∙ r.origins id k at spent)
          (λ (y : (seat ≢ id) × (get_elem? t.views seat ≡ some j)). r.origins seat j y.1 still)
          (at_set t.views id seat both j x.1))
          (at_set (set t.views id both) other seat nobody j here)

  zeroes : (n i : ℕ) → slice_index (replicate n 0) i ≡ 0
  zeroes zero i = refl
  zeroes (suc n) zero = refl
  zeroes (suc n) (suc i) = zeroes n i

  -- the words over a book whose current version has the number n, in row 0
  abbrev pub opening_words : ℕ → List ℕ
  opening_words n = set (set (replicate (ROWS + 2) 0) 1 (ROWS * n)) 2 1

  pub opens_ruled : (x : B) (first : Version S) → MayOpen blocks (book x) first → (book x).current.n < VERSIONS_END
      → Ruled book sound fixed blocks (table_opening (opening_words (book x).current.n) (Some x ∷ []) (first_seat book sound fixed x))
  opens_ruled x first may small = record {
    state = opening (book x);
    origin = x;
    kept = kept;
    opened = refl;
    views = refl;
    origins = origins;
    words = record {
      count = refl;
      place = place;
      row = subst (λ (p : Place). p.row < ROWS) (sym may.current) (lit< tt);
      rows = rows;
      small = λ row y e. let g = kept.versions.newest refl row y e in omega arith;
    };
    slot = inl (record { holder = refl; lock = refl; inside = x; home = refl; history = refl; versions = refl; current = refl; present = refl; faults = refl; removed = refl; comes = (λ s. s, refl) });
  }
    where
      kept : Kept blocks (opening (book x))
      kept = kept_opening blocks (book x) first may

      origins : (seat : ℕ) (k : Knows I S B) → get_elem? (first_seat book sound fixed x ∷ []) seat ≡ some k → k.view.spent ≡ false → k.origin ≡ Some x
      origins zero k e stands = ap (λ (z : Knows I S B). z.origin) (sym (some-injective _ _ e))
      origins (suc seat) k e stands = absurd (some-ne-none k (sym e))

      place : ROWS * (book x).current.n ≡ place_word (book x).current
      place = let z : (book x).current.row ≡ 0 = ap (λ (p : Place). p.row) may.current in omega arith

      rows : (row : ℕ) → row < ROWS → slice_index (opening_words (book x).current.n) (row + 2) ≡ row_word 0 (row == 0)
      rows zero lt = refl
      rows (suc row) lt =
          let e : suc row + 2 ≡ suc (suc (suc row)) = omega arith in
          let z : row_word 0 (suc row == 0) ≡ 0 = ap (row_word 0) (test_other (suc row) 0 (λ f. omega arith)) in
          ap (slice_index (opening_words (book x).current.n)) e ∙ (zeroes (ROWS - 1) row ∙ sym z)

  pub opens_at : (x value : B) (first : Version S) (n : ℕ) (words : List ℕ) (items : List (Option B)) → MayOpen blocks (book x) first → (book x).current.n < VERSIONS_END → words ≡ opening_words n → n ≡ (book x).current.n → items ≡ Some x ∷ [] → value ≡ x
      → Ruled book sound fixed blocks (table_opening words items (first_seat book sound fixed value))
  opens_at x value first n words items may small is number inside same = subst (λ (p : List ℕ × List (Option B) × B). Ruled book sound fixed blocks (table_opening p.0 p.1 (first_seat book sound fixed p.2))) (λ i. (sym (is ∙ ap opening_words number) i, sym inside i, sym same i)) (opens_ruled x first may small)

  pub first_stands : (x : B) (first : Version S) → MayOpen blocks (book x) first → Stands blocks (first_seat book sound fixed x).view
  first_stands x first may = (opening (book x), 0, kept_opening blocks (book x) first may, refl, refl)
