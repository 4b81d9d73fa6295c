-- The events under the lock keep the rule: take, give, go live, set current, retire.
use Rattle.std.proofs.Common.{◌≡◌, ◌≢◌, ◌⊎◌, ℕ, ◌+◌, ◌-◌, ◌*◌, ◌<◌, ◌≤◌, Bool, true, false, List, [], ◌∷◌, ◌++◌, length, set, leb, Some, None, refl, sym, ap, ◌∙◌, subst, ⊎_elim, arith, le_refl, le_trans}
use Rattle.std.specs.Prelude.{◌==◌, if◌then◌else◌, Option, is_some}
use Rattle.std.proofs.lemmas.List.{length-append, length-set}
use Rattle.std.proofs.lemmas.Bool.Decides.{eqb_tells, leb_tells}
use mathlib.Core.Option.{some}
use lib.ListN.{get_elem?}
use Rattle.qd_score_model.specs.declared.view.Place.{Place}
use Rattle.qd_score_model.specs.declared.view.Phase.{Phase}
use Rattle.qd_score_model.specs.declared.view.Phase.TheVariants.{Idle, Looked, Trying, Pinned}
use Rattle.qd_score_model.specs.declared.view.Refusal.{Refusal}
use Rattle.qd_score_model.specs.declared.view.Sight.{Sight}
use Rattle.qd_score_model.specs.declared.view.Version.{Version}
use Rattle.qd_score_model.specs.declared.view.View.{View}
use Rattle.qd_score_model.specs.Machine.{Book, Board, State, Take, Give, GoLive, SetCurrent, Retire, version_at, sight, hold_of, happens, Needs, put_at, IsGreatest, behind, record_of, retired}
use Rattle.qd_score_model.specs.Kept.{times, RisesWithin, claimed, IsLive, WasCurrent, PhaseFits, VersionsStand, NotedFits, Kept}
use Rattle.qd_score_model.proofs.Lists.{at_below, sum_at, sum_at_le, sum_none, prefix_refl, prefix_trans, prefix_length, met_further}
use Rattle.qd_score_model.proofs.Numbers.{rises_wider, rises_behind, rises_append, times_above, times_below, times_once, times_append, length_behind, never_falls_wider, never_falls_push}
use Rattle.qd_score_model.proofs.Frame.{once_on, Fits, same_fits, Stands, stands_of, fits_of, kept_set}
use Rattle.qd_score_model.proofs.Boards.{hold_none, hold_own, hold_other, version_here, version_else, live_now, live_still, below_rows, put_same, put_other, same_or_other, one_at_same}
use Rattle.qd_score_model.proofs.Pinning.{same_claims}

module _ {I S : Type 0} where
  -- the view with another hold and other refusals
  abbrev pub with_hold : View I S → List Refusal → Option (Sight I S) → View I S
  with_hold v refused hold = record v { refused = refused; hold = hold }

  refit : (b : Board I S) (v : View I S) (refused : List Refusal) (hold : Option (Sight I S)) → Fits b v → Fits b (with_hold v refused hold)
  refit b v refused hold h = record {
    gone = h.gone;
    phase = h.phase;
    seen = record { seen = h.seen.seen; met = h.seen.met; own = h.seen.own; since = h.seen.since; known = h.seen.known; faults = h.seen.faults; removed = h.seen.removed };
    noted = h.noted;
    keeper = h.keeper;
    sole = h.sole;
  }

  none_held : (b c : Board I S) (seat j : ℕ) → j ≢ seat → b.holder ≡ Some seat → c.holder ≡ Some seat → hold_of b j ≡ hold_of c j
  none_held b c seat j ne e d = hold_other b seat j ne e ∙ sym (hold_other c seat j ne d)

module _ {I S : Type 0} (blocks : S → List ℕ) where
  pub keeps_take : (s : State I S) (seat : ℕ) (v : View I S) → Kept blocks s → get_elem? s.views seat ≡ some v → Needs blocks s seat v Take → Kept blocks (happens s seat v Take)
  keeps_take s seat v k at need =
      let b = s.board in
      let c : Board I S = record b { holder = Some seat } in
      let w = with_hold v [] (Some (sight b)) in
      let free : Some seat ≡ None → ⊥ = λ e. cc in
      kept_set blocks b c s.views seat v w k at (record {
        stands = record {
          versions = record { rows = k.versions.rows; live = k.versions.live; distinct = k.versions.distinct; current = k.versions.current; newer = k.versions.newer; newest = λ e. absurd (free e) };
          within = k.history.versions;
          present = λ e. absurd (free e);
        };
        there = λ j e. let l = at_below s.views seat v at in let i : seat ≡ j = cc in omega arith;
        held = sym (hold_own c seat refl);
        not_held = λ j ne. hold_none b j need ∙ sym (hold_other c seat j ne refl);
        fits = same_fits b b.pins (Some seat) w (refit b v [] (Some (sight b)) (fits_of blocks s k seat v at));
        others = λ j u ne there h. same_fits b b.pins (Some seat) u h;
        pins = λ row. refl;
        weight = refl;
        grown = refl;
        opened = refl;
        once = λ n. same_claims s.views seat v w n at refl (k.history.once n);
        sole = λ m. m;
        keeper = λ m. m;
      })

  -- an event under the lock that changes which versions are live, or which is current
  held_changes : (s : State I S) (seat : ℕ) (v : View I S) (current : Place) (live : ℕ → Bool) (versions : List (Option (Version S))) → Kept blocks s → get_elem? s.views seat ≡ some v → s.board.holder ≡ Some seat
      → VersionsStand (record s.board { current = current; live = live; versions = versions })
      → IsGreatest (length s.board.history) versions
      → s.board.current.n ≤ current.n
      → ((j : ℕ) (u : View I S) → get_elem? s.views j ≡ some u → PhaseFits s.board u.phase → PhaseFits (record s.board { current = current; live = live; versions = versions }) u.phase)
      → ((u : View I S) → NotedFits s.board u → NotedFits (record s.board { current = current; live = live; versions = versions }) u)
      → Kept blocks (record { board = record s.board { current = current; live = live; versions = versions }; views = set s.views seat (with_hold v v.refused (Some (sight (record s.board { current = current; live = live; versions = versions })))) })
  held_changes s seat v current live versions k at held stands within le phases noted =
      let b = s.board in
      let c : Board I S = record b { current = current; live = live; versions = versions } in
      let w = with_hold v v.refused (Some (sight c)) in
      let free : b.holder ≡ None → ⊥ = λ e. cc in
      kept_set blocks b c s.views seat v w k at (record {
        stands = record { versions = stands; within = within; present = λ e. absurd (free e) };
        there = k.one_holder.there;
        held = sym (hold_own c seat held);
        not_held = λ j ne. none_held b c seat j ne held held;
        fits = refit c v v.refused (Some (sight c)) (moved seat v at (fits_of blocks s k seat v at));
        others = λ j u ne there h. moved j u there h;
        pins = λ row. refl;
        weight = refl;
        grown = refl;
        opened = refl;
        once = λ n. same_claims s.views seat v w n at refl (k.history.once n);
        sole = λ m. m;
        keeper = λ m. m;
      })
    where
      moved : (j : ℕ) (u : View I S) → get_elem? s.views j ≡ some u → Fits s.board u → Fits (record s.board { current = current; live = live; versions = versions }) u
      moved j u there h = record {
        gone = h.gone;
        phase = phases j u there h.phase;
        seen = record { seen = h.seen.seen; met = h.seen.met; own = h.seen.own; since = h.seen.since; known = le_trans h.seen.known le; faults = h.seen.faults; removed = h.seen.removed };
        noted = noted u h.noted;
        keeper = h.keeper;
        sole = h.sole;
      }

  pub keeps_go_live : (s : State I S) (seat : ℕ) (v : View I S) (row : ℕ) (x : Version S) → Kept blocks s → get_elem? s.views seat ≡ some v → Needs blocks s seat v (GoLive row x) → Kept blocks (happens s seat v (GoLive row x))
  keeps_go_live s seat v row x k at need = held_changes s seat v s.board.current (put_at s.board.live row true) (set s.board.versions row (Some x)) k at need.holder
      (record { rows = length-set s.board.versions row (Some x) ∙ k.versions.rows; live = live; distinct = distinct; current = current; newer = newer; newest = λ e. let h = need.holder in absurd (cc) })
      within (le_refl s.board.current.n) (λ j u there. phase u.phase) noted
    where
      is_row : row < length s.board.versions
      is_row = let r = k.versions.rows in let l = need.is_row in omega arith

      now : (r : ℕ) (y : Version S) → version_at (set s.board.versions row (Some x)) r ≡ Some y → ((r ≡ row) × (x ≡ y)) ⊎ ((r ≢ row) × (version_at s.board.versions r ≡ Some y))
      now = live_now s.board.versions row x is_row

      -- a row that was live isn't this one
      apart : (r : ℕ) (y : Version S) → version_at s.board.versions r ≡ Some y → r ≢ row
      apart r y e same =
          let l = k.versions.live r in
          let d = need.dead in
          let t : is_some (version_at s.board.versions r) ≡ true = ap is_some e in
          let f : s.board.live r ≡ s.board.live row = ap s.board.live same in cc

      still : (r : ℕ) (y : Version S) → version_at s.board.versions r ≡ Some y → version_at (set s.board.versions row (Some x)) r ≡ Some y
      still r y e = version_else s.board.versions row r (Some x) (apart r y e) ∙ e

      live : (r : ℕ) → put_at s.board.live row true r ≡ is_some (version_at (set s.board.versions row (Some x)) r)
      live r = ⊎_elim (λ (same : r ≡ row). put_same s.board.live row r true same ∙ sym (ap (λ q. is_some (version_at (set s.board.versions row (Some x)) q)) same ∙ ap is_some (version_here s.board.versions row (Some x) is_row)))
          (λ (ne : r ≢ row). put_other s.board.live row r true ne ∙ (k.versions.live r ∙ sym (ap is_some (version_else s.board.versions row r (Some x) ne))))
          (same_or_other r row)

      -- a version that was live has a lower number
      older : (r : ℕ) (y : Version S) → version_at s.board.versions r ≡ Some y → y.n < x.n
      older r y e = let g = need.greatest r y e in let n = need.newer in omega arith

      current : IsLive (record s.board { live = put_at s.board.live row true; versions = set s.board.versions row (Some x) }) s.board.current
      current = let c = k.versions.current in (c.0, still s.board.current.row c.0 c.1, c.2)

      distinct : (r q : ℕ) (y z : Version S) → version_at (set s.board.versions row (Some x)) r ≡ Some y → version_at (set s.board.versions row (Some x)) q ≡ Some z → y.n ≡ z.n → r ≡ q
      distinct r q y z d e n = ⊎_elim
          (λ (a : (r ≡ row) × (x ≡ y)). ⊎_elim (λ (b : (q ≡ row) × (x ≡ z)). a.0 ∙ sym b.0) (λ (b : (q ≢ row) × (version_at s.board.versions q ≡ Some z)). let o = older q z b.1 in let f : x.n ≡ y.n = ap (λ (t : Version S). t.n) a.1 in absurd (omega arith)) (now q z e))
          (λ (a : (r ≢ row) × (version_at s.board.versions r ≡ Some y)). ⊎_elim (λ (b : (q ≡ row) × (x ≡ z)). let o = older r y a.1 in let f : x.n ≡ z.n = ap (λ (t : Version S). t.n) b.1 in absurd (omega arith)) (λ (b : (q ≢ row) × (version_at s.board.versions q ≡ Some z)). k.versions.distinct r q y z a.1 b.1 n) (now q z e))
          (now r y d)

      newer : (r q : ℕ) (y z : Version S) → version_at (set s.board.versions row (Some x)) r ≡ Some y → version_at (set s.board.versions row (Some x)) q ≡ Some z → s.board.current.n < y.n → s.board.current.n < z.n → r ≡ q
      newer r q y z d e m n = new r y d m ∙ sym (new q z e n)
        where
          new : (p : ℕ) (u : Version S) → version_at (set s.board.versions row (Some x)) p ≡ Some u → s.board.current.n < u.n → p ≡ row
          new p u f lt = ⊎_elim (λ (a : (p ≡ row) × (x ≡ u)). a.0) (λ (a : (p ≢ row) × (version_at s.board.versions p ≡ Some u)). let g = need.greatest p u a.1 in absurd (omega arith)) (now p u f)

      within : IsGreatest (length s.board.history) (set s.board.versions row (Some x))
      within r y e = ⊎_elim (λ (a : (r ≡ row) × (x ≡ y)). let w = need.within in let f : x.n ≡ y.n = ap (λ (t : Version S). t.n) a.1 in omega arith) (λ (a : (r ≢ row) × (version_at s.board.versions r ≡ Some y)). k.history.versions r y a.1) (now r y e)

      phase : (p : Phase) → PhaseFits s.board p → PhaseFits (record s.board { live = put_at s.board.live row true; versions = set s.board.versions row (Some x) }) p
      phase Idle f = f
      phase (Looked place) f = f
      phase (Trying place) f = f
      phase (Pinned place) f = (f.0, still place.row f.0 f.1, f.2)

      noted : (u : View I S) → NotedFits s.board u → NotedFits (record s.board { live = put_at s.board.live row true; versions = set s.board.versions row (Some x) }) u
      noted u h r y e = (
        (h r y e).0,
        λ q z f same.
            ⊎_elim (λ (a : (q ≡ row) × (x ≡ z)). let o = (h r y e).0 in let n = need.newer in let g : x.n ≡ z.n = ap (λ (t : Version S). t.n) a.1 in absurd (omega arith)) (λ (a : (q ≢ row) × (version_at s.board.versions q ≡ Some z)). (h r y e).1 q z a.1 same) (now q z f),
      )

  pub keeps_set_current : (s : State I S) (seat : ℕ) (v : View I S) (place : Place) → Kept blocks s → get_elem? s.views seat ≡ some v → Needs blocks s seat v (SetCurrent place) → Kept blocks (happens s seat v (SetCurrent place))
  keeps_set_current s seat v place k at need = held_changes s seat v place s.board.live s.board.versions k at need.holder
      (record { rows = k.versions.rows; live = k.versions.live; distinct = k.versions.distinct; current = need.live; newer = newer; newest = λ e. let h = need.holder in absurd (cc) })
      k.history.versions (let n = need.newer in omega arith) (λ j u there. phase u.phase) (λ u h r y e. ((let a = (h r y e).0 in let n = need.newer in omega arith), (h r y e).1))
    where
      newer : (r q : ℕ) (y z : Version S) → version_at s.board.versions r ≡ Some y → version_at s.board.versions q ≡ Some z → place.n < y.n → place.n < z.n → r ≡ q
      newer r q y z d e m n = let lt = need.newer in k.versions.newer r q y z d e (omega arith) (omega arith)

      was : (p : Place) → WasCurrent s.board p → (p.n ≤ place.n) × (p.n ≡ place.n → p.row ≡ place.row)
      was p w = let lt = need.newer in let l = w.0 in (omega arith, λ e. absurd (omega arith))

      phase : (p : Phase) → PhaseFits s.board p → PhaseFits (record s.board { current = place }) p
      phase Idle f = f
      phase (Looked p) f = was p f
      phase (Trying p) f = was p f
      phase (Pinned p) f = f

  -- a row that nobody counts on is retired
  retires : (s : State I S) (seat : ℕ) (v : View I S) (row : ℕ) → Kept blocks s → get_elem? s.views seat ≡ some v → Needs blocks s seat v (Retire row) → s.board.pins row ≡ 0
      → Kept blocks (record { board = record s.board { live = put_at s.board.live row false; versions = set s.board.versions row None }; views = set s.views seat (with_hold v v.refused (Some (sight (record s.board { live = put_at s.board.live row false; versions = set s.board.versions row None })))) })
  retires s seat v row k at need none = held_changes s seat v s.board.current (put_at s.board.live row false) (set s.board.versions row None) k at need.holder
      (record {
        rows = length-set s.board.versions row None ∙ k.versions.rows;
        live = live;
        distinct = λ r q y z d e n. k.versions.distinct r q y z (still r y d).1 (still q z e).1 n;
        current = current;
        newer = λ r q y z d e m n. k.versions.newer r q y z (still r y d).1 (still q z e).1 m n;
        newest = λ e. let h = need.holder in absurd (cc);
      })
      (λ r y e. k.history.versions r y (still r y e).1) (le_refl s.board.current.n) (λ j u there. phase j u there u.phase refl)
      (λ u h r y e. ((h r y e).0, λ q z f same. (h r y e).1 q z (still q z f).1 same))
    where
      is_row : row < length s.board.versions
      is_row = some_row (version_at s.board.versions row) refl
        where
          some_row : (o : Option (Version S)) → version_at s.board.versions row ≡ o → row < length s.board.versions
          some_row (Some y) e = below_rows s.board.versions row y e
          some_row None e = let l = k.versions.live row in let n = need.live in let f : is_some (version_at s.board.versions row) ≡ false = ap is_some e in absurd (cc)

      still : (r : ℕ) (y : Version S) → version_at (set s.board.versions row None) r ≡ Some y → (r ≢ row) × (version_at s.board.versions r ≡ Some y)
      still = live_still s.board.versions row is_row

      live : (r : ℕ) → put_at s.board.live row false r ≡ is_some (version_at (set s.board.versions row None) r)
      live r = ⊎_elim (λ (same : r ≡ row). put_same s.board.live row r false same ∙ sym (ap (λ q. is_some (version_at (set s.board.versions row None) q)) same ∙ ap is_some (version_here s.board.versions row None is_row)))
          (λ (ne : r ≢ row). put_other s.board.live row r false ne ∙ (k.versions.live r ∙ sym (ap is_some (version_else s.board.versions row r None ne))))
          (same_or_other r row)

      current : IsLive (record s.board { live = put_at s.board.live row false; versions = set s.board.versions row None }) s.board.current
      current = let c = k.versions.current in (c.0, version_else s.board.versions row s.board.current.row None (λ e. need.other (sym e)) ∙ c.1, c.2)

      phase : (j : ℕ) (u : View I S) → get_elem? s.views j ≡ some u → (p : Phase) → u.phase ≡ p → PhaseFits s.board p → PhaseFits (record s.board { live = put_at s.board.live row false; versions = set s.board.versions row None }) p
      phase j u there Idle e f = f
      phase j u there (Looked place) e f = f
      phase j u there (Trying place) e f = f
      phase j u there (Pinned place) e f = (f.0, version_else s.board.versions row place.row None apart ∙ f.1, f.2)
        where
          apart : place.row ≢ row
          apart same =
              let c = sum_at_le (λ (x : View I S). once_on row x.phase) s.views j u there in
              let p = k.pins.pins row in
              let o : once_on row u.phase ≡ once_on row (Pinned place) = ap (once_on row) e in
              let one = one_at_same place.row row same in omega arith

  -- a row that is counted on is refused
  refused : (s : State I S) (seat : ℕ) (v : View I S) (refusals : List Refusal) → Kept blocks s → get_elem? s.views seat ≡ some v → Kept blocks (record { board = s.board; views = set s.views seat (with_hold v refusals v.hold) })
  refused s seat v refusals k at = kept_set blocks s.board s.board s.views seat v (with_hold v refusals v.hold) k at (record {
    stands = stands_of blocks s k;
    there = k.one_holder.there;
    held = k.one_holder.holds seat v at;
    not_held = λ j ne. refl;
    fits = refit s.board v refusals v.hold (fits_of blocks s k seat v at);
    others = λ j u ne there h. h;
    pins = λ row. refl;
    weight = refl;
    grown = refl;
    opened = refl;
    once = λ n. same_claims s.views seat v (with_hold v refusals v.hold) n at refl (k.history.once n);
    sole = λ m. m;
    keeper = λ m. m;
  })

  pub keeps_retire : (s : State I S) (seat : ℕ) (v : View I S) (row : ℕ) → Kept blocks s → get_elem? s.views seat ≡ some v → Needs blocks s seat v (Retire row) → Kept blocks (happens s seat v (Retire row))
  keeps_retire s seat v row k at need = found (s.board.pins row == 0) (eqb_tells (s.board.pins row) 0)
    where
      found : (t : Bool) → ((t ≡ true) × (s.board.pins row ≡ 0)) ⊎ ((t ≡ false) × (s.board.pins row ≢ 0))
          → Kept blocks (record { board = if t then retired s.board row else s.board; views = set s.views seat (if t then with_hold v v.refused (Some (sight (retired s.board row))) else with_hold v (v.refused ++ record { row = row; word = 2 * s.board.pins row + 1 } ∷ []) v.hold) })
      found true h = ⊎_elim (λ (t : (true ≡ true) × (s.board.pins row ≡ 0)). retires s seat v row k at need t.1) (λ (t : (true ≡ false) × (s.board.pins row ≢ 0)). absurd (cc)) h
      found false h = refused s seat v (v.refused ++ record { row = row; word = 2 * s.board.pins row + 1 } ∷ []) k at

  pub keeps_give : (s : State I S) (seat : ℕ) (v : View I S) (book : Book I S) → Kept blocks s → get_elem? s.views seat ≡ some v → v.spent ≡ false → Needs blocks s seat v (Give book) → Kept blocks (happens s seat v (Give book))
  keeps_give s seat v book k at alive need =
      kept_set blocks s.board c s.views seat v w k at (record {
        stands = stands;
        there = λ j e. absurd (cc);
        held = refl;
        not_held = λ j ne. hold_other s.board seat j ne need.holder;
        fits = fits;
        others = others;
        pins = λ row. refl;
        weight = refl;
        grown =
            let a = ap (λ t. if t then 0 else length (v.own ++ added)) alive in
            let b = ap (λ t. if t then 0 else length v.own) alive in
            let l = length-append v.own added in
            let n = length_behind (length s.board.history) (length book.history - length s.board.history) in
            let g = grown in omega arith;
        opened = refl;
        once = once;
        sole = λ m. m;
        keeper = λ m. m;
      })
    where
      c : Board I S
      c = record s.board { history = book.history; present = book.present; faults = book.faults; removed = book.removed; holder = None }

      added : List ℕ
      added = behind (length s.board.history) (length book.history - length s.board.history)

      w : View I S
      w = record v { seen = book.history; own = v.own ++ added; known = s.board.current.n; noted = book.versions; records = v.records ++ record_of (sight s.board) book ∷ []; hold = None }

      grown : length s.board.history ≤ length book.history
      grown = prefix_length s.board.history book.history need.history

      stands : Stands blocks c
      stands = record {
        versions = record { rows = k.versions.rows; live = k.versions.live; distinct = k.versions.distinct; current = k.versions.current; newer = k.versions.newer; newest = λ e. need.greatest };
        within = λ r y e. le_trans (k.history.versions r y e) grown;
        present = λ e. need.present;
      }

      others : (j : ℕ) (u : View I S) → j ≢ seat → get_elem? s.views j ≡ some u → Fits s.board u → Fits c u
      others j u ne there h = record {
        gone = h.gone;
        phase = h.phase;
        seen = record {
          seen = prefix_trans u.seen s.board.history book.history h.seen.seen need.history;
          met = h.seen.met;
          own = h.seen.own;
          since = rises_wider s.board.opened (length s.board.history) (length book.history) u.own grown h.seen.since;
          known = h.seen.known;
          faults = never_falls_wider (λ r. r.faults_found) (λ r. r.faults_left) 0 s.board.faults book.faults u.records need.faults h.seen.faults;
          removed = never_falls_wider (λ r. r.removed_found) (λ r. r.removed_left) 0 s.board.removed book.removed u.records need.removed h.seen.removed;
        };
        noted = h.noted;
        keeper = h.keeper;
        sole = λ m. h.sole m ∙ sym (need.keeper ((k.sole j u there m).others seat v at (λ e. ne (sym e))));
      }

      fits : Fits c w
      fits = let h = fits_of blocks s k seat v at in record {
        gone = h.gone;
        phase = h.phase;
        seen = record {
          seen = prefix_refl book.history;
          met = met_further v.seen book.history v.met (prefix_trans v.seen s.board.history book.history h.seen.seen need.history) h.seen.met;
          own = rises_append v.own added 0 (length s.board.history) (length book.history) (rises_wider 0 (length v.seen) (length s.board.history) v.own (prefix_length v.seen s.board.history h.seen.seen) h.seen.own)
              (rises_behind (length s.board.history) (length book.history - length s.board.history) (length book.history) (let g = grown in omega arith));
          since = rises_append v.own added s.board.opened (length s.board.history) (length book.history) h.seen.since
              (rises_behind (length s.board.history) (length book.history - length s.board.history) (length book.history) (let g = grown in omega arith));
          known = le_refl s.board.current.n;
          faults = never_falls_push (λ r. r.faults_found) (λ r. r.faults_left) 0 s.board.faults book.faults v.records (record_of (sight s.board) book) h.seen.faults (le_refl s.board.faults) need.faults (le_refl book.faults);
          removed = never_falls_push (λ r. r.removed_found) (λ r. r.removed_left) 0 s.board.removed book.removed v.records (record_of (sight s.board) book) h.seen.removed (le_refl s.board.removed) need.removed (le_refl book.removed);
        };
        noted = subst (λ (vs : List (Option (Version S))). NotedFits c (record w { noted = vs })) (sym need.versions) noted;
        keeper = h.keeper;
        sole = λ m. refl;
      }
        where
          noted : NotedFits c (record w { noted = s.board.versions })
          noted row x e = (need.greatest row x e, shapes)
            where
              shapes : (other : ℕ) (y : Version S) → version_at s.board.versions other ≡ Some y → y.n ≡ x.n → y.shape ≡ x.shape
              shapes other y d same = let o : other ≡ row = k.versions.distinct other row y x d e same in let f : version_at s.board.versions other ≡ Some x = ap (version_at s.board.versions) o ∙ e in let g : y ≡ x = cc in ap (λ (t : Version S). t.shape) g

      once : (n : ℕ) → claimed n (set s.views seat w) ≤ 1
      once n =
          let t = sum_at (λ (u : View I S). times n u.own) s.views seat v w at in
          let a = times_append n v.own added in
          let r : RisesWithin (length s.board.history) (length book.history) added = rises_behind (length s.board.history) (length book.history - length s.board.history) (length book.history) (let g = grown in omega arith) in
          let le = k.history.once n in
          ⊎_elim (λ (d : (leb n (length s.board.history) ≡ true) × (n ≤ length s.board.history)). let z = times_below n (length s.board.history) (length book.history) added d.1 r in omega arith)
          (λ (d : (leb n (length s.board.history) ≡ false) × (length s.board.history < n)).
          let z = sum_none (λ (u : View I S). times n u.own) s.views (λ j u there. let f = k.history.seats j u there in let l = prefix_length u.seen s.board.history f.seen in let lt : length s.board.history < n = d.1 in times_above n 0 (length u.seen) u.own (omega arith) f.own) in
          let o = times_once n (length s.board.history) (length book.history) added r in omega arith)
          (leb_tells n (length s.board.history))
