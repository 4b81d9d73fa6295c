-- The events of a pin keep the rule: look, raise, confirm, drop, and a raise under the lock.
use Rattle.std.proofs.Common.{◌≡◌, ℕ, ◌+◌, ◌-◌, ◌<◌, ◌≤◌, Bool, true, false, List, [], ◌∷◌, ◌++◌, set, refl, sym, ap, ◌∙◌, subst, ⊎_elim, arith, le_refl}
use Rattle.std.specs.Prelude.{if◌then◌else◌}
use mathlib.Core.Option.{some}
use lib.ListN.{get_elem?}
use Rattle.qd_score_model.specs.declared.view.Mode.TheVariants.{Keeper}
use Rattle.qd_score_model.specs.declared.view.Place.{Place}
use Rattle.qd_score_model.specs.declared.view.Phase.{Phase}
use Rattle.qd_score_model.specs.declared.view.Phase.TheVariants.{Idle, Looked, Trying, Pinned}
use Rattle.qd_score_model.specs.declared.view.View.{View}
use Rattle.qd_score_model.specs.Machine.{Board, State, Look, Raise, Confirm, Drop, HeldRaise, version_at, happens, Needs, put_at, same_place}
use Rattle.qd_score_model.specs.Kept.{times, claimed, PhaseFits, Kept}
use Rattle.qd_score_model.proofs.Lists.{sum_at, sum_at_le}
use Rattle.qd_score_model.proofs.Frame.{once_on, Fits, same_fits, Stands, stands_of, fits_of, kept_set}
use Rattle.qd_score_model.proofs.Boards.{raised, lowered, same_place_is, one_at, one_at_same}

module _ {I S : Type 0} where
  -- the view with another phase, which fits, a number that it has read, and the places that it has read for its pins
  abbrev pub in_phase : View I S → Phase → ℕ → List Place → View I S
  in_phase v p known reads = record v { phase = p; known = known; reads = reads }

  refit : (b : Board I S) (v : View I S) (p : Phase) (known : ℕ) (reads : List Place) → Fits b v → PhaseFits b p → known ≤ b.current.n → (v.mode ≡ Keeper → p ≡ Idle) → Fits b (in_phase v p known reads)
  refit b v p known reads h fits le idle = record {
    gone = h.gone;
    phase = fits;
    seen = record { seen = h.seen.seen; met = h.seen.met; own = h.seen.own; since = h.seen.since; known = le; faults = h.seen.faults; removed = h.seen.removed };
    noted = h.noted;
    keeper = idle;
    sole = h.sole;
  }

  pub same_claims : (views : List (View I S)) (seat : ℕ) (v w : View I S) (n : ℕ) → get_elem? views seat ≡ some v → w.own ≡ v.own → claimed n views ≤ 1 → claimed n (set views seat w) ≤ 1
  same_claims views seat v w n at same le = let s = sum_at (λ (u : View I S). times n u.own) views seat v w at in let e : times n w.own ≡ times n v.own = ap (times n) same in omega arith

module _ {I S : Type 0} (blocks : S → List ℕ) where
  same_stands : (b : Board I S) (pins : ℕ → ℕ) → Stands blocks b → Stands blocks (record b { pins = pins })
  same_stands b pins h = record {
    versions = record { rows = h.versions.rows; live = h.versions.live; distinct = h.versions.distinct; current = h.versions.current; newer = h.versions.newer; newest = h.versions.newest };
    within = h.within;
    present = h.present;
  }

  -- an event that changes pins and its seat's phase alone
  phase_changes : (s : State I S) (seat : ℕ) (v : View I S) (pins : ℕ → ℕ) (p : Phase) (known : ℕ) (reads : List Place) → Kept blocks s → get_elem? s.views seat ≡ some v
      → PhaseFits s.board p → known ≤ s.board.current.n → (v.mode ≡ Keeper → p ≡ Idle)
      → ((row : ℕ) → pins row + once_on row v.phase ≡ s.board.pins row + once_on row p)
      → Kept blocks (record { board = record s.board { pins = pins }; views = set s.views seat (in_phase v p known reads) })
  phase_changes s seat v pins p known reads k at fits le idle counts = kept_set blocks s.board (record s.board { pins = pins }) s.views seat v (in_phase v p known reads) k at (record {
    stands = same_stands s.board pins (stands_of blocks s k);
    there = k.one_holder.there;
    held = k.one_holder.holds seat v at;
    not_held = λ j ne. refl;
    fits = same_fits s.board pins s.board.holder (in_phase v p known reads) (refit s.board v p known reads (fits_of blocks s k seat v at) fits le idle);
    others = λ j u ne there h. same_fits s.board pins s.board.holder u h;
    pins = counts;
    weight = refl;
    grown = refl;
    opened = refl;
    once = λ n. same_claims s.views seat v (in_phase v p known reads) n at refl (k.history.once n);
    sole = λ m. m;
    keeper = λ m. m;
  })

  pub keeps_look : (s : State I S) (seat : ℕ) (v : View I S) → Kept blocks s → get_elem? s.views seat ≡ some v → Needs blocks s seat v Look → Kept blocks (happens s seat v Look)
  keeps_look s seat v k at need = phase_changes s seat v s.board.pins (Looked s.board.current) s.board.current.n (v.reads ++ s.board.current ∷ []) k at (le_refl s.board.current.n, (λ e. refl)) (le_refl s.board.current.n) (λ m. absurd (need.1 m))
      (λ row. ap (λ p. s.board.pins row + once_on row p) need.0)

  pub keeps_raise : (s : State I S) (seat : ℕ) (v : View I S) (place : Place) → Kept blocks s → get_elem? s.views seat ≡ some v → Needs blocks s seat v (Raise place) → Kept blocks (happens s seat v (Raise place))
  keeps_raise s seat v place k at need = phase_changes s seat v (put_at s.board.pins place.row (s.board.pins place.row + 1)) (Trying place) v.known v.reads k at (subst (PhaseFits s.board) need (k.phases seat v at)) (k.history.seats seat v at).known
      (λ m. let e = k.keepers seat v at m in absurd (cc))
      (λ row. let r = raised s.board.pins place.row row in let e : once_on row v.phase ≡ 0 = ap (once_on row) need in omega arith)

  pub keeps_held_raise : (s : State I S) (seat : ℕ) (v : View I S) → Kept blocks s → get_elem? s.views seat ≡ some v → Needs blocks s seat v HeldRaise → Kept blocks (happens s seat v HeldRaise)
  keeps_held_raise s seat v k at need = phase_changes s seat v (put_at s.board.pins s.board.current.row (s.board.pins s.board.current.row + 1)) (Pinned s.board.current) s.board.current.n v.reads k at k.versions.current (le_refl s.board.current.n)
      (λ m. absurd (need.2 m))
      (λ row. let r = raised s.board.pins s.board.current.row row in let e : once_on row v.phase ≡ 0 = ap (once_on row) need.1 in omega arith)

  pub keeps_confirm : (s : State I S) (seat : ℕ) (v : View I S) (place : Place) → Kept blocks s → get_elem? s.views seat ≡ some v → Needs blocks s seat v (Confirm place) → Kept blocks (happens s seat v (Confirm place))
  keeps_confirm s seat v place k at need = phase_changes s seat v s.board.pins (if same_place s.board.current place then Pinned place else Trying place) s.board.current.n (v.reads ++ s.board.current ∷ []) k at
      (found (same_place s.board.current place) refl) (le_refl s.board.current.n)
      (λ m. let e = k.keepers seat v at m in absurd (cc))
      (λ row. ap (λ n. s.board.pins row + n) (ap (once_on row) need ∙ either_way row (same_place s.board.current place)))
    where
      -- the place that is current is live
      found : (b : Bool) → same_place s.board.current place ≡ b → PhaseFits s.board (if b then Pinned place else Trying place)
      found true e =
          let same = same_place_is s.board.current place e in
          let c = k.versions.current in (c.0, ap (version_at s.board.versions) (sym same.1) ∙ c.1, c.2 ∙ same.0)
      found false e = subst (PhaseFits s.board) need (k.phases seat v at)

      either_way : (row : ℕ) (b : Bool) → once_on row (Trying place) ≡ once_on row (if b then Pinned place else Trying place)
      either_way row true = refl
      either_way row false = refl

  pub keeps_drop : (s : State I S) (seat : ℕ) (v : View I S) (place : Place) → Kept blocks s → get_elem? s.views seat ≡ some v → Needs blocks s seat v (Drop place) → Kept blocks (happens s seat v (Drop place))
  keeps_drop s seat v place k at need = phase_changes s seat v (put_at s.board.pins place.row (s.board.pins place.row - 1)) Idle v.known v.reads k at tt (k.history.seats seat v at).known (λ m. refl)
      (λ row. let l = lowered s.board.pins place.row row some_pin in let e = on_it row in omega arith)
    where
      on_it : (row : ℕ) → once_on row v.phase ≡ one_at place.row row
      on_it row = ⊎_elim (λ (e : v.phase ≡ Trying place). ap (once_on row) e) (λ (e : v.phase ≡ Pinned place). ap (once_on row) e) need

      some_pin : 0 < s.board.pins place.row
      some_pin =
          let c = sum_at_le (λ (u : View I S). once_on place.row u.phase) s.views seat v at in
          let e = on_it place.row in
          let p = k.pins.pins place.row in
          let same = one_at_same place.row place.row refl in omega arith
