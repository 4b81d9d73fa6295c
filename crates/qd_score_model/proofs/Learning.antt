-- What a seat has seen, and the number that it knows, never get less.
use Rattle.std.proofs.Common.{◌≡◌, ◌≢◌, ◌⊎◌, ℕ, zero, suc, ◌+◌, ◌-◌, ◌*◌, ◌<◌, ◌≤◌, Bool, true, false, List, [], ◌∷◌, ◌++◌, length, set, refl, sym, ap, ◌∙◌, subst, inl, inr, ⊎_elim, arith, le_refl}
use Rattle.std.specs.Prelude.{◌==◌, if◌then◌else◌}
use Rattle.std.proofs.lemmas.List.{length-set, length-append}
use mathlib.Core.Option.{some, some-injective, some-ne-none}
use lib.ListN.{get_elem?}
use Rattle.qd_score_model.specs.declared.view.View.{View}
use Rattle.qd_score_model.specs.Machine.{State, Event, Take, Give, Look, Raise, Confirm, Drop, HeldRaise, GoLive, SetCurrent, Retire, Split, Join, Share, Step, behind, sight, sees, refuses, retired, view_after, happens, happens_if, next, after, Needs, MayHappen, MayJoin, IsRun, newcomer, joined, gone, lent, join_views}
use Rattle.qd_score_model.specs.Kept.{times, SeenFits, Kept}
use Rattle.qd_score_model.specs.Laws.{IsIncludedIn}
use Rattle.qd_score_model.proofs.Lists.{at_below, each_set, each_push, set_else, prefix_refl, prefix_trans}
use Rattle.qd_score_model.proofs.Numbers.{times_append, times_merged}
use Rattle.qd_score_model.proofs.Boards.{same_or_other}
use Rattle.qd_score_model.proofs.Seats.{longer_on, longer_on_second}
use Rattle.qd_score_model.proofs.Runs.{kept_next}

module _ {A : Type 0} where
  there_is : (l : List A) (i : ℕ) → i < length l → (v : A) × (get_elem? l i ≡ some v)
  there_is [] i h = absurd (omega arith)
  there_is (x ∷ xs) zero h = (x, refl)
  there_is (x ∷ xs) (suc i) h = there_is xs i (omega arith)

  set_same : (l : List A) (i : ℕ) (v w : A) → get_elem? l i ≡ some v → get_elem? (set l i w) i ≡ some w
  set_same [] i v w e = absurd (some-ne-none v (sym e))
  set_same (x ∷ xs) zero v w e = refl
  set_same (x ∷ xs) (suc i) v w e = set_same xs i v w e

  at_push : (l : List A) (x : A) (i : ℕ) (v : A) → get_elem? l i ≡ some v → get_elem? (l ++ x ∷ []) i ≡ some v
  at_push [] x i v e = absurd (some-ne-none v (sym e))
  at_push (y ∷ ys) x zero v e = e
  at_push (y ∷ ys) x (suc i) v e = at_push ys x i v e

module _ {I S : Type 0} where
  -- a view of the same seat later on: the seat went into another, or it stood and stands, and knows no less
  abbrev Later : View I S → View I S → Type 0
  Later v w = (w.spent ≡ true) ⊎ ((v.spent ≡ false) × IsIncludedIn v w)

  in_itself : (v : View I S) → IsIncludedIn v v
  in_itself v = record { seen = prefix_refl v.seen; known = le_refl v.known; own = λ n. le_refl (times n v.own) }

  in_turn : (u v w : View I S) → IsIncludedIn u v → IsIncludedIn v w → IsIncludedIn u w
  in_turn u v w a b = record { seen = prefix_trans u.seen v.seen w.seen a.seen b.seen; known = (let x = a.known in let y = b.known in omega arith); own = λ n. (let x = a.own n in let y = b.own n in omega arith) }

  same_later : (v : View I S) → Later v v
  same_later v = choose v.spent refl
    where
      choose : (b : Bool) → v.spent ≡ b → Later v v
      choose true e = inl e
      choose false e = inr (e, in_itself v)

  later_on : (u v w : View I S) → Later u v → Later v w → Later u w
  later_on u v w a b = ⊎_elim (λ (e : w.spent ≡ true). inl e)
      (λ (h : (v.spent ≡ false) × IsIncludedIn v w).
      ⊎_elim (λ (e : v.spent ≡ true). let d : true ≡ false = sym e ∙ h.0 in absurd (cc))
      (λ (g : (u.spent ≡ false) × IsIncludedIn u v). inr (g.0, in_turn u v w g.1 h.1))
      a)
      b

  -- one view of a list was changed to a later one
  changed : (views : List (View I S)) (seat : ℕ) (v w : View I S) → get_elem? views seat ≡ some v → Later v w → (j : ℕ) (x : View I S) → get_elem? (set views seat w) j ≡ some x → (u : View I S) → get_elem? views j ≡ some u → Later u x
  changed views seat v w at l = each_set views seat w (λ j x. (u : View I S) → get_elem? views j ≡ some u → Later u x)
      (λ j x ne here u there. subst (λ (t : View I S). Later t x) (some-injective _ _ (sym here ∙ there)) (same_later x))
      (λ u there. subst (λ (t : View I S). Later t w) (some-injective _ _ (sym at ∙ there)) l)

module _ {I S : Type 0} (blocks : S → List ℕ) where
  learns : (s : State I S) (seat : ℕ) (v : View I S) (e : Event I S) → SeenFits s.board v → Needs blocks s seat v e → IsIncludedIn v (view_after s.board seat v e)
  learns s seat v Take fit need = record { seen = prefix_refl v.seen; known = le_refl v.known; own = λ n. le_refl (times n v.own) }
  learns s seat v (Give book) fit need = record {
    seen = prefix_trans v.seen s.board.history book.history fit.seen need.history;
    known = fit.known;
    own = λ n. let a = times_append n v.own (behind (length s.board.history) (length book.history - length s.board.history)) in omega arith;
  }
  learns s seat v Look fit need = record { seen = prefix_refl v.seen; known = fit.known; own = λ n. le_refl (times n v.own) }
  learns s seat v (Raise place) fit need = record { seen = prefix_refl v.seen; known = le_refl v.known; own = λ n. le_refl (times n v.own) }
  learns s seat v (Confirm place) fit need = record { seen = prefix_refl v.seen; known = fit.known; own = λ n. le_refl (times n v.own) }
  learns s seat v (Drop place) fit need = record { seen = prefix_refl v.seen; known = le_refl v.known; own = λ n. le_refl (times n v.own) }
  learns s seat v HeldRaise fit need = record { seen = prefix_refl v.seen; known = fit.known; own = λ n. le_refl (times n v.own) }
  learns s seat v (GoLive row x) fit need = record { seen = prefix_refl v.seen; known = le_refl v.known; own = λ n. le_refl (times n v.own) }
  learns s seat v (SetCurrent place) fit need = record { seen = prefix_refl v.seen; known = le_refl v.known; own = λ n. le_refl (times n v.own) }
  learns s seat v (Retire row) fit need = either_way (s.board.pins row == 0)
    where
      either_way : (b : Bool) → IsIncludedIn v (if b then sees v (sight (retired s.board row)) else refuses v row (2 * s.board.pins row + 1))
      either_way true = record { seen = prefix_refl v.seen; known = le_refl v.known; own = λ n. le_refl (times n v.own) }
      either_way false = record { seen = prefix_refl v.seen; known = le_refl v.known; own = λ n. le_refl (times n v.own) }
  learns s seat v (Split mode) fit need = record { seen = prefix_refl v.seen; known = le_refl v.known; own = λ n. le_refl (times n v.own) }
  learns s seat v (Join other) fit need = record { seen = prefix_refl v.seen; known = le_refl v.known; own = λ n. le_refl (times n v.own) }
  learns s seat v Share fit need = record { seen = prefix_refl v.seen; known = le_refl v.known; own = λ n. le_refl (times n v.own) }

  -- a seat's own event takes it not away
  spent_as_before : (s : State I S) (seat : ℕ) (v : View I S) (e : Event I S) → (view_after s.board seat v e).spent ≡ v.spent
  spent_as_before s seat v Take = refl
  spent_as_before s seat v (Give book) = refl
  spent_as_before s seat v Look = refl
  spent_as_before s seat v (Raise place) = refl
  spent_as_before s seat v (Confirm place) = refl
  spent_as_before s seat v (Drop place) = refl
  spent_as_before s seat v HeldRaise = refl
  spent_as_before s seat v (GoLive row x) = refl
  spent_as_before s seat v (SetCurrent place) = refl
  spent_as_before s seat v (Retire row) = either_way (s.board.pins row == 0)
    where
      either_way : (b : Bool) → (if b then sees v (sight (retired s.board row)) else refuses v row (2 * s.board.pins row + 1)).spent ≡ v.spent
      either_way true = refl
      either_way false = refl
  spent_as_before s seat v (Split mode) = refl
  spent_as_before s seat v (Join other) = refl
  spent_as_before s seat v Share = refl

  stays : (s : State I S) (seat : ℕ) (v : View I S) (e : Event I S) → v.spent ≡ false → SeenFits s.board v → Needs blocks s seat v e → Later v (view_after s.board seat v e)
  stays s seat v e stands fit need = inr (stands, learns s seat v e fit need)

  -- what either seat knows is known to the one that took in the other
  first_joined : (s : State I S) (seat : ℕ) (v : View I S) (other : ℕ) (w : View I S) → Kept blocks s → get_elem? s.views seat ≡ some v → MayJoin s.views seat other w → IsIncludedIn v (joined v w)
  first_joined s seat v other w k at may = record {
    seen = longer_on v.seen w.seen s.board.history (k.history.seats seat v at).seen (k.history.seats other w may.there).seen;
    known = omega arith;
    own = λ n. let m = times_merged n v.own w.own in omega arith;
  }

  second_joined : (s : State I S) (seat : ℕ) (v : View I S) (other : ℕ) (w : View I S) → Kept blocks s → get_elem? s.views seat ≡ some v → MayJoin s.views seat other w → IsIncludedIn w (joined v w)
  second_joined s seat v other w k at may = record {
    seen = longer_on_second v.seen w.seen s.board.history (k.history.seats seat v at).seen (k.history.seats other w may.there).seen;
    known = omega arith;
    own = λ n. let m = times_merged n v.own w.own in omega arith;
  }

  joins_later : (s : State I S) (seat : ℕ) (v : View I S) (other : ℕ) (w : View I S) → Kept blocks s → get_elem? s.views seat ≡ some v → v.spent ≡ false → MayJoin s.views seat other w → (j : ℕ) (x : View I S) → get_elem? (set (set s.views seat (joined v w)) other gone) j ≡ some x → (u : View I S) → get_elem? s.views j ≡ some u → Later u x
  joins_later s seat v other w k at stands may = each_set (set s.views seat (joined v w)) other gone (λ j x. (u : View I S) → get_elem? s.views j ≡ some u → Later u x)
      (λ j x ne here. changed s.views seat v (joined v w) at (inr (stands, first_joined s seat v other w k at may)) j x here)
      (λ u there. inl refl)

  happens_later : (s : State I S) (seat : ℕ) (v : View I S) (e : Event I S) → Kept blocks s → get_elem? s.views seat ≡ some v → v.spent ≡ false → Needs blocks s seat v e → (j : ℕ) (x : View I S) → get_elem? (happens s seat v e).views j ≡ some x → (u : View I S) → get_elem? s.views j ≡ some u → Later u x
  happens_later s seat v Take k at stands need = changed s.views seat v (view_after s.board seat v Take) at (stays s seat v Take stands (k.history.seats seat v at) need)
  happens_later s seat v (Give book) k at stands need = changed s.views seat v (view_after s.board seat v (Give book)) at (stays s seat v (Give book) stands (k.history.seats seat v at) need)
  happens_later s seat v Look k at stands need = changed s.views seat v (view_after s.board seat v Look) at (stays s seat v Look stands (k.history.seats seat v at) need)
  happens_later s seat v (Raise place) k at stands need = changed s.views seat v (view_after s.board seat v (Raise place)) at (stays s seat v (Raise place) stands (k.history.seats seat v at) need)
  happens_later s seat v (Confirm place) k at stands need = changed s.views seat v (view_after s.board seat v (Confirm place)) at (stays s seat v (Confirm place) stands (k.history.seats seat v at) need)
  happens_later s seat v (Drop place) k at stands need = changed s.views seat v (view_after s.board seat v (Drop place)) at (stays s seat v (Drop place) stands (k.history.seats seat v at) need)
  happens_later s seat v HeldRaise k at stands need = changed s.views seat v (view_after s.board seat v HeldRaise) at (stays s seat v HeldRaise stands (k.history.seats seat v at) need)
  happens_later s seat v (GoLive row x) k at stands need = changed s.views seat v (view_after s.board seat v (GoLive row x)) at (stays s seat v (GoLive row x) stands (k.history.seats seat v at) need)
  happens_later s seat v (SetCurrent place) k at stands need = changed s.views seat v (view_after s.board seat v (SetCurrent place)) at (stays s seat v (SetCurrent place) stands (k.history.seats seat v at) need)
  happens_later s seat v (Retire row) k at stands need = changed s.views seat v (view_after s.board seat v (Retire row)) at (stays s seat v (Retire row) stands (k.history.seats seat v at) need)
  happens_later s seat v (Split mode) k at stands need = each_push (set s.views seat (lent v)) (newcomer v mode) (λ j x. (u : View I S) → get_elem? s.views j ≡ some u → Later u x)
      (changed s.views seat v (lent v) at (inr (stands, (record { seen = prefix_refl v.seen; known = le_refl v.known; own = λ n. le_refl (times n v.own) }))))
      (λ u there. let a = at_below s.views (length (set s.views seat (lent v))) u there in let l = length-set s.views seat (lent v) in absurd (omega arith))
  happens_later s seat v (Join other) k at stands need = subst (λ o. (j : ℕ) (x : View I S) → get_elem? (join_views s.views seat v other o) j ≡ some x → (u : View I S) → get_elem? s.views j ≡ some u → Later u x) (sym need.1.there) (joins_later s seat v other need.0 k at stands need.1)
  happens_later s seat v Share k at stands need = changed s.views seat v (view_after s.board seat v Share) at (stays s seat v Share stands (k.history.seats seat v at) need)

  -- no seat goes away
  no_fewer : (s : State I S) (seat : ℕ) (v : View I S) (e : Event I S) → Needs blocks s seat v e → length s.views ≤ length (happens s seat v e).views
  no_fewer s seat v Take need = let l = length-set s.views seat (view_after s.board seat v Take) in omega arith
  no_fewer s seat v (Give book) need = let l = length-set s.views seat (view_after s.board seat v (Give book)) in omega arith
  no_fewer s seat v Look need = let l = length-set s.views seat (view_after s.board seat v Look) in omega arith
  no_fewer s seat v (Raise place) need = let l = length-set s.views seat (view_after s.board seat v (Raise place)) in omega arith
  no_fewer s seat v (Confirm place) need = let l = length-set s.views seat (view_after s.board seat v (Confirm place)) in omega arith
  no_fewer s seat v (Drop place) need = let l = length-set s.views seat (view_after s.board seat v (Drop place)) in omega arith
  no_fewer s seat v HeldRaise need = let l = length-set s.views seat (view_after s.board seat v HeldRaise) in omega arith
  no_fewer s seat v (GoLive row x) need = let l = length-set s.views seat (view_after s.board seat v (GoLive row x)) in omega arith
  no_fewer s seat v (SetCurrent place) need = let l = length-set s.views seat (view_after s.board seat v (SetCurrent place)) in omega arith
  no_fewer s seat v (Retire row) need = let l = length-set s.views seat (view_after s.board seat v (Retire row)) in omega arith
  no_fewer s seat v (Split mode) need = let l = length-set s.views seat (lent v) in let a = length-append (set s.views seat (lent v)) (newcomer v mode ∷ []) in omega arith
  no_fewer s seat v (Join other) need = subst (λ o. length s.views ≤ length (join_views s.views seat v other o)) (sym need.1.there) (let l = length-set s.views seat (joined v need.0) in let m = length-set (set s.views seat (joined v need.0)) other gone in omega arith)
  no_fewer s seat v Share need = let l = length-set s.views seat (view_after s.board seat v Share) in omega arith

  next_later : (s : State I S) (x : Step I S) → Kept blocks s → MayHappen blocks s x → (j : ℕ) (w : View I S) → get_elem? (next s x).views j ≡ some w → (u : View I S) → get_elem? s.views j ≡ some u → Later u w
  next_later s x k may = subst (λ o. (j : ℕ) (w : View I S) → get_elem? (happens_if s x.seat x.event o).views j ≡ some w → (u : View I S) → get_elem? s.views j ≡ some u → Later u w) (sym may.1) (happens_later s x.seat may.0 x.event k may.1 may.2 may.3)

  next_no_fewer : (s : State I S) (x : Step I S) → MayHappen blocks s x → length s.views ≤ length (next s x).views
  next_no_fewer s x may = subst (λ o. length s.views ≤ length (happens_if s x.seat x.event o).views) (sym may.1) (no_fewer s x.seat may.0 x.event may.3)

  pub later_run : (s : State I S) (steps : List (Step I S)) → Kept blocks s → IsRun blocks s steps → (seat : ℕ) (v w : View I S) → get_elem? s.views seat ≡ some v → get_elem? (after s steps).views seat ≡ some w → Later v w
  later_run s [] k run seat v w at there = subst (λ (t : View I S). Later v t) (some-injective _ _ (sym at ∙ there)) (same_later v)
  later_run s (x ∷ xs) k run seat v w at there =
      let below = at_below s.views seat v at in
      let more = next_no_fewer s x run.0 in
      let m = there_is (next s x).views seat (omega arith) in
      later_on v m.0 w (next_later s x k run.0 seat m.0 m.1 v at) (later_run (next s x) xs (kept_next blocks s x k run.0) run.1 seat m.0 w m.1 there)

  -- a seat stands that knows all that a view shows
  abbrev IsKnown : List (View I S) → View I S → Type 0
  IsKnown views u = (j : ℕ) × (w : View I S) × (get_elem? views j ≡ some w) × (w.spent ≡ false) × IsIncludedIn u w

  known_by_set : (views : List (View I S)) (seat : ℕ) (v w : View I S) → get_elem? views seat ≡ some v → w.spent ≡ false → IsIncludedIn v w → (j : ℕ) (u : View I S) → get_elem? views j ≡ some u → u.spent ≡ false → IsKnown (set views seat w) u
  known_by_set views seat v w at stands inside j u there alive = ⊎_elim
      (λ (same : j ≡ seat). (seat, w, set_same views seat v w at, stands, subst (λ (t : View I S). IsIncludedIn t w) (some-injective _ _ (sym at ∙ (ap (get_elem? views) (sym same) ∙ there))) inside))
      (λ (ne : j ≢ seat). (j, u, set_else views seat j w ne ∙ there, alive, in_itself u))
      (same_or_other j seat)

  known_by_own : (s : State I S) (seat : ℕ) (v : View I S) (e : Event I S) → Kept blocks s → get_elem? s.views seat ≡ some v → v.spent ≡ false → Needs blocks s seat v e → (j : ℕ) (u : View I S) → get_elem? s.views j ≡ some u → u.spent ≡ false → IsKnown (set s.views seat (view_after s.board seat v e)) u
  known_by_own s seat v e k at stands need = known_by_set s.views seat v (view_after s.board seat v e) at (spent_as_before s seat v e ∙ stands) (learns s seat v e (k.history.seats seat v at) need)

  known_by_joined : (s : State I S) (seat : ℕ) (v : View I S) (other : ℕ) (w : View I S) → Kept blocks s → get_elem? s.views seat ≡ some v → v.spent ≡ false → MayJoin s.views seat other w → (j : ℕ) (u : View I S) → get_elem? s.views j ≡ some u → u.spent ≡ false → IsKnown (set (set s.views seat (joined v w)) other gone) u
  known_by_joined s seat v other w k at stands may j u there alive = ⊎_elim
      (λ (same : j ≡ seat). (seat, joined v w, here, stands, subst (λ (t : View I S). IsIncludedIn t (joined v w)) (some-injective _ _ (sym at ∙ (ap (get_elem? s.views) (sym same) ∙ there))) (first_joined s seat v other w k at may)))
      (λ (ne : j ≢ seat).
      ⊎_elim (λ (same : j ≡ other). (seat, joined v w, here, stands, subst (λ (t : View I S). IsIncludedIn t (joined v w)) (some-injective _ _ (sym may.there ∙ (ap (get_elem? s.views) (sym same) ∙ there))) (second_joined s seat v other w k at may)))
      (λ (no : j ≢ other). (j, u, set_else (set s.views seat (joined v w)) other j gone no ∙ (set_else s.views seat j (joined v w) ne ∙ there), alive, in_itself u))
      (same_or_other j other))
      (same_or_other j seat)
    where
      here : get_elem? (set (set s.views seat (joined v w)) other gone) seat ≡ some (joined v w)
      here = set_else (set s.views seat (joined v w)) other seat gone (λ e. may.apart (sym e)) ∙ set_same s.views seat v (joined v w) at

  known_by_happens : (s : State I S) (seat : ℕ) (v : View I S) (e : Event I S) → Kept blocks s → get_elem? s.views seat ≡ some v → v.spent ≡ false → Needs blocks s seat v e → (j : ℕ) (u : View I S) → get_elem? s.views j ≡ some u → u.spent ≡ false → IsKnown (happens s seat v e).views u
  known_by_happens s seat v Take k at stands need = known_by_own s seat v Take k at stands need
  known_by_happens s seat v (Give book) k at stands need = known_by_own s seat v (Give book) k at stands need
  known_by_happens s seat v Look k at stands need = known_by_own s seat v Look k at stands need
  known_by_happens s seat v (Raise place) k at stands need = known_by_own s seat v (Raise place) k at stands need
  known_by_happens s seat v (Confirm place) k at stands need = known_by_own s seat v (Confirm place) k at stands need
  known_by_happens s seat v (Drop place) k at stands need = known_by_own s seat v (Drop place) k at stands need
  known_by_happens s seat v HeldRaise k at stands need = known_by_own s seat v HeldRaise k at stands need
  known_by_happens s seat v (GoLive row x) k at stands need = known_by_own s seat v (GoLive row x) k at stands need
  known_by_happens s seat v (SetCurrent place) k at stands need = known_by_own s seat v (SetCurrent place) k at stands need
  known_by_happens s seat v (Retire row) k at stands need = known_by_own s seat v (Retire row) k at stands need
  known_by_happens s seat v (Split mode) k at stands need = λ j u there alive. let h = known_by_own s seat v (Split mode) k at stands need j u there alive in (h.0, h.1, at_push (set s.views seat (lent v)) (newcomer v mode) h.0 h.1 h.2, h.3, h.4)
  known_by_happens s seat v (Join other) k at stands need = λ j u there alive. subst (λ o. IsKnown (join_views s.views seat v other o) u) (sym need.1.there) (known_by_joined s seat v other need.0 k at stands need.1 j u there alive)
  known_by_happens s seat v Share k at stands need = known_by_own s seat v Share k at stands need

  known_by_next : (s : State I S) (x : Step I S) → Kept blocks s → MayHappen blocks s x → (j : ℕ) (u : View I S) → get_elem? s.views j ≡ some u → u.spent ≡ false → IsKnown (next s x).views u
  known_by_next s x k may j u there alive = subst (λ o. IsKnown (happens_if s x.seat x.event o).views u) (sym may.1) (known_by_happens s x.seat may.0 x.event k may.1 may.2 may.3 j u there alive)

  pub known_run : (s : State I S) (steps : List (Step I S)) → Kept blocks s → IsRun blocks s steps → (j : ℕ) (u : View I S) → get_elem? s.views j ≡ some u → u.spent ≡ false → IsKnown (after s steps).views u
  known_run s [] k run j u there alive = (j, u, there, alive, in_itself u)
  known_run s (x ∷ xs) k run j u there alive =
      let m = known_by_next s x k run.0 j u there alive in
      let r = known_run (next s x) xs (kept_next blocks s x k run.0) run.1 m.0 m.1 m.2 m.3 in (r.0, r.1, r.2, r.3, in_turn u m.1 r.1 m.4 r.4)
