-- Every event keeps the rule, so every run does.
use Rattle.std.proofs.Common.{◌≡◌, ℕ, Bool, true, false, List, [], ◌∷◌, ◌++◌, ◌∙◌, refl, sym, subst}
use Rattle.std.specs.Prelude.{◌==◌, if◌then◌else◌}
use mathlib.Core.Option.{some}
use mathlib.Core.List.{IsPrefix}
use lib.ListN.{get_elem?}
use Rattle.qd_score_model.specs.declared.view.View.{View}
use Rattle.qd_score_model.specs.declared.view.Version.{Version}
use Rattle.qd_score_model.specs.Machine.{Book, State, Event, Take, Give, Look, Raise, Confirm, Drop, HeldRaise, GoLive, SetCurrent, Retire, Split, Join, Share, Step, happens, happens_if, next, after, Needs, MayHappen, IsRun, MayOpen, opening, retired}
use Rattle.qd_score_model.specs.Kept.{Kept}
use Rattle.qd_score_model.proofs.Lists.{prefix_refl, prefix_trans}
use Rattle.qd_score_model.proofs.Pinning.{keeps_look, keeps_raise, keeps_confirm, keeps_drop, keeps_held_raise}
use Rattle.qd_score_model.proofs.Holding.{keeps_take, keeps_give, keeps_go_live, keeps_set_current, keeps_retire}
use Rattle.qd_score_model.proofs.Seats.{keeps_split, keeps_join, keeps_share, kept_opening}

module _ {I S : Type 0} (blocks : S → List ℕ) where
  pub kept_happens : (s : State I S) (seat : ℕ) (v : View I S) (e : Event I S) → Kept blocks s → get_elem? s.views seat ≡ some v → v.spent ≡ false → Needs blocks s seat v e → Kept blocks (happens s seat v e)
  kept_happens s seat v Take k at stands need = keeps_take blocks s seat v k at need
  kept_happens s seat v (Give book) k at stands need = keeps_give blocks s seat v book k at stands need
  kept_happens s seat v Look k at stands need = keeps_look blocks s seat v k at need
  kept_happens s seat v (Raise place) k at stands need = keeps_raise blocks s seat v place k at need
  kept_happens s seat v (Confirm place) k at stands need = keeps_confirm blocks s seat v place k at need
  kept_happens s seat v (Drop place) k at stands need = keeps_drop blocks s seat v place k at need
  kept_happens s seat v HeldRaise k at stands need = keeps_held_raise blocks s seat v k at need
  kept_happens s seat v (GoLive row x) k at stands need = keeps_go_live blocks s seat v row x k at need
  kept_happens s seat v (SetCurrent place) k at stands need = keeps_set_current blocks s seat v place k at need
  kept_happens s seat v (Retire row) k at stands need = keeps_retire blocks s seat v row k at need
  kept_happens s seat v (Split mode) k at stands need = keeps_split blocks s seat v mode k at stands need
  kept_happens s seat v (Join other) k at stands need = keeps_join blocks s seat v other k at stands need
  kept_happens s seat v Share k at stands need = keeps_share blocks s seat v k at stands need

  pub kept_next : (s : State I S) (x : Step I S) → Kept blocks s → MayHappen blocks s x → Kept blocks (next s x)
  kept_next s x k may = subst (λ o. Kept blocks (happens_if s x.seat x.event o)) (sym may.1) (kept_happens s x.seat may.0 x.event k may.1 may.2 may.3)

  pub kept_run : (s : State I S) (steps : List (Step I S)) → Kept blocks s → IsRun blocks s steps → Kept blocks (after s steps)
  kept_run s [] k run = k
  kept_run s (x ∷ xs) k run = kept_run (next s x) xs (kept_next s x k run.0) run.1

  grows_happens : (s : State I S) (seat : ℕ) (v : View I S) (e : Event I S) → Needs blocks s seat v e → IsPrefix s.board.history (happens s seat v e).board.history
  grows_happens s seat v Take need = prefix_refl s.board.history
  grows_happens s seat v (Give book) need = need.history
  grows_happens s seat v Look need = prefix_refl s.board.history
  grows_happens s seat v (Raise place) need = prefix_refl s.board.history
  grows_happens s seat v (Confirm place) need = prefix_refl s.board.history
  grows_happens s seat v (Drop place) need = prefix_refl s.board.history
  grows_happens s seat v HeldRaise need = prefix_refl s.board.history
  grows_happens s seat v (GoLive row x) need = prefix_refl s.board.history
  grows_happens s seat v (SetCurrent place) need = prefix_refl s.board.history
  grows_happens s seat v (Retire row) need = either_way (s.board.pins row == 0)
    where
      either_way : (b : Bool) → IsPrefix s.board.history (if b then retired s.board row else s.board).history
      either_way true = prefix_refl s.board.history
      either_way false = prefix_refl s.board.history
  grows_happens s seat v (Split mode) need = prefix_refl s.board.history
  grows_happens s seat v (Join other) need = prefix_refl s.board.history
  grows_happens s seat v Share need = prefix_refl s.board.history

  grows_next : (s : State I S) (x : Step I S) → MayHappen blocks s x → IsPrefix s.board.history (next s x).board.history
  grows_next s x may = subst (λ o. IsPrefix s.board.history (happens_if s x.seat x.event o).board.history) (sym may.1) (grows_happens s x.seat may.0 x.event may.3)

  pub grows_run : (s : State I S) (steps : List (Step I S)) → IsRun blocks s steps → IsPrefix s.board.history (after s steps).board.history
  grows_run s [] run = prefix_refl s.board.history
  grows_run s (x ∷ xs) run = prefix_trans s.board.history (next s x).board.history (after (next s x) xs).board.history (grows_next s x run.0) (grows_run (next s x) xs run.1)

  -- how many items there were at the opening stays
  pub opened_happens : (s : State I S) (seat : ℕ) (v : View I S) (e : Event I S) → (happens s seat v e).board.opened ≡ s.board.opened
  opened_happens s seat v Take = refl
  opened_happens s seat v (Give book) = refl
  opened_happens s seat v Look = refl
  opened_happens s seat v (Raise place) = refl
  opened_happens s seat v (Confirm place) = refl
  opened_happens s seat v (Drop place) = refl
  opened_happens s seat v HeldRaise = refl
  opened_happens s seat v (GoLive row x) = refl
  opened_happens s seat v (SetCurrent place) = refl
  opened_happens s seat v (Retire row) = either_way (s.board.pins row == 0)
    where
      either_way : (b : Bool) → (if b then retired s.board row else s.board).opened ≡ s.board.opened
      either_way true = refl
      either_way false = refl
  opened_happens s seat v (Split mode) = refl
  opened_happens s seat v (Join other) = refl
  opened_happens s seat v Share = refl

  opened_next : (s : State I S) (x : Step I S) → MayHappen blocks s x → (next s x).board.opened ≡ s.board.opened
  opened_next s x may = subst (λ o. (happens_if s x.seat x.event o).board.opened ≡ s.board.opened) (sym may.1) (opened_happens s x.seat may.0 x.event)

  pub opened_run : (s : State I S) (steps : List (Step I S)) → IsRun blocks s steps → (after s steps).board.opened ≡ s.board.opened
  opened_run s [] run = refl
  opened_run s (x ∷ xs) run = opened_run (next s x) xs run.1 ∙ opened_next s x run.0

  -- one run behind another
  pub run_on : (s : State I S) (xs ys : List (Step I S)) → IsRun blocks s xs → IsRun blocks (after s xs) ys → IsRun blocks s (xs ++ ys)
  run_on s [] ys a b = b
  run_on s (x ∷ xs) ys a b = (a.0, run_on (next s x) xs ys a.1 b)

  pub kept_after : (book : Book I S) (first : Version S) (steps : List (Step I S)) → MayOpen blocks book first → IsRun blocks (opening book) steps → Kept blocks (after (opening book) steps)
  kept_after book first steps may run = kept_run (opening book) steps (kept_opening blocks book first may) run
