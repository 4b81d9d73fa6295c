-- What a take of the lock shows of what its seat knew.
use Rattle.std.proofs.Common.{◌≡◌, ℕ, ◌≤◌, Bool, true, false, ◌==◌, List, [], ◌∷◌, Option, Some, None, sym, ◌∙◌, subst}
use Rattle.std.specs.Prelude.{if◌then◌else◌}
use mathlib.Core.List.{IsPrefix}
use Rattle.qd_score.specs.Rule.{Stands}
use Rattle.qd_score_model.specs.declared.view.Mode.TheVariants.{Sole}
use Rattle.qd_score_model.specs.declared.view.Phase.TheVariants.{Pinned}
use Rattle.qd_score_model.specs.declared.view.Place.{Place}
use Rattle.qd_score_model.specs.declared.view.Record.{Record}
use Rattle.qd_score_model.specs.declared.view.Sight.{Sight}
use Rattle.qd_score_model.specs.declared.view.Version.{Version}
use Rattle.qd_score_model.specs.declared.view.View.{View}
use Rattle.qd_score_model.specs.Machine.{Board, hold_of, seen_by, sight, version_at}
use Rattle.qd_score_model.specs.Kept.{NeverFalls, PhaseFits}
use Rattle.qd_shared.specs.Passes.{faults_in}

-- what the lock's holder sees, beside what it knew
pub record Meets {I S : Type 0} (v : View I S) (h : Sight I S) : Type 0 where
  pub seen : IsPrefix v.seen h.history
  pub sole : v.mode ≡ Sole → h.history ≡ v.seen
  pub known : v.known ≤ h.current.n
  pub faults : faults_in 0 v.records ≤ h.faults
  pub pinned : (place : Place) → v.phase ≡ Pinned place → (x : Version S) × (version_at h.versions place.row ≡ Some x) × (x.n ≡ place.n)
  pub noted : (row other : ℕ) (x y : Version S) → version_at v.noted row ≡ Some x → version_at h.versions other ≡ Some y → y.n ≡ x.n → y.shape ≡ x.shape

last_no_more : (low high : ℕ) (rs : List Record) → NeverFalls (λ r. r.faults_found) (λ r. r.faults_left) low high rs → faults_in low rs ≤ high
last_no_more low high [] le = le
last_no_more low high (r ∷ rs) never = last_no_more r.faults_left high rs never.2

module _ {I S : Type 0} where
  picked : (x h : Sight I S) (b : Bool) → (if b then Some x else None) ≡ Some h → h ≡ x
  picked x h true is = cc
  picked x h false is = absurd (cc)

  sighted : (b : Board I S) (seat : ℕ) (h : Sight I S) → hold_of b seat ≡ Some h → h ≡ sight b
  sighted b seat h is = by b.holder is where
    by : (o : Option ℕ) → seen_by (sight b) seat o ≡ Some h → h ≡ sight b
    by None at = absurd (cc)
    by (Some holder) at = picked (sight b) h (seat == holder) at

  pub meets : (blocks : S → List ℕ) (v : View I S) (h : Sight I S) → Stands blocks v → v.hold ≡ Some h → Meets v h
  meets blocks v h (s, seat, kept, at, there) held =
      let same : h ≡ sight s.board = sighted s.board seat h (sym (kept.one_holder.holds seat v at) ∙ held) in
      let fits = kept.history.seats seat v at in
      subst (λ (x : Sight I S). Meets v x) (sym same) (record {
        seen = fits.seen;
        sole = λ m. sym (kept.sole seat v at m).seen;
        known = fits.known;
        faults = last_no_more 0 s.board.faults v.records fits.faults;
        pinned = λ place is. subst (PhaseFits s.board) is (kept.phases seat v at);
        noted = λ row other x y noted live number. (kept.noted seat v at row x noted).1 other y live number;
      })
