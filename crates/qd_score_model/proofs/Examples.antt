-- The small runs may come, step by step.
use Rattle.std.proofs.Common.{◌≡◌, ℕ, zero, suc, ◌-◌, ◌<◌, ◌≤◌, false, List, [], ◌∷◌, ◌++◌, replicate, length, Some, None, refl, sym, subst, ◌∙◌, inr, arith, le_refl}
use Rattle.std.specs.Prelude.{Contains, Option, slice_index_or}
use mathlib.Core.List.{IsPrefix}
use Rattle.qd_score_model.specs.declared.limits.TheConstants.{ROWS}
use Rattle.qd_score_model.specs.declared.view.View.{View}
use Rattle.qd_score_model.specs.declared.view.Place.{Place}
use Rattle.qd_score_model.specs.declared.view.Version.{Version}
use Rattle.qd_score_model.specs.Machine.{Board, MayGoLive, MayGive, version_at, IsGreatest, AllPresent, IsRun, after}
use Rattle.qd_score_model.specs.Examples.{blocks_of, place_at, book_of, older, newer, opened, two_seats, publishes, pins_first, drops_it, looks, raises_late, gives_both, gives_second, held_back, let_go, too_late}
use Rattle.qd_score_model.proofs.Lists.{prefix_refl}
use Rattle.qd_score_model.proofs.Seats.{no_version}
use Rattle.qd_score_model.proofs.Runs.{run_on}

module _ (first second : Option (Version (List ℕ))) where
  abbrev rows : List (Option (Version (List ℕ)))
  rows = first ∷ second ∷ replicate (ROWS - 2) None

  all_rows : (P : Version (List ℕ) → Type 0) → ((x : Version (List ℕ)) → first ≡ Some x → P x) → ((x : Version (List ℕ)) → second ≡ Some x → P x) → (row : ℕ) (x : Version (List ℕ)) → version_at rows row ≡ Some x → P x
  all_rows P one two zero x e = one x e
  all_rows P one two (suc zero) x e = two x e
  all_rows P one two (suc (suc row)) x e = let n = no_version {S = List ℕ} (ROWS - 2) row in let d : None ≡ Some x = sym n ∙ e in absurd (cc)

same_version : (x y : Version (List ℕ)) → Some y ≡ Some x → y ≡ x
same_version x y e = cc

older_or_newer : (P : Version (List ℕ) → Type 0) → P older → P newer → (row : ℕ) (x : Version (List ℕ)) → version_at (rows (Some older) (Some newer)) row ≡ Some x → P x
older_or_newer P old new = all_rows (Some older) (Some newer) P (λ x e. subst P (same_version x older e) old) (λ x e. subst P (same_version x newer e) new)

only_older : (P : Version (List ℕ) → Type 0) → P older → (row : ℕ) (x : Version (List ℕ)) → version_at (rows (Some older) None) row ≡ Some x → P x
only_older P old = all_rows (Some older) None P (λ x e. subst P (same_version x older e) old) (λ x e. absurd (cc))

only_newer : (P : Version (List ℕ) → Type 0) → P newer → (row : ℕ) (x : Version (List ℕ)) → version_at (rows None (Some newer)) row ≡ Some x → P x
only_newer P new = all_rows None (Some newer) P (λ x e. absurd (cc)) (λ x e. subst P (same_version x newer e) new)

abbrev Listed : Version (List ℕ) → Type 0
Listed x = (block : ℕ) → Contains (blocks_of x.shape) block → Contains (7 ∷ 8 ∷ []) block

older_listed : Listed older
older_listed block c = at c.0 c.1 c.2
  where
    at : (k : ℕ) → k < 1 → slice_index_or (7 ∷ []) k block ≡ block → Contains (7 ∷ 8 ∷ []) block
    at zero lt e = (0, omega arith, e)
    at (suc k) lt e = absurd (omega arith)

newer_listed : Listed newer
newer_listed block c = c

may_go_live : {b : Board ℕ (List ℕ)} → b.holder ≡ Some 0 → b.live 1 ≡ false → b.current ≡ place_at 0 0 → b.versions ≡ rows (Some older) None → b.history ≡ 5 ∷ [] → MayGoLive b 0 1 newer
may_go_live {b} holder dead current versions history = record {
  holder = holder;
  is_row = omega arith;
  dead = dead;
  greatest = subst (λ (p : Place). IsGreatest p.n b.versions) (sym current) (subst (IsGreatest 0) (sym versions) (only_older (λ x. x.n ≤ 0) (le_refl 0)));
  newer = subst (λ (p : Place). p.n < 1) (sym current) (omega arith);
  within = subst (λ (h : List ℕ). 1 ≤ length h) (sym history) (omega arith);
}

-- the book goes back with the second version current, and the first beside it or gone
give_both : {b : Board ℕ (List ℕ)} {v : View ℕ (List ℕ)} → b.holder ≡ Some 0 → b.history ≡ 5 ∷ [] → b.faults ≡ 0 → b.removed ≡ 0 → b.versions ≡ rows (Some older) (Some newer) → b.current ≡ place_at 1 1 → MayGive blocks_of b 0 v (book_of (place_at 1 1) (Some older) (Some newer) (7 ∷ 8 ∷ []))
give_both {b} {v} holder history faults removed versions current = record {
  holder = holder;
  history = subst (λ (h : List ℕ). IsPrefix h (5 ∷ [])) (sym history) (prefix_refl (5 ∷ []));
  keeper = λ m. sym history;
  faults = subst (λ (n : ℕ). n ≤ 0) (sym faults) (le_refl 0);
  removed = subst (λ (n : ℕ). n ≤ 0) (sym removed) (le_refl 0);
  versions = sym versions;
  current = sym current;
  greatest = subst (λ (p : Place). IsGreatest p.n b.versions) (sym current) (subst (IsGreatest 1) (sym versions) (older_or_newer (λ x. x.n ≤ 1) (omega arith) (le_refl 1)));
  present = subst (λ vs. AllPresent blocks_of vs (7 ∷ 8 ∷ [])) (sym versions) (older_or_newer Listed older_listed newer_listed);
}

give_second : {b : Board ℕ (List ℕ)} {v : View ℕ (List ℕ)} → b.holder ≡ Some 0 → b.history ≡ 5 ∷ [] → b.faults ≡ 0 → b.removed ≡ 0 → b.versions ≡ rows None (Some newer) → b.current ≡ place_at 1 1 → MayGive blocks_of b 0 v (book_of (place_at 1 1) None (Some newer) (7 ∷ 8 ∷ []))
give_second {b} {v} holder history faults removed versions current = record {
  holder = holder;
  history = subst (λ (h : List ℕ). IsPrefix h (5 ∷ [])) (sym history) (prefix_refl (5 ∷ []));
  keeper = λ m. sym history;
  faults = subst (λ (n : ℕ). n ≤ 0) (sym faults) (le_refl 0);
  removed = subst (λ (n : ℕ). n ≤ 0) (sym removed) (le_refl 0);
  versions = sym versions;
  current = sym current;
  greatest = subst (λ (p : Place). IsGreatest p.n b.versions) (sym current) (subst (IsGreatest 1) (sym versions) (only_newer (λ x. x.n ≤ 1) (le_refl 1)));
  present = subst (λ vs. AllPresent blocks_of vs (7 ∷ 8 ∷ [])) (sym versions) (only_newer Listed newer_listed);
}

split_in_two : IsRun blocks_of opened two_seats
split_in_two = ((_, refl, refl, refl), ((_, refl, refl, record { room = omega arith; kind = inr (refl, refl) }), tt))

pinned_first : IsRun blocks_of (after opened two_seats) pins_first
pinned_first = ((_, refl, refl, (refl, λ m. (cc))), ((_, refl, refl, refl), ((_, refl, refl, refl), tt)))

published : IsRun blocks_of (after opened (two_seats ++ pins_first)) publishes
published = (
  (_, refl, refl, refl),
  (
    (_, refl, refl, may_go_live refl refl refl refl refl),
    ((_, refl, refl, record { holder = refl; live = (newer, refl, refl); newer = omega arith }), ((_, refl, refl, record { holder = refl; live = refl; other = λ e. omega arith }), tt)),
  ),
)

pub held_back_may_come : IsRun blocks_of opened held_back
held_back_may_come = run_on blocks_of opened (two_seats ++ pins_first ++ publishes) gives_both
    (run_on blocks_of opened (two_seats ++ pins_first) publishes (run_on blocks_of opened two_seats pins_first split_in_two pinned_first) published) ((_, refl, refl, give_both refl refl refl refl refl refl), tt)

pub let_go_may_come : IsRun blocks_of opened let_go
let_go_may_come = run_on blocks_of opened (held_back ++ drops_it) gives_second
    (run_on blocks_of opened held_back drops_it held_back_may_come ((_, refl, refl, inr refl), ((_, refl, refl, refl), ((_, refl, refl, record { holder = refl; live = refl; other = λ e. omega arith }), tt))))
    ((_, refl, refl, give_second refl refl refl refl refl refl), tt)

looked : IsRun blocks_of (after opened two_seats) looks
looked = ((_, refl, refl, (refl, λ m. (cc))), tt)

published_before : IsRun blocks_of (after opened (two_seats ++ looks)) publishes
published_before = (
  (_, refl, refl, refl),
  (
    (_, refl, refl, may_go_live refl refl refl refl refl),
    ((_, refl, refl, record { holder = refl; live = (newer, refl, refl); newer = omega arith }), ((_, refl, refl, record { holder = refl; live = refl; other = λ e. omega arith }), tt)),
  ),
)

pub too_late_may_come : IsRun blocks_of opened too_late
too_late_may_come = run_on blocks_of opened (two_seats ++ looks ++ publishes ++ gives_second) raises_late
    (run_on blocks_of opened (two_seats ++ looks ++ publishes) gives_second (run_on blocks_of opened (two_seats ++ looks) publishes (run_on blocks_of opened two_seats looks split_in_two looked) published_before) ((_, refl, refl, give_second refl refl refl refl refl refl), tt))
    ((_, refl, refl, refl), ((_, refl, refl, refl), tt))
