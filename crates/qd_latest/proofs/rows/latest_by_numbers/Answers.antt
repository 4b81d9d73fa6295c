use Rattle.std.proofs.Common.{◌≡◌, ◌+◌, ◌<◌, ◌∙◌, ℕ, List, refl, sym, ap, arith, length, subst, All}
use Rattle.std.specs.List.{zip}
use Rattle.qd_expr.specs.Passing.{with_places}
use Rattle.qd_rows.specs.Sets.{ResultRows, rows_in}
use Rattle.qd_keys.specs.Keys.{same_keys, Tells}
use Rattle.qd_latest.specs.Lasts.{places_where, stands}
use Rattle.qd_latest.proofs.LastLemmas.{last_kept}
use Rattle.qd_latest.proofs.rows.latest_by_numbers.Goals as goal

pub last_places-requires : goal.last_places-requires
last_places-requires g c = subst (All (λ k. k < c.in_ok-told.told.bound)) (sym c.as_slice-numbers.ensures.value) c.in_ok-told.ensures.tell.below

pub keep_last-requires : goal.keep_last-requires
keep_last-requires g c =
    let none : ResultRows = c.in_ok-kept.kept in
    let few : length none.places ≡ 0 = ap (λ (x : ResultRows). length x.places) c.in_ok-kept.ensures in
    let size : length c.as_slice.result.now ≡ c.in_ok-told.told.bound = ap length c.as_slice.ensures.value ∙ c.in_ok-last.ensures.size in
    record {
      empty = c.in_ok-kept.ensures;
      count = omega (arith, ap length c.as_slice-numbers.ensures.value, c.in_ok-told.ensures.tell.count, few);
      below = subst (λ (n : ℕ). All (λ k. k < n) c.as_slice-numbers.result.now) (sym size) (subst (All (λ k. k < c.in_ok-told.told.bound)) (sym c.as_slice-numbers.ensures.value) c.in_ok-told.ensures.tell.below);
    }

pub returns : goal.returns
returns g c =
    let s : ResultRows = c.args.rows.now in
    let none : ResultRows = c.in_ok-kept.kept in
    let kept : ResultRows = c.keep_last.new.kept in
    let keys : List ℕ = c.args.keys.now in
    let ns : List ℕ = c.as_slice-numbers.result.now in
    let bound : ℕ = c.in_ok-told.told.bound in
    let told = subst (λ (l : List ℕ). Tells (same_keys (zip keys keys) (rows_in s) (rows_in none)) (length s.places + length none.places) bound l) (sym c.as_slice-numbers.ensures.value) c.in_ok-told.ensures.tell in
    let is : c.keep_last.new.kept ≡ with_places c.args.rows.now (places_where (stands c.as_slice-numbers.result.now c.in_ok-last.last.items) 0 c.args.rows.now.places)
    = c.in_ok-keep_last.ensures.ok ∙ ap (λ (l : List ℕ). with_places s (places_where (stands ns l) 0 s.places)) c.as_slice.ensures.value in
    record {
      rows = last_kept keys s none kept ns c.in_ok-last.last.items bound (length s.places) (length none.places) refl c.in_ok-kept.ensures refl told c.in_ok-last.ensures.last is;
      over = c.in_ok-keep_last.ensures.ok ∙ ap (λ (x : ResultRows). with_places s x.places) (sym c.in_ok-keep_last.ensures.ok);
    }
