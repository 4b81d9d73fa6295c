-- What follows from the rule.
use Rattle.std.proofs.Common.{◌≡◌, ◌≢◌, ℕ, ◌+◌, ◌-◌, ◌<◌, ◌≤◌, Bool, true, false, cond, List, length, set, refl, sym, ap, ◌∙◌, subst, ⊎_elim, arith}
use Rattle.std.specs.Prelude.{is_some, if◌then◌else◌, sum_by}
use mathlib.Core.Option.{some, some-injective}
use lib.ListN.{get_elem?}
use Rattle.qd_score_model.specs.declared.limits.TheConstants.{MAX_SPLITS, PINS_END}
use Rattle.qd_score_model.specs.declared.view.Place.{Place}
use Rattle.qd_score_model.specs.declared.view.Mode.TheVariants.{Sole}
use Rattle.qd_score_model.specs.declared.view.Phase.{Phase}
use Rattle.qd_score_model.specs.declared.view.Phase.TheVariants.{Idle, Pinned}
use Rattle.qd_score_model.specs.declared.view.View.{View}
use Rattle.qd_score_model.specs.Machine.{Book, State, behind, gone, opening}
use Rattle.qd_score_model.specs.Kept.{counts_on, own_by, times, IsLive, PhaseFits, Kept}
use Rattle.qd_score_model.specs.Laws.{Reached, EveryRunIsKept, PinnedRowsAreLive, PinnedBlocksArePresent, HistoryOnlyGrows, SeatsSeeOneHistory, IsIncludedIn, SeatsOnlyLearn, NothingIsForgotten, PositionsAreOnesOwn, LastSeatHasAddedAll, PinsStaySmall, SoleSeatRetires}
use Rattle.qd_score_model.proofs.Lists.{sum_at, sum_at_le, sum_none, sum_under, sum_two_le, prefix_either}
use Rattle.qd_score_model.proofs.Numbers.{rises_full, rises_wider, times_contains}
use Rattle.qd_score_model.proofs.Frame.{once_on, weight}
use Rattle.qd_score_model.proofs.Boards.{same_or_other}
use Rattle.qd_score_model.proofs.Runs.{kept_after, grows_run, opened_run}
use Rattle.qd_score_model.proofs.Learning.{later_run, known_run}

pub every_run : (I S : Type 0) → EveryRunIsKept I S
every_run I S blocks book first steps opens run = kept_after blocks book first steps opens run

kept_reached : {I S : Type 0} (blocks : S → List ℕ) (book : Book I S) (s : State I S) → Reached I S blocks book s → Kept blocks s
kept_reached blocks book s r = subst (Kept blocks) r.reaches (kept_after blocks book r.first r.steps r.opens r.run)

pinned_live : {I S : Type 0} (blocks : S → List ℕ) (s : State I S) → Kept blocks s → (seat : ℕ) (v : View I S) (place : Place) → get_elem? s.views seat ≡ some v → v.phase ≡ Pinned place → IsLive s.board place
pinned_live blocks s k seat v place at e = subst (PhaseFits s.board) e (k.phases seat v at)

pub pinned_rows_are_live : (I S : Type 0) → PinnedRowsAreLive I S
pinned_rows_are_live I S blocks book s r seat v place at e =
    let k = kept_reached blocks book s r in
    let live = pinned_live blocks s k seat v place at e in (k.versions.live place.row ∙ ap is_some live.1, live)

pub pinned_blocks_are_present : (I S : Type 0) → PinnedBlocksArePresent I S
pinned_blocks_are_present I S blocks book s r free seat v place at e =
    let k = kept_reached blocks book s r in
    let live = pinned_live blocks s k seat v place at e in (live.0, live.1, live.2, k.blocks_present free place.row live.0 live.1)

pub history_only_grows : (I S : Type 0) → HistoryOnlyGrows I S
history_only_grows I S blocks s steps run = grows_run blocks s steps run

pub seats_see_one_history : (I S : Type 0) → SeatsSeeOneHistory I S
seats_see_one_history I S blocks book s r seat other v w at there =
    let k = kept_reached blocks book s r in
    prefix_either v.seen w.seen s.board.history (k.history.seats seat v at).seen (k.history.seats other w there).seen

pub seats_only_learn : (I S : Type 0) → SeatsOnlyLearn I S
seats_only_learn I S blocks book s r steps run seat v w at there stands = ⊎_elim
    (λ (e : w.spent ≡ true). let d : true ≡ false = sym e ∙ stands in absurd (cc))
    (λ (h : (v.spent ≡ false) × IsIncludedIn v w). h.1)
    (later_run blocks s steps (kept_reached blocks book s r) run seat v w at there)

pub nothing_is_forgotten : (I S : Type 0) → NothingIsForgotten I S
nothing_is_forgotten I S blocks book s r steps run seat v at stands = known_run blocks s steps (kept_reached blocks book s r) run seat v at stands

pub positions_are_ones_own : (I S : Type 0) → PositionsAreOnesOwn I S
positions_are_ones_own I S blocks book s r seat other n v w at there own theirs = ⊎_elim
    (λ (same : other ≡ seat). sym same)
    (λ (ne : other ≢ seat).
    let k = kept_reached blocks book s r in
    let a = times_contains n v.own own.0 own.1 own.2 in
    let b = times_contains n w.own theirs.0 theirs.1 theirs.2 in
    let c = sum_two_le (λ (u : View I S). times n u.own) s.views seat other v w gone ne refl at there in
    let d = k.history.once n in absurd (omega arith))
    (same_or_other other seat)

-- a seat that has all the room has added all that came
pub all_added : {I S : Type 0} (blocks : S → List ℕ) (s : State I S) → Kept blocks s → (seat : ℕ) (v : View I S) → get_elem? s.views seat ≡ some v → v.spent ≡ false → MAX_SPLITS ≤ v.room → v.own ≡ behind s.board.opened (length s.board.history - s.board.opened)
all_added {I} {S} blocks s k seat v at stands room =
    let w = k.history.whole in
    let r = k.pins.rooms in
    let a = sum_at (λ (u : View I S). own_by u) s.views seat v gone at in
    let b = sum_at (λ (u : View I S). weight u) s.views seat v gone at in
    let c : weight v ≡ v.room + 1 = ap (λ t. if t then 0 else v.room + 1) stands in
    let d : own_by v ≡ length v.own = ap (λ t. if t then 0 else length v.own) stands in
    let e : weight (gone {I = I} {S = S}) ≡ 0 = refl in
    let f : own_by (gone {I = I} {S = S}) ≡ 0 = refl in
    let light : sum_by (λ (u : View I S). weight u) (set s.views seat gone) ≡ 0 = omega arith in
    let none = sum_none (λ (u : View I S). own_by u) (set s.views seat gone) (λ i u there. let le = sum_at_le (λ (x : View I S). weight x) (set s.views seat gone) i u there in by_weight u u.spent refl (omega (arith, le, light))) in
    let count : length v.own + s.board.opened ≡ length s.board.history = omega (arith, w, a, d, f, none) in
    let fit = k.history.seats seat v at in
    rises_full s.board.opened (length s.board.history - s.board.opened) v.own (rises_wider s.board.opened (length s.board.history) (s.board.opened + (length s.board.history - s.board.opened)) v.own (omega (arith, count)) fit.since) (omega (arith, count))
  where
    by_weight : (u : View I S) (b : Bool) → u.spent ≡ b → weight u ≡ 0 → own_by u ≡ 0
    by_weight u true e z = ap (λ t. if t then 0 else length u.own) e
    by_weight u false e z = let n : weight u ≡ u.room + 1 = ap (λ t. if t then 0 else u.room + 1) e in absurd (omega (arith, n, z))

pub last_seat_has_added_all : (I S : Type 0) → LastSeatHasAddedAll I S
last_seat_has_added_all I S blocks book s r seat v at stands room =
    let all = all_added blocks s (kept_reached blocks book s r) seat v at stands room in
    let opened : s.board.opened ≡ length book.history = subst (λ (t : State I S). t.board.opened ≡ length book.history) r.reaches (opened_run blocks (opening book) r.steps r.run) in
    subst (λ (n : ℕ). v.own ≡ behind n (length s.board.history - n)) opened all

pub pins_small : {I S : Type 0} (blocks : S → List ℕ) (s : State I S) → Kept blocks s → (row : ℕ) → s.board.pins row < PINS_END
pins_small {I} {S} blocks s k row =
    let p = k.pins.pins row in
    let u = sum_under (λ (u : View I S). once_on row u.phase) (λ (u : View I S). weight u) s.views (λ i u at. light i u at u.spent refl) in
    let l = k.pins.rooms in omega arith
  where
    once_le : (p : Phase) → once_on row p ≤ 1
    once_le p = choose (counts_on row p)
      where
        choose : (b : Bool) → cond {A = ℕ} b 1 0 ≤ 1
        choose true = omega arith
        choose false = omega arith

    light : (i : ℕ) (u : View I S) → get_elem? s.views i ≡ some u → (b : Bool) → u.spent ≡ b → once_on row u.phase ≤ weight u
    light i u at true e = let idle = k.keepers i u at (k.pins.gone i u at e) in let z : once_on row u.phase ≡ 0 = ap (once_on row) idle in omega arith
    light i u at false e = let l = once_le u.phase in let z : weight u ≡ u.room + 1 = ap (λ t. if t then 0 else u.room + 1) e in omega arith

pub pins_stay_small : (I S : Type 0) → PinsStaySmall I S
pins_stay_small I S blocks book s r row = pins_small blocks s (kept_reached blocks book s r) row

-- while a Sole seat is idle no row has a pin
pub no_pins : {I S : Type 0} (blocks : S → List ℕ) (s : State I S) → Kept blocks s → (seat : ℕ) (v : View I S) → get_elem? s.views seat ≡ some v → v.mode ≡ Sole → v.phase ≡ Idle → (row : ℕ) → s.board.pins row ≡ 0
no_pins {I} {S} blocks s k seat v at sole idle row = k.pins.pins row ∙ sum_none (λ (u : View I S). once_on row u.phase) s.views (λ i u there. ap (once_on row) (all_idle i u there))
  where
    all_idle : (i : ℕ) (u : View I S) → get_elem? s.views i ≡ some u → u.phase ≡ Idle
    all_idle i u there = ⊎_elim
        (λ (same : i ≡ seat). let a : get_elem? s.views seat ≡ some u = ap (get_elem? s.views) (sym same) ∙ there in let b : v ≡ u = some-injective v u (sym at ∙ a) in ap (λ (z : View I S). z.phase) (sym b) ∙ idle)
        (λ (ne : i ≢ seat). k.keepers i u there ((k.sole seat v at sole).others i u there ne))
        (same_or_other i seat)

pub sole_seat_retires : (I S : Type 0) → SoleSeatRetires I S
sole_seat_retires I S blocks book s r seat v at sole idle row = no_pins blocks s (kept_reached blocks book s r) seat v at sole idle row
