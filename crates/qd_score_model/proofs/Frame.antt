-- An event of one seat changes the board and that seat's view. What has to be shown of it so that it keeps the rule.
use Rattle.std.proofs.Common.{◌≡◌, ◌≢◌, ℕ, ◌+◌, ◌<◌, ◌≤◌, true, cond, List, length, set, Some, None, refl, ◌∙◌, arith}
use Rattle.std.specs.Prelude.{if◌then◌else◌, Option}
use Rattle.std.proofs.lemmas.List.{length-set}
use mathlib.Core.Option.{some}
use lib.ListN.{get_elem?}
use Rattle.qd_score_model.specs.declared.limits.TheConstants.{MAX_SPLITS}
use Rattle.qd_score_model.specs.declared.view.Mode.TheVariants.{Sole, Keeper}
use Rattle.qd_score_model.specs.declared.view.Phase.{Phase}
use Rattle.qd_score_model.specs.declared.view.Phase.TheVariants.{Idle, Looked, Trying, Pinned}
use Rattle.qd_score_model.specs.declared.view.View.{View}
use Rattle.qd_score_model.specs.Machine.{Board, State, hold_of, IsGreatest, AllPresent}
use Rattle.qd_score_model.specs.Kept.{counts_on, Each, rooms, counted, claimed, added, own_by, PhaseFits, OneHolder, VersionsStand, SeenFits, NotedFits, Kept}
use Rattle.qd_score_model.proofs.Lists.{each_set, sum_at}

-- a seat counts on the row once, or not
abbrev pub once_on : ℕ → Phase → ℕ
once_on row p = cond (counts_on row p) 1 0

abbrev pub weight : {I S : Type 0} → View I S → ℕ
weight v = if v.spent then 0 else v.room + 1

module _ {I S : Type 0} where
  -- what the rule says of one view
  pub record Fits (b : Board I S) (v : View I S) : Type 0 where
    pub gone : v.spent ≡ true → v.mode ≡ Keeper
    pub phase : PhaseFits b v.phase
    pub seen : SeenFits b v
    pub noted : NotedFits b v
    pub keeper : v.mode ≡ Keeper → v.phase ≡ Idle
    pub sole : v.mode ≡ Sole → v.seen ≡ b.history

  -- a board of the same history, place, versions and counts
  pub same_fits : (b : Board I S) (pins : ℕ → ℕ) (holder : Option ℕ) (v : View I S) → Fits b v → Fits (record b { pins = pins; holder = holder }) v
  same_fits b pins holder v h = record {
    gone = h.gone;
    phase = at_phase v.phase h.phase;
    seen = record { seen = h.seen.seen; met = h.seen.met; own = h.seen.own; since = h.seen.since; known = h.seen.known; faults = h.seen.faults; removed = h.seen.removed };
    noted = h.noted;
    keeper = h.keeper;
    sole = h.sole;
  }
    where
      at_phase : (p : Phase) → PhaseFits b p → PhaseFits (record b { pins = pins; holder = holder }) p
      at_phase Idle f = f
      at_phase (Looked place) f = f
      at_phase (Trying place) f = f
      at_phase (Pinned place) f = f

module _ {I S : Type 0} (blocks : S → List ℕ) where
  -- what the rule says of the board alone
  pub record Stands (b : Board I S) : Type 0 where
    pub versions : VersionsStand b
    pub within : IsGreatest (length b.history) b.versions
    pub present : b.holder ≡ None → AllPresent blocks b.versions b.present

  pub stands_of : (s : State I S) → Kept blocks s → Stands s.board
  stands_of s k = record { versions = k.versions; within = k.history.versions; present = k.blocks_present }

  pub fits_of : (s : State I S) → Kept blocks s → (seat : ℕ) (v : View I S) → get_elem? s.views seat ≡ some v → Fits s.board v
  fits_of s k seat v at = record {
    gone = k.pins.gone seat v at;
    phase = k.phases seat v at;
    seen = k.history.seats seat v at;
    noted = k.noted seat v at;
    keeper = k.keepers seat v at;
    sole = λ m. (k.sole seat v at m).seen;
  }

  -- the rule, from its parts on the board, on each view, and on all views together
  pub kept_from : (s : State I S) → Stands s.board → OneHolder s → Each s.views (λ seat v. Fits s.board v)
      → ((row : ℕ) → s.board.pins row ≡ counted row s.views) → rooms s.views ≤ MAX_SPLITS + 1 → ((n : ℕ) → claimed n s.views ≤ 1) → added s.views + s.board.opened ≡ length s.board.history
      → Each s.views (λ seat v. v.mode ≡ Sole → Each s.views (λ other w. other ≢ seat → w.mode ≡ Keeper))
      → Kept blocks s
  kept_from s stands holds fits pins room once whole alone = record {
    one_holder = holds;
    pins = record { pins = pins; rooms = room; gone = λ seat v at. (fits seat v at).gone };
    versions = stands.versions;
    phases = λ seat v at. (fits seat v at).phase;
    blocks_present = stands.present;
    history = record { seats = λ seat v at. (fits seat v at).seen; once = once; whole = whole; versions = stands.within };
    sole = λ seat v at m. record { seen = (fits seat v at).sole m; others = alone seat v at m };
    noted = λ seat v at. (fits seat v at).noted;
    keepers = λ seat v at. (fits seat v at).keeper;
  }

  -- What has to be shown of an event of one seat, whose view v becomes w, and the board b becomes c
  pub record Changes (views : List (View I S)) (seat : ℕ) (b c : Board I S) (v w : View I S) : Type 0 where
    pub stands : Stands c
    pub there : (j : ℕ) → c.holder ≡ Some j → j < length views
    pub held : w.hold ≡ hold_of c seat
    pub not_held : (j : ℕ) → j ≢ seat → hold_of b j ≡ hold_of c j
    pub fits : Fits c w
    pub others : (j : ℕ) (u : View I S) → j ≢ seat → get_elem? views j ≡ some u → Fits b u → Fits c u
    pub pins : (row : ℕ) → c.pins row + once_on row v.phase ≡ b.pins row + once_on row w.phase
    pub weight : weight w ≡ weight v
    pub once : (n : ℕ) → claimed n (set views seat w) ≤ 1
    pub grown : own_by w + length b.history ≡ own_by v + length c.history
    pub opened : c.opened ≡ b.opened
    pub sole : w.mode ≡ Sole → v.mode ≡ Sole
    pub keeper : v.mode ≡ Keeper → w.mode ≡ Keeper

  pub kept_set : (b c : Board I S) (views : List (View I S)) (seat : ℕ) (v w : View I S) → Kept blocks (record { board = b; views = views }) → get_elem? views seat ≡ some v → Changes views seat b c v w → Kept blocks (record { board = c; views = set views seat w })
  kept_set b c views seat v w k at ch = kept_from (record { board = c; views = set views seat w }) ch.stands
      (record {
        holds = each_set views seat w (λ j u. u.hold ≡ hold_of c j) (λ j u ne there. k.one_holder.holds j u there ∙ ch.not_held j ne) ch.held;
        there = λ j e. let l = length-set views seat w in let h = ch.there j e in omega arith;
      })
      (each_set views seat w (λ j u. Fits c u) (λ j u ne there. ch.others j u ne there (fits_of (record { board = b; views = views }) k j u there)) ch.fits)
      (λ row.
      let p = k.pins.pins row in
      let q = ch.pins row in
      let s = sum_at (λ (u : View I S). once_on row u.phase) views seat v w at in omega arith)
      (let r = k.pins.rooms in let s = sum_at (λ (u : View I S). weight u) views seat v w at in let e = ch.weight in omega arith)
      ch.once
      (let h = k.history.whole in let s = sum_at (λ (u : View I S). own_by u) views seat v w at in let g = ch.grown in let o = ch.opened in omega arith)
      (each_set views seat w (λ i u. u.mode ≡ Sole → Each (set views seat w) (λ j x. j ≢ i → x.mode ≡ Keeper))
      (λ i u ne there m.
      each_set views seat w (λ j x. j ≢ i → x.mode ≡ Keeper) (λ j x nj here. (k.sole i u there m).others j x here) (λ nj. ch.keeper ((k.sole i u there m).others seat v at nj)))
      (λ m.
      each_set views seat w (λ j x. j ≢ seat → x.mode ≡ Keeper) (λ j x nj here. (k.sole seat v at (ch.sole m)).others j x here) (λ nj. absurd (nj refl))))
