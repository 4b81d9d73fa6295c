-- Worked examples: two seats over a history of one item, of which a second version is published. A version lists its
-- blocks, and that is its shape.
use Rattle.std.specs.Prelude.{◌≡◌, ℕ, ◌-◌, List, [], ◌∷◌, ◌++◌, replicate, Option, Some, None}
use mathlib.Core.Option.{Option as Found, some, none}
use lib.ListN.{get_elem?}
use Rattle.qd_score_model.specs.declared.limits.TheConstants.{ROWS}
use Rattle.qd_score_model.specs.declared.view.Mode.TheVariants.{Writer}
use Rattle.qd_score_model.specs.declared.view.Place.{Place}
use Rattle.qd_score_model.specs.declared.view.Phase.{Phase}
use Rattle.qd_score_model.specs.declared.view.Phase.TheVariants.{Trying, Pinned}
use Rattle.qd_score_model.specs.declared.view.Version.{Version}
use Rattle.qd_score_model.specs.declared.view.Refusal.{Refusal}
use Rattle.qd_score_model.specs.declared.view.View.{View}
use Rattle.qd_score_model.specs.Machine.{Book, State, Step, Event, Take, Give, Look, Raise, Confirm, Drop, GoLive, SetCurrent, Retire, Split, Share, opening, after, IsRun, version_at}

abbrev pub blocks_of : List ℕ → List ℕ
blocks_of shape = shape

abbrev pub place_at : ℕ → ℕ → Place
place_at n row = record { n = n; row = row }

-- the version of no item, and that of the one item, which shares a block
abbrev pub older : Version (List ℕ)
older = record { n = 0; shape = 7 ∷ [] }

abbrev pub newer : Version (List ℕ)
newer = record { n = 1; shape = 7 ∷ 8 ∷ [] }

-- the book with these versions in its first two rows
abbrev pub book_of : Place → Option (Version (List ℕ)) → Option (Version (List ℕ)) → List ℕ → Book ℕ (List ℕ)
book_of current first second present = record { history = 5 ∷ []; current = current; versions = first ∷ second ∷ replicate (ROWS - 2) None; present = present; queued = 0; faults = 0; removed = 0 }

abbrev pub opened : State ℕ (List ℕ)
opened = opening (book_of (place_at 0 0) (Some older) None (7 ∷ []))

abbrev pub by : ℕ → Event ℕ (List ℕ) → Step ℕ (List ℕ)
by seat event = record { seat = seat; event = event }

-- the first seat is one of two writers from now on
abbrev pub two_seats : List (Step ℕ (List ℕ))
two_seats = by 0 Share ∷ by 0 (Split Writer) ∷ []

-- the first seat takes the lock, makes the second version live and current, and tries to retire the first
abbrev pub publishes : List (Step ℕ (List ℕ))
publishes = by 0 Take ∷ by 0 (GoLive 1 newer) ∷ by 0 (SetCurrent (place_at 1 1)) ∷ by 0 (Retire 0) ∷ []

-- the second seat pins the first version
abbrev pub pins_first : List (Step ℕ (List ℕ))
pins_first = by 1 Look ∷ by 1 (Raise (place_at 0 0)) ∷ by 1 (Confirm (place_at 0 0)) ∷ []

abbrev pub gives_both : List (Step ℕ (List ℕ))
gives_both = by 0 (Give (book_of (place_at 1 1) (Some older) (Some newer) (7 ∷ 8 ∷ []))) ∷ []

abbrev pub gives_second : List (Step ℕ (List ℕ))
gives_second = by 0 (Give (book_of (place_at 1 1) None (Some newer) (7 ∷ 8 ∷ []))) ∷ []

-- A pin holds its row: it is pinned, the second version is published beside it, and the retire finds it.
abbrev pub held_back : List (Step ℕ (List ℕ))
held_back = two_seats ++ pins_first ++ publishes ++ gives_both

-- Once the pin is dropped, the row goes.
abbrev pub drops_it : List (Step ℕ (List ℕ))
drops_it = by 1 (Drop (place_at 0 0)) ∷ by 0 Take ∷ by 0 (Retire 0) ∷ []

abbrev pub let_go : List (Step ℕ (List ℕ))
let_go = held_back ++ drops_it ++ gives_second

-- A pin that comes too late: the first version was looked for, and is gone before its row is counted up.
abbrev pub looks : List (Step ℕ (List ℕ))
looks = by 1 Look ∷ []

abbrev pub raises_late : List (Step ℕ (List ℕ))
raises_late = by 1 (Raise (place_at 0 0)) ∷ by 1 (Confirm (place_at 0 0)) ∷ []

abbrev pub too_late : List (Step ℕ (List ℕ))
too_late = two_seats ++ looks ++ publishes ++ gives_second ++ raises_late

-- what the seat with this number sees of itself, where it is there
abbrev pub phase_of : Found (View ℕ (List ℕ)) → Option Phase
phase_of none = None
phase_of (some v) = Some v.phase

abbrev pub refused_of : Found (View ℕ (List ℕ)) → List Refusal
refused_of none = []
refused_of (some v) = v.refused

abbrev pub known_of : Found (View ℕ (List ℕ)) → Option ℕ
known_of none = None
known_of (some v) = Some v.known

pub record WorkedExamples : Type 0 where
  -- the word of a live row with one pin is 3
  pub held_back_may_come : IsRun blocks_of opened held_back
  pub refused : refused_of (get_elem? (after opened held_back).views 0) ≡ record { row = 0; word = 3 } ∷ []
  pub still_live : version_at (after opened held_back).board.versions 0 ≡ Some older
  pub still_pinned : phase_of (get_elem? (after opened held_back).views 1) ≡ Some (Pinned (place_at 0 0))
  pub current : (after opened held_back).board.current ≡ place_at 1 1
  pub let_go_may_come : IsRun blocks_of opened let_go
  pub not_refused : refused_of (get_elem? (after opened let_go).views 0) ≡ []
  pub retired : version_at (after opened let_go).board.versions 0 ≡ None
  pub unpinned : (after opened let_go).board.pins 0 ≡ 0
  pub too_late_may_come : IsRun blocks_of opened too_late
  pub not_pinned : phase_of (get_elem? (after opened too_late).views 1) ≡ Some (Trying (place_at 0 0))
  pub moved_on : known_of (get_elem? (after opened too_late).views 1) ≡ Some 1
