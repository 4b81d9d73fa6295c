-- What holds after every run, and what follows for a reader, a writer and two seats.
use Rattle.std.specs.Prelude.{◌≡◌, ℕ, ◌-◌, ◌<◌, ◌≤◌, true, false, ◌⊎◌, List, length, Contains, Some, None}
use mathlib.Core.Option.{some}
use mathlib.Core.List.{IsPrefix}
use lib.ListN.{get_elem?}
use Rattle.qd_score_model.specs.declared.limits.TheConstants.{MAX_SPLITS, PINS_END}
use Rattle.qd_score_model.specs.declared.view.Mode.TheVariants.{Sole}
use Rattle.qd_score_model.specs.declared.view.Place.{Place}
use Rattle.qd_score_model.specs.declared.view.Phase.TheVariants.{Idle, Pinned}
use Rattle.qd_score_model.specs.declared.view.Version.{Version}
use Rattle.qd_score_model.specs.declared.view.View.{View}
use Rattle.qd_score_model.specs.Machine.{Book, State, Step, behind, version_at, opening, after, IsRun, MayOpen}
use Rattle.qd_score_model.specs.Kept.{times, Kept}

-- After every list of steps that may come where they stand, all nine parts hold.
abbrev pub EveryRunIsKept : (I S : Type 0) → Type 0
EveryRunIsKept I S = (blocks : S → List ℕ) (book : Book I S) (first : Version S) (steps : List (Step I S)) → MayOpen blocks book first → IsRun blocks (opening book) steps → Kept blocks (after (opening book) steps)

-- What the steps leave, whoever takes them and in whatever order, of a board opened over a book whose row 0 is live.
pub record Reached (I S : Type 0) (blocks : S → List ℕ) (book : Book I S) (s : State I S) : Type 0 where
  pub first : Version S
  pub opens : MayOpen blocks book first
  pub steps : List (Step I S)
  pub run : IsRun blocks (opening book) steps
  pub reaches : after (opening book) steps ≡ s

-- A version that a seat has pinned is live in its row, with the number that the seat pinned.
abbrev pub PinnedRowsAreLive : (I S : Type 0) → Type 0
PinnedRowsAreLive I S = (blocks : S → List ℕ) (book : Book I S) (s : State I S) → Reached I S blocks book s → (seat : ℕ) (v : View I S) (place : Place) → get_elem? s.views seat ≡ some v → v.phase ≡ Pinned place
    → (s.board.live place.row ≡ true) × ((x : Version S) × (version_at s.board.versions place.row ≡ Some x) × (x.n ≡ place.n))

-- All blocks of a version that a seat has pinned are present, whenever nobody holds the lock.
abbrev pub PinnedBlocksArePresent : (I S : Type 0) → Type 0
PinnedBlocksArePresent I S = (blocks : S → List ℕ) (book : Book I S) (s : State I S) → Reached I S blocks book s → s.board.holder ≡ None → (seat : ℕ) (v : View I S) (place : Place) → get_elem? s.views seat ≡ some v → v.phase ≡ Pinned place
    → (x : Version S) × (version_at s.board.versions place.row ≡ Some x) × (x.n ≡ place.n) × ((block : ℕ) → Contains (blocks x.shape) block → Contains s.board.present block)

-- Whatever steps come, the history goes on behind its end, and nothing of it is lost or changed.
abbrev pub HistoryOnlyGrows : (I S : Type 0) → Type 0
HistoryOnlyGrows I S = (blocks : S → List ℕ) (s : State I S) (steps : List (Step I S)) → IsRun blocks s steps → IsPrefix s.board.history (after s steps).board.history

-- Of what two seats have seen, one is a beginning of the other.
abbrev pub SeatsSeeOneHistory : (I S : Type 0) → Type 0
SeatsSeeOneHistory I S = (blocks : S → List ℕ) (book : Book I S) (s : State I S) → Reached I S blocks book s → (seat other : ℕ) (v w : View I S) → get_elem? s.views seat ≡ some v → get_elem? s.views other ≡ some w → IsPrefix v.seen w.seen ⊎ IsPrefix w.seen v.seen

-- What a view shows is included in another: the items that were seen stand at the front of those seen there, the number
-- that is known is no lower there, and the positions of its own are own ones there.
pub record IsIncludedIn {I S : Type 0} (v w : View I S) : Type 0 where
  pub seen : IsPrefix v.seen w.seen
  pub known : v.known ≤ w.known
  pub own : (n : ℕ) → times n v.own ≤ times n w.own

-- Whatever steps come, a seat learns and forgets nothing, unless it goes into another.
abbrev pub SeatsOnlyLearn : (I S : Type 0) → Type 0
SeatsOnlyLearn I S = (blocks : S → List ℕ) (book : Book I S) (s : State I S) → Reached I S blocks book s → (steps : List (Step I S)) → IsRun blocks s steps → (seat : ℕ) (v w : View I S) → get_elem? s.views seat ≡ some v → get_elem? (after s steps).views seat ≡ some w → w.spent ≡ false → IsIncludedIn v w

-- And what a seat knew is known to a seat that stands, also where the first one went into another.
abbrev pub NothingIsForgotten : (I S : Type 0) → Type 0
NothingIsForgotten I S = (blocks : S → List ℕ) (book : Book I S) (s : State I S) → Reached I S blocks book s → (steps : List (Step I S)) → IsRun blocks s steps → (seat : ℕ) (v : View I S) → get_elem? s.views seat ≡ some v → v.spent ≡ false
    → (other : ℕ) × (w : View I S) × (get_elem? (after s steps).views other ≡ some w) × (w.spent ≡ false) × IsIncludedIn v w

-- A position that a seat added is no other seat's, and the seat has seen it.
abbrev pub PositionsAreOnesOwn : (I S : Type 0) → Type 0
PositionsAreOnesOwn I S = (blocks : S → List ℕ) (book : Book I S) (s : State I S) → Reached I S blocks book s → (seat other n : ℕ) (v w : View I S) → get_elem? s.views seat ≡ some v → get_elem? s.views other ≡ some w → Contains v.own n → Contains w.own n → seat ≡ other

-- A seat that has all the room again, since each other one went into it, has added just all that came since the opening.
abbrev pub LastSeatHasAddedAll : (I S : Type 0) → Type 0
LastSeatHasAddedAll I S = (blocks : S → List ℕ) (book : Book I S) (s : State I S) → Reached I S blocks book s → (seat : ℕ) (v : View I S) → get_elem? s.views seat ≡ some v → v.spent ≡ false → MAX_SPLITS ≤ v.room
    → v.own ≡ behind (length book.history) (length s.board.history - length book.history)

-- Pins stay below their limit, so a word has room for twice as many and for the bit that says whether the row is live.
abbrev pub PinsStaySmall : (I S : Type 0) → Type 0
PinsStaySmall I S = (blocks : S → List ℕ) (book : Book I S) (s : State I S) → Reached I S blocks book s → (row : ℕ) → s.board.pins row < PINS_END

-- While a Sole seat is idle no row has a pin, so each row that it retires goes.
abbrev pub SoleSeatRetires : (I S : Type 0) → Type 0
SoleSeatRetires I S = (blocks : S → List ℕ) (book : Book I S) (s : State I S) → Reached I S blocks book s → (seat : ℕ) (v : View I S) → get_elem? s.views seat ≡ some v → v.mode ≡ Sole → v.phase ≡ Idle → (row : ℕ) → s.board.pins row ≡ 0
