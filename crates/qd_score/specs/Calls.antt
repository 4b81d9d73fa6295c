-- What the calls need, and what they give.
use Rattle.std.specs.Prelude.{◌≡◌, ℕ, ◌≤◌, false, List, [], ◌∷◌, Option, Some, None, IfSome, ◌⊎◌}
use mathlib.Core.List.{IsPrefix}
use Rattle.atomic_table.specs.declared.shared.Seat.{Seat}
use Rattle.atomic_table.specs.Seated.{TableId}
use Rattle.qd_score_model.specs.declared.view.Mode.TheVariants.{Keeper}
use Rattle.qd_score_model.specs.declared.view.Place.{Place}
use Rattle.qd_score_model.specs.declared.view.Phase.TheVariants.{Idle, Looked}
use Rattle.qd_score_model.specs.declared.view.Sight.{Sight}
use Rattle.qd_score_model.specs.declared.view.View.{View}
use Rattle.qd_score_model.specs.Machine.{Book, IsGreatest, AllPresent}
use Rattle.qd_score.specs.declared.table.Knows.{Knows}
use Rattle.qd_score.specs.Rule.{Stands, ComesFrom}

module _ {I S B : Type 0} where
  -- what a seat knows, and its view
  abbrev pub known_by : Seat (Option B) (Knows I S B) → Knows I S B
  known_by seat = seat.me.0

  abbrev pub view_of : Seat (Option B) (Knows I S B) → View I S
  view_of seat = seat.me.0.view

  -- The seat is one of this table, is there still, and while it holds the lock it has the slot, else none.
  pub record MaySit (table : TableId) (seat : Seat (Option B) (Knows I S B)) : Type 0 where
    pub of : seat.table_id ≡ table
    pub there : (view_of seat).spent ≡ false
    pub without : (view_of seat).hold ≡ None → seat.me.1 ≡ []
    pub holding : (h : Sight I S) → (view_of seat).hold ≡ Some h → seat.me.1 ≡ (0, None) ∷ []

  -- The seat is one of this table, and its view stands in a state that is kept.
  pub record IsSeatOf (blocks : S → List ℕ) (table : TableId) (seat : Seat (Option B) (Knows I S B)) : Type 0 where
    pub sits : MaySit table seat
    pub stands : Stands blocks (view_of seat)

module _ {I S : Type 0} where
  -- the seat holds neither the lock nor a pin
  pub record IsLoose (v : View I S) : Type 0 where
    pub no_lock : v.hold ≡ None
    pub no_pin : (v.phase ≡ Idle) ⊎ ((place : Place) × (v.phase ≡ Looked place))

  -- what each of two seats had seen is a beginning of what one sees that took in the other
  pub record HasSeenBoth (v w now : View I S) : Type 0 where
    pub first : IsPrefix v.seen now.seen
    pub other : IsPrefix w.seen now.seen

  -- What a hold may give back. The history goes on behind its end, and a Keeper's stays; neither count falls; live rows,
  -- their numbers and shapes, and the current place are as the seat's own steps left them; no live version is newer than
  -- the current one, and every block that a live version lists is present.
  pub record MayGiveBack (blocks : S → List ℕ) (v : View I S) (h : Sight I S) (book : Book I S) : Type 0 where
    pub history : IsPrefix h.history book.history
    pub keeper : v.mode ≡ Keeper → book.history ≡ h.history
    pub faults : h.faults ≤ book.faults
    pub removed : h.removed ≤ book.removed
    pub versions : book.versions ≡ h.versions
    pub current : book.current ≡ h.current
    pub greatest : IsGreatest h.current.n h.versions
    pub present : AllPresent blocks h.versions book.present

module _ {I S B F : Type 0} (book : B → Book I S) (sound : B → Type 0) (fixed : B → F) where
  -- the book comes from the one that the seat's score was started over
  abbrev pub IsOfSeat : Seat (Option B) (Knows I S B) → B → Type 0
  IsOfSeat seat x = IfSome seat.me.0.origin (λ origin. ComesFrom book sound fixed origin x)
