-- What the steps of a pin tell its seat, and what a pin shows.
use Rattle.std.specs.Prelude.{◌≡◌, ℕ, ◌<◌, ◌≤◌, false, List, [], ◌∷◌, ◌++◌, Option, Some, None}
use Rattle.atomic_table.specs.Table.{Me, Step}
use Rattle.qd_score_model.specs.declared.view.Place.{Place}
use Rattle.qd_score_model.specs.declared.view.Phase.{Phase}
use Rattle.qd_score_model.specs.declared.view.Phase.TheVariants.{Idle, Looked, Trying, Pinned}
use Rattle.qd_score_model.specs.declared.view.Sight.{Sight}
use Rattle.qd_score_model.specs.declared.view.View.{View}
use Rattle.qd_score_model.specs.Machine.{looked, tries, confirmed, dropped, pinned_held, same_place}
use Rattle.qd_score.specs.declared.table.Knows.{Knows}
use Rattle.qd_score.specs.Rule.{Stands, with_view, place_of}

-- the place that a seat looked at or counts on, and row 0 where there is none
abbrev pub place_in : Phase → Place
place_in Idle = record { n = 0; row = 0 }
place_in (Looked place) = place
place_in (Trying place) = place
place_in (Pinned place) = place

module _ {I S : Type 0} where
  -- the current place that a holder sees
  abbrev pub current_in : Option (Sight I S) → Place
  current_in None = record { n = 0; row = 0 }
  current_in (Some h) = h.current

  -- the view of a seat that has read this place twice, and nothing else, and has pinned the version there
  abbrev pub pinned_by : View I S → Place → View I S
  pinned_by v place = record v { phase = Pinned place; known = place.n; reads = v.reads ++ place ∷ place ∷ [] }

  -- the view of a seat that has read one place and then another, and has no pin
  abbrev pub moved_on : View I S → Place → Place → View I S
  moved_on v first second = record v { phase = Idle; known = second.n; reads = v.reads ++ first ∷ second ∷ [] }

module _ {I S B : Type 0} (blocks : S → List ℕ) where
  -- the current place was read; it is no older than what the seat knew
  pub record HasLooked (me : Me (Option B) (Knows I S B)) (found : ℕ) (now : Me (Option B) (Knows I S B)) : Type 0 where
    pub seat : now ≡ (with_view me.0 (looked me.0.view (place_of found)), me.1)
    pub newer : me.0.view.known ≤ (place_of found).n
    pub stands : Stands blocks now.0.view

  abbrev pub Looks : Step (Option B) → Me (Option B) (Knows I S B) → ℕ → Me (Option B) (Knows I S B) → Type 0
  Looks step me found now = HasLooked me found now

  -- the row that was looked at is counted on
  pub record HasRaised (me now : Me (Option B) (Knows I S B)) : Type 0 where
    pub seat : now ≡ (with_view me.0 (tries me.0.view (place_in me.0.view.phase)), me.1)
    pub stands : Stands blocks now.0.view

  abbrev pub Raises : Step (Option B) → Me (Option B) (Knows I S B) → ℕ → Me (Option B) (Knows I S B) → Type 0
  Raises step me found now = HasRaised me now

  -- the current place was read again; where it is another one, that is of a newer version
  pub record HasConfirmed (me : Me (Option B) (Knows I S B)) (found : ℕ) (now : Me (Option B) (Knows I S B)) : Type 0 where
    pub seat : now ≡ (with_view me.0 (confirmed me.0.view (place_of found) (place_in me.0.view.phase)), me.1)
    pub newer : same_place (place_of found) (place_in me.0.view.phase) ≡ false → (place_in me.0.view.phase).n < (place_of found).n
    pub stands : Stands blocks now.0.view

  abbrev pub Confirms : Step (Option B) → Me (Option B) (Knows I S B) → ℕ → Me (Option B) (Knows I S B) → Type 0
  Confirms step me found now = HasConfirmed me found now

  -- the row is no longer counted on
  pub record HasReleased (me now : Me (Option B) (Knows I S B)) : Type 0 where
    pub seat : now ≡ (with_view me.0 (dropped me.0.view), me.1)
    pub stands : Stands blocks now.0.view

  abbrev pub Releases : Step (Option B) → Me (Option B) (Knows I S B) → ℕ → Me (Option B) (Knows I S B) → Type 0
  Releases step me found now = HasReleased me now

  -- the holder reads the current place that it sees
  pub record HasRead (me : Me (Option B) (Knows I S B)) (found : ℕ) (now : Me (Option B) (Knows I S B)) : Type 0 where
    pub seat : now ≡ me
    pub place : place_of found ≡ current_in me.0.view.hold

  abbrev pub Reads : Step (Option B) → Me (Option B) (Knows I S B) → ℕ → Me (Option B) (Knows I S B) → Type 0
  Reads step me found now = HasRead me found now

  -- the holder counts on the current row
  pub record HasHeldRaised (me now : Me (Option B) (Knows I S B)) : Type 0 where
    pub seat : now ≡ (with_view me.0 (pinned_held me.0.view (current_in me.0.view.hold)), me.1)
    pub stands : Stands blocks now.0.view

  abbrev pub HeldRaises : Step (Option B) → Me (Option B) (Knows I S B) → ℕ → Me (Option B) (Knows I S B) → Type 0
  HeldRaises step me found now = HasHeldRaised me now
