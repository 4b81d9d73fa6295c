-- What the holder's steps on versions need, and what they tell its seat.
use Rattle.std.specs.Prelude.{◌≡◌, ◌≢◌, ℕ, ◌+◌, ◌<◌, ◌≤◌, List, [], ◌∷◌, length, slice_set, Option, Some, None}
use Rattle.atomic_table.specs.Table.{Me, Step}
use Rattle.qd_score_model.specs.declared.limits.TheConstants.{ROWS}
use Rattle.qd_score_model.specs.declared.view.Mode.TheVariants.{Sole}
use Rattle.qd_score_model.specs.declared.view.Place.{Place}
use Rattle.qd_score_model.specs.declared.view.Phase.TheVariants.{Idle}
use Rattle.qd_score_model.specs.declared.view.Sight.{Sight}
use Rattle.qd_score_model.specs.declared.view.Version.{Version}
use Rattle.qd_score_model.specs.Machine.{Book, version_at, IsGreatest, sees, refuses}
use Rattle.qd_score.specs.declared.limits.TheConstants.{VERSIONS_END}
use Rattle.qd_score.specs.declared.table.Knows.{Knows}
use Rattle.qd_score.specs.Rule.{Stands, with_view, place_of}

module _ {I S : Type 0} where
  -- A version may go live in a row: no version is live there, the current version is the newest that is live, and this one
  -- is newer and stands for no more than the history has.
  pub record MayMakeLive (h : Sight I S) (row : ℕ) (x : Version S) : Type 0 where
    pub is_row : row < ROWS
    pub dead : version_at h.versions row ≡ None
    pub greatest : IsGreatest h.current.n h.versions
    pub newer : h.current.n < x.n
    pub within : x.n ≤ length h.history
    pub small : x.n < VERSIONS_END

  abbrev pub with_live : Sight I S → ℕ → Version S → Sight I S
  with_live h row x = record h { versions = slice_set h.versions row (Some x) }

  -- a place may become the current one: a version with its number is live in its row, and is newer
  pub record MayMakeCurrent (h : Sight I S) (place : Place) : Type 0 where
    pub live : (x : Version S) × (version_at h.versions place.row ≡ Some x) × (x.n ≡ place.n)
    pub newer : h.current.n < place.n
    pub small : place.n < VERSIONS_END

  abbrev pub with_current : Sight I S → Place → Sight I S
  with_current h place = record h { current = place }

  -- a row may be retired: it is live, and not the current one
  pub record MayLetGo (h : Sight I S) (row : ℕ) : Type 0 where
    pub live : (x : Version S) × (version_at h.versions row ≡ Some x)
    pub other : row ≢ h.current.row

  abbrev pub without_row : Sight I S → ℕ → Sight I S
  without_row h row = record h { versions = slice_set h.versions row None }

module _ {I S B : Type 0} (blocks : S → List ℕ) where
  -- the seat's own sight of the book was changed
  pub record HasChanged (change : Sight I S → Sight I S) (me now : Me (Option B) (Knows I S B)) : Type 0 where
    pub hold : Sight I S
    pub held : me.0.view.hold ≡ Some hold
    pub seat : now ≡ (with_view me.0 (sees me.0.view (change hold)), me.1)
    pub stands : Stands blocks now.0.view

  -- the place of the word that was stored is the current one
  abbrev pub SetsCurrent : Step (Option B) → Me (Option B) (Knows I S B) → ℕ → Me (Option B) (Knows I S B) → Type 0
  SetsCurrent step me found now = HasChanged (λ h. with_current h (place_of step.first)) me now

  -- the row of the word is retired, where the word was 1; else it has a pin, and stays
  pub record HasTried (row : ℕ) (me : Me (Option B) (Knows I S B)) (found : ℕ) (now : Me (Option B) (Knows I S B)) : Type 0 where
    pub gone : found ≡ 1 → HasChanged (λ h. without_row h row) me now
    pub stays : found ≢ 1 → now ≡ (with_view me.0 (refuses me.0.view row found), me.1)
    pub pinned : found ≢ 1 → 3 ≤ found
    pub alone : me.0.view.mode ≡ Sole → me.0.view.phase ≡ Idle → found ≡ 1
    pub stands : Stands blocks now.0.view

  abbrev pub Retires : Step (Option B) → Me (Option B) (Knows I S B) → ℕ → Me (Option B) (Knows I S B) → Type 0
  Retires step me found now = (row : ℕ) → step.word ≡ row + 2 → HasTried row me found now

module _ {I S B : Type 0} (book : B → Book I S) (blocks : S → List ℕ) where
  -- the version that the book in the seat's slot has in the row of the word is live there
  abbrev pub GoesLive : Step (Option B) → Me (Option B) (Knows I S B) → ℕ → Me (Option B) (Knows I S B) → Type 0
  GoesLive step me found now = (row : ℕ) (inside : B) (x : Version S) → step.word ≡ row + 2 → me.1 ≡ (0, Some inside) ∷ [] → version_at (book inside).versions row ≡ Some x → HasChanged blocks (λ h. with_live h row x) me now
