-- A hold of the lock under way. No public clause cites this module.
use Rattle.std.specs.Prelude.{◌≡◌, ℕ, ◌-◌, ◌≤◌, List, length, Some, IfSome}
use mathlib.Core.List.{IsPrefix}
use Rattle.qd_manifest.specs.declared.shape.TableParts.{TableParts}
use Rattle.qd_manifest.specs.Spelling.{blocks_of}
use Rattle.qd_score.specs.Calls.{MayGiveBack}
use Rattle.qd_score.specs.Rule.{ComesFrom, with_view}
use Rattle.qd_score_model.specs.declared.limits.TheConstants.{MAX_SPLITS}
use Rattle.qd_score_model.specs.declared.view.Mode.TheVariants.{Sole}
use Rattle.qd_score_model.specs.declared.view.Phase.TheVariants.{Idle, Pinned}
use Rattle.qd_score_model.specs.declared.view.Place.{Place}
use Rattle.qd_score_model.specs.declared.view.Sight.{Sight}
use Rattle.qd_score_model.specs.declared.view.Version.{Version}
use Rattle.qd_score_model.specs.Machine.{behind, gave, version_at}
use Rattle.qd_store_backend.specs.Backs.{current, n_in}
use Rattle.qd_shared.specs.declared.item.Item.{Item}
use Rattle.qd_shared.specs.Desks.{Desk, book_of, fixed_of, items_in, versions_in}
use Rattle.qd_shared.specs.Passes.{Knowing, faults_in}

-- a desk is that of the store which a pass is of
abbrev pub Comes : Knowing → Desk → Type 0
Comes k d = IfSome k.origin (λ o. ComesFrom book_of (λ x. Unit {0}) fixed_of o d)

-- What a take of the lock found is what its pass had seen and knew, or more.
pub record Begins (k : Knowing) (found : Desk) : Type 0 where
  pub comes : Comes k found
  pub seen : IsPrefix k.view.seen (items_in found)
  -- a Sole pass had seen all
  pub sole : k.view.mode ≡ Sole → items_in found ≡ k.view.seen
  pub known : k.view.known ≤ n_in (current found.owned.store)
  pub faults : faults_in 0 k.view.records ≤ found.owned.storage.faults
  -- one that each other pass has gone into has added just what has come since the store was shared
  pub whole : MAX_SPLITS ≤ k.view.room → IfSome k.origin (λ o. k.view.own ≡ behind (length (items_in o)) (length (items_in found) - length (items_in o)))

-- The version that the pass has pinned is live in its row there, and a version that it has noted has its tables still.
pub record Finds (k : Knowing) (found : Desk) : Type 0 where
  pub pinned : (place : Place) → k.view.phase ≡ Pinned place → (x : Version (List TableParts)) × (version_at (versions_in found) place.row ≡ Some x) × (x.n ≡ place.n)
  pub noted : (row other : ℕ) (x y : Version (List TableParts)) → version_at k.view.noted row ≡ Some x → version_at (versions_in found) other ≡ Some y → y.n ≡ x.n → y.shape ≡ x.shape

-- While the lock is held a pass sees the desk; what it has seen, and what it knows, is as it was.
pub record Along (k now : Knowing) (found : Desk) : Type 0 where
  pub hold : Sight Item (List TableParts)
  pub held : now.view.hold ≡ Some hold
  pub history : hold.history ≡ items_in found
  pub origin : now.origin ≡ k.origin
  pub mode : now.view.mode ≡ k.view.mode
  pub phase : now.view.phase ≡ k.view.phase
  pub room : now.view.room ≡ k.view.room
  pub own : now.view.own ≡ k.view.own
  pub records : now.view.records ≡ k.view.records

-- the lock may be given back with this desk
abbrev pub MayEnd : Knowing → Desk → Type 0
MayEnd now d = (h : Sight Item (List TableParts)) × (now.view.hold ≡ Some h) × MayGiveBack blocks_of now.view h (book_of d)

-- the lock was given back with this desk
abbrev pub Gives : Knowing → Knowing → Desk → Type 0
Gives now then d = (h : Sight Item (List TableParts)) × (now.view.hold ≡ Some h) × (then ≡ with_view now (gave now.view h (book_of d)))

-- what the holder sees of the history is all that the desk has of it
abbrev pub SeesAll : Knowing → Desk → Type 0
SeesAll now d = (h : Sight Item (List TableParts)) × (now.view.hold ≡ Some h) × (h.history ≡ items_in d)

-- what a desk has become in a hold, as far as its history goes
pub record Grows (found left : Desk) : Type 0 where
  pub items : IsPrefix (items_in found) (items_in left)
  pub stays : fixed_of left ≡ fixed_of found
  pub rise : found.owned.storage.faults ≤ left.owned.storage.faults

-- What the holder does in between: it sees the desk go on from one state to another; what it has seen, and what it knows, is as it was.
pub record Steps (now then : Knowing) (from to : Desk) : Type 0 where
  pub sight : Sight Item (List TableParts)
  pub sight_then : Sight Item (List TableParts)
  pub held : now.view.hold ≡ Some sight
  pub held_then : then.view.hold ≡ Some sight_then
  pub history : sight_then.history ≡ sight.history
  pub origin : then.origin ≡ now.origin
  pub mode : then.view.mode ≡ now.view.mode
  pub phase : then.view.phase ≡ now.view.phase
  pub room : then.view.room ≡ now.view.room
  pub own : then.view.own ≡ now.view.own
  pub records : then.view.records ≡ now.view.records
  pub refused : IsPrefix now.view.refused then.view.refused
  pub grows : Grows from to

-- a Sole holder without a pin finds no row pinned
abbrev pub IsLonely : Knowing → Knowing → Type 0
IsLonely now then = now.view.mode ≡ Sole → now.view.phase ≡ Idle → then.view.refused ≡ now.view.refused
