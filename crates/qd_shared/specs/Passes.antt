-- What a pass knows, and what it learns in one hold of the lock.
use Rattle.std.specs.Prelude.{◌≡◌, ℕ, ◌+◌, ◌-◌, ◌≤◌, Bool, true, false, List, [], ◌∷◌, ◌++◌, length, Option, Some, None, IfSome}
use mathlib.Core.List.{IsPrefix}
use Rattle.atomic_table.specs.Seated.{TableId}
use Rattle.qd_base.specs.declared.op.Entry.{Entry}
use Rattle.qd_manifest.specs.declared.shape.TableParts.{TableParts}
use Rattle.qd_manifest.specs.Spelling.{blocks_of}
use Rattle.qd_score.specs.declared.table.Knows.{Knows}
use Rattle.qd_score.specs.Rule.{Stands}
use Rattle.qd_score_model.specs.declared.limits.TheConstants.{MAX_SPLITS}
use Rattle.qd_score_model.specs.declared.view.Record.{Record}
use Rattle.qd_score_model.specs.declared.view.View.{View}
use Rattle.qd_score_model.specs.declared.view.Mode.{Mode}
use Rattle.qd_score_model.specs.declared.view.Mode.TheVariants.{Sole}
use Rattle.qd_score_model.specs.Kept.{RisesWithin}
use Rattle.qd_score_model.specs.Machine.{behind, first_view, joined, newcomer}
use Rattle.qd_store.specs.Owned.{Store}
use Rattle.qd_store_backend.specs.Backs.{IsTold, current, n_in}
use Rattle.qd_shared.specs.declared.item.Item.{Item}
use Rattle.qd_shared.specs.Desks.{Desk, book_of, entries, fixed_of, items_in, versions_in}

-- what a pass knows: its view, and the desk that the store was shared with
abbrev pub Knowing : Type 0
Knowing = Knows Item (List TableParts) Desk

-- what contracts see of a pass: the scoreboard that it is of, and what it knows
pub record Pass : Type 0 where
  pub table : TableId
  pub knows : Knowing

abbrev pub view_of : Pass → View Item (List TableParts)
view_of p = p.knows.view

-- the store that a pass is of was shared with some desk
abbrev pub HasDesk : Knowing → Type 0
HasDesk k = (d : Desk) × (k.origin ≡ Some d)

-- whether a history is told
abbrev pub is_told : Option Desk → Bool
is_told None = false
is_told (Some d) = (fixed_of d).told

-- the transactions of items, where they are told
abbrev pub history_by : Bool → List Item → Option (List Entry)
history_by false items = None
history_by true items = Some (entries items)

-- those that a pass has seen
abbrev pub history_of : Pass → Option (List Entry)
history_of p = history_by (is_told p.knows.origin) (view_of p).seen

-- how many calls of the volume had failed when the last of some holds ended
abbrev pub faults_in : ℕ → List Record → ℕ
faults_in n [] = n
faults_in n (r ∷ rs) = faults_in r.faults_left rs

abbrev pub faults_of : Pass → ℕ
faults_of p = faults_in 0 (view_of p).records

-- a view stands in a state of the scoreboard that is kept
abbrev pub IsStanding : Pass → Type 0
IsStanding p = Stands blocks_of (view_of p)

-- One hold of the lock: it found this desk and left that one.
pub record Holds (old new : Pass) (found left : Desk) : Type 0 where
  pub table : new.table ≡ old.table
  -- the desk is that of the pass's store
  pub origin : new.knows.origin ≡ old.knows.origin
  pub fixed : IfSome old.knows.origin (λ o. fixed_of found ≡ fixed_of o)
  pub stays : fixed_of left ≡ fixed_of found
  -- what the pass had seen and knew is there
  pub seen_before : IsPrefix (view_of old).seen (items_in found)
  pub known_before : (view_of old).known ≤ n_in (current found.owned.store)
  pub faults_before : faults_of old ≤ found.owned.storage.faults
  -- what is left is what it has seen, and the transactions behind those that were found are its own
  pub grows : IsPrefix (items_in found) (items_in left)
  pub seen : (view_of new).seen ≡ items_in left
  pub own : (view_of new).own ≡ (view_of old).own ++ behind (length (items_in found)) (length (items_in left) - length (items_in found))
  pub known : (view_of new).known ≡ n_in (current left.owned.store)
  pub noted : (view_of new).noted ≡ versions_in left
  pub faults : faults_of new ≡ left.owned.storage.faults
  pub rise : found.owned.storage.faults ≤ left.owned.storage.faults
  -- the rest is as it was
  pub mode : (view_of new).mode ≡ (view_of old).mode
  pub phase : (view_of new).phase ≡ (view_of old).phase
  pub room : (view_of new).room ≡ (view_of old).room

-- a hold that leaves the desk as it found it
pub record Looks (old new : Pass) : Type 0 where
  pub desk : Desk
  pub holds : Holds old new desk desk
  pub history : history_of new ≡ desk.history
  pub count : IfSome desk.history (λ h. length (items_in desk) ≡ length h)

-- ---- a store is shared, and passes are split and joined

-- the first pass: it has seen all transactions of the store, and knows its version
pub record Starts (p : Pass) (owned : Store) (history : Option (List Entry)) : Type 0 where
  pub desk : p.knows.origin ≡ Some (record { owned = owned; history = history; removed = 0 })
  pub view : view_of p ≡ first_view (book_of (record { owned = owned; history = history; removed = 0 }))
  pub told : history_of p ≡ history
  pub count : IfSome history (λ h. length (view_of p).seen ≡ length h)

-- a pass of some kind that is split off: it has seen what the other has, and nothing is its own
pub record IsPart (kind : Mode) (p part : Pass) : Type 0 where
  pub table : part.table ≡ p.table
  pub origin : part.knows.origin ≡ p.knows.origin
  pub view : view_of part ≡ newcomer (view_of p) kind

-- a pass that has taken in another
pub record IsJoined (p other now : Pass) : Type 0 where
  pub table : now.table ≡ p.table
  pub origin : now.knows.origin ≡ p.knows.origin
  pub view : view_of now ≡ joined (view_of p) (view_of other)
  -- what each of the two had seen is a beginning of what it has seen now
  pub seen : IsPrefix (view_of p).seen (view_of now).seen
  pub other_seen : IsPrefix (view_of other).seen (view_of now).seen

-- ---- the store is taken back

-- a history goes on behind what was seen of it, and is told where that was
abbrev pub GoesOnTo : Option (List Entry) → Option (List Entry) → Type 0
GoesOnTo None history = history ≡ None
GoesOnTo (Some seen) history = (more : List Entry) × (history ≡ Some (seen ++ more))

-- the store stands behind a history that goes on behind what a pass had seen, and shows no fewer transactions than it knew
pub record Closes (p : Pass) (owned : Store) : Type 0 where
  pub history : Option (List Entry)
  pub told : IfSome history (IsTold owned)
  pub seen : GoesOnTo (history_of p) history
  -- what a Sole pass had seen is all of it
  pub sole : (view_of p).mode ≡ Sole → history ≡ history_of p
  pub known : (view_of p).known ≤ n_in (current owned.store)
  -- the positions of its own transactions rise, and lie within what it had seen of that history
  pub own : RisesWithin 0 (length (view_of p).seen) (view_of p).own
  pub within : IfSome history (λ h. length (view_of p).seen ≤ length h)
  -- where each other pass has gone into it, they are just what has come since the store was shared
  pub whole : MAX_SPLITS ≤ (view_of p).room → IfSome p.knows.origin (λ o. IfSome history (λ h. (view_of p).own ≡ behind (length (items_in o)) (length h - length (items_in o))))
