-- What lies under the lock: a store with the history that is told of it, and what a scoreboard sees of that.
use Rattle.std.specs.Prelude.{ℕ, List, [], ◌∷◌, length, map, is_some, Option, Some, None, IfSome}
use Rattle.std.specs.List.{flat_map}
use Rattle.qd_base.specs.declared.op.Entry.{Entry}
use Rattle.qd_base.specs.declared.part.WalRef.{WalRef}
use Rattle.qd_catalog.specs.declared.version.Version as catalog
use Rattle.qd_manifest.specs.declared.shape.TableParts.{TableParts}
use Rattle.qd_score_model.specs.declared.view.Place.{Place}
use Rattle.qd_score_model.specs.declared.view.Version.{Version}
use Rattle.qd_score_model.specs.Machine.{Book}
use Rattle.qd_store.specs.Owned.{Store}
use Rattle.qd_store_backend.specs.Backs.{AreUsual, IsTold, current, n_in}
use Rattle.qd_shared.specs.declared.item.Fixed.{Fixed}
use Rattle.qd_shared.specs.declared.item.Item.{Item}

-- what contracts see of a desk
pub record Desk : Type 0 where
  -- the store with its volume
  pub owned : Store
  -- the transactions of its history, where they are told: no code reads them
  pub history : Option (List Entry)
  -- how often a block was removed
  pub removed : ℕ

-- what a desk keeps: the limits of the product; and the store stands behind the history that is told of it
pub record IsDesk (d : Desk) : Type 0 where
  pub usual : AreUsual d.owned.store.limits
  pub told : IfSome d.history (IsTold d.owned)

-- ---- the history as items

-- a transaction of which only its place is known, and one that is told
abbrev pub untold : WalRef → Item
untold place = record { place = place; entry = None }

abbrev pub told : WalRef → Entry → Item
told place e = record { place = place; entry = Some e }

-- the transactions at some places, as far as they are told
abbrev pub items_with : List WalRef → List Entry → List Item
items_with [] h = []
items_with (place ∷ places) [] = untold place ∷ items_with places []
items_with (place ∷ places) (e ∷ h) = told place e ∷ items_with places h

abbrev pub items_of : List WalRef → Option (List Entry) → List Item
items_of places None = map untold places
items_of places (Some h) = items_with places h

abbrev pub entry_in : Option Entry → List Entry
entry_in None = []
entry_in (Some e) = e ∷ []

-- the transactions that are told of items
abbrev pub entries : List Item → List Entry
entries items = flat_map (λ i. entry_in i.entry) items

-- ---- what a scoreboard sees

abbrev pub version_of : Option catalog.Version → Option (Version (List TableParts))
version_of None = None
version_of (Some x) = Some (record { n = x.n; shape = x.shape })

-- the place of the current version
abbrev pub place_in : Desk → Place
place_in d = record { n = n_in (current d.owned.store); row = d.owned.store.versions.versions.current }

-- the transactions that lie under the lock
abbrev pub items_in : Desk → List Item
items_in d = items_of d.owned.store.sequence.refs d.history

-- the versions in their rows
abbrev pub versions_in : Desk → List (Option (Version (List TableParts)))
versions_in d = map version_of d.owned.store.versions.versions.versions

-- blocks are present from when a version lists them until they are removed: those that the catalogue knows of
abbrev pub book_of : Desk → Book Item (List TableParts)
book_of d = record {
  history = items_in d;
  current = place_in d;
  versions = versions_in d;
  present = map (λ e. e.0) d.owned.store.versions.versions.written;
  queued = length d.owned.store.versions.versions.retired;
  faults = d.owned.storage.faults;
  removed = d.removed;
}

abbrev pub fixed_of : Desk → Fixed
fixed_of d = record { limits = d.owned.store.limits; told = is_some d.history }
