-- A store with the volume that it owns.
use Rattle.std.specs.Prelude.{Result, Ok, Err}
use Rattle.qd_volume.specs.Calls.{Storage}
use Rattle.qd_store.specs.declared.fault.OpenFault.{OpenFault}
use Rattle.qd_store.specs.declared.fault.OpenFault.TheVariants as fault
use Rattle.qd_store.specs.Stores.{Book}

-- what contracts see of it: the book, and what its volume shows
pub record Store : Type 0 where
  pub store : Book
  pub storage : Storage

-- what they see of a volume that has no store, and why it has none
pub record Left : Type 0 where
  pub storage : Storage
  pub why : OpenFault

-- the book of an answer, or why there is none; and what the volume shows
abbrev pub store_in : Result Store Left → Result Book OpenFault
store_in (Ok owned) = Ok owned.store
store_in (Err left) = Err left.why

abbrev pub storage_in : Result Store Left → Storage
storage_in (Ok owned) = owned.storage
storage_in (Err left) = left.storage

-- the volume failed, or there was no memory
abbrev pub IsOfVolume : Left → Type 0
IsOfVolume left = IsVolumes left.why
  where
    IsVolumes : OpenFault → Type 0
    IsVolumes fault.NotMade = ⊥
    IsVolumes fault.Vol = Unit {0}
    IsVolumes (fault.Damaged file at) = ⊥
    IsVolumes fault.Memory = Unit {0}
