-- What a round makes of a store: the next version is merged, and shown in place of the current one.
use Rattle.std.specs.Prelude.{◌≡◌, ℕ, List, [], Some, Result, Ok, Err}
use Rattle.qd_base.specs.declared.op.Entry.{Entry}
use Rattle.qd_catalog.specs.Versions.{IsLive, Versions}
use Rattle.qd_durable.specs.declared.fault.LogFault.{LogFault}
use Rattle.qd_durable.specs.declared.fault.LogFault.TheVariants as fault
use Rattle.qd_io.specs.Ends.{HasRisen}
use Rattle.qd_io.specs.declared.fault.IoFault.{IoFault}
use Rattle.qd_io.specs.declared.fault.IoFault.TheVariants as io
use Rattle.qd_store.specs.declared.fault.PublishFault.{PublishFault}
use Rattle.qd_store.specs.declared.fault.PublishFault.TheVariants as publish
use Rattle.qd_store.specs.Drafts.{IsNextOf, Merging}
use Rattle.qd_store.specs.Owned.{Store}
use Rattle.qd_store.specs.Stores.{Book}
use Rattle.qd_store_backend.specs.Backs.{IsTold, current}
use Rattle.qd_store_backend.specs.declared.parts.Round.{Round}

-- no version is live but the current one
abbrev pub IsOnlyOne : Versions → Type 0
IsOnlyOne v = (row : ℕ) → IsLive v row → row ≡ v.current

-- What is merged are the transactions of a history behind the current version. What the files hold is never damaged.
abbrev pub IsNextFrom : Result Merging LogFault → Book → List Entry → Type 0
IsNextFrom (Ok m) s h = IsNextOf s h m
IsNextFrom (Err (fault.Damaged file at)) s h = ⊥
IsNextFrom (Err fault.Vol) s h = Unit {0}
IsNextFrom (Err fault.Memory) s h = Unit {0}

-- A merge is the current version, or that is as it was: the volume failed, a file is damaged, or there was no memory.
abbrev pub IsTurned : {T : Type 0} → Result T LogFault → Book → Book → Merging → Type 0
IsTurned (Ok done) old new m = current new ≡ Some (record { n = m.upto; shape = m.shape })
IsTurned (Err (fault.Damaged file at)) old new m = current new ≡ current old
IsTurned (Err fault.Vol) old new m = current new ≡ current old
IsTurned (Err fault.Memory) old new m = current new ≡ current old

-- the volume failed, a file is damaged, or there was no memory
abbrev pub IsOfVolume : PublishFault → Type 0
IsOfVolume (publish.Moved n) = ⊥
IsOfVolume publish.NoRow = ⊥
IsOfVolume publish.Vol = Unit {0}
IsOfVolume (publish.Damaged file at) = Unit {0}
IsOfVolume publish.Memory = Unit {0}

-- such a fault, as that of a file
abbrev pub fault_of : PublishFault → LogFault
fault_of (publish.Moved n) = fault.Memory
fault_of publish.NoRow = fault.Memory
fault_of publish.Vol = fault.Vol
fault_of (publish.Damaged file at) = fault.Damaged file at
fault_of publish.Memory = fault.Memory

-- what is told of a store is told of it behind a call
abbrev pub StaysTold : Store → Store → Type 0
StaysTold old new = (h : List Entry) → IsTold old h → IsTold new h

-- ---- sweeps

-- The queue of blocks that no version lists any more is empty; or the volume failed, or there was no memory.
abbrev pub IsSwept : {T : Type 0} → Result T IoFault → (old new : Store) → Type 0
IsSwept (Ok done) old new = new.store.versions.versions.retired ≡ []
IsSwept (Err io.Failed) old new = HasRisen old.storage.faults new.storage.faults
IsSwept (Err io.Memory) old new = Unit {0}

-- how many transactions a round shows
abbrev pub number_in : {E : Type 0} → Result Round E → Result ℕ E
number_in (Ok round) = Ok round.upto
number_in (Err fault) = Err fault
