-- What a volume holds, and what the calls that open or make a store, and a session over it, leave of it.
use Rattle.std.specs.Prelude.{◌≡◌, ◌⊎◌, ℕ, ◌≤◌, List, [], ◌∷◌, ◌++◌, Option, Some, None, Result, Ok, Err}
use Rattle.qd_base.specs.declared.op.Entry.{Entry}
use Rattle.qd_durable.specs.Moments.{EachNow}
use Rattle.qd_store.specs.declared.fault.OpenFault.{OpenFault}
use Rattle.qd_store.specs.declared.fault.OpenFault.TheVariants as fault
use Rattle.qd_store.specs.Calls.{IsBeingMade}
use Rattle.qd_store.specs.Found.{Finds, Found, IsUnmade, IsWhole}
use Rattle.qd_store.specs.Marks.{IsMade}
use Rattle.qd_store.specs.Opening.{IsDamaged, IsUndamaged}
use Rattle.qd_store.specs.Stores.{IsStore, Book}
use Rattle.qd_txnfile.specs.Versions.{Version}
use Rattle.qd_volume.specs.Disk.{Disk, Image, reads_of}

-- ---- before

-- A volume holds a history, of which its version shows n transactions: it isn't made, and there is none; or it is whole, and its
-- files give that.
abbrev pub Holds : Disk → List Entry → ℕ → Type 0
Holds disk h n = (IsUnmade disk × (h ≡ []) × (n ≡ 0)) ⊎ (IsWhole disk × (f : Found) × Finds f (reads_of disk) × (f.history ≡ h) × (f.n ≡ n))

-- so does one that is told
abbrev pub HoldsTold : Option Disk → List Entry → ℕ → Type 0
HoldsTold None h n = ⊥
HoldsTold (Some disk) h n = Holds disk h n

-- what may be told of a volume: nothing, or the history that it holds
abbrev pub MayFind : Option (List Entry) → Option Disk → Type 0
MayFind None volume = Unit {0}
MayFind (Some h) volume = (n : ℕ) × HoldsTold volume h n

-- ---- a store is opened, or made where there is none

-- each file reads as it did
abbrev pub ReadsAlike : Disk → Disk → Type 0
ReadsAlike before after = (file : ℕ) → reads_of after file ≡ reads_of before file

-- No store was opened or made: each file reads as it did; or there was none, and where the volume wasn't made each image isn't made
-- now, or is that of a store without a transaction.
abbrev pub IsUnopened : Disk → Disk → Type 0
IsUnopened before after = ReadsAlike before after ⊎ ((IsMade (reads_of before) → ⊥) × (IsUnmade before → EachNow after IsBeingMade))

-- The files are damaged at a place, which those of a whole volume never are, and each reads as it did.
pub record IsDamagedAt (file at : ℕ) (before after : Disk) : Type 0 where
  pub made : IsMade (reads_of before)
  pub damaged : IsDamaged (reads_of before) file at
  pub not_whole : IsWhole before → ⊥
  pub reads : ReadsAlike before after

-- A volume of which a store is opened or made is undamaged, or isn't made. The store stands behind the history that the volume holds,
-- and shows as many of its transactions as that volume's version.
pub record StartsOver (s : Book) (before after : Disk) : Type 0 where
  pub whole : IsMade (reads_of before) → IsUndamaged (reads_of before) × ReadsAlike before after
  pub stands : (h : List Entry) (n : ℕ) → Holds before h n → (s.versions.root.n ≡ n) × (next : Version) × IsStore s h next after

abbrev pub Starts : Result Book OpenFault → Disk → Disk → Type 0
Starts (Ok s) before after = StartsOver s before after
Starts (Err fault.NotMade) before after = ⊥
Starts (Err (fault.Damaged file at)) before after = IsDamagedAt file at before after
Starts (Err fault.Vol) before after = IsUnopened before after
Starts (Err fault.Memory) before after = IsUnopened before after

-- ---- behind a session

-- What is found in an image is a history, or that with the one transaction more that may have been left behind it; and a version of
-- no fewer transactions than are applied.
pub record Leaves (history : List Entry) (pending : Option Entry) (applied : ℕ) (image : Image) : Type 0 where
  pub found : Found
  pub finds : Finds found image
  pub is : (found.history ≡ history) ⊎ ((more : Entry) × (pending ≡ Some more) × (found.history ≡ history ++ more ∷ []))
  pub applied_is : applied ≤ found.n

-- A volume keeps that: it is whole, and so is each image that a crash may leave.
pub record Keeps (history : List Entry) (pending : Option Entry) (applied : ℕ) (disk : Disk) : Type 0 where
  pub whole : IsWhole disk
  pub each : EachNow disk (Leaves history pending applied)

abbrev pub KeepsTold : Option Disk → List Entry → Option Entry → ℕ → Type 0
KeepsTold None history pending applied = ⊥
KeepsTold (Some disk) history pending applied = Keeps history pending applied disk
