-- What the first bytes of version files say.
use Rattle.std.specs.Prelude.{◌≡◌, ℕ, ◌+◌, ◌^◌, ◌<◌, ◌≤◌, List, ◌∷◌, ◌++◌, length, take, Result, Ok, Err}
use Rattle.std.specs.Int.{to_le_bytes, w64}
use Rattle.qd_volume.specs.Disk.{Image}
use Rattle.qd_durable.specs.Places.{StandsAt}
use Rattle.qd_durable.specs.declared.fault.LogFault.{LogFault}
use Rattle.qd_durable.specs.declared.fault.LogFault.TheVariants as fault
use Rattle.qd_txnfile.specs.declared.half.Half.{Half}
use Rattle.qd_txnfile.specs.declared.half.Other.{Other}
use Rattle.qd_txnfile.specs.declared.half.Other.TheVariants as other
use Rattle.qd_txnfile.specs.declared.reading.Choice.{Choice}
use Rattle.qd_txnfile.specs.declared.reading.Damage.{Damage}
use Rattle.qd_txnfile.specs.declared.reading.Gate.{Gate}
use Rattle.qd_txnfile.specs.declared.reading.Gate.TheVariants as gate
use Rattle.qd_txnfile.specs.declared.reading.Newest.{Newest}
use Rattle.qd_txnfile.specs.Versions.{IsClosed, IsOpenBelow, file_of, limit_of, other_of}
use Rattle.qd_txnfile.specs.Damage.{HasNoGate, HasNoNumber, IsDamaged}

-- the first bytes of a file
abbrev pub IsHeadOf : List ℕ → List ℕ → Type 0
IsHeadOf head bytes = head ≡ take 17 bytes

-- what is said of the gate
abbrev pub IsGate : List ℕ → Gate → Type 0
IsGate head gate.Missing = HasNoGate head
IsGate head gate.Closed = IsClosed head
IsGate head gate.Short = HasNoNumber head
IsGate head (gate.Open n) = (n < 2 ^ 64) × StandsAt head 0 (1 ∷ to_le_bytes w64 n)

-- the other file as it is found: closed, or open for a version that is older
abbrev pub IsOtherFound : Other → ℕ → List ℕ → Type 0
IsOtherFound other.Older limit bytes = IsOpenBelow limit bytes
IsOtherFound other.Closed limit bytes = IsClosed bytes
IsOtherFound _ limit bytes = ⊥

abbrev pub IsFound : Other → Type 0
IsFound other.Older = Unit {0}
IsFound other.Closed = Unit {0}
IsFound _ = ⊥

-- one of the files has the greater number among those whose gate is open
pub record IsChosen (half : Half) (n : ℕ) (known : Other) (image : Image) : Type 0 where
  pub number : n < 2 ^ 64
  pub open_gate : StandsAt (image (file_of half)) 0 (1 ∷ to_le_bytes w64 n)
  pub other : IsOtherFound known (limit_of half n) (image (file_of (other_of half)))

-- and has the length of a manifest
pub record IsNewest (newest : Newest) (image : Image) : Type 0 where
  pub chosen : IsChosen newest.half newest.n newest.other image
  pub small : newest.size < 2 ^ 64
  pub size : StandsAt (image (file_of newest.half)) 9 (to_le_bytes w64 newest.size)

-- which file has the version, or where the files are damaged
abbrev pub IsJudged : Result Choice Damage → Image → Type 0
IsJudged (Ok choice) image = IsChosen choice.half choice.n choice.other image
IsJudged (Err damage) image = IsDamaged image (file_of damage.half) damage.at

abbrev pub IsNewestOf : Result Newest Damage → Image → Type 0
IsNewestOf (Ok newest) image = IsNewest newest image
IsNewestOf (Err damage) image = IsDamaged image (file_of damage.half) damage.at

-- the same as it is read of a volume, which may fail
abbrev pub IsNewestRead : Result Newest LogFault → Image → Type 0
IsNewestRead (Ok newest) image = IsNewest newest image
IsNewestRead (Err (fault.Damaged file at)) image = IsDamaged image file at
IsNewestRead (Err _) image = Unit {0}

-- a read of the start of a file gave a head with an open gate, the number of a version and the length of its manifest
pub record IsHeadGiven (gives : ℕ → ℕ → List ℕ → Type 0) (half : Half) (n size : ℕ) : Type 0 where
  pub head : List ℕ
  pub given : gives (file_of half) 0 head
  pub stands : StandsAt head 0 (1 ∷ (to_le_bytes w64 n ++ to_le_bytes w64 size))

-- the manifest of a size, or the length of the file where it is cut
abbrev pub IsManifest : Result (List ℕ) LogFault → ℕ → ℕ → List ℕ → Type 0
IsManifest (Ok manifest) file size bytes = (length manifest ≡ size) × StandsAt bytes 17 manifest
IsManifest (Err (fault.Damaged damaged at)) file size bytes = 17 ≤ length bytes → (damaged ≡ file) × (at ≡ length bytes) × (length bytes < 17 + size)
IsManifest (Err _) file size bytes = Unit {0}
