-- Where two version files give no version: at the first byte of the first field that breaks the layout, or at a file's length
-- where bytes are missing.
use Rattle.std.specs.Prelude.{◌≡◌, ◌⊎◌, ℕ, ◌+◌, ◌^◌, ◌<◌, ◌≤◌, List, [], ◌∷◌, length}
use Rattle.std.specs.Int.{to_le_bytes, w64}
use Rattle.qd_volume.specs.Disk.{Image}
use Rattle.qd_durable.specs.Places.{StandsAt}
use Rattle.qd_txnfile.specs.declared.half.Half.{Half}
use Rattle.qd_txnfile.specs.Versions.{IsClosed, IsOpenBelow, file_of, limit_of, other_of}

-- a file without a byte has no gate
abbrev pub HasNoGate : List ℕ → Type 0
HasNoGate bytes = bytes ≡ []

-- the gate is open, and ends before the number does
pub record HasNoNumber (bytes : List ℕ) : Type 0 where
  pub open_gate : StandsAt bytes 0 (1 ∷ [])
  pub short : length bytes < 9

-- a file whose gate is closed, or which has its number
abbrev pub HasItsNumber : List ℕ → Type 0
HasItsNumber bytes = IsClosed bytes ⊎ (9 ≤ length bytes)

-- the length of the manifest is missing, or some of its bytes are
abbrev pub IsCut : List ℕ → Type 0
IsCut bytes = (length bytes < 17) ⊎ ((size : ℕ) × (size < 2 ^ 64) × StandsAt bytes 9 (to_le_bytes w64 size) × (17 ≤ length bytes) × (length bytes < 17 + size))

-- the file of the greater number among those whose gate is open is cut
pub record IsCutVersion (half : Half) (image : Image) : Type 0 where
  pub n : ℕ
  pub number : n < 2 ^ 64
  pub open_gate : StandsAt (image (file_of half)) 0 (1 ∷ to_le_bytes w64 n)
  pub older : IsClosed (image (file_of (other_of half))) ⊎ IsOpenBelow (limit_of half n) (image (file_of (other_of half)))
  pub cut : IsCut (image (file_of half))

-- The damage of two version files, in the order in which it is looked for: a file without a gate, the first one first; no gate
-- that is open; an open gate without its number, the first file first; a newest version that is cut.
pub data IsDamaged (image : Image) : (file at : ℕ) → Type 0 where
  NoFirst : HasNoGate (image 2) → IsDamaged image 2 0
  NoSecond : 0 < length (image 2) → HasNoGate (image 3) → IsDamaged image 3 0
  NoneOpen : IsClosed (image 2) → IsClosed (image 3) → IsDamaged image 2 0
  FirstShort : HasNoNumber (image 2) → 0 < length (image 3) → IsDamaged image 2 (length (image 2))
  SecondShort : HasItsNumber (image 2) → HasNoNumber (image 3) → IsDamaged image 3 (length (image 3))
  Cut : (half : Half) → IsCutVersion half image → IsDamaged image (file_of half) (length (image (file_of half)))
