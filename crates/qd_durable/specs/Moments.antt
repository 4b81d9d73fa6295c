-- What a call may leave at each moment inside it and behind it, as facts of the images of a volume.
use Rattle.std.specs.Prelude.{◌≡◌, ◌⊎◌, ℕ, ◌+◌, ◌<◌, ◌≤◌, Bool, false, nat_eq, Option, None, Some, length, slice_index}
use Rattle.qd_volume.specs.Disk.{Disk, Image, images_now, images_since, moment}

-- What a call makes of a told volume. One that tells nothing goes on to tell nothing.
abbrev pub Told : Option Disk → Option Disk → (Disk → Disk → Type 0) → Type 0
Told None now Change = now ≡ None
Told (Some before) now Change = (after : Disk) × (now ≡ Some after) × Change before after

-- a fact of each image that a crash may leave now
abbrev pub EachNow : Disk → (Image → Type 0) → Type 0
EachNow disk P = (image : Image) → images_now disk image → P image

-- A crash at any moment of a call leaves only images of which a fact holds.
pub record LeavesOnly (before after : Disk) (P : Image → Type 0) : Type 0 where
  pub later : moment before ≤ moment after
  -- from the call's first moment on
  pub each : (image : Image) → images_since after (moment before) image → P image
  -- for a run that began earlier
  pub joined : (start : ℕ) (image : Image) → start ≤ moment before → images_since after start image → images_since before start image ⊎ P image

-- an image stands to one from before a call in some relation
abbrev pub ComesFrom : (Image → Image → Type 0) → Disk → Image → Type 0
ComesFrom R before image = (earlier : Image) × images_now before earlier × R earlier image

-- Each image of a call stands to one from before it in some relation: those of each moment, and those behind the call.
pub record Moves (R : Image → Image → Type 0) (before after : Disk) : Type 0 where
  pub moments : LeavesOnly before after (ComesFrom R before)
  pub now : EachNow after (ComesFrom R before)

-- two images have the same bytes in each file but some
abbrev pub SameBut : (ℕ → Bool) → Image → Image → Type 0
SameBut touched earlier image = (file : ℕ) → touched file ≡ false → image file ≡ earlier file

-- Two images have the same bytes but for so many bytes of one file from a place on, and what lies behind the end of the
-- earlier one.
pub record SameOutside (file at size : ℕ) (earlier image : Image) : Type 0 where
  pub others : SameBut (nat_eq file) earlier image
  pub longer : length (earlier file) ≤ length (image file)
  pub same : (place : ℕ) → place < length (earlier file) → (place < at) ⊎ (at + size ≤ place) → slice_index (image file) place ≡ slice_index (earlier file) place

-- a call changes nothing but so many bytes of one file from a place on
abbrev pub Touches : ℕ → ℕ → ℕ → Disk → Disk → Type 0
Touches file at size before after = Moves (SameOutside file at size) before after

-- a call leaves only images that one before it might have left, at each moment of it and behind it
abbrev pub LeavesEarlier : Disk → Disk → Type 0
LeavesEarlier before after = Moves (SameBut (λ file. false)) before after
