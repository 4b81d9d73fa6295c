-- The image that a crash of a volume in memory leaves.
use Rattle.std.specs.Prelude.{◌≡◌, ℕ, zero, suc, ◌+◌, ◌<◌, nat_le, nat_lt, Bool, not, ◌&&◌, cond, List, length, slice_index}
use Rattle.qd_volume.specs.Files.{File, Range, is_named, settled}

-- whether a place of a file has what was synced, whatever a crash leaves
abbrev pub is_kept : File → ℕ → Bool
is_kept file place = nat_lt place file.least && not (is_named file.named place)

-- as long as the file reads, with the bytes that a crash keeps, and 255 elsewhere
pub record IsFilled (file : File) (image : List ℕ) : Type 0 where
  pub long : length image ≡ length file.reads
  pub each : (place : ℕ) → place < length image → slice_index image place ≡ cond (is_kept file place) (slice_index file.reads place) 255

-- What is left of a file by the number that picks it: 0 leaves what was synced, 1 what it reads.
abbrev pub IsLeft : ℕ → File → List ℕ → Type 0
IsLeft zero file image = image ≡ file.synced
IsLeft (suc zero) file image = image ≡ file.reads
IsLeft (suc (suc more)) file image = IsFilled file image

-- a file after a crash: its image, all of it on the disk
pub record IsAfterCrash (pick : ℕ) (before after : File) : Type 0 where
  pub left : IsLeft pick before after.reads
  pub durable : after ≡ settled after.reads

-- so many bytes from a place on are 255, and the others stay
pub record Fills (old : List ℕ) (at size : ℕ) (new : List ℕ) : Type 0 where
  pub long : length new ≡ length old
  pub each : (place : ℕ) → place < length old → slice_index new place ≡ cond (nat_le at place && nat_lt place (at + size)) 255 (slice_index old place)

-- what lies behind a least length or in one of the ranges is 255, and the others stay
pub record FillsLost (old : List ℕ) (least : ℕ) (ranges : List Range) (new : List ℕ) : Type 0 where
  pub long : length new ≡ length old
  pub each : (place : ℕ) → place < length old → slice_index new place ≡ cond (nat_lt place least && not (is_named ranges place)) (slice_index old place) 255
