-- A volume is files that are known by numbers. What it holds is told by the changes that were made to it.
use Rattle.std.specs.Prelude.{◌⊎◌, ℕ, ◌≤◌, nat_eq, cond, List, [], ◌∷◌, length}
use Rattle.qd_volume.specs.Files.{Change, File, IsImageOf, after_change, settled}

-- a change to one of the files
pub record Call : Type 0 where
  pub file : ℕ
  pub change : Change

-- The changes that were made to a volume, the last one first. Before them each file has no bytes.
abbrev pub Disk : Type 0
Disk = List Call

-- a volume after one more change
abbrev pub changed : Disk → ℕ → Change → Disk
changed disk file change = record { file = file; change = change } ∷ disk

-- one of its files
abbrev pub file_of : Disk → ℕ → File
file_of [] file = settled []
file_of (call ∷ before) file = cond (nat_eq call.file file) (after_change (file_of before file) call.change) (file_of before file)

-- the bytes of each file
abbrev pub Image : Type 0
Image = ℕ → List ℕ

-- what reads give
abbrev pub reads_of : Disk → Image
reads_of disk file = (file_of disk file).reads

-- what a crash now may leave: of each file one of its images
abbrev pub images_now : Disk → Image → Type 0
images_now disk image = (file : ℕ) → IsImageOf (file_of disk file) (image file)

-- the moment, as the number of changes so far
abbrev pub moment : Disk → ℕ
moment disk = length disk

-- What a crash at some moment from one on might have left: what it may leave now, and what it might have left since that moment
-- before the last change. A crash inside a call leaves what one before the call might have left or what one after it may leave,
-- since a write names its range, and a cut its length, as it begins.
abbrev pub images_since : Disk → ℕ → Image → Type 0
images_since [] start image = images_now [] image
images_since (call ∷ before) start image = images_now (call ∷ before) image ⊎ ((start ≤ moment before) × images_since before start image)
