-- What is known of a file between two syncs, what a change makes of it, and what a crash may leave of it.
--
-- The changes are those of POSIX pwrite(), ftruncate(), unlink() and fdatasync() on regular files (The Open Group Base
-- Specifications, System Interfaces). POSIX leaves open what a crash does to bytes that no sync has reached: here they may be
-- any, and the file may end anywhere among them.
use Rattle.std.specs.Prelude.{◌≡◌, ℕ, ◌+◌, ◌-◌, ◌<◌, ◌≤◌, min, nat_le, nat_lt, Bool, false, ◌&&◌, List, [], ◌∷◌, ◌++◌, length, take, drop, replicate, slice_index}
use Rattle.std.specs.List.{list_any}

-- so many bytes of a file, from a place on
pub record Range : Type 0 where
  pub at : ℕ
  pub size : ℕ

-- A file at a moment.
pub record File : Type 0 where
  -- what a read gives; a file that was never written, or was removed, has no bytes
  pub reads : List ℕ
  -- what a read gave at its last sync that succeeded; no bytes before the first one
  pub synced : List ℕ
  -- its least length since then
  pub least : ℕ
  -- the ranges that writes have named since then, the last one first
  pub named : List Range

-- a file of which a crash leaves these bytes
abbrev pub settled : List ℕ → File
settled bytes = record { reads = bytes; synced = bytes; least = length bytes; named = [] }

-- What a call makes of one file.
pub data Change : Type 0 where
  -- these bytes were written at a place
  Wrote : (at : ℕ) (bytes : List ℕ) → Change
  -- a write of so many bytes failed, and left these from the start of its range on
  Spoiled : (at size : ℕ) (left : List ℕ) → Change
  -- it was cut to a length, or removed, which cuts it to 0
  Cut : (len : ℕ) → Change
  -- a cut or a removal failed, and wasn't done
  Uncut : (len : ℕ) → Change
  -- it was synced
  Synced : Change

-- the bytes of a file once others are written at a place: zeros fill a gap before them, and no bytes do nothing
abbrev pub written : List ℕ → ℕ → List ℕ → List ℕ
written bytes at [] = bytes
written bytes at (b ∷ more) = take at (bytes ++ replicate (at - length bytes) 0) ++ (b ∷ more) ++ drop (at + length (b ∷ more)) bytes

-- A write names its range, a cut takes the least length down, each whether it succeeds or not, and a sync settles the file.
abbrev pub after_change : File → Change → File
after_change file (Wrote at bytes) = record file { reads = written file.reads at bytes; named = record { at = at; size = length bytes } ∷ file.named }
after_change file (Spoiled at size left) = record file { reads = written file.reads at (take size left); named = record { at = at; size = size } ∷ file.named }
after_change file (Cut len) = record file { reads = take len file.reads; least = min file.least len }
after_change file (Uncut len) = record file { least = min file.least len }
after_change file Synced = settled file.reads

-- whether one of the ranges has the place
abbrev pub is_named : List Range → ℕ → Bool
is_named ranges place = list_any (λ range. nat_le range.at place && nat_lt place (range.at + range.size)) ranges

-- What a crash may leave of a file. Where nothing happened since the last sync it is what was synced.
pub record IsImageOf (file : File) (image : List ℕ) : Type 0 where
  pub long : file.least ≤ length image
  -- below the least length it has what was synced, but in the ranges that were named
  pub kept : (place : ℕ) → place < file.least → is_named file.named place ≡ false → slice_index image place ≡ slice_index file.synced place
  pub settled : file.named ≡ [] → file.least ≡ length file.synced → image ≡ file.synced
