-- What a crash leaves of an entry that is put, and of all else: at every moment of the call, and behind it.
use Rattle.std.specs.Prelude.{◌≡◌, ◌⊎◌, ℕ, ◌+◌, ◌≤◌, false, nat_eq, List, length, take, Result}
use Rattle.qd_base.specs.declared.part.WalRef.{WalRef}
use Rattle.qd_volume.specs.Disk.{Disk, Image, reads_of}
use Rattle.qd_durable.specs.Moments.{Moves, SameBut, Touches}
use Rattle.qd_durable.specs.Writing.{AreDurable}
use Rattle.qd_wal.specs.Segments.{file_in}

-- two images have the same bytes in all files but one, and in that one below a place
pub record SameBelow (file at : ℕ) (earlier image : Image) : Type 0 where
  pub others : SameBut (nat_eq file) earlier image
  pub below : take at (image file) ≡ take at (earlier file)

-- Bytes are put at a place of a log.
pub record Puts {T E : Type 0} (result : Result T E) (at : WalRef) (bytes : List ℕ) (before after : Disk) : Type 0 where
  -- each image of the call is one from before it, but for the range of the bytes, and for what lies behind the segment's end
  pub touches : Touches (file_in at) at.start (length bytes) before after
  -- and below the place it is one from before it to the byte, where the segment read as long as that
  pub below : at.start ≤ length (reads_of before (file_in at)) → Moves (SameBelow (file_in at) at.start) before after
  -- after an Ok each image has the bytes at the place
  pub durable : AreDurable result after (file_in at) at.start bytes

-- an entry lies in another file than a place, or ends in front of it
abbrev pub IsApart : WalRef → WalRef → Type 0
IsApart at entry = (nat_eq (file_in at) (file_in entry) ≡ false) ⊎ (entry.start + entry.len ≤ at.start)
