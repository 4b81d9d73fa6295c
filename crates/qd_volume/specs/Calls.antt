-- What each call does to a volume that tells what it holds.
use Rattle.std.specs.Prelude.{◌≡◌, ◌⊎◌, ℕ, ◌-◌, min, List, ◌++◌, length, take, drop, Option, None, Some, Result, Ok, Err}
use Rattle.qd_volume.specs.Files.{Cut, Spoiled, Synced, Uncut, Wrote}
use Rattle.qd_volume.specs.Disk.{Disk, changed, reads_of}

-- What a volume shows at a moment.
pub record Storage : Type 0 where
  -- the changes that were made to it, where it tells them
  pub disk : Option Disk
  -- how many of its calls have failed
  pub faults : ℕ

-- n bytes of a file are read from a place on: as many as are there, and as the buffer has room for
pub record GivesBytes (bytes : List ℕ) (at : ℕ) (before after : List ℕ) (n : ℕ) : Type 0 where
  pub most : n ≡ min (length before) (length bytes - at)
  -- what is behind them in the buffer stays
  pub buffer : after ≡ take n (drop at bytes) ++ drop n before

-- a read of a told volume; after a fault the buffer is left open
abbrev pub ReadsAt : {E : Type 0} → Option Disk → ℕ → ℕ → List ℕ → List ℕ → Result ℕ E → Type 0
ReadsAt None file at before after result = Unit {0}
ReadsAt (Some disk) file at before after (Ok n) = GivesBytes (reads_of disk file) at before after n
ReadsAt (Some disk) file at before after (Err fault) = Unit {0}

-- the length of a file of a told volume
abbrev pub Measures : {E : Type 0} → Option Disk → ℕ → Result ℕ E → Type 0
Measures None file result = Unit {0}
Measures (Some disk) file (Ok n) = n ≡ length (reads_of disk file)
Measures (Some disk) file (Err fault) = Unit {0}

-- A write to a told volume. One that fails may have been begun: it has named its range then, and left any bytes in it.
abbrev pub WritesAt : {T E : Type 0} → Option Disk → Option Disk → ℕ → ℕ → List ℕ → Result T E → Type 0
WritesAt None now file at bytes result = now ≡ None
WritesAt (Some disk) now file at bytes (Ok done) = now ≡ Some (changed disk file (Wrote at bytes))
WritesAt (Some disk) now file at bytes (Err fault) = (now ≡ Some disk) ⊎ ((left : List ℕ) × (now ≡ Some (changed disk file (Spoiled at (length bytes) left))))

-- A cut of a told volume's file, or its removal, which cuts it to 0. One that fails may have been begun, and may have been done.
abbrev pub Cuts : {T E : Type 0} → Option Disk → Option Disk → ℕ → ℕ → Result T E → Type 0
Cuts None now file len result = now ≡ None
Cuts (Some disk) now file len (Ok done) = now ≡ Some (changed disk file (Cut len))
Cuts (Some disk) now file len (Err fault) = (now ≡ Some disk) ⊎ (now ≡ Some (changed disk file (Uncut len))) ⊎ (now ≡ Some (changed disk file (Cut len)))

-- a sync of a told volume's file; of one that fails nothing is known
abbrev pub Syncs : {T E : Type 0} → Option Disk → Option Disk → ℕ → Result T E → Type 0
Syncs None now file result = now ≡ None
Syncs (Some disk) now file (Ok done) = now ≡ Some (changed disk file Synced)
Syncs (Some disk) now file (Err fault) = now ≡ Some disk
