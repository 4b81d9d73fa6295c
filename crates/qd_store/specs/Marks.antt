-- The mark of a store: file 0.
use Rattle.std.specs.Prelude.{[], ◌∷◌, Bool, true, false, Result, Ok, Err}
use Rattle.qd_durable.specs.Moments.{EachNow, Touches}
use Rattle.qd_durable.specs.Places.{StandsAt}
use Rattle.qd_volume.specs.Disk.{Disk, Image}

-- the store is made: its mark has a byte, and the first is 1
abbrev pub IsMade : Image → Type 0
IsMade image = StandsAt (image 0) 0 (1 ∷ [])

-- after an Ok each image has the mark
abbrev pub IsMarked : {T E : Type 0} → Result T E → Disk → Type 0
IsMarked (Ok done) after = EachNow after IsMade
IsMarked (Err fault) after = Unit {0}

-- The mark is written: nothing but its byte changes.
pub record Marks {T E : Type 0} (result : Result T E) (before after : Disk) : Type 0 where
  pub touches : Touches 0 0 1 before after
  pub marked : IsMarked result after

-- whether the store is made, as the mark reads
abbrev pub IsLooked : Bool → Image → Type 0
IsLooked true image = IsMade image
IsLooked false image = IsMade image → ⊥
