-- Bytes written into a file and waited for.
use Rattle.std.specs.Prelude.{◌≡◌, ℕ, List, ◌++◌, length, Result, Ok, Err}
use Rattle.qd_volume.specs.Disk.{Disk, reads_of}
use Rattle.qd_durable.specs.Moments.{EachNow, Touches}
use Rattle.qd_durable.specs.Places.{StandsAt}

-- the bytes stand in each image now, where the call did what it was asked
abbrev pub AreDurable : {T E : Type 0} → Result T E → Disk → ℕ → ℕ → List ℕ → Type 0
AreDurable (Ok done) after file at bytes = EachNow after (λ image. StandsAt (image file) at bytes)
AreDurable (Err fault) after file at bytes = Unit {0}

-- Bytes are written over those of a file from a place on: nothing else changes, and after an Ok each image has them.
pub record Overwrites {T E : Type 0} (result : Result T E) (file at : ℕ) (bytes : List ℕ) (before after : Disk) : Type 0 where
  pub touches : Touches file at (length bytes) before after
  pub durable : AreDurable result after file at bytes

-- A file is waited for: its content doesn't change, and after an Ok each image has what it reads.
abbrev pub IsSettled : {T E : Type 0} → Result T E → Disk → Disk → ℕ → Type 0
IsSettled (Ok done) before after file = EachNow after (λ image. image file ≡ reads_of before file)
IsSettled (Err fault) before after file = Unit {0}
