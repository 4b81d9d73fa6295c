-- The laws of what calls leave.
use Rattle.std.specs.Prelude.{◌⊎◌, ℕ, ◌+◌, ◌≤◌, List, length}
use Rattle.qd_volume.specs.Disk.{Disk}
use Rattle.qd_durable.specs.Moments.{EachNow, LeavesOnly, Touches}
use Rattle.qd_durable.specs.Places.{StandsAt}

-- Two calls that touch a range, one behind the other, touch it.
abbrev pub CallsJoin : Type 0
CallsJoin = (a b c : Disk) (file at size : ℕ) → Touches file at size a b → Touches file at size b c → Touches file at size a c

-- A piece outside of the range that a call touches stays in each image, at every moment.
abbrev pub PiecesStay : Type 0
PiecesStay = (before after : Disk) (file from size at : ℕ) (part : List ℕ) → Touches file from size before after → (at + length part ≤ from) ⊎ (from + size ≤ at) → EachNow before (λ image. StandsAt (image file) at part) → LeavesOnly before after (λ image. StandsAt (image file) at part)

-- A call that touches a range touches each range around it.
abbrev pub RangesWiden : Type 0
RangesWiden = (file at size outer_at outer_size : ℕ) (before after : Disk) → outer_at ≤ at → at + size ≤ outer_at + outer_size → Touches file at size before after → Touches file outer_at outer_size before after
