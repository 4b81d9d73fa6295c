-- How a session reads the generated input.
use Rattle.std.specs.Prelude.{ℕ, ◌≤◌}
use Rattle.qd_base.specs.Script.{Ended}
use Rattle.qd_frames.specs.Frames.{Steps}
use Rattle.qd_gen.specs.Generated.{input, requests}

-- up to a million lines, as the requests that it was made of, the last of which is that for the end
abbrev pub IsReadAsAsked : Type 0
IsReadAsAsked = (number lines : ℕ) → lines ≤ 1000000 → Steps 0 (input number lines) (requests number lines) Ended
