-- Bytes that stand in others.
use Rattle.std.specs.Prelude.{◌≡◌, ℕ, List, length, take, drop}

-- some bytes stand in others at a place
abbrev pub StandsAt : List ℕ → ℕ → List ℕ → Type 0
StandsAt bytes at part = take (length part) (drop at bytes) ≡ part
