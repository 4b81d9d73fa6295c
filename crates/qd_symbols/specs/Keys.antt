-- The texts that keys of bytes are.
use Rattle.std.specs.Prelude.{ℕ, ◌≤◌, ◌^◌, List, length, map, Vec}
use Rattle.std.specs.declared.alloc.Global.{Global}
use Rattle.qd_base.specs.Dictionary.{AreDistinct}

-- the bytes of each key
abbrev pub texts_of_keys : List (Vec ℕ Global) → List (List ℕ)
texts_of_keys keys = map (λ k. k.items) keys

-- texts that may be those of a dictionary
pub record AreTexts (texts : List (List ℕ)) : Type 0 where
  pub distinct : AreDistinct texts
  pub few : length texts ≤ 2 ^ 63
