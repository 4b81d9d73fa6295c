-- What a listener shows, and what each call does to it.
use Rattle.std.specs.Prelude.{◌≡◌, ℕ, Bool, true, false, List, [], ◌∷◌, Option, None, Some, Result, Ok, Err}
use Rattle.qd_io.specs.declared.fault.IoFault.{IoFault}

pub record Arrivals (W : Type 0) : Type 0 where
  -- the wires that calls may still give, where the listener tells them
  pub ahead : Option (List W)
  -- how many calls have failed
  pub faults : ℕ
  -- the last call answered that no wire comes any more
  pub closed : Bool

module _ {W : Type 0} where
  -- a call of a listener that tells its wires: it gives the first one; that none comes is answered only where none is left
  abbrev pub Arrives : Option (List W) → Option (List W) → Result (Option W) IoFault → Type 0
  Arrives None now result = Unit {0}
  Arrives (Some wires) now (Ok (Some wire)) = (rest : List W) × (wires ≡ wire ∷ rest) × (now ≡ Some rest)
  Arrives (Some wires) now (Ok None) = (wires ≡ []) × (now ≡ Some [])
  Arrives (Some wires) now (Err fault) = now ≡ Some wires

  -- whether this answer is that no wire comes any more
  abbrev pub closes : Result (Option W) IoFault → Bool
  closes (Ok None) = true
  closes (Ok (Some wire)) = false
  closes (Err fault) = false

  abbrev pub Closes : Bool → Result (Option W) IoFault → Type 0
  Closes closed result = closed ≡ closes result
