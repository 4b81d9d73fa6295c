-- A listener over wires in memory: what it holds, and what each call does to it.
use Rattle.std.specs.Prelude.{◌≡◌, Bool, true, false, List, [], ◌∷◌, Option, None, Some, Result, Ok, Err}
use Rattle.qd_io.specs.declared.fault.IoFault.{IoFault}
use Rattle.qd_io.specs.declared.fault.IoFault.TheVariants.{Failed, Memory}
use Rattle.qd_io.specs.Memory.{Plan, fails_now, after_pass, after_failure}

pub record Waiting (W : Type 0) : Type 0 where
  pub ahead : List W
  pub plan : Plan
  pub closed : Bool

module _ {W : Type 0} where
  -- a listener to which nobody comes
  abbrev pub nobody : Waiting W
  nobody = record { ahead = []; plan = record { calls = 0; fails = []; failed = 0 }; closed = false }

  -- a call whose number is among those that fail
  pub record FailsWire (old new : Waiting W) : Type 0 where
    pub listed : fails_now old.plan ≡ true
    pub door : new ≡ record { ahead = old.ahead; plan = after_failure old.plan; closed = false }

  -- a call that gives the first wire
  pub record GivesWire (old new : Waiting W) (wire : W) : Type 0 where
    pub not_listed : fails_now old.plan ≡ false
    pub rest : List W
    pub first : old.ahead ≡ wire ∷ rest
    pub door : new ≡ record { ahead = rest; plan = after_pass old.plan; closed = false }

  -- a call that finds no wire
  pub record FindsNone (old new : Waiting W) : Type 0 where
    pub not_listed : fails_now old.plan ≡ false
    pub none_left : old.ahead ≡ []
    pub door : new ≡ record { ahead = []; plan = after_pass old.plan; closed = true }

  -- what a call of a listener over memory does to it: it never wants memory
  abbrev pub MemArrives : Waiting W → Waiting W → Result (Option W) IoFault → Type 0
  MemArrives old new (Ok (Some wire)) = GivesWire old new wire
  MemArrives old new (Ok None) = FindsNone old new
  MemArrives old new (Err Failed) = FailsWire old new
  MemArrives old new (Err Memory) = ⊥
