-- Function values that give the refusal that is answered for a part of a statement.
use Rattle.std.specs.Prelude.{◌≡◌, List, Option}
use Rattle.std.specs.Borrow.{Bor}
use Rattle.qd_meaning.specs.declared.refusal.Refusal.{Refusal}
use Rattle.qd_meaning.specs.Refusals.{least}

-- the least of the refusals that a part meets
pub record JudgesBy {T : Type 0} (faults : T → List Refusal) (post : Bor T → Option Refusal → Type 0) : Type 0 where
  pub judges : (x : Bor T) (r : Option Refusal) → post x r → r ≡ least (faults x.now)
