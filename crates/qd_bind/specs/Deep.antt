-- What is known where an expression nests too deep.
use Rattle.std.specs.Prelude.{Result, Ok, Err}
use Rattle.qd_bind.specs.declared.fault.BindFault.{BindFault}
use Rattle.qd_bind.specs.declared.fault.BindFault.TheVariants as fault

abbrev pub OnTooDeep : {A : Type 0} → Result A BindFault → Type 0 → Type 0
OnTooDeep (Ok made) P = Unit {0}
OnTooDeep (Err fault.Memory) P = Unit {0}
OnTooDeep (Err fault.TooDeep) P = P
