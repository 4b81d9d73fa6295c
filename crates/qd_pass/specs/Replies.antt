-- What an apply is answered.
use Rattle.std.specs.Prelude.{◌≡◌, ℕ, Result, Ok, Err, OnOk}
use Rattle.qd_base.specs.Codes.{number_of}
use Rattle.qd_base.specs.declared.code.Code.TheVariants as code
use Rattle.qd_base.specs.declared.request.Reply.{Reply}
use Rattle.qd_base.specs.declared.request.Reply.TheVariants as reply
use Rattle.qd_shared.specs.declared.rounds.RoundFault.{RoundFault}
use Rattle.qd_shared.specs.declared.rounds.RoundFault.TheVariants as fault

abbrev pub RepliesWith : {E : Type 0} → Result ℕ RoundFault → Result Reply E → Type 0
RepliesWith (Ok n) given = given ≡ Ok (reply.Applied n)
RepliesWith (Err fault.Vol) given = given ≡ Ok (reply.Refused (number_of code.Volume) 0)
RepliesWith (Err (fault.Damaged file at)) given = given ≡ Ok (reply.Damaged file at)
RepliesWith (Err fault.NoRow) given = given ≡ Ok (reply.Refused (number_of code.NoRow) 0)
RepliesWith (Err fault.Memory) given = OnOk given ⊥
