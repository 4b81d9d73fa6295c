-- How an answer says what a statement does. Want of memory says nothing.
use Rattle.std.specs.Prelude.{◌≡◌, Result, Ok, Err}
use Rattle.qd_base.specs.declared.op.Entry.{Entry}
use Rattle.qd_meaning.specs.declared.refusal.Refusal.{Refusal}
use Rattle.qd_writes.specs.declared.check.StmtFault.{StmtFault}
use Rattle.qd_writes.specs.declared.check.StmtFault.TheVariants as fault

-- the transaction, or the code and the place of the refusal
abbrev pub Answers : Result Entry StmtFault → Result Entry Refusal → Type 0
Answers (Ok entry) wanted = wanted ≡ Ok entry
Answers (Err fault.Memory) wanted = Unit {0}
Answers (Err (fault.Refused code place)) wanted = wanted ≡ Err (record { code = code; place = place })
