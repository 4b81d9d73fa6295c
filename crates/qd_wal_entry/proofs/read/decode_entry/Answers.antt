use Rattle.std.proofs.Common.{arith}
use Rattle.qd_wal_entry.proofs.Entries.{entry_takes, not_spelled}
use Rattle.qd_wal_entry.proofs.read.decode_entry.Goals as goal

pub returns-in-Ok-clause-spelled : goal.returns-in-Ok-clause-spelled
returns-in-Ok-clause-spelled c = entry_takes c.args.bytes.now c.in-Ok.entry (λ i. omega (arith, c.type_inv.bytes i)) c.in-Ok.ensures.read

pub returns-in-Err-Damage-clause-unspelled : goal.returns-in-Err-Damage-clause-unspelled
returns-in-Err-Damage-clause-unspelled c = λ e spelled. not_spelled c.args.bytes.now c.in-Err-Damage.left e (rw c.in-Err-Damage.field-0-is at c.in-Err-Damage.ensures.read) spelled
