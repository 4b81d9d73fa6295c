use Rattle.std.proofs.Common.{arith}
use Rattle.qd_manifest.proofs.ManifestLaws.{manifest_takes, not_spelled}
use Rattle.qd_manifest.proofs.read.read_manifest.Goals as goal

pub returns-in-Ok-clause-spelled : goal.returns-in-Ok-clause-spelled
returns-in-Ok-clause-spelled c = manifest_takes c.args.n c.args.bytes.now c.in-Ok.manifest (λ i. omega (arith, c.type_inv.bytes i)) c.in-Ok.ensures.read

pub returns-in-Err-Damage-clause-unspelled : goal.returns-in-Err-Damage-clause-unspelled
returns-in-Err-Damage-clause-unspelled c = λ m spelled. not_spelled c.args.n c.args.bytes.now c.in-Err-Damage.left m (rw c.in-Err-Damage.field-0-is at c.in-Err-Damage.ensures.read) spelled
