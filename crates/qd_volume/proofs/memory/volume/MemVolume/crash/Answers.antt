use Rattle.std.proofs.lemmas.Result.{IfOk-weaker}
use Rattle.qd_volume.proofs.Left.{image_left}
use Rattle.qd_volume.proofs.memory.volume.MemVolume.crash.Goals as goal

pub returns-clause-image : goal.returns-clause-image
returns-clause-image c = IfOk-weaker c.leave.result _ _ (λ volume left. image_left c.args.pick c.args.self.disk volume.disk left) c.leave.ensures.left
