use Rattle.std.proofs.Common.{ap, ◌∙◌}
use Rattle.qd_score.proofs.score.Score.take.Goals as goal

pub try_take-requires-clause-seat : goal.try_take-requires-clause-seat
try_take-requires-clause-seat g c = c.loop.invariant.0

pub try_take-requires-clause-free : goal.try_take-requires-clause-free
try_take-requires-clause-free g c = ap (λ k. k.view.hold) c.loop.invariant.1 ∙ c.requires.free
