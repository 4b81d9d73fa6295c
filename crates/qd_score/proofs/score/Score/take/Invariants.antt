use Rattle.std.proofs.Common.{◌≡◌}
use Rattle.qd_score.specs.Calls.{IsSeatOf, known_by}
use Rattle.qd_score.proofs.score.Score.take.Given as goal

abbrev pub invariant-loop : goal.invariant-loop
invariant-loop g l = IsSeatOf g.B.Booked.blocks l.self.table.shared.table_id l.seat × (known_by l.seat ≡ known_by l.initial.seat)
