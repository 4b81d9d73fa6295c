use Rattle.std.proofs.Common.{◌≡◌, ◌-◌, drop, length}
use Rattle.qd_bind.specs.Steps.{behind, not_of}
use Rattle.qd_bind.proofs.steps.behind_nots.Given as goal

abbrev pub invariant-loop-turn : goal.invariant-loop-turn
invariant-loop-turn l = l.found ≡ behind not_of l.fn.x (drop (length l.words - l.turn) l.words)
