use Rattle.std.proofs.Common.{◌≡◌, ◌-◌, drop, length}
use Rattle.qd_bind.specs.Steps.{behind, negated}
use Rattle.qd_bind.proofs.steps.behind_minuses.Given as goal

abbrev pub invariant-loop-turn : goal.invariant-loop-turn
invariant-loop-turn l = l.found ≡ behind negated l.fn.x (drop (length l.signs - l.turn) l.signs)
