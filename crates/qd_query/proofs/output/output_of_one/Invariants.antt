use Rattle.std.proofs.Common.{◌≡◌, take}
use Rattle.qd_meaning.specs.Answer.{output_row}
use Rattle.qd_query.proofs.output.output_of_one.Given as goal

-- the values so far
abbrev pub invariant-loop-at : goal.invariant-loop-at
invariant-loop-at l = l.made ≡ take l.at (output_row l.plan.picks l.plan.out l.row)
