use Rattle.std.proofs.Common.{◌≡◌, take}
use Rattle.qd_meaning.specs.Answer.{output_row}
use Rattle.qd_meaning.specs.Grouped.{key_of}
use Rattle.qd_rows.specs.Sets.{row_of_place}
use Rattle.qd_query.proofs.output.output_of.Given as goal

-- the values so far
abbrev pub invariant-loop-at : goal.invariant-loop-at
invariant-loop-at g l = l.made ≡ take l.at (output_row l.plan.picks l.plan.out (key_of l.exprs (row_of_place l.rows l.place)))
