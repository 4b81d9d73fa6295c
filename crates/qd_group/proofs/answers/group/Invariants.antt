use Rattle.std.proofs.Common.{◌≡◌, map}
use Rattle.std.specs.List.{range_with_len}
use Rattle.qd_group.proofs.Assembly.{row_of_group}
use Rattle.qd_group.proofs.answers.group.Given as goal

-- the rows of the groups so far
abbrev pub invariant-loop-n : goal.invariant-loop-n
invariant-loop-n g l = l.made ≡ map (row_of_group l.spec.keys l.spec.aggs l.groups.numbers.items l.groups.firsts.items l.rows) (range_with_len 0 l.n)
