use Rattle.std.proofs.Common.{◌≡◌, ◌-◌, map}
use Rattle.std.specs.Prelude.{fold}
use Rattle.std.specs.List.{range_with_len}
use Rattle.qd_group.specs.Tallied.{state_of}
use Rattle.qd_group.specs.Tallies.{next}
use Rattle.qd_group.proofs.SumLemmas.{taken}
use Rattle.qd_group.proofs.tallying.after_rows.Given as goal

-- the tally of the rows so far
abbrev pub invariant-loop-i : goal.invariant-loop-i
invariant-loop-i g l = state_of l.after ≡ fold next (state_of l.fn.tally) (map (λ i. taken l.agg l.rows (l.run.block, i)) (range_with_len l.run.from (l.i - l.run.from)))
