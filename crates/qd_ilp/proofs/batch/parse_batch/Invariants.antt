use Rattle.std.proofs.Common.{◌-◌, ◌≤◌, length, drop}
use Rattle.qd_ilp.specs.Cut.{Grows}
use Rattle.qd_ilp.proofs.Wholes.{Step}
use Rattle.qd_ilp.proofs.batch.parse_batch.Given as goal

abbrev pub invariant-loop-at : goal.invariant-loop-at
invariant-loop-at l = record {
  step : Step l.text l.bytes.items l.pairs.items l.rows.items l.behind l.number (drop l.at l.text);
  begins : Grows l.text l.bytes.items;
  inside : l.at ≤ length l.text;
}

abbrev pub decreases-loop-at : goal.decreases-loop-at
decreases-loop-at l = length l.text - l.at
