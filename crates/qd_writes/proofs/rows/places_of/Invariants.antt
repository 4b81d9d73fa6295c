use Rattle.std.proofs.Common.{◌≤◌, length}
use Rattle.qd_writes.proofs.PlaceLemmas.{MarksFrom}
use Rattle.qd_writes.proofs.rows.places_of.Given as goal

-- the places from here to the end
abbrev pub invariant-loop-place : goal.invariant-loop-place
invariant-loop-place l = record {
  low : l.place ≤ length l.targets;
  marks : MarksFrom l.targets l.count l.place l.places.items;
}

abbrev pub decreases-loop-place : goal.decreases-loop-place
decreases-loop-place l = l.place
