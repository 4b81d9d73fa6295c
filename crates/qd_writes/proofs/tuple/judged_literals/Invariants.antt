use Rattle.std.proofs.Common.{◌≡◌, All, map, take}
use Rattle.std.specs.List.{flat_map, zip}
use Rattle.qd_meaning.specs.Refusals.{least}
use Rattle.qd_meaning.specs.Inserting.{literal_faults}
use Rattle.qd_writes.specs.Literals.{lent_cell, IsFit}
use Rattle.qd_writes.specs.Placing.{cells_of}
use Rattle.qd_writes.proofs.tuple.judged_literals.Given as goal

-- the literals so far
abbrev pub invariant-loop-place : goal.invariant-loop-place
invariant-loop-place l = record {
  found : l.found ≡ least (flat_map (literal_faults l.time_col) (take l.place (zip l.targets l.lits)));
  cells : map lent_cell l.views.items ≡ take l.place (cells_of l.targets l.lits);
  fit : All IsFit (map lent_cell l.views.items);
}
