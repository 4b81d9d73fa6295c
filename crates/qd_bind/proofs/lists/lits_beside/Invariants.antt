use Rattle.std.proofs.Common.{◌≡◌, drop, map, fold}
use Rattle.qd_bind.specs.Listed.{constant, listing}
use Rattle.qd_bind.specs.Steps.{listed_on}
use Rattle.qd_bind.proofs.lists.lits_beside.Given as goal

abbrev pub invariant-loop-lit : goal.invariant-loop-lit
invariant-loop-lit l = fold listed_on l.found (map (constant l.class) (drop l.lit-index l.lits)) ≡ listing l.class l.lits
