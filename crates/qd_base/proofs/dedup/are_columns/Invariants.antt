use Rattle.std.proofs.Common.{◌<◌, All, nat_eq, take}
use Rattle.std.specs.List.{IsDistinct}
use Rattle.qd_base.proofs.dedup.are_columns.Given as goal

abbrev pub invariant-loop-i : goal.invariant-loop-i
invariant-loop-i l = All (λ k. k < l.columns) (take l.i l.keys) × IsDistinct nat_eq (take l.i l.keys)
