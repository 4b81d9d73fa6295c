use Rattle.std.proofs.Common.{◌≡◌, map, replicate}
use Rattle.qd_base.specs.declared.cell.Cell.TheVariants as cell
use Rattle.qd_value.specs.Scalars.{cell_of}
use Rattle.qd_sample.proofs.filling.all_null.Given as goal

-- the keys so far
abbrev pub invariant-loop : goal.invariant-loop
invariant-loop l = map (λ c. map cell_of c.items) l.all.items ≡ replicate l.counter (replicate l.aggs cell.Null)
