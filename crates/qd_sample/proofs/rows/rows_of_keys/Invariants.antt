use Rattle.std.proofs.Common.{◌≡◌, All, [], fold, length, map, replicate}
use Rattle.std.specs.List.{range_with_len}
use Rattle.qd_base.specs.declared.cell.Cell.TheVariants as cell
use Rattle.qd_value.specs.Scalars.{cell_of}
use Rattle.qd_sample.specs.Cells.{with_bucket}
use Rattle.qd_sample.proofs.rows.rows_of_keys.Given as goal

-- the rows of the buckets so far, and the cells of the last one
abbrev pub invariant-loop-b : goal.invariant-loop-b
invariant-loop-b g l =
    (length l.cells.items ≡ length l.heads.firsts.now)
    × (All (λ c. length c.items ≡ length l.fills) l.cells.items)
    × ((l.made, map (λ c. map cell_of c.items) l.cells.items) ≡ fold (with_bucket l.heads.rows.now l.heads.keys.now l.heads.firsts.now (map (λ c. map cell_of c.items) l.columns) l.keys l.fills l.starts (map (λ v. v.items) l.lists)) ([], replicate (length l.heads.firsts.now) (replicate (length l.fills) cell.Null)) (range_with_len 0 l.b))
