use Rattle.std.proofs.Common.{◌≡◌, map}
use Rattle.std.specs.List.{flat_map, range_with_len}
use Rattle.qd_value.specs.Scalars.{cell_of}
use Rattle.qd_sample.specs.Cells.{bucket_rows}
use Rattle.qd_sample.proofs.rows.rows_of_groups.Given as goal

-- the rows of the buckets so far
abbrev pub invariant-loop-b : goal.invariant-loop-b
invariant-loop-b g l = l.made ≡ flat_map (bucket_rows l.heads.rows.now l.heads.keys.now l.heads.firsts.now (map (λ c. map cell_of c.items) l.columns) l.keys l.starts (map (λ v. v.items) l.lists)) (range_with_len 0 l.b)
