use Rattle.std.proofs.Common.{◌≡◌, ◌++◌, map}
use Rattle.std.specs.List.{range_with_len}
use Rattle.qd_value.specs.Scalars.{cell_of}
use Rattle.qd_sample.specs.Cells.{key_row}
use Rattle.qd_sample.proofs.rows.push_keys.Given as goal

-- the rows of the keys so far
abbrev pub invariant-loop-k : goal.invariant-loop-k
invariant-loop-k g l = l.made ≡ l.fn.made ++ map (key_row l.heads.rows.now l.heads.keys.now l.heads.firsts.now (map (λ c. map cell_of c.items) l.cells) l.start) (range_with_len 0 l.k)
