use Rattle.std.proofs.Common.{◌≡◌, ◌++◌, map, take}
use Rattle.qd_value.specs.Scalars.{cell_of}
use Rattle.qd_sample.specs.Cells.{group_row}
use Rattle.qd_sample.proofs.rows.push_groups.Given as goal

-- the rows of the groups so far
abbrev pub invariant-loop-group : goal.invariant-loop-group
invariant-loop-group g l = l.made ≡ l.fn.made ++ map (group_row l.heads.rows.now l.heads.keys.now l.heads.firsts.now (map (λ c. map cell_of c.items) l.columns) l.keys l.start) (take l.group-index l.groups)
