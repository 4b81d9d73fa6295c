use Rattle.std.proofs.Common.{◌≡◌, map, take}
use Rattle.qd_rows.specs.Sets.{rows_in}
use Rattle.qd_value.specs.Value.{value}
use Rattle.qd_group.specs.Keys.{lent}
use Rattle.qd_group.proofs.keys.keys_of.Given as goal

-- the keys of the rows so far
abbrev pub invariant-loop-i : goal.invariant-loop-i
invariant-loop-i g l = map lent l.keys.items ≡ map (value l.expr) (take l.i (rows_in l.rows))
