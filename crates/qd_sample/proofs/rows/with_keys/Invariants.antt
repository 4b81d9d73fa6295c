use Rattle.std.proofs.Common.{◌≡◌, ◌++◌, take}
use Rattle.qd_expr.specs.Passing.{row_in}
use Rattle.qd_meaning.specs.Grouped.{key_of}
use Rattle.qd_sample.proofs.rows.with_keys.Given as goal

-- the keys so far
abbrev pub invariant-loop-key : goal.invariant-loop-key
invariant-loop-key g l = l.row ≡ l.fn.row ++ key_of (take l.key-index l.keys) (row_in l.rows l.i)
