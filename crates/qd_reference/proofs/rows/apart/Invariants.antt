use Rattle.std.proofs.Common.{◌≡◌, nat_le, nat_lt, filter, take}
use Rattle.qd_base.specs.Rows.{time_of}
use Rattle.qd_reference.proofs.rows.apart.Given as goal

-- the rows so far, apart by their times
abbrev pub invariant-loop-other : goal.invariant-loop-other
invariant-loop-other l =
    (l.up_to ≡ filter (λ x. nat_le (time_of l.time_col x) l.time) (take l.other-index l.other-items))
    × (l.later ≡ filter (λ x. nat_lt l.time (time_of l.time_col x)) (take l.other-index l.other-items))
