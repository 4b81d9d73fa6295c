use Rattle.qd_latest.proofs.LastLemmas.{IsKept}
use Rattle.qd_latest.proofs.rows.keep_last.Given as goal

-- the rows so far that stand last
abbrev pub invariant-loop-i : goal.invariant-loop-i
invariant-loop-i g l = IsKept l.rows l.numbers l.last l.kept l.i
