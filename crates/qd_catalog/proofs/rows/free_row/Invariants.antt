use Rattle.std.proofs.Common.{◌≡◌, ℕ, ◌<◌, true, is_some, None, get_or}
use Rattle.qd_catalog.proofs.rows.free_row.Given as goal

-- the rows so far are live
abbrev pub invariant-loop-row : goal.invariant-loop-row
invariant-loop-row l = (k : ℕ) → k < l.row → is_some (get_or l.versions k None) ≡ true
