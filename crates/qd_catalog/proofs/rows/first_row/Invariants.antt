use Rattle.std.proofs.Common.{◌≡◌, ◌∷◌, ◌-◌, None, Some, replicate}
use Rattle.qd_catalog.proofs.rows.first_row.Given as goal

-- the version, and the rows so far without one
abbrev pub invariant-loop : goal.invariant-loop
invariant-loop l = l.versions.items ≡ Some l.fn.version ∷ replicate (l.counter - 1) None
