use Rattle.std.proofs.Common.{◌≡◌, ℕ, ◌<◌, true, is_some}
use Rattle.qd_catalog.specs.Versions.{version_at}
use Rattle.qd_versions.proofs.catalog.has_free_row.Given as goal

abbrev pub invariant-loop-row : goal.invariant-loop-row
invariant-loop-row l = (k : ℕ) → k < l.row → is_some (version_at l.catalog k) ≡ true
