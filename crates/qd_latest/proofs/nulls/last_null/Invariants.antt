use Rattle.std.proofs.Common.{◌≡◌, ℕ, ◌<◌, ◌≤◌, length}
use Rattle.qd_base.specs.declared.cell.Cell.TheVariants as cell
use Rattle.qd_latest.specs.Chains.{cells_of}
use Rattle.qd_latest.specs.Walks.{cell_in}
use Rattle.qd_latest.proofs.nulls.last_null.Given as goal

-- none from a row on
abbrev pub invariant-loop-end : goal.invariant-loop-end
invariant-loop-end g l = record {
  within : l.end ≤ length l.rows.places;
  none : (k : ℕ) → l.end ≤ k → k < length l.rows.places → cell_in (cells_of l.rows l.at) k ≡ cell.Null → ⊥;
}

abbrev pub decreases-loop-end : goal.decreases-loop-end
decreases-loop-end g l = l.end
