use Rattle.std.proofs.Common.{◌≡◌, ℕ, ◌<◌, Some, slice_get}
use Rattle.qd_base.specs.declared.schema.Col.{Col}
use Rattle.qd_base.specs.Schemas.{column_at}
use Rattle.qd_bind.proofs.side.are_apart.Given as goal

abbrev pub invariant-loop-i : goal.invariant-loop-i
invariant-loop-i l = (k : ℕ) (c : Col) → k < l.i → slice_get l.cols k ≡ Some c → column_at l.cols c.name ≡ Some k
