use Rattle.std.proofs.Common.{◌≡◌, ◌++◌, ℕ, List, false, take, drop}
use Rattle.qd_ilp.specs.Cut.{closed_behind}
use Rattle.qd_ilp.proofs.cut.unquoted_bytes.Given as goal

abbrev pub invariant-loop-i : goal.invariant-loop-i
invariant-loop-i l = (front : List ℕ) → closed_behind front false l.text ≡ closed_behind (front ++ take l.i l.text) false (drop l.i l.text)
