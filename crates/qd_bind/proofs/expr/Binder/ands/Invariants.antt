use Rattle.std.proofs.Common.{◌≡◌, drop, map}
use Rattle.qd_meaning.specs.Binding.{typed_and_neg}
use Rattle.qd_bind.specs.Joined.{joined}
use Rattle.qd_bind.specs.Scoped.{scope}
use Rattle.qd_bind.specs.Steps.{junction_of}
use Rattle.qd_bind.proofs.expr.Binder.ands.Given as goal

abbrev pub invariant-loop-part : goal.invariant-loop-part
invariant-loop-part g l =
    joined l.found (map (typed_and_neg (scope l.self.columns.now)) (drop l.part-index l.parts)) ≡ joined (junction_of l.fn.first) (map (typed_and_neg (scope l.self.columns.now)) l.parts)
