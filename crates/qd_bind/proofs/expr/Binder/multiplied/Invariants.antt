use Rattle.std.proofs.Common.{◌≡◌, drop, map}
use Rattle.qd_meaning.specs.Binding.{typed_mul_signed}
use Rattle.qd_bind.specs.Joined.{chained}
use Rattle.qd_bind.specs.Scoped.{scope}
use Rattle.qd_bind.specs.Steps.{chain_of}
use Rattle.qd_bind.proofs.expr.Binder.multiplied.Given as goal

abbrev pub invariant-loop-part : goal.invariant-loop-part
invariant-loop-part g l =
    chained l.found (map (typed_mul_signed (scope l.self.columns.now)) (drop l.part-index l.parts)) ≡ chained (chain_of l.fn.first) (map (typed_mul_signed (scope l.self.columns.now)) l.parts)
