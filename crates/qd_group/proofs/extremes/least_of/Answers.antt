use Rattle.std.proofs.Common.{◌∙◌, ℤ, arith, ap, take}
use Rattle.std.specs.Int.{w64}
use Rattle.std.specs.Prelude.{fold}
use Rattle.std.proofs.lemmas.Int.{to_z-of_z}
use Rattle.std.proofs.lemmas.List.{take_all}
use Rattle.std.proofs.lemmas.List.Sums.{fold_more}
use Rattle.qd_group.specs.Tallies.{lesser}
use Rattle.qd_group.proofs.extremes.least_of.Goals as goal

pub loop-number-preserved : goal.loop-number-preserved
loop-number-preserved c = grind (arith, to_z-of_z, fold_more)

pub returns : goal.returns
returns c =
    c.loop-number.invariant
    ∙ ap (λ (z : ℤ). fold lesser z (take c.loop-number.number-index c.args.numbers.now)) (to_z-of_z w64 c.args.first c.ranges.first)
    ∙ ap (fold lesser c.args.first) (take_all c.loop-number.number-index c.args.numbers.now (omega arith))
