use Rattle.std.proofs.Common.{◌<◌, ◌^◌, All, arith, subst}
use Rattle.std.proofs.lemmas.List.{take_all}
use Rattle.std.proofs.lemmas.List.Elements.{All-more}
use Rattle.qd_prepare.proofs.fits.are_low.Goals as goal

pub loop-key-preserved : goal.loop-key-preserved
loop-key-preserved c = All-more (λ k. k < 2 ^ 16) c.args.keys.now c.loop-key.key-index 0 c.loop-key-test.true c.loop-key.invariant (omega arith)

pub returns : goal.returns
returns c = record { low = subst (All (λ k. k < 2 ^ 16)) (take_all c.loop-key.key-index c.args.keys.now c.loop-key-test.false) c.loop-key.invariant }
