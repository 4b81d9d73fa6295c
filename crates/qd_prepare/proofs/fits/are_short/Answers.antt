use Rattle.std.proofs.Common.{All, List, ℕ, subst}
use Rattle.std.proofs.lemmas.List.{take_all}
use Rattle.std.proofs.lemmas.List.Elements.{All-more}
use Rattle.qd_fields.specs.Spelling.{FitsColumn, FitsName}
use Rattle.qd_prepare.proofs.fits.are_short.Goals as goal

pub loop-col-preserved : goal.loop-col-preserved
loop-col-preserved c =
    All-more FitsColumn c.args.cols.now c.loop-col.col-index c.col-item.result c.loop-col-test.true c.loop-col.invariant
    (subst FitsColumn c.col-item.is (subst FitsName c.bytes.ensures.same c.if-not-is_short.ensures.short))

pub returns : goal.returns
returns c = record { short = subst (All FitsColumn) (take_all c.loop-col.col-index c.args.cols.now c.loop-col-test.false) c.loop-col.invariant }
