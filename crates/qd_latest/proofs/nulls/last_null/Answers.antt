use Rattle.std.proofs.Common.{length, arith}
use Rattle.qd_latest.specs.Chains.{cells_of}
use Rattle.qd_latest.proofs.NullLemmas.{none_before, none_there, one_there}
use Rattle.qd_latest.proofs.nulls.last_null.Goals as goal

pub loop-end-preserved : goal.loop-end-preserved
loop-end-preserved g c = record {
  within = omega (arith, c.last_part-part.ensures.ends, c.loop-end.invariant.within);
  none = none_before (cells_of c.args.rows.now c.args.at) c.last_part-part.result.before c.loop-end.end (length c.args.rows.now.places) c.null_of_part.result c.null_of_part.ensures c.in_default.not-Some c.loop-end.invariant.none;
}

pub returns-in-Some : goal.returns-in-Some
returns-in-Some g c =
    one_there (cells_of c.args.rows.now c.args.at) c.last_part-part.result.before c.loop-end.end (length c.args.rows.now.places) c.null_of_part.result c.in-Some.i c.loop-end.invariant.within c.null_of_part.ensures c.in-Some.is c.loop-end.invariant.none

pub returns : goal.returns
returns g c = none_there (cells_of c.args.rows.now c.args.at) c.loop-end.end (length c.args.rows.now.places) (omega (arith, c.loop-end-test.false)) c.loop-end.invariant.none
