use Rattle.std.proofs.Common.{take}
use Rattle.qd_value.specs.declared.bound.Bound.TheVariants as is
use Rattle.qd_value.specs.Value.{passes}
use Rattle.qd_query.specs.Intervals.{Catches}
use Rattle.qd_query.specs.Times.{AreAllowed, IsFrom, IsTo, TermsAllow}
use Rattle.qd_query.proofs.interval.times_of_all.Given as goal

-- a row that passes all parts has one of the times found so far, which the parts so far allow
abbrev pub invariant-loop-part : goal.invariant-loop-part
invariant-loop-part l = record {
  caught : Catches (passes (is.All l.parts)) l.col l.found.lo l.found.hi;
  allowed : AreAllowed (TermsAllow IsFrom l.col (take l.part-index l.parts)) (TermsAllow IsTo l.col (take l.part-index l.parts)) l.found.lo l.found.hi;
}
