use Rattle.std.proofs.Common.{◌∙◌, sym}
use Rattle.qd_ilp.proofs.Growing.{grows_by, grows_twice}
use Rattle.qd_ilp.proofs.Cuts.{few_more, cut_more, cut_done, cut_over}
use Rattle.qd_ilp.proofs.cut.push_escaped.Goals as goal

pub loop-i-preserved : goal.loop-i-preserved
loop-i-preserved c = record {
  so_far = cut_more c.loop-i.plain c.escapes-plain.result c.loop-i.i c.args.text.now c.behind-rest.result.now c.loop-i.bytes.items _ _ c.loop-i-test.true c.behind-rest.ensures.rest
      (sym c.stops.ensures.stops ∙ c.if-stops.false) c.escapes-plain.ensures.escapes c.in_ok-push_unless.ensures.pushed c.loop-i.invariant.so_far;
  few = few_more _ _ c.escapes-plain.result c.loop-i.i _ _ c.in_ok-push_unless.ensures.pushed c.loop-i.invariant.few;
  grows = grows_twice _ _ _ c.loop-i.invariant.grows (grows_by _ _ _ c.in_ok-push_unless.ensures.pushed);
}

pub returns-then-stops-clause-cut : goal.returns-then-stops-clause-cut
returns-then-stops-clause-cut c =
    cut_done c.loop-i.plain c.loop-i.i c.args.text.now c.behind-rest.result.now c.loop-i.bytes.items _ c.behind-rest.ensures.rest (sym c.stops.ensures.stops ∙ c.if-stops.true) c.loop-i.invariant.so_far

pub returns-clause-cut : goal.returns-clause-cut
returns-clause-cut c = cut_over c.loop-i.plain c.loop-i.i c.args.text.now c.behind.result.now c.loop-i.bytes.items _ c.loop-i-test.false c.behind.ensures.rest c.loop-i.invariant.so_far
