use Rattle.std.proofs.Common.{◌∙◌, sym}
use Rattle.qd_ilp.proofs.Growing.{grows_by, grows_twice}
use Rattle.qd_ilp.proofs.Cuts.{few_more, closed_more, closed_done, closed_over}
use Rattle.qd_ilp.proofs.cut.push_closed_escaped.Goals as goal

pub loop-i-preserved : goal.loop-i-preserved
loop-i-preserved c = record {
  so_far = closed_more c.loop-i.plain c.escapes_quoted-plain.result c.loop-i.i c.args.text.now c.behind-in-loop-i.result.now c.loop-i.bytes.items _ _ c.loop-i-test.true c.behind-in-loop-i.ensures.rest
      (sym c.is_closing.ensures.closing ∙ c.if-is_closing.false) c.escapes_quoted-plain.ensures.escapes c.in_ok-push_unless.ensures.pushed c.loop-i.invariant.so_far;
  few = few_more _ _ c.escapes_quoted-plain.result c.loop-i.i _ _ c.in_ok-push_unless.ensures.pushed c.loop-i.invariant.few;
  grows = grows_twice _ _ _ c.loop-i.invariant.grows (grows_by _ _ _ c.in_ok-push_unless.ensures.pushed);
}

pub returns-then-is_closing-clause-closed : goal.returns-then-is_closing-clause-closed
returns-then-is_closing-clause-closed c =
    closed_done c.loop-i.plain c.loop-i.i c.args.text.now c.behind.result.now c.loop-i.bytes.items _ c.loop-i-test.true c.behind.ensures.rest (sym c.is_closing.ensures.closing ∙ c.if-is_closing.true) c.loop-i.invariant.so_far

pub returns-clause-closed : goal.returns-clause-closed
returns-clause-closed c = closed_over c.loop-i.plain c.loop-i.i c.args.text.now c.loop-i.bytes.items _ c.loop-i-test.false c.loop-i.invariant.so_far
