use Rattle.std.proofs.Common.{◌<◌, nat_eq, get_or, sym, ◌∙◌, true≢false, arith}
use Rattle.std.proofs.lemmas.List.{get_or_default}
use Rattle.qd_base.proofs.Lists.{IsDistinct-nil}
use Rattle.qd_base.proofs.Taken.{IsDistinct-more, All-taken, fails}
use Rattle.qd_base.proofs.KeyPlaces.{differs, stands_twice}
use Rattle.qd_base.proofs.dedup.are_columns.Goals as goal
use Rattle.qd_base.proofs.dedup.are_columns.Goals.{then-key-columns-via-then-key-columns, then-key-columns-via-else-key-columns+then-is_among}

pub loop-i-init : goal.loop-i-init
loop-i-init c = (λ k d lt. omega arith, IsDistinct-nil nat_eq)

pub returns-then-key-columns : goal.returns-then-key-columns
returns-then-key-columns c = record {
  columns = fails (λ h. elim c.then-key-columns.branch [
    | then-key-columns-via-then-key-columns w ↦ let within : get_or c.args.keys.now c.loop-i.i 0 < c.args.columns = h.0 c.loop-i.i 0 c.loop-i-test.true in omega arith
    | then-key-columns-via-else-key-columns+then-is_among w ↦ stands_twice c.args.keys.now c.loop-i.i c.loop-i-test.true h.1 (w.is_among.ensures.among.0 w.if-is_among.true)
  ]);
}

pub loop-i-preserved : goal.loop-i-preserved
loop-i-preserved c = (
  All-taken (λ k. k < c.args.columns) c.args.keys.now c.loop-i.i (get_or c.args.keys.now c.loop-i.i 0) c.loop-i-test.true
      (get_or_default c.args.keys.now c.loop-i.i 0 (get_or c.args.keys.now c.loop-i.i 0) c.loop-i-test.true) c.loop-i.invariant.0 c.if-key-columns.false,
  IsDistinct-more nat_eq c.args.keys.now c.loop-i.i 0 c.loop-i-test.true c.loop-i.invariant.1
      (λ k below. differs c.args.keys.now c.loop-i.i k c.loop-i-test.true below (λ h. true≢false (sym (c.is_among.ensures.among.1 h) ∙ c.if-is_among.false))),
)
