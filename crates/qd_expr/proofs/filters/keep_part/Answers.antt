use Rattle.std.proofs.Common.{◌<◌, ◌≡◌, ◌∙◌, ap, length, arith}
use Rattle.qd_rows.specs.Sets.{ResultRows}
use Rattle.qd_expr.proofs.FilterLemmas.{cut_there, cut_taken, cut_passed, part_ended}
use Rattle.qd_expr.proofs.filters.keep_part.Goals as goal

pub push_run-requires-clause-single : goal.push_run-requires-clause-single
push_run-requires-clause-single g c = ap (λ (s : ResultRows). s.right) c.loop-from.invariant.0 ∙ c.requires.single

pub push_run-requires-clause-there : goal.push_run-requires-clause-there
push_run-requires-clause-there g c =
    cut_there c.args.kept.now c.loop-from.kept c.args.part c.loop-from.from c.end_of-to.result c.loop-from.invariant.0 c.requires.there c.end_of-to.ensures.more (omega (arith, c.end_of-to.ensures.within, c.requires.size))

pub loop-from-preserved-in_ok-push_run : goal.loop-from-preserved-in_ok-push_run
loop-from-preserved-in_ok-push_run g c =
    cut_taken c.args.kept.now c.loop-from.kept c.push_run.new.self c.args.part c.args.found.now c.loop-from.from c.end_of-to.result c.end_of-to.ensures.more c.end_of-to.ensures.within c.requires.size c.end_of-to.ensures.same c.if-passes.true c.in_ok-push_run.ensures.ok c.loop-from.invariant

pub loop-from-preserved : goal.loop-from-preserved
loop-from-preserved g c =
    cut_passed c.args.kept.now c.loop-from.kept c.args.part c.args.found.now c.loop-from.from c.end_of-to.result c.end_of-to.ensures.more c.end_of-to.ensures.within c.requires.size c.end_of-to.ensures.same c.if-passes.false c.loop-from.invariant

pub returns : goal.returns
returns g c = record { ok = part_ended c.args.kept.now c.loop-from.kept c.args.part c.args.found.now c.loop-from.from c.loop-from.invariant (omega arith) }
