use Rattle.std.proofs.Common.{◌≡◌, ◌∙◌, ◌<◌, ◌≤◌, ap, arith, length}
use Rattle.qd_rows.specs.Sets.{ResultRows, IsRunOf}
use Rattle.qd_expr.proofs.FilterLemmas.{part_there, run_too, run_begun, run_next, run_ended}
use Rattle.qd_expr.proofs.RunLemmas.{length-run_truths}
use Rattle.qd_expr.proofs.filters.keep_run.Goals as goal

pub loop-from-init : goal.loop-from-init
loop-from-init g c = run_begun c.args.rows.now c.args.kept.now c.args.expr.now c.args.run c.requires.same (omega (arith, c.requires.there.some))

pub truths-requires : goal.truths-requires
truths-requires g c = part_there c.args.rows.now c.args.run c.part_of-part.result c.requires.there c.part_of-part.ensures.block (omega (arith, c.part_of-part.ensures.begins, c.part_of-part.ensures.some)) c.part_of-part.ensures.within

pub keep_part-requires-clause-single : goal.keep_part-requires-clause-single
keep_part-requires-clause-single g c = ap (λ (s : ResultRows). s.right) c.loop-from.invariant.same ∙ c.requires.single

pub keep_part-requires-clause-there : goal.keep_part-requires-clause-there
keep_part-requires-clause-there g c =
    let there : IsRunOf c.args.rows.now c.part_of-part.result = part_there c.args.rows.now c.args.run c.part_of-part.result c.requires.there c.part_of-part.ensures.block (omega (arith, c.part_of-part.ensures.begins, c.part_of-part.ensures.some)) c.part_of-part.ensures.within in
    run_too c.args.rows.now c.loop-from.kept c.part_of-part.result c.loop-from.invariant.same there

pub keep_part-requires-clause-size : goal.keep_part-requires-clause-size
keep_part-requires-clause-size g c = ap length (c.as_slice.ensures.value ∙ c.in_ok-found.ensures.truths) ∙ length-run_truths c.args.expr.now c.args.rows.now c.part_of-part.result

pub loop-from-preserved : goal.loop-from-preserved
loop-from-preserved g c =
    run_next c.args.rows.now c.args.kept.now c.loop-from.kept c.keep_part.new.kept c.args.expr.now c.args.run c.part_of-part.result c.as_slice.result.now c.loop-from.from c.loop-from.invariant c.part_of-part.ensures.block c.part_of-part.ensures.begins
    (omega (arith, c.part_of-part.ensures.begins, c.part_of-part.ensures.some)) c.part_of-part.ensures.within (c.as_slice.ensures.value ∙ c.in_ok-found.ensures.truths) c.in_ok-keep_part.ensures.ok

pub returns : goal.returns
returns g c = record { ok = run_ended c.args.rows.now c.args.kept.now c.loop-from.kept c.args.expr.now c.args.run c.loop-from.from c.loop-from.invariant (omega arith) }
