use Rattle.std.proofs.Common.{◌≡◌, ◌∙◌, ◌+◌, List, [], ◌∷◌, ◌++◌, length, Err, IfSome, sym, ap, subst, arith}
use Rattle.std.proofs.lemmas.List.{length_push}
use Rattle.std.proofs.lemmas.Result.{err_from_is_err_and}
use Rattle.qd_column_format.specs.Tails.{Behind}
use Rattle.qd_durable.specs.declared.fault.LogFault.{LogFault}
use Rattle.qd_volume.specs.Disk.{reads_of}
use Rattle.qd_column_files.specs.Growing.{IsTailRead}
use Rattle.qd_column_files.proofs.TailReads.{AreTails, all_read, failed_read, more_read}
use Rattle.qd_column_files.proofs.growing.read_tail.Goals as goal

pub returns-in_err-tail-clause-told : goal.returns-in_err-tail-clause-told
returns-in_err-tail-clause-told g c =
    let p = err_from_is_err_and c.from_residual-in_err-tail.result c.from_residual-in_err-tail.ensures.1 in
    let s = c.args.schema.now in
    let inv = c.loop-col.invariant in
    rw p.1
    (subst (λ (f : LogFault). IfSome (g.V.Volume.storage c.args.volume.now).disk (λ disk. IsTailRead (Err f) s c.args.part (reads_of disk))) (sym p.2)
    (failed_read s c.args.part c.requires.part c.loop-col.col c.loop-col-test.true _ _ c.in_err-tail.field-0.0 inv.stays c.in_err-tail.ensures.told))

pub loop-col-preserved : goal.loop-col-preserved
loop-col-preserved g c =
    let s = c.args.schema.now in
    let p = c.args.part in
    let inv = c.loop-col.invariant in
    let t = c.in_ok-tail.tail in
    let pushed : c.push.new.self.items ≡ c.loop-col.columns.items ++ t ∷ [] = c.in_ok-push.ensures.items in
    record {
      count = ap (λ (ts : List Behind). length ts) pushed ∙ length_push c.loop-col.columns.items t ∙ ap (λ n. n + 1) inv.count;
      few = omega arith;
      told = subst (λ (ts : List Behind). IfSome (g.V.Volume.storage c.args.volume.now).disk (λ disk. AreTails s p ts (reads_of disk))) (sym pushed) (more_read s p c.loop-col.col _ _ c.loop-col.columns.items t inv.stays inv.count inv.told c.in_ok-tail.ensures.told);
      stays = c.in_ok-tail.ensures.stays ∙ inv.stays;
      counted = c.in_ok-tail.ensures.counted ∙ inv.counted;
    }

pub returns-clause-told : goal.returns-clause-told
returns-clause-told g c =
    let inv = c.loop-col.invariant in
    let all : length c.loop-col.columns.items ≡ c.args.part.cols = omega arith in
    all_read c.args.schema.now c.args.part _ c.loop-col.columns.items all inv.told
