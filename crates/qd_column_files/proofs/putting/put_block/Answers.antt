use Rattle.std.proofs.Common.{◌∙◌, refl, arith}
use Rattle.std.proofs.lemmas.Result.{err_from_is_err_and}
use Rattle.qd_io.specs.declared.fault.IoFault.{IoFault}
use Rattle.qd_column_files.proofs.PutLemmas.{all_put, more_put, none_put, some_failed}
use Rattle.qd_column_files.proofs.putting.put_block.Goals as goal

pub loop-col-init : goal.loop-col-init
loop-col-init g c = record {
  told = none_put (Unit {0}) IoFault c.args.block c.args.of.now _;
  counted = refl;
  few = omega arith;
}

pub loop-col-preserved : goal.loop-col-preserved
loop-col-preserved g c =
    let low = c.is_whole.ensures.whole.few in
    record {
      told = more_put (Unit {0}) IoFault c.args.block c.args.of.now c.loop-col.col _ _ _ c.in_ok-put_column.field-0 (omega arith) c.loop-col.invariant.told c.in_ok-put_column.ensures.told;
      counted = c.in_ok-put_column.ensures.counted ∙ c.loop-col.invariant.counted;
      few = omega arith;
    }

pub returns-in_err-put_column-clause-told : goal.returns-in_err-put_column-clause-told
returns-in_err-put_column-clause-told g c =
    let low = c.is_whole.ensures.whole.few in
    let p = err_from_is_err_and c.from_residual.result c.from_residual.ensures.1 in
    rw p.1 (some_failed (Unit {0}) IoFault c.args.block c.args.of.now c.loop-col.col _ _ _ c.in_err-put_column.field-0.0 p.0 (omega arith) c.loop-col.invariant.told c.in_err-put_column.ensures.told)

pub returns-clause-told : goal.returns-clause-told
returns-clause-told g c = all_put (Unit {0}) IoFault c.args.block c.args.of.now c.loop-col.col _ _ tt (omega arith) c.loop-col.invariant.told
