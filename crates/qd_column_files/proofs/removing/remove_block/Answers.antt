use Rattle.std.proofs.Common.{◌∙◌, refl, arith}
use Rattle.std.proofs.lemmas.Result.{err_from_is_err_and}
use Rattle.qd_io.specs.declared.fault.IoFault.{IoFault}
use Rattle.qd_column_files.proofs.RemoveLemmas.{all_removed, more_removed, none_removed, some_left}
use Rattle.qd_column_files.proofs.removing.remove_block.Goals as goal

pub loop-col-init : goal.loop-col-init
loop-col-init g c = record {
  told = none_removed (Unit {0}) IoFault c.args.block _;
  counted = refl;
  few = omega arith;
}

pub loop-col-preserved : goal.loop-col-preserved
loop-col-preserved g c = record {
  told = more_removed (Unit {0}) IoFault c.args.block c.loop-col.col _ _ _ c.in_ok-remove_column.field-0 (omega arith) c.loop-col.invariant.told c.in_ok-remove_column.ensures.told;
  counted = c.in_ok-remove_column.ensures.counted ∙ c.loop-col.invariant.counted;
  few = omega arith;
}

pub returns-in_err-remove_column-clause-told : goal.returns-in_err-remove_column-clause-told
returns-in_err-remove_column-clause-told g c =
    let p = err_from_is_err_and c.from_residual.result c.from_residual.ensures.1 in
    rw p.1 (some_left (Unit {0}) IoFault c.args.block c.loop-col.col _ _ _ c.in_err-remove_column.field-0.0 p.0 (omega arith) c.loop-col.invariant.told c.in_err-remove_column.ensures.told)

pub returns-clause-told : goal.returns-clause-told
returns-clause-told g c = all_removed (Unit {0}) IoFault c.args.block c.loop-col.col _ _ tt (omega arith) c.loop-col.invariant.told
