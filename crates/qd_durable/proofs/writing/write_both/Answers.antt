use Rattle.std.proofs.Common.{refl}
use Rattle.std.proofs.lemmas.Result.{err_from_is_err_and}
use Rattle.qd_io.specs.declared.fault.IoFault.{IoFault}
use Rattle.qd_durable.proofs.Writes.{both_first_failed, both_second_failed, both_synced}
use Rattle.qd_durable.proofs.writing.write_both.Goals as goal

pub returns-in_err-write_at-clause-told : goal.returns-in_err-write_at-clause-told
returns-in_err-write_at-clause-told g c =
    let p = err_from_is_err_and c.from_residual.result c.from_residual.ensures.1 in
    rw p.1 (both_first_failed (Unit {0}) (Unit {0}) IoFault c.args.file c.args.at c.args.front.now c.args.back.now _ _ c.in_err-write_at.field-0.0 p.0 c.in_err-write_at.ensures.told)

pub returns-in_err-write_at-2-clause-told : goal.returns-in_err-write_at-2-clause-told
returns-in_err-write_at-2-clause-told g c =
    let p = err_from_is_err_and c.from_residual-in_err-write_at-2.result c.from_residual-in_err-write_at-2.ensures.1 in
    rw p.1 (both_second_failed (Unit {0}) (Unit {0}) IoFault c.args.file c.args.at c.args.front.now c.args.back.now _ _ _ c.in_ok-write_at.field-0 _ c.in_err-write_at-2.field-0.0 p.0 refl c.in_ok-write_at.ensures.told c.in_err-write_at-2.ensures.told)

pub returns-clause-told : goal.returns-clause-told
returns-clause-told g c =
    both_synced (Unit {0}) (Unit {0}) IoFault c.args.file c.args.at c.args.front.now c.args.back.now _ _ _ _ c.in_ok-write_at.field-0 c.in_ok-write_at-2.field-0 _ c.sync.result refl c.in_ok-write_at.ensures.told c.in_ok-write_at-2.ensures.told c.sync.ensures.told
