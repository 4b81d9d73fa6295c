use Rattle.std.proofs.lemmas.Result.{err_from_is_err_and}
use Rattle.qd_io.specs.declared.fault.IoFault.{IoFault}
use Rattle.qd_durable.proofs.Writes.{through_failed, through_synced}
use Rattle.qd_durable.proofs.writing.write_through.Goals as goal

pub returns-in_err-write_at-clause-told : goal.returns-in_err-write_at-clause-told
returns-in_err-write_at-clause-told g c =
    let p = err_from_is_err_and c.from_residual.result c.from_residual.ensures.1 in
    rw p.1 (through_failed (Unit {0}) (Unit {0}) IoFault c.args.file c.args.at c.args.bytes.now _ _ c.in_err-write_at.field-0.0 p.0 c.in_err-write_at.ensures.told)

pub returns-clause-told : goal.returns-clause-told
returns-clause-told g c =
    through_synced (Unit {0}) (Unit {0}) IoFault c.args.file c.args.at c.args.bytes.now _ _ _ c.in_ok-write_at.field-0 c.sync.result c.in_ok-write_at.ensures.told c.sync.ensures.told
