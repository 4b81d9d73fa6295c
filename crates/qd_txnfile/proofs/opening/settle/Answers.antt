use Rattle.std.proofs.lemmas.Result.{err_from_is_err_and}
use Rattle.qd_io.specs.declared.fault.IoFault.{IoFault}
use Rattle.qd_txnfile.proofs.Settled.{settle_both, settle_failed}
use Rattle.qd_txnfile.proofs.opening.settle.Goals as goal

pub returns-in_err-sync-clause-told : goal.returns-in_err-sync-clause-told
returns-in_err-sync-clause-told g c =
    let p = err_from_is_err_and c.from_residual.result c.from_residual.ensures.1 in
    rw p.1 (settle_failed (Unit {0}) (Unit {0}) IoFault _ _ c.in_err-sync.field-0.0 p.0 c.in_err-sync.ensures.told)

pub returns-clause-told : goal.returns-clause-told
returns-clause-told g c = settle_both (Unit {0}) (Unit {0}) IoFault _ _ _ c.in_ok-sync.field-0 c.sync-2.result c.in_ok-sync.ensures.told c.sync-2.ensures.told
