use Rattle.std.proofs.lemmas.Result.{err_from_is_err_and}
use Rattle.qd_seq.proofs.ToldLemmas.{create_done_told, create_failed_told}
use Rattle.qd_seq.proofs.log.SeqLog.create.Goals as goal

pub returns-in_err-write_through-clause-told : goal.returns-in_err-write_through-clause-told
returns-in_err-write_through-clause-told g c =
    let p = err_from_is_err_and c.from_residual.result c.from_residual.ensures.1 in
    rw p.1 (create_failed_told c.empty_log.result c.empty_log.ensures.bytes _ _ _ c.in_err-write_through.field-0.0 p.0 c.in_err-write_through.ensures.told)

pub returns-clause-told : goal.returns-clause-told
returns-clause-told g c = create_done_told c.empty_log.result c.empty_log.ensures.bytes _ _ c.in_ok-write_through.field-0 _ c.in_ok-write_through.ensures.told
