use Rattle.std.proofs.Common.{arith}
use Rattle.std.proofs.lemmas.Result.{err_from_is_err_and}
use Rattle.qd_txnfile.specs.Calls.{initial}
use Rattle.qd_txnfile.proofs.ToldLemmas.{create_done_told, create_failed_told, create_not_begun_told}
use Rattle.qd_txnfile.proofs.root.TxnFile.create.Goals as goal

pub returns-in_err-write_both-clause-told : goal.returns-in_err-write_both-clause-told
returns-in_err-write_both-clause-told g c =
    let p = err_from_is_err_and c.from_residual.result c.from_residual.ensures.1 in
    rw p.1 (create_not_begun_told (initial c.args.manifest.now) c.head_of-head.result c.head_of-head.ensures.bytes (omega arith) (omega arith) _ _ c.in_err-write_both.field-0.0 p.0 c.in_err-write_both.ensures.told)

pub returns-in_err-write_through-clause-told : goal.returns-in_err-write_through-clause-told
returns-in_err-write_through-clause-told g c =
    let p = err_from_is_err_and c.from_residual-in_err-write_through.result c.from_residual-in_err-write_through.ensures.1 in
    rw p.1 (create_failed_told (initial c.args.manifest.now) c.head_of-head.result c.head_of-head.ensures.bytes (omega arith) (omega arith) _ _ _ c.in_ok-write_both.field-0 c.in_err-write_through.field-0.0 p.0 c.in_ok-write_both.ensures.told c.in_err-write_through.ensures.told)

pub returns-clause-told : goal.returns-clause-told
returns-clause-told g c =
    rw c.found.ensures.root (create_done_told (initial c.args.manifest.now) c.head_of-head.result c.head_of-head.ensures.bytes (omega arith) (omega arith) _ _ _ c.in_ok-write_both.field-0 c.in_ok-write_through.field-0 c.in_ok-write_both.ensures.told c.in_ok-write_through.ensures.told)
