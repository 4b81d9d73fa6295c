use Rattle.std.proofs.lemmas.Result.{err_from_is_err_and}
use Rattle.qd_base.specs.declared.part.WalRef.{WalRef}
use Rattle.qd_io.specs.declared.fault.IoFault.{IoFault}
use Rattle.qd_wal.proofs.Below.{put_done_told, put_failed_told}
use Rattle.qd_wal.proofs.writer.WalWriter.put.Goals as goal

pub returns-in_err-write_through-clause-told : goal.returns-in_err-write_through-clause-told
returns-in_err-write_through-clause-told g c =
    let p = err_from_is_err_and c.from_residual.result c.from_residual.ensures.1 in
    rw p.1 (put_failed_told (Unit {0}) WalRef IoFault _ c.next-at.result c.args.bytes.now _ c.segment_file.ensures.number c.next-at.ensures.place _ _ c.in_err-write_through.field-0.0 p.0 c.in_err-write_through.ensures.told)

pub returns-clause-told : goal.returns-clause-told
returns-clause-told g c = put_done_told (Unit {0}) WalRef IoFault _ c.next-at.result c.args.bytes.now _ c.segment_file.ensures.number c.next-at.ensures.place _ _ c.in_ok-write_through.field-0 c.next-at.result c.in_ok-write_through.ensures.told
