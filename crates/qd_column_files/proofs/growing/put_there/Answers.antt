use Rattle.std.proofs.Common.{Option, subst, arith}
use Rattle.std.proofs.lemmas.Result.{err_from_is_err_and}
use Rattle.qd_durable.specs.Moments.{Told}
use Rattle.qd_io.specs.declared.fault.IoFault.{IoFault}
use Rattle.qd_volume.specs.Disk.{Disk}
use Rattle.qd_column_files.specs.Calls.{PutsFile}
use Rattle.qd_column_files.proofs.GrowLemmas.{reach_there, still_unput}
use Rattle.qd_column_files.proofs.growing.put_there.Goals as goal

pub put_file-requires : goal.put_file-requires
put_file-requires g c = record { reach = reach_there IoFault _ _ c.args.file c.in_ok-len.field-0 c.args.at c.in_ok-len.ensures.stays c.in_ok-len.ensures.told (omega arith) }

pub returns-in_err-len-clause-told : goal.returns-in_err-len-clause-told
returns-in_err-len-clause-told g c =
    let p = err_from_is_err_and c.from_residual.result c.from_residual.ensures.1 in
    rw p.1 (still_unput (Unit {0}) IoFault _ _ c.args.file c.args.at c.args.bytes.now p.0 c.in_err-len.ensures.stays)

pub returns-then-branch-at-clause-told : goal.returns-then-branch-at-clause-told
returns-then-branch-at-clause-told g c = still_unput (Unit {0}) IoFault _ _ c.args.file c.args.at c.args.bytes.now _ c.in_ok-len.ensures.stays

pub returns-clause-told : goal.returns-clause-told
returns-clause-told g c = subst (λ (o : Option Disk). Told o (g.V.Volume.storage c.put_file.new.volume).disk (PutsFile {T = Unit {0}} {E = IoFault} c.put_file.result c.args.file c.args.at c.args.bytes.now)) c.in_ok-len.ensures.stays c.put_file.ensures.told
