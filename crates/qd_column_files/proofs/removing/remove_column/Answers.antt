use Rattle.std.proofs.Common.{◌≡◌, ℕ, Option, Result, Err, Ok, subst}
use Rattle.std.proofs.lemmas.Result.{err_from_is_err_and}
use Rattle.qd_io.specs.declared.fault.IoFault.{IoFault}
use Rattle.qd_volume.specs.Calls.{Cuts}
use Rattle.qd_volume.specs.Disk.{Disk}
use Rattle.qd_column_files.proofs.RemoveLemmas.{both_removed, first_failed}
use Rattle.qd_column_files.proofs.removing.remove_column.Goals as goal

at_file : (old new : Option Disk) (file other : ℕ) (result : Result (Unit {0}) IoFault) → file ≡ other → Cuts {T = Unit {0}} {E = IoFault} old new file 0 result → Cuts {T = Unit {0}} {E = IoFault} old new other 0 result
at_file old new file other result is cuts = subst (λ f. Cuts {T = Unit {0}} {E = IoFault} old new f 0 result) is cuts

pub returns-in_err-remove-clause-told : goal.returns-in_err-remove-clause-told
returns-in_err-remove-clause-told g c =
    let p = err_from_is_err_and c.from_residual.result c.from_residual.ensures.1 in
    rw p.1 (first_failed (Unit {0}) IoFault c.args.block c.args.col _ _ c.in_err-remove.field-0.0 p.0 (at_file _ _ _ _ (Err c.in_err-remove.field-0.0) c.column_file.ensures.number c.in_err-remove.ensures.told))

pub returns-clause-told : goal.returns-clause-told
returns-clause-told g c =
    both_removed (Unit {0}) IoFault c.args.block c.args.col _ _ _ c.in_ok-remove.field-0 c.remove-2.result
    (at_file _ _ _ _ (Ok c.in_ok-remove.field-0) c.column_file.ensures.number c.in_ok-remove.ensures.told)
    (at_file _ _ _ _ c.remove-2.result c.column_file-2.ensures.number c.remove-2.ensures.told)
