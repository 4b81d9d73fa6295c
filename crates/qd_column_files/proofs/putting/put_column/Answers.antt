use Rattle.std.proofs.Common.{◌≡◌, ◌∙◌, ℕ, List, [], ◌∷◌, length, Option, Result, Err, Ok, refl, sym, subst, arith}
use Rattle.std.proofs.lemmas.Bool.{eqb-true}
use Rattle.std.proofs.lemmas.Result.{err_from_is_err_and}
use Rattle.qd_block.specs.Blocks.{column_in}
use Rattle.qd_durable.specs.Moments.{Told}
use Rattle.qd_io.specs.declared.fault.IoFault.{IoFault}
use Rattle.qd_volume.specs.Disk.{Disk}
use Rattle.qd_column_files.specs.Calls.{PutsFile}
use Rattle.qd_column_files.specs.Files.{column_file}
use Rattle.qd_column_files.proofs.PutLemmas.{aux_whole, column_alone, column_failed, column_put, column_unput, main_whole}
use Rattle.qd_column_files.proofs.putting.put_column.Goals as goal

-- the file and the bytes by their names
named : (old new : Option Disk) (file other : ℕ) (bytes same : List ℕ) (result : Result (Unit {0}) IoFault) → file ≡ other → bytes ≡ same → Told old new (PutsFile {T = Unit {0}} {E = IoFault} result file 0 bytes) → Told old new (PutsFile {T = Unit {0}} {E = IoFault} result other 0 same)
named old new file other bytes same result is are told =
    subst (λ f. Told old new (PutsFile {T = Unit {0}} {E = IoFault} result f 0 same)) is
    (subst (λ (l : List ℕ). Told old new (PutsFile {T = Unit {0}} {E = IoFault} result file 0 l)) are told)

none : (l : List ℕ) → length l ≡ 0 → l ≡ []
none [] e = refl
none (x ∷ xs) e = absurd (omega (arith, e))

pub returns-in_err-bytes-clause-told : goal.returns-in_err-bytes-clause-told
returns-in_err-bytes-clause-told g c =
    let p = err_from_is_err_and c.from_residual.result c.from_residual.ensures.1 in
    rw p.1 (column_unput (Unit {0}) IoFault c.args.block c.args.col (column_in c.args.of.now c.args.col) _ p.0)

pub returns-in_err-put_file-clause-told : goal.returns-in_err-put_file-clause-told
returns-in_err-put_file-clause-told g c =
    let p = err_from_is_err_and c.from_residual-in_err-put_file.result c.from_residual-in_err-put_file.ensures.1 in
    rw p.1
    (column_failed (Unit {0}) IoFault c.args.block c.args.col (column_in c.args.of.now c.args.col) _ _ c.in_err-put_file.field-0.0 p.0 c.in_ok-bytes.bytes.main
    (named _ _ c.column_file.result (column_file c.args.block c.args.col 0) c.bytes.result.now c.in_ok-bytes.bytes.main (Err c.in_err-put_file.field-0.0) c.column_file.ensures.number c.bytes.ensures.same c.in_err-put_file.ensures.told))

pub returns-then-is_empty-clause-told : goal.returns-then-is_empty-clause-told
returns-then-is_empty-clause-told g c =
    let column = column_in c.args.of.now c.args.col in
    let empty : c.bytes-2.result.now ≡ [] = none c.bytes-2.result.now (eqb-true (length c.bytes-2.result.now) 0 (sym c.is_empty.ensures ∙ c.if-is_empty.true)) in
    column_alone (Unit {0}) IoFault c.args.block c.args.col column _ _ c.in_ok-put_file.field-0 tt c.in_ok-bytes.bytes.main c.in_ok-bytes.bytes.aux c.in_ok-bytes.ensures.spelled
    (main_whole column c.in_ok-bytes.bytes.main c.in_ok-bytes.ensures.main)
    (aux_whole column c.in_ok-bytes.bytes.aux c.in_ok-bytes.ensures.aux)
    (sym c.bytes-2.ensures.same ∙ empty)
    (named _ _ c.column_file.result (column_file c.args.block c.args.col 0) c.bytes.result.now c.in_ok-bytes.bytes.main (Ok c.in_ok-put_file.field-0) c.column_file.ensures.number c.bytes.ensures.same c.in_ok-put_file.ensures.told)

pub returns-clause-told : goal.returns-clause-told
returns-clause-told g c =
    let column = column_in c.args.of.now c.args.col in
    column_put (Unit {0}) IoFault c.args.block c.args.col column _ _ _ c.in_ok-put_file.field-0 c.put_file-2.result c.in_ok-bytes.bytes.main c.in_ok-bytes.bytes.aux c.in_ok-bytes.ensures.spelled
    (main_whole column c.in_ok-bytes.bytes.main c.in_ok-bytes.ensures.main)
    (aux_whole column c.in_ok-bytes.bytes.aux c.in_ok-bytes.ensures.aux)
    (named _ _ c.column_file.result (column_file c.args.block c.args.col 0) c.bytes.result.now c.in_ok-bytes.bytes.main (Ok c.in_ok-put_file.field-0) c.column_file.ensures.number c.bytes.ensures.same c.in_ok-put_file.ensures.told)
    (named _ _ c.column_file-2.result (column_file c.args.block c.args.col 1) c.bytes-3.result.now c.in_ok-bytes.bytes.aux c.put_file-2.result c.column_file-2.ensures.number c.bytes-3.ensures.same c.put_file-2.ensures.told)
