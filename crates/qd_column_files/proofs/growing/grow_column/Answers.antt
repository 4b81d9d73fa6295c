use Rattle.std.proofs.Common.{◌≡◌, ◌∙◌, ℕ, List, [], ◌∷◌, length, Err, Ok, refl, sym, arith}
use Rattle.std.proofs.lemmas.Bool.{eqb-true}
use Rattle.std.proofs.lemmas.Result.{err_from_is_err_and}
use Rattle.qd_io.specs.declared.fault.IoFault.{IoFault}
use Rattle.qd_column_files.specs.Files.{column_file}
use Rattle.qd_column_files.proofs.GrowLemmas.{behind_alone, behind_failed, behind_put, named_file}
use Rattle.qd_column_files.proofs.growing.grow_column.Goals as goal

none : (l : List ℕ) → length l ≡ 0 → l ≡ []
none [] e = refl
none (x ∷ xs) e = absurd (omega (arith, e))

pub returns-in_err-put_there-clause-told : goal.returns-in_err-put_there-clause-told
returns-in_err-put_there-clause-told g c =
    let p = err_from_is_err_and c.from_residual.result c.from_residual.ensures.1 in
    let bytes = c.args.bytes.now in
    rw p.1
    (behind_failed (Unit {0}) IoFault c.args.block c.args.col bytes _ _ c.in_err-put_there.field-0.0 p.0
    (named_file (Unit {0}) IoFault _ _ c.column_file.result (column_file c.args.block c.args.col 0) bytes.main_at c.bytes.result.now bytes.main (Err c.in_err-put_there.field-0.0) c.column_file.ensures.number c.bytes.ensures.same c.in_err-put_there.ensures.told))

pub returns-then-is_empty-clause-told : goal.returns-then-is_empty-clause-told
returns-then-is_empty-clause-told g c =
    let bytes = c.args.bytes.now in
    let empty : c.bytes-2.result.now ≡ [] = none c.bytes-2.result.now (eqb-true (length c.bytes-2.result.now) 0 (sym c.is_empty.ensures ∙ c.if-is_empty.true)) in
    behind_alone (Unit {0}) IoFault c.args.block c.args.col bytes _ _ c.in_ok-put_there.field-0 tt (sym c.bytes-2.ensures.same ∙ empty)
    (named_file (Unit {0}) IoFault _ _ c.column_file.result (column_file c.args.block c.args.col 0) bytes.main_at c.bytes.result.now bytes.main (Ok c.in_ok-put_there.field-0) c.column_file.ensures.number c.bytes.ensures.same c.in_ok-put_there.ensures.told)

pub returns-clause-told : goal.returns-clause-told
returns-clause-told g c =
    let bytes = c.args.bytes.now in
    behind_put (Unit {0}) IoFault c.args.block c.args.col bytes _ _ _ c.in_ok-put_there.field-0 c.put_there-2.result
    (named_file (Unit {0}) IoFault _ _ c.column_file.result (column_file c.args.block c.args.col 0) bytes.main_at c.bytes.result.now bytes.main (Ok c.in_ok-put_there.field-0) c.column_file.ensures.number c.bytes.ensures.same c.in_ok-put_there.ensures.told)
    (named_file (Unit {0}) IoFault _ _ c.column_file-2.result (column_file c.args.block c.args.col 1) bytes.aux_at c.bytes-3.result.now bytes.aux c.put_there-2.result c.column_file-2.ensures.number c.bytes-3.ensures.same c.put_there-2.ensures.told)
