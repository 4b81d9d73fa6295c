use Rattle.std.proofs.Common.{ℕ, Err, sym, subst}
use Rattle.std.proofs.lemmas.Result.{err_from_is_err_and}
use Rattle.qd_io.specs.Ends.{Counts}
use Rattle.qd_txnfile.specs.States.{IsDirty, Root}
use Rattle.qd_txnfile.specs.Versions.{Version}
use Rattle.qd_versions.specs.Writing.{IsLate}
use Rattle.qd_versions.proofs.Steps.{is_late, repaired_clean}
use Rattle.qd_versions.proofs.ToldLemmas.{lay_given_up_told, lay_not_flipped_told, lay_not_repaired_told, lay_told}
use Rattle.qd_versions.proofs.writing.lay_down.Goals as goal

pub returns-in_err-repair-clause-late : goal.returns-in_err-repair-clause-late
returns-in_err-repair-clause-late g c =
    let p = err_from_is_err_and c.from_residual.result c.from_residual.ensures.1 in
    rw p.1 (subst IsLate (sym p.2) (is_late c.in_err-repair.field-0.0))

pub returns-in_err-repair-clause-told : goal.returns-in_err-repair-clause-told
returns-in_err-repair-clause-told g c =
    let p = err_from_is_err_and c.from_residual.result c.from_residual.ensures.1 in
    let v : Version = record { n = c.args.n; manifest = c.args.manifest.now } in
    rw p.1 (lay_not_repaired_told c.args.root.now c.repair.new.self c.args.next v c.args.blocks.now c.args.growing.now c.args.growing.now c.requires.fit c.in_err-repair.field-0.0 p.0 _ _ (λ dirty. c.in_err-repair.ensures.stays.0) c.in_err-repair.ensures.told)

pub put_beside-requires-clause-clean : goal.put_beside-requires-clause-clean
put_beside-requires-clause-clean g c = repaired_clean c.args.root.now c.repair.new.self c.in_ok-repair.ensures.clean

pub returns-in-Err-clause-told : goal.returns-in-Err-clause-told
returns-in-Err-clause-told g c =
    let v : Version = record { n = c.args.n; manifest = c.args.manifest.now } in
    lay_given_up_told c.args.root.now c.put_beside.new.root c.args.next v c.args.blocks.now c.args.growing.now c.put_beside.new.growing c.requires.fit c.repair.new.self c.in_ok-repair.field-0 c.in-Err.cause c.give_up.result _ _ _ _ c.in-Err.ensures.clean c.in_ok-repair.ensures.told c.in-Err.ensures.told c.give_up.ensures.told

pub returns-in-Err-clause-counted : goal.returns-in-Err-clause-counted
returns-in-Err-clause-counted g c =
    c.give_up.ensures.counted (g.V.Volume.storage c.args.volume.now).faults
    (subst (λ (n : ℕ). Counts {T = Unit {0}} n (g.V.Volume.storage c.put_beside.new.volume).faults (Err c.in-Err.cause)) c.in_ok-repair.ensures.counted c.in-Err.ensures.counted)

pub returns-in_err-flip-clause-late : goal.returns-in_err-flip-clause-late
returns-in_err-flip-clause-late g c =
    let p = err_from_is_err_and c.from_residual-in_err-flip.result c.from_residual-in_err-flip.ensures.1 in
    rw p.1 (subst IsLate (sym p.2) (is_late c.in_err-flip.field-0.0))

pub returns-in_err-flip-clause-told : goal.returns-in_err-flip-clause-told
returns-in_err-flip-clause-told g c =
    let p = err_from_is_err_and c.from_residual-in_err-flip.result c.from_residual-in_err-flip.ensures.1 in
    let v : Version = record { n = c.args.n; manifest = c.args.manifest.now } in
    let dirty : IsDirty c.flip.new.self.other = subst (λ (r : Root). IsDirty r.other) (sym c.in_err-flip.ensures.stays) tt in
    rw p.1 (lay_not_flipped_told c.args.root.now c.flip.new.self c.args.next v c.args.blocks.now c.args.growing.now c.put_beside.new.growing c.requires.fit c.repair.new.self c.put_beside.new.root c.in_default.ensures.few c.in_ok-repair.field-0 c.in_default.field-0 _ _ _ _ c.in_ok-repair.ensures.told c.in_default.ensures.told c.in_err-flip.field-0.0 p.0 dirty c.in_err-flip.ensures.told)

pub returns-clause-told : goal.returns-clause-told
returns-clause-told g c =
    let v : Version = record { n = c.args.n; manifest = c.args.manifest.now } in
    lay_told c.args.root.now c.flip.new.self c.args.next v c.args.blocks.now c.args.growing.now c.put_beside.new.growing c.requires.fit c.repair.new.self c.put_beside.new.root c.in_default.ensures.few c.in_ok-repair.field-0 c.in_default.field-0 _ _ _ _ c.in_ok-repair.ensures.told c.in_default.ensures.told c.in_ok-flip.field-0 tt c.in_ok-flip.ensures.told
