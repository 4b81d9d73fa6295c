use Rattle.std.proofs.Common.{◌≡◌, ◌⊎◌, Option, None, Some, Ok, Err, ℕ, length, sym, subst}
use Rattle.std.proofs.lemmas.Result.{err_from_is_err_and}
use Rattle.qd_io.specs.declared.fault.IoFault.{IoFault}
use Rattle.qd_base.specs.declared.part.WalRef.{WalRef}
use Rattle.qd_durable.specs.Moments.{Told}
use Rattle.qd_durable.proofs.Writes.{told_both, told_map}
use Rattle.qd_seq.specs.Calls.{Appends}
use Rattle.qd_wal.specs.Puts.{Puts}
use Rattle.qd_wal.specs.Segments.{ref_for}
use Rattle.qd_sequencer.specs.Calls.{Enters}
use Rattle.qd_sequencer.proofs.EnterLemmas.{append_done, append_failed, put_failed}
use Rattle.qd_sequencer.proofs.entering.enter.Goals as goal

pub returns-in_err-at-clause-told : goal.returns-in_err-at-clause-told
returns-in_err-at-clause-told g c =
    let p = err_from_is_err_and c.from_residual.result c.from_residual.ensures.1 in
    let at = ref_for c.args.writer c.args.seg_bytes (length c.args.bytes.now) in
    let refs = c.args.log.now.refs in
    let old = (g.V.Volume.storage c.args.volume.now).disk in
    let new = (g.V.Volume.storage c.put.new.volume).disk in
    rw p.1 (subst (λ (o : Option WalRef). Told old new (Enters {T = WalRef} {E = IoFault} (Err p.0) refs at c.args.bytes.now o)) (sym c.requires.clean)
    (told_map (Puts {T = WalRef} {E = IoFault} (Err c.in_err-at.field-0.0) at c.args.bytes.now) (Enters {T = WalRef} {E = IoFault} (Err p.0) refs at c.args.bytes.now None) old new
    (λ before after puts. put_failed {T = WalRef} {U = WalRef} {E = IoFault} {F = IoFault} refs at c.args.bytes.now c.in_err-at.field-0.0 p.0 before after puts)
    c.in_err-at.ensures.told))

pub returns-in_err-append-clause-told : goal.returns-in_err-append-clause-told
returns-in_err-append-clause-told g c =
    let p = err_from_is_err_and c.from_residual-in_err-append.result c.from_residual-in_err-append.ensures.1 in
    let at = ref_for c.args.writer c.args.seg_bytes (length c.args.bytes.now) in
    let refs = c.args.log.now.refs in
    let bytes = c.args.bytes.now in
    let pending = c.append.new.self.pending in
    let old = (g.V.Volume.storage c.args.volume.now).disk in
    let mid = (g.V.Volume.storage c.put.new.volume).disk in
    let new = (g.V.Volume.storage c.append.new.volume).disk in
    let second : Told mid new (Appends {T = ℕ} {E = IoFault} (Err c.in_err-append.field-0.0) refs at pending) =
    subst (λ (r : WalRef). Told mid new (Appends {T = ℕ} {E = IoFault} (Err c.in_err-append.field-0.0) refs r pending)) c.in_ok-at.ensures.place c.in_err-append.ensures.told in
    let which : (pending ≡ None) ⊎ (pending ≡ Some at) = subst (λ (r : WalRef). (pending ≡ None) ⊎ (pending ≡ Some r)) c.in_ok-at.ensures.place c.in_err-append.ensures.stays.1 in
    rw p.1
    (told_both (Puts {T = WalRef} {E = IoFault} (Ok c.in_ok-at.at) at bytes) (Appends {T = ℕ} {E = IoFault} (Err c.in_err-append.field-0.0) refs at pending) (Enters {T = WalRef} {E = IoFault} (Err p.0) refs at bytes pending) old mid new
    (λ a b c' puts appends. append_failed {T = WalRef} {E = IoFault} {U = ℕ} {F = IoFault} refs at bytes c.in_ok-at.at a b c' puts c.in_err-append.field-0.0 p.0 pending appends which)
    c.in_ok-at.ensures.told second)

pub returns-clause-told : goal.returns-clause-told
returns-clause-told g c =
    let at = ref_for c.args.writer c.args.seg_bytes (length c.args.bytes.now) in
    let refs = c.args.log.now.refs in
    let bytes = c.args.bytes.now in
    let pending = c.append.new.self.pending in
    let old = (g.V.Volume.storage c.args.volume.now).disk in
    let mid = (g.V.Volume.storage c.put.new.volume).disk in
    let new = (g.V.Volume.storage c.append.new.volume).disk in
    let second : Told mid new (Appends {T = ℕ} {E = IoFault} (Ok c.in_ok-append.field-0) refs at pending) =
    subst (λ (r : WalRef). Told mid new (Appends {T = ℕ} {E = IoFault} (Ok c.in_ok-append.field-0) refs r pending)) c.in_ok-at.ensures.place c.in_ok-append.ensures.told in
    told_both (Puts {T = WalRef} {E = IoFault} (Ok c.in_ok-at.at) at bytes) (Appends {T = ℕ} {E = IoFault} (Ok c.in_ok-append.field-0) refs at pending) (Enters {T = WalRef} {E = IoFault} (Ok c.in_ok-at.at) refs at bytes pending) old mid new
    (λ a b c' puts appends. append_done {T = WalRef} {E = IoFault} {U = ℕ} {F = IoFault} refs at bytes c.in_ok-at.at a b c' puts c.in_ok-append.field-0 c.in_ok-at.at pending appends)
    c.in_ok-at.ensures.told second
