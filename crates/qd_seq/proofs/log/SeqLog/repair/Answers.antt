use Rattle.std.proofs.Common.{◌≡◌, Option, None, Ok, Err, sym, ap, ◌∙◌, subst, not}
use Rattle.std.proofs.lemmas.Result.{err_from_is_err_and}
use Rattle.qd_io.specs.declared.fault.IoFault.{IoFault}
use Rattle.qd_base.specs.declared.part.WalRef.{WalRef}
use Rattle.qd_durable.specs.Moments.{Told}
use Rattle.qd_seq.specs.Calls.{Repairs}
use Rattle.qd_seq.specs.States.{Log}
use Rattle.qd_seq.proofs.ToldLemmas.{gate_place, pending_none, pending_some, repair_done_told, repair_failed_told, repair_none_told}
use Rattle.qd_seq.proofs.log.SeqLog.repair.Goals as goal

pub returns-then-is_none-clause-told : goal.returns-then-is_none-clause-told
returns-then-is_none-clause-told g c =
    let e : c.self.inside.pending ≡ None = pending_none c.self.inside.pending (c.is_none.ensures ∙ ap not c.if-is_none.true) in
    subst (λ (o : Option WalRef). Told (g.V.Volume.storage c.args.volume.now).disk (g.V.Volume.storage c.args.volume.now).disk (Repairs {T = Unit {0}} {E = IoFault} (Ok tt) c.args.self.now.refs o)) (sym e ∙ ap (λ (l : Log). l.pending) c.self.view_is)
    (repair_none_told tt c.args.self.now.refs _)

pub returns-in_err-write_through-clause-told : goal.returns-in_err-write_through-clause-told
returns-in_err-write_through-clause-told g c =
    let p = err_from_is_err_and c.from_residual.result c.from_residual.ensures.1 in
    let d = pending_some c.self.inside.pending (c.is_none.ensures ∙ ap not c.if-is_none.false) in
    let place = gate_place c.args.self.now.refs c.self.inside.refs c.len.result c.gate_at.result c.gate_at.ensures.place c.len.ensures (ap (λ (l : Log). l.refs) c.self.view_is) in
    rw p.1
    (subst (λ (o : Option WalRef). Told (g.V.Volume.storage c.args.volume.now).disk (g.V.Volume.storage c.write_through.new.volume).disk (Repairs {T = Unit {0}} {E = IoFault} (Err p.0) c.args.self.now.refs o)) (sym d.1 ∙ ap (λ (l : Log). l.pending) c.self.view_is)
    (repair_failed_told c.args.self.now.refs d.0 c.gate_at.result place _ _ (Unit {0}) c.in_err-write_through.field-0.0 p.0 c.in_err-write_through.ensures.told))

pub returns-clause-told : goal.returns-clause-told
returns-clause-told g c =
    let d = pending_some c.self.inside.pending (c.is_none.ensures ∙ ap not c.if-is_none.false) in
    let place = gate_place c.args.self.now.refs c.self.inside.refs c.len.result c.gate_at.result c.gate_at.ensures.place c.len.ensures (ap (λ (l : Log). l.refs) c.self.view_is) in
    subst (λ (o : Option WalRef). Told (g.V.Volume.storage c.args.volume.now).disk (g.V.Volume.storage c.write_through.new.volume).disk (Repairs {T = Unit {0}} {E = IoFault} (Ok tt) c.args.self.now.refs o)) (sym d.1 ∙ ap (λ (l : Log). l.pending) c.self.view_is)
    (repair_done_told c.args.self.now.refs d.0 c.gate_at.result place _ _ c.in_ok-write_through.field-0 tt c.in_ok-write_through.ensures.told)
