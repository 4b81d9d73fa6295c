use Rattle.std.proofs.Common.{ℕ, ◌+◌, length, Option, Err, sym, ap, subst, arith}
use Rattle.std.proofs.lemmas.Result.{err_from_is_err_and}
use Rattle.qd_io.specs.declared.fault.IoFault.{IoFault}
use Rattle.qd_base.specs.declared.part.WalRef.{WalRef}
use Rattle.qd_durable.specs.Moments.{Told}
use Rattle.qd_seq.specs.Calls.{Appends}
use Rattle.qd_seq.specs.Layout.{IsLawful}
use Rattle.qd_seq.specs.States.{Log}
use Rattle.qd_seq.proofs.ToldLemmas.{append_done_told, append_failed_told, append_not_begun_told, gate_place}
use Rattle.qd_seq.proofs.log.SeqLog.append.Goals as goal

pub returns-in_err-write_through-clause-told : goal.returns-in_err-write_through-clause-told
returns-in_err-write_through-clause-told g c =
    let p = err_from_is_err_and c.from_residual.result c.from_residual.ensures.1 in
    let refs = c.args.self.now.refs in
    let place = gate_place refs c.self.inside.refs c.len.result c.gate_at-gate.result c.gate_at-gate.ensures.place c.len.ensures (ap (λ (l : Log). l.refs) c.self.view_is) in
    rw p.1
    (subst (λ (o : Option WalRef). Told (g.V.Volume.storage c.args.volume.now).disk (g.V.Volume.storage c.write_through.new.volume).disk (Appends {T = ℕ} {E = IoFault} (Err p.0) refs c.args.at o)) (sym c.requires.clean)
    (append_not_begun_told refs c.args.at (c.gate_at-gate.result + 1) c.gate_at-gate.result c.body_and_gate.result (ap (λ n. n + 1) place) place c.body_and_gate.ensures.bytes ℕ _ _ c.in_err-write_through.field-0.0 p.0 c.in_err-write_through.ensures.told))

pub returns-in_err-write_through-2-clause-told : goal.returns-in_err-write_through-2-clause-told
returns-in_err-write_through-2-clause-told g c =
    let p = err_from_is_err_and c.from_residual-in_err-write_through-2.result c.from_residual-in_err-write_through-2.ensures.1 in
    let refs = c.args.self.now.refs in
    let place = gate_place refs c.self.inside.refs c.len.result c.gate_at-gate.result c.gate_at-gate.ensures.place c.len.ensures (ap (λ (l : Log). l.refs) c.self.view_is) in
    let lawful : IsLawful (length refs) c.args.at = record { wal = c.requires.wal; segment = c.requires.segment; start = omega arith; size = omega arith } in
    rw p.1
    (append_failed_told refs c.args.at (c.gate_at-gate.result + 1) c.gate_at-gate.result c.body_and_gate.result (ap (λ n. n + 1) place) place c.body_and_gate.ensures.bytes lawful c.requires.few _ _ _ c.in_ok-write_through.field-0 c.in_ok-write_through.ensures.told ℕ c.in_err-write_through-2.field-0.0 p.0 c.in_err-write_through-2.ensures.told)

pub returns-clause-told : goal.returns-clause-told
returns-clause-told g c =
    let refs = c.args.self.now.refs in
    let place = gate_place refs c.self.inside.refs c.len.result c.gate_at-gate.result c.gate_at-gate.ensures.place c.len.ensures (ap (λ (l : Log). l.refs) c.self.view_is) in
    let lawful : IsLawful (length refs) c.args.at = record { wal = c.requires.wal; segment = c.requires.segment; start = omega arith; size = omega arith } in
    append_done_told refs c.args.at (c.gate_at-gate.result + 1) c.gate_at-gate.result c.body_and_gate.result (ap (λ n. n + 1) place) place c.body_and_gate.ensures.bytes lawful c.requires.few _ _ _ c.in_ok-write_through.field-0 c.in_ok-write_through.ensures.told c.in_ok-write_through-2.field-0 c.len-2.result c.in_ok-write_through-2.ensures.told
