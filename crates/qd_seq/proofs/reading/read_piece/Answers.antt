use Rattle.std.proofs.Common.{take, refl, subst, arith}
use Rattle.qd_seq.specs.declared.reading.End.{End}
use Rattle.qd_seq.proofs.GivenLemmas.{closed_given, full_given}
use Rattle.qd_seq.proofs.ToldLemmas.{gate_place}
use Rattle.qd_seq.proofs.ToldReads.{Taking, cut_told}
use Rattle.qd_seq.proofs.reading.read_piece.Goals as goal

pub returns-then-n-piece-clause-told : goal.returns-then-n-piece-clause-told
returns-then-n-piece-clause-told g c =
    let refs = c.args.refs.now.items in
    let place = gate_place refs c.args.refs.now c.len.result c.gate_at-at.result c.gate_at-at.ensures.place c.len.ensures refl in
    cut_told (g.V.Volume.storage c.args.volume.now).disk refs c.take_records.new.refs.items c.gate_at-at.result c.in_ok-n.n c.args.piece.now c.read.new.buf place c.in_ok-n.ensures.told c.damaged.result c.damaged.ensures.fault
    (omega (arith, c.if-n-piece.true))
    (subst (λ (e : End). Taking e refs c.take_records.new.refs.items (take c.in_ok-n.n c.read.new.buf)) c.in-Cut.is c.in_ok-end.ensures.taken)

pub returns-in-Closed-clause-given : goal.returns-in-Closed-clause-given
returns-in-Closed-clause-given g c = λ so_far.
    let refs = c.args.refs.now.items in
    let place = gate_place refs c.args.refs.now c.len.result c.gate_at-at.result c.gate_at-at.ensures.place c.len.ensures refl in
    closed_given g.V.Volume.gives refs c.take_records.new.refs.items c.gate_at-at.result (take c.in_ok-n.n c.read.new.buf) place c.in_ok-n.ensures.given so_far
    (subst (λ (e : End). Taking e refs c.take_records.new.refs.items (take c.in_ok-n.n c.read.new.buf)) c.in-Closed.is c.in_ok-end.ensures.taken)

pub returns-else-n-piece-clause-given : goal.returns-else-n-piece-clause-given
returns-else-n-piece-clause-given g c = λ so_far.
    let refs = c.args.refs.now.items in
    let place = gate_place refs c.args.refs.now c.len.result c.gate_at-at.result c.gate_at-at.ensures.place c.len.ensures refl in
    full_given g.V.Volume.gives refs c.take_records.new.refs.items c.gate_at-at.result (take c.in_ok-n.n c.read.new.buf) place c.in_ok-n.ensures.given so_far
    (subst (λ (e : End). Taking e refs c.take_records.new.refs.items (take c.in_ok-n.n c.read.new.buf)) c.in-Cut.is c.in_ok-end.ensures.taken)
