use Rattle.std.proofs.Common.{inr, length, arith}
use Rattle.qd_seq.specs.Damage.{Segment, Writer}
use Rattle.qd_seq.specs.Layout.{IsOpen}
use Rattle.qd_seq.proofs.Records.{first_open, record_stands}
use Rattle.qd_seq.proofs.reading.judge.Goals as goal

pub returns-then-place-n : goal.returns-then-place-n
returns-then-place-n c =
    let rest = c.args.rest.now in
    let opened : IsOpen rest 0 = first_open rest 0 (omega arith) c.if-rest-ne-OPEN.false in
    let ref = c.ref_in-place.result in
    record { seen = (opened, inr (omega arith, ref, c.ref_in-place.ensures.fits, record_stands rest 0 ref opened c.ref_in-place.ensures.stands, Writer c.if-place-n.true)) }

pub returns-then-place-ge-MAX_SEGMENTS : goal.returns-then-place-ge-MAX_SEGMENTS
returns-then-place-ge-MAX_SEGMENTS c =
    let rest = c.args.rest.now in
    let opened : IsOpen rest 0 = first_open rest 0 (omega arith) c.if-rest-ne-OPEN.false in
    let ref = c.ref_in-place.result in
    record { seen = (opened, inr (omega arith, ref, c.ref_in-place.ensures.fits, record_stands rest 0 ref opened c.ref_in-place.ensures.stands, Segment c.if-place-n.false c.if-place-ge-MAX_SEGMENTS.true)) }
