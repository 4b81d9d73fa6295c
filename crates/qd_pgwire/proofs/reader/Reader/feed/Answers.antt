use Rattle.std.proofs.Common.{ap, length, length-append, arith}
use Rattle.qd_pgwire.proofs.reader.Reader.feed.Goals as goal

pub returns-clause-sound : goal.returns-clause-sound
returns-clause-sound c =
    let reader = c.args.self.now in
    omega (arith, ap length c.in_ok-append.ensures.ok, length-append reader.queue c.args.piece.now, ap length c.as_slice.ensures.bytes)
