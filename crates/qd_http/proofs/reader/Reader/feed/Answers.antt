use Rattle.std.proofs.Common.{sym, subst, ap, length, length-append, arith}
use Rattle.qd_http.specs.Reading.{IsAt}
use Rattle.qd_http.proofs.ReaderLemmas.{at_more}
use Rattle.qd_http.proofs.reader.Reader.feed.Goals as goal

pub returns-clause-sound : goal.returns-clause-sound
returns-clause-sound c =
    let reader = c.args.self.now in
    let fed = c.in_ok-append.ensures.ok in
    record {
      room = omega (arith, c.requires.room, ap length fed, length-append reader.queue c.args.piece.now, ap length c.as_slice.ensures.bytes);
      at = subst (IsAt reader.stage) (sym fed) (at_more reader.stage reader.queue c.args.piece.now c.requires.at);
    }
