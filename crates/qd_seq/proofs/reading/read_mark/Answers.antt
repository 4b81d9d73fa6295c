use Rattle.std.proofs.Common.{take, arith}
use Rattle.std.proofs.lemmas.List.{length-take}
use Rattle.qd_seq.proofs.GivenLemmas.{mark_given}
use Rattle.qd_seq.proofs.ReadLemmas.{counted_bytes}
use Rattle.qd_seq.proofs.reading.read_mark.Goals as goal

pub returns-clause-counted : goal.returns-clause-counted
returns-clause-counted g c = counted_bytes _ _ c.check_mark.result c.in_ok-n.ensures.counted c.check_mark.ensures.bytes

pub returns-clause-given : goal.returns-clause-given
returns-clause-given g c = mark_given g.V.Volume.gives (take c.in_ok-n.n c.read.new.buf) c.check_mark.result (omega (arith, c.in_ok-n.ensures.within, length-take c.in_ok-n.n c.read.new.buf)) c.in_ok-n.ensures.given c.check_mark.ensures.marked
