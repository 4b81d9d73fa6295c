use Rattle.std.proofs.Common.{ap, length, arith}
use Rattle.qd_http.proofs.reader.Reader.new.Goals as goal

pub returns-clause-sound : goal.returns-clause-sound
returns-clause-sound c = record { room = omega (arith, ap length c.new.ensures.empty); at = c.new-2.ensures _ }
