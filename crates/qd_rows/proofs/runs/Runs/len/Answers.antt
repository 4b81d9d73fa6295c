use Rattle.std.proofs.Common.{length, ap, arith}
use Rattle.qd_rows.proofs.RunLemmas.{length-runs}
use Rattle.qd_rows.proofs.runs.Runs.len.Goals as goal

pub returns : goal.returns
returns c = record { count = omega (arith, length-runs 0 c.self.inside.count c.self.inside.runs.items c.self.invariant, ap length c.self.view_is) }
