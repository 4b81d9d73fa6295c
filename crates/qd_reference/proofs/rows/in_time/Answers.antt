use Rattle.std.proofs.Common.{append_assoc}
use Rattle.qd_reference.proofs.rows.in_time.Goals as goal

-- the earlier rows and the row, with the later ones behind them
pub returns : goal.returns
returns c = record {
  rows = rw (c.in_ok-push_copies.ensures.more, c.in_ok-push.ensures.ok, c.in_ok-copy.ensures.same, c.in_ok-out.ensures.up_to, c.in_ok-out.ensures.later, c.time_of.ensures.time, append_assoc);
}
