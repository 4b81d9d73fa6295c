use Rattle.std.proofs.Common.{◌≡◌, ◌+◌, ◌-◌, ◌*◌, ◌<◌, ◌≤◌, length, None}
use Rattle.qd_base.specs.declared.limits.TheConstants.{LAST_OFFSET}
use Rattle.qd_session.specs.Session.{Faults, moment}
use Rattle.qd_session.proofs.ProgressLemmas.{Reached}
use Rattle.qd_session.proofs.session.serve.Given as goal

-- how far the session has come
abbrev pub invariant-steps : goal.invariant-steps
invariant-steps g l = record {
  reached : Reached g.B.Backend.rule
      (moment (g.F.Front.protocol l.fn.front) (g.B.Backend.shown l.fn.back) (g.W.Ends.stream l.fn.wire) (g.C.Clock.timeline l.fn.clock))
      (moment (g.F.Front.protocol l.front) (g.B.Backend.shown l.back) (g.W.Ends.stream l.wire) (g.C.Clock.timeline l.clock)) l.fed;
  few : l.fed ≤ LAST_OFFSET;
  room : 0 < length l.buffer.items;
  faults : Faults (g.W.Ends.stream l.fn.wire) (g.W.Ends.stream l.wire) None;
  fixed : g.B.Backend.fixed l.back ≡ g.B.Backend.fixed l.fn.back;
}

-- the bytes that may still come, and those that wait
abbrev pub decreases-steps : goal.decreases-steps
decreases-steps g l = 2 * (LAST_OFFSET - l.fed) + length (g.F.Front.protocol l.front).waiting
