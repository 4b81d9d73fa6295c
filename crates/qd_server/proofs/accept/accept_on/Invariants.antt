use Rattle.std.proofs.Common.{◌≡◌, ◌≤◌, List, length}
use Rattle.std.specs.VecDeque.{deque_capacity}
use Rattle.qd_server.specs.declared.maker.TheConstants.{MOST}
use Rattle.qd_server.specs.Works.{Works}
use Rattle.qd_server.specs.Accepting.{IsOut, GoesOn, Takes, IsWithin, number_of}
use Rattle.qd_server.proofs.accept.accept_on.Given as goal

-- the wires taken so far
abbrev pub invariant-loop : goal.invariant-loop
invariant-loop g l = record {
  so_far : (wires : List g.row.L-Wire.Denot) × Takes wires (g.L.Listener.arrivals l.initial.listener).ahead (g.L.Listener.arrivals l.listener).ahead
      × GoesOn g.M.Maker.works l.initial.maker l.maker l.initial.outs.items l.outs.items wires l.initial.threads.failed l.threads.failed × (l.taken ≡ number_of wires) × IsWithin wires l.initial.most;
  out : (s : Works g.row.L-Wire.Denot g.row.M-Work.Denot) × IsOut g.M.Maker.works l.maker l.outs.items s;
  few : length l.outs.items ≤ MOST;
  capacity : deque_capacity l.outs ≡ MOST;
  fixed : g.M.Maker.fixed l.maker ≡ g.M.Maker.fixed l.initial.maker;
  none_failed : (g.L.Listener.arrivals l.listener).faults ≡ (g.L.Listener.arrivals l.initial.listener).faults;
}
