use Rattle.std.proofs.Common.{subst}
use Rattle.qd_connections.specs.Visits.{IsServed, Visit, Visited}
use Rattle.qd_connections.proofs.Visiting.{visited}
use Rattle.qd_connections.proofs.visit.VisitJob.run.Goals as goal

pub returns : goal.returns
returns g c =
    let begun = c.new-back.ensures.begins in
    let s = c.serve-ended.ensures in
    let v : Visit = record { front = c.self.inside.front; wire = g.W.Ends.stream c.self.inside.wire; clock = g.C.Clock.timeline c.self.inside.clock; pass = c.self.inside.pass } in
    let o : Visited = record { wire = g.W.Ends.stream c.hang_up.new.self; clock = g.C.Clock.timeline c.serve-ended.new.clock; pass = c.end.result; ended = c.serve-ended.result } in
    record {
      given = subst (λ (x : Visit). IsServed x o) c.self.view_is
          (visited v o (g.W.Ends.stream c.serve-ended.new.wire) c.new-front.result c.serve-ended.new.front c.new-back.result c.serve-ended.new.back begun.0 c.hang_up.ensures.stays c.new-front.ensures.begun begun.1 c.end.ensures.pass begun.2
          s.served s.history s.faults c.end.ensures.ready s.fixed);
    }
