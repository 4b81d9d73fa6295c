use Rattle.std.proofs.Common.{refl, ap, subst, sym, List, Option}
use Rattle.std.specs.Arc.{arc_value}
use Rattle.qd_host.specs.Hosts.{Returns, Supply}
use Rattle.qd_io.specs.Ends.{Stream}
use Rattle.qd_server.specs.Works.{without}
use Rattle.qd_shared.specs.Passes.{view_of}
use Rattle.qd_connections.specs.Accounts.{IsOfMain}
use Rattle.qd_connections.specs.Connections.{served}
use Rattle.qd_connections.specs.Visits.{Visited}
use Rattle.qd_connections.proofs.Making.{all_at, clock_returned, counted_over, joined_on, lent_on, serving_on, session_of, taken_out, wire_returned}
use Rattle.qd_connections.proofs.maker.ConnectionsMakerWire.done.Goals as goal

pub returns-clause-done : goal.returns-clause-done
returns-clause-done g c s place work here got gives =
    let m = c.args.self.now in
    let began = g.H.Host.supply m.began.was.now in
    let old = g.H.Host.supply m.host.now in
    let mid = g.H.Host.supply c.clock_back.new.self in
    let new = g.H.Host.supply c.give_back.new.self in
    let other = c.out.inside.pass in
    let later = c.join.new.pass in
    let faults = (g.H.Clk.Clock.timeline c.out.inside.clock).faults in
    let after = g.H.Lst.Wire.Ends.stream c.out.inside.wire in
    let mine = all_at (IsOfMain m.kind m.main) s.out place work got here.1.account.of_main in (
      lent_on m.began.was.ghost_name m.host.ghost_name m.host.ghost_name began old new (arc_value m.shared) (arc_value m.shared) m.first.was m.main later refl
          (serving_on old mid new (clock_returned faults old mid c.clock_back.ensures) (wire_returned mid new c.give_back.ensures.rest)) refl (joined_on m.main other later c.join.ensures.joined) here.0,
      counted_over g.H.Lst.Wire.Ends.stream m.kind (view_of m.first.was).room began old new m.main other later m.starved s (without s place) work after (served (view_of other).own) refl (taken_out s.out place work got) refl c.join.ensures.joined
          refl (session_of m.kind m.main later other work c.args.out after (sym (ap (λ (o : Visited). o.pass) c.out.view_is)) (sym (ap (λ (o : Visited). o.wire) c.out.view_is)) mine gives c.join.ensures.joined) tt
          (subst (λ (r : Option (List Stream)). Returns r new.returned after) (ap (λ (x : Supply). x.returned) c.clock_back.ensures) c.give_back.ensures.returned) here.1,
    )
