use Rattle.std.proofs.Common.{refl, ap, subst, ◌∙◌, List, Option}
use Rattle.std.specs.Arc.{arc_value}
use Rattle.qd_host.specs.Hosts.{Returns, Supply}
use Rattle.qd_io.specs.Ends.{Stream}
use Rattle.qd_server.specs.Works.{back}
use Rattle.qd_shared.specs.Passes.{Pass, view_of}
use Rattle.qd_connections.specs.Accounts.{IsOfMain}
use Rattle.qd_connections.specs.Connections.{IsTurnedAway, turned_away}
use Rattle.qd_connections.proofs.Making.{clock_returned, counted_over, joined_on, last_out, lent_on, one_more_refused, serving_on, wire_returned}
use Rattle.qd_connections.proofs.maker.ConnectionsMakerWire.refused.Goals as goal

pub returns-clause-back : goal.returns-clause-back
returns-clause-back g c s rest here last =
    let m = c.args.self.now in
    let began = g.H.Host.supply m.began.was.now in
    let old = g.H.Host.supply m.host.now in
    let mid = g.H.Host.supply c.clock_back.new.self in
    let new = g.H.Host.supply c.give_back.new.self in
    let parts = c.into_parts-wire in
    let other = parts.result.2 in
    let later = c.join.new.pass in
    let faults = (g.H.Clk.Clock.timeline parts.result.1).faults in
    let after = g.H.Lst.Wire.Ends.stream c.turn_away.new.wire in
    let out = last_out (IsOfMain m.kind m.main) s.out rest c.args.work last here.1.account.of_main in (
      lent_on m.began.was.ghost_name m.host.ghost_name m.host.ghost_name began old new (arc_value m.shared) (arc_value m.shared) m.first.was m.main later refl
          (serving_on old mid new (clock_returned faults old mid c.clock_back.ensures) (wire_returned mid new c.give_back.ensures.rest)) refl (joined_on m.main other later c.join.ensures.joined) here.0,
      counted_over g.H.Lst.Wire.Ends.stream m.kind (view_of m.first.was).room began old new m.main other later m.starved s (back s rest c.args.work) c.args.work after turned_away refl out.1 (one_more_refused s.unstarted c.args.work) c.join.ensures.joined
          (ap (λ (p : Pass). (view_of p).own) parts.ensures.pass ∙ out.0.new) (subst (λ (w : Stream). IsTurnedAway m.kind w after) parts.ensures.wire c.turn_away.ensures.turned) tt
          (subst (λ (r : Option (List Stream)). Returns r new.returned after) (ap (λ (x : Supply). x.returned) c.clock_back.ensures) c.give_back.ensures.returned) here.1,
    )
