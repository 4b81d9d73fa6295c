use Rattle.std.proofs.Common.{refl, ap}
use Rattle.std.specs.Arc.{arc_value}
use Rattle.qd_host.specs.Hosts.{Supply}
use Rattle.qd_shared.specs.Passes.{view_of}
use Rattle.qd_connections.specs.Visits.{Visit}
use Rattle.qd_connections.proofs.Making.{clock_given, counted_given_up, counted_with_work, lent_on, main_stays, split_off, visit_of_main, wire_returned}
use Rattle.qd_connections.proofs.maker.ConnectionsMakerWire.make.Goals as goal

pub returns-in-Err-clause-made : goal.returns-in-Err-clause-made
returns-in-Err-clause-made g c s here few =
    let m = c.args.self.now in
    let began = g.H.Host.supply m.began.was.now in
    let old = g.H.Host.supply m.host.now in
    let new = g.H.Host.supply c.give_back.new.self in (
      lent_on m.began.was.ghost_name m.host.ghost_name m.host.ghost_name began old new (arc_value m.shared) (arc_value m.shared) m.first.was m.main m.main refl (wire_returned old new c.give_back.ensures.rest) refl (main_stays m.main) here.0,
      counted_given_up g.H.Lst.Wire.Ends.stream m.kind (view_of m.first.was).room began old new m.main m.starved s c.args.wire c.give_back.ensures.returned here.1,
    )

pub returns-clause-made : goal.returns-clause-made
returns-clause-made g c s here few =
    let m = c.args.self.now in
    let began = g.H.Host.supply m.began.was.now in
    let old = g.H.Host.supply m.host.now in
    let new = g.H.Host.supply c.clock-clock.new.self in
    let later = c.split-pass.new.pass in
    let split = c.split-pass.ensures in
    let on = split_off m.main later split.table split.origin split.lent in (
      lent_on m.began.was.ghost_name m.host.ghost_name m.host.ghost_name began old new (arc_value m.shared) (arc_value m.shared) m.first.was m.main later refl (clock_given old new c.clock-clock.ensures.rest) refl on here.0,
      counted_with_work g.H.Lst.Wire.Ends.stream m.kind (view_of m.first.was).room began old new m.main later m.starved s c.args.wire c.new.result (ap (λ (x : Supply). x.returned) c.clock-clock.ensures.rest) on split.lent
          (ap (λ (x : Visit). x.wire) c.new.ensures)
          (visit_of_main m.kind m.main later c.split-pass.result c.new.result (g.H.Lst.Wire.Ends.stream c.args.wire) (g.H.Clk.Clock.timeline c.clock-clock.result) c.new.ensures split.part split.table split.origin) few here.1,
    )
