use Rattle.std.proofs.Common.{rules, [], ◌∷◌, Ok, refl, subst}
use Rattle.qd_net.specs.Arrivals.{Arrives}
use Rattle.qd_server.specs.Accepting.{Round}
use Rattle.qd_server.proofs.Serving.{goes_further, still_out, takes_none, takes_one}
use Rattle.qd_server.proofs.accept.accept_next.Goals as goal

pub admit-requires-clause-out : goal.admit-requires-clause-out
admit-requires-clause-out g c κs within = still_out g.M.Maker.works c.args.maker.now c.make_room.new.maker c.args.outs.now.items c.make_room.new.outs.items [] 0 0 c.requires.out (c.make_room.ensures.goes_on 0)

pub returns-in_err-wire-clause-accepts : goal.returns-in_err-wire-clause-accepts
returns-in_err-wire-clause-accepts g c =
    let round : Round {W = g.row.L-Wire.Denot} [] (g.L.Listener.arrivals c.args.listener.now).ahead (g.L.Listener.arrivals c.next_wire.new.self).ahead (g.L.Listener.arrivals c.next_wire.new.self).closed c.from_residual.result = search rules in (
      [],
      takes_none (g.L.Listener.arrivals c.args.listener.now).ahead (g.L.Listener.arrivals c.next_wire.new.self).ahead _ c.in_err-wire.ensures.told,
      c.make_room.ensures.goes_on c.args.threads.now.failed,
      round,
    )

pub returns-in_err-admit-clause-accepts : goal.returns-in_err-admit-clause-accepts
returns-in_err-admit-clause-accepts g c =
    let told = subst (λ o. Arrives (g.L.Listener.arrivals c.args.listener.now).ahead (g.L.Listener.arrivals c.next_wire.new.self).ahead (Ok o)) c.in-Some.is c.in_ok-wire.ensures.told in
    let round : Round (c.in-Some.wire ∷ []) (g.L.Listener.arrivals c.args.listener.now).ahead (g.L.Listener.arrivals c.next_wire.new.self).ahead (g.L.Listener.arrivals c.next_wire.new.self).closed c.from_residual-in_err-admit.result = search rules in (
      c.in-Some.wire ∷ [],
      takes_one c.in-Some.wire (g.L.Listener.arrivals c.args.listener.now).ahead (g.L.Listener.arrivals c.next_wire.new.self).ahead told,
      goes_further g.M.Maker.works c.args.maker.now c.make_room.new.maker c.admit.new.maker c.args.outs.now.items c.make_room.new.outs.items c.admit.new.outs.items [] (c.in-Some.wire ∷ []) c.args.threads.now.failed c.args.threads.now.failed c.admit.new.threads.failed
          (c.make_room.ensures.goes_on c.args.threads.now.failed) c.in_err-admit.ensures.goes_on,
      round,
    )

pub returns-clause-accepts : goal.returns-clause-accepts
returns-clause-accepts g c =
    let told = subst (λ o. Arrives (g.L.Listener.arrivals c.args.listener.now).ahead (g.L.Listener.arrivals c.next_wire.new.self).ahead (Ok o)) c.in-Some.is c.in_ok-wire.ensures.told in (
      c.in-Some.wire ∷ [],
      takes_one c.in-Some.wire (g.L.Listener.arrivals c.args.listener.now).ahead (g.L.Listener.arrivals c.next_wire.new.self).ahead told,
      goes_further g.M.Maker.works c.args.maker.now c.make_room.new.maker c.admit.new.maker c.args.outs.now.items c.make_room.new.outs.items c.admit.new.outs.items [] (c.in-Some.wire ∷ []) c.args.threads.now.failed c.args.threads.now.failed c.admit.new.threads.failed
          (c.make_room.ensures.goes_on c.args.threads.now.failed) c.in_ok-admit.ensures.goes_on,
      refl,
    )
