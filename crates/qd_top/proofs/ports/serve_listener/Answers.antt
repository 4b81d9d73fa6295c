use Rattle.std.proofs.Common.{ap}
use Rattle.qd_host.specs.Hosts.{Supply}
use Rattle.qd_top.proofs.PortLemmas.{listened, listened_not, no_listener_ends, nobody_by, passed_by}
use Rattle.qd_top.proofs.ports.serve_listener.Goals as goal

pub returns-in-Err-clause-served : goal.returns-in-Err-clause-served
returns-in-Err-clause-served g c =
    let old = g.H.Host.supply c.args.host.now in
    let new = g.H.Host.supply c.listener.new.self in
    nobody_by c.args.kind c.args.main old new c.args.most c.without_listener.result c.requires.new (ap (λ (h : Supply). h.returned) c.listener.ensures.rest) (ap (λ (h : Supply). h.starts_failed) c.listener.ensures.rest) (no_listener_ends c.in-Err.fault c.without_listener.result c.without_listener.ensures.status)

pub returns-in-Err-clause-listens : goal.returns-in-Err-clause-listens
returns-in-Err-clause-listens g c =
    let old = g.H.Host.supply c.args.host.now in
    let new = g.H.Host.supply c.listener.new.self in
    listened_not _ old new c.args.port c.in-Err.fault c.without_listener.result c.listener.ensures.rest c.in-Err.ensures.named c.in-Err.ensures.counted c.without_listener.ensures.status

pub returns-clause-served : goal.returns-clause-served
returns-clause-served g c =
    let h0 = g.H.Host.supply c.args.host.now in
    let h1 = g.H.Host.supply c.listener.new.self in
    let h2 = g.H.Host.supply c.serve_connections-ended.new.host in
    let h3 = g.H.Host.supply c.listener_back.new.self in
    let s = c.serve_connections-ended.result in
    passed_by g.H.Lst.Wire.Ends.stream c.args.kind h0 h1 h2 h3 (g.H.Lst.Listener.arrivals c.in-Ok.listener) (g.H.Lst.Listener.arrivals c.serve_connections-ended.new.listener) c.args.main s.main s.starved c.args.most s.ended c.served_as.result
    c.listener.ensures.rest c.serve_connections-ended.ensures.serves c.listener_back.ensures c.served_as.ensures.status c.in-Ok.ensures.told

pub returns-clause-listens : goal.returns-clause-listens
returns-clause-listens g c =
    let h0 = g.H.Host.supply c.args.host.now in
    let h1 = g.H.Host.supply c.listener.new.self in
    let h2 = g.H.Host.supply c.serve_connections-ended.new.host in
    let h3 = g.H.Host.supply c.listener_back.new.self in
    let s = c.serve_connections-ended.result in
    listened g.H.Lst.Wire.Ends.stream c.args.kind h0 h1 h2 h3 (g.H.Lst.Listener.arrivals c.in-Ok.listener) (g.H.Lst.Listener.arrivals c.serve_connections-ended.new.listener) c.args.main s.main s.starved c.args.most s.ended c.served_as.result
    c.listener.ensures.rest c.serve_connections-ended.ensures.serves c.listener_back.ensures c.served_as.ensures.status c.args.port c.in-Ok.listener c.in-Ok.ensures.named c.in-Ok.ensures.counted c.in-Ok.ensures.none_failed c.serve_connections-ended.ensures.counted c.faults_come_back.ensures.listener
