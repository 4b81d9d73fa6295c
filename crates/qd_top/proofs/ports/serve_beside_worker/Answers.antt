use Rattle.qd_worker.specs.Worker.{kept_by}
use Rattle.qd_top.proofs.PortLemmas.{main_left, none_own, served_beside}
use Rattle.qd_top.proofs.ports.serve_beside_worker.Goals as goal

pub serve_listener-status-requires-clause-main : goal.serve_listener-status-requires-clause-main
serve_listener-status-requires-clause-main g c ls within = main_left c.args.main c.start-worker.new.main c.start-worker.result c.start-worker.ensures.main c.start-worker.ensures.room c.requires.main

pub serve_listener-status-requires-clause-new : goal.serve_listener-status-requires-clause-new
serve_listener-status-requires-clause-new g c ls within = none_own c.args.main c.start-worker.new.main c.start-worker.ensures.main c.requires.new

pub returns-clause-served : goal.returns-clause-served
returns-clause-served g c =
    let r = c.serve_listener-status.result in
    served_beside c.args.kind c.args.main c.start-worker.new.main r.2 c.stop.new.main (g.H.Host.supply c.args.host.now) (g.H.Host.supply c.serve_listener-status.new.host) c.args.most r.0 c.start-worker.ensures.main c.stop.ensures.main
    (kept_by c.start-worker.result) c.start-worker.ensures.room c.stop.ensures.room c.serve_listener-status.ensures.served
