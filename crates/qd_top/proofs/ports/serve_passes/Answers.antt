use Rattle.std.proofs.Common.{arith, refl}
use Rattle.qd_top.specs.declared.status.Status.TheVariants as status
use Rattle.qd_top.proofs.PortLemmas.{closed, listened_never, listens_on, nobody_by}
use Rattle.qd_top.proofs.ports.serve_passes.Goals as goal

pub returns-in-Ok-clause-served : goal.returns-in-Ok-clause-served
returns-in-Ok-clause-served g c =
    let host = g.H.Host.supply c.args.host.now in
    let then = g.H.Host.supply c.serve_beside_worker-status.new.host in
    let last = g.H.Host.supply c.put_back.new.host in
    let r = c.serve_beside_worker-status.result in
    closed c.args.kind c.args.main r.2 host then last c.args.most r.0 c.close.result c.requires.first (let r = c.requires.main.room in omega (arith, r)) c.serve_beside_worker-status.ensures.served c.close.ensures.closes c.put_back.ensures.kept c.put_back.ensures.back

pub returns-in-Ok-clause-listens : goal.returns-in-Ok-clause-listens
returns-in-Ok-clause-listens g c =
    listens_on (g.H.Host.supply c.args.host.now) (g.H.Host.supply c.serve_beside_worker-status.new.host) (g.H.Host.supply c.put_back.new.host) c.close.result.storage c.args.port c.serve_beside_worker-status.result.0 c.serve_beside_worker-status.ensures.listens c.put_back.ensures.back

pub returns-in-Err-clause-served : goal.returns-in-Err-clause-served
returns-in-Err-clause-served g c =
    let host = g.H.Host.supply c.args.host.now in
    let last = g.H.Host.supply c.put_back-in-Err.new.host in
    closed c.args.kind c.args.main c.args.main host host last c.args.most status.NoMemory c.close-in-Err.result c.requires.first (let r = c.requires.main.room in omega (arith, r)) (nobody_by c.args.kind c.args.main host host c.args.most status.NoMemory c.requires.new refl refl (λ e. absurd (cc (e)))) c.close-in-Err.ensures.closes c.put_back-in-Err.ensures.kept c.put_back-in-Err.ensures.back

pub returns-in-Err-clause-listens : goal.returns-in-Err-clause-listens
returns-in-Err-clause-listens g c =
    let host = g.H.Host.supply c.args.host.now in
    listens_on host host (g.H.Host.supply c.put_back-in-Err.new.host) c.close-in-Err.result.storage c.args.port status.NoMemory (listened_never host c.args.port) c.put_back-in-Err.ensures.back
