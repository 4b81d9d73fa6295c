use Rattle.std.proofs.Common.{refl}
use Rattle.qd_top.proofs.HostLemmas.{is-made, names-later, other_answer, same_err, says-memory}
use Rattle.qd_top.proofs.PortLemmas.{refused_port, served_since, writes_of_serving}
use Rattle.qd_top.proofs.ports.serve_port.Goals as goal

pub refuse_store-requires : goal.refuse_store-requires
refuse_store-requires g c = record { made = is-made c.in-Err.why (g.H.Host.supply c.args.host.now) (g.H.Host.supply c.open_host.new.host) c.in-Err.ensures.unopened }

pub returns-in-Ok-clause-served : goal.returns-in-Ok-clause-served
returns-in-Ok-clause-served g c =
    λ input.
    served_since c.args.kind c.args.told.now.history (g.H.Host.supply c.args.host.now) (g.H.Host.supply c.open_host.new.host) (g.H.Host.supply c.serve_shared.new.host) c.args.port c.args.most c.open_host.ensures.connections
    c.in-Ok.store c.serve_shared.result input (g.K.Ends.stream c.args.output.now) c.in-Ok.ensures.opened c.serve_shared.ensures.served c.serve_shared.ensures.listens

pub returns-in-Ok-clause-named : goal.returns-in-Ok-clause-named
returns-in-Ok-clause-named g c =
    names-later (g.H.Host.supply c.args.host.now).folders (g.H.Host.supply c.open_host.new.host).folders (g.H.Host.supply c.serve_shared.new.host).folders _ _ _ (λ e. other_answer c.open_host.result c.in-Ok.store _ c.in-Ok.is e) c.serve_shared.ensures.listens.folders c.open_host.ensures.named

pub returns-in-Ok-clause-writes : goal.returns-in-Ok-clause-writes
returns-in-Ok-clause-writes g c = writes_of_serving (g.K.Ends.stream c.args.output.now).writes_failed c.serve_shared.result c.serve_shared.ensures.listens.ends

pub returns-in-Err-clause-served : goal.returns-in-Err-clause-served
returns-in-Err-clause-served g c =
    λ input.
    refused_port c.args.kind c.args.told.now.history (g.H.Host.supply c.args.host.now) (g.H.Host.supply c.open_host.new.host) c.args.port c.args.most c.open_host.ensures.connections.ports
    input.input (g.K.Ends.stream c.args.output.now).output (g.K.Ends.stream c.refuse_store.new.output).output c.in-Err.why c.refuse_store.result c.in-Err.ensures.unopened c.refuse_store.ensures.said

pub returns-in-Err-clause-named : goal.returns-in-Err-clause-named
returns-in-Err-clause-named g c =
    let said = c.refuse_store.ensures.said in
    names-later (g.H.Host.supply c.args.host.now).folders (g.H.Host.supply c.open_host.new.host).folders (g.H.Host.supply c.open_host.new.host).folders _ _ _
    (λ e. says-memory c.in-Err.why (g.K.Ends.stream c.args.output.now).output (g.K.Ends.stream c.refuse_store.new.output).output c.refuse_store.result (same_err c.open_host.result c.in-Err.why _ c.in-Err.is e) said) refl c.open_host.ensures.named
