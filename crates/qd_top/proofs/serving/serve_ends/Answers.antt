use Rattle.std.proofs.Common.{◌≡◌, refl, rules}
use Rattle.qd_top.specs.Run.{fresh, traffic}
use Rattle.qd_top.specs.Stores.{begun_of}
use Rattle.qd_top.proofs.HostLemmas.{is-made, names-later, other_answer, reads-of-none, refused, same_err, says-memory, stored}
use Rattle.qd_top.proofs.serving.serve_ends.Goals as goal

pub refuse_store-requires : goal.refuse_store-requires
refuse_store-requires g c = record { made = is-made c.in-Err.why (g.H.Host.supply c.args.host.now) (g.H.Host.supply c.open_host.new.host) c.in-Err.ensures.unopened }

pub returns-in-Ok-clause-ran : goal.returns-in-Ok-clause-ran
returns-in-Ok-clause-ran g c =
    let given = g.H.Host.supply c.args.host.now in
    let host = g.H.Host.supply c.open_host.new.host in
    let s = c.in-Ok.ensures.opened in
    let later : g.S.Ends.stream c.serve_store.new.wire.source.now ≡ g.S.Ends.stream c.input-1.given.0 = search rules in
    let wrote : g.K.Ends.stream c.serve_store.new.wire.sink.now ≡ g.K.Ends.stream c.output-1.given.0 = search rules in
    λ print reads.
    stored print c.args.told.now.history given host (g.H.Host.supply c.serve_store.new.host) (begun_of c.in-Ok.store c.args.told.now.history (fresh host))
    (traffic (g.S.Ends.stream c.args.input.now) (g.S.Ends.stream c.input-1.given.0) (g.K.Ends.stream c.args.output.now) (g.K.Ends.stream c.output-1.given.0)) c.serve_store.result s.lent s.begun (rw (later, wrote) at (c.serve_store.ensures.ran print reads))

pub returns-in-Ok-clause-unread : goal.returns-in-Ok-clause-unread
returns-in-Ok-clause-unread g c = λ none. absurd (c.serve_store.ensures.served none)

pub returns-in-Ok-clause-named : goal.returns-in-Ok-clause-named
returns-in-Ok-clause-named g c =
    names-later (g.H.Host.supply c.args.host.now).folders (g.H.Host.supply c.open_host.new.host).folders (g.H.Host.supply c.serve_store.new.host).folders _ _ _ (λ e. other_answer c.open_host.result c.in-Ok.store _ c.in-Ok.is e) c.serve_store.ensures.folders c.open_host.ensures.named

pub returns-in-Err-clause-ran : goal.returns-in-Err-clause-ran
returns-in-Err-clause-ran g c =
    λ print reads.
    refused print c.args.told.now.history (g.H.Host.supply c.args.host.now) (g.H.Host.supply c.open_host.new.host) (g.S.Ends.stream c.args.input.now).input (g.K.Ends.stream c.args.output.now).output (g.K.Ends.stream c.refuse_store.new.output).output
    c.in-Err.why c.refuse_store.result c.in-Err.ensures.unopened c.refuse_store.ensures.said

pub returns-in-Err-clause-named : goal.returns-in-Err-clause-named
returns-in-Err-clause-named g c =
    let said = c.refuse_store.ensures.said in
    names-later (g.H.Host.supply c.args.host.now).folders (g.H.Host.supply c.open_host.new.host).folders (g.H.Host.supply c.open_host.new.host).folders _ _ _
    (λ e. says-memory c.in-Err.why (g.K.Ends.stream c.args.output.now).output (g.K.Ends.stream c.refuse_store.new.output).output c.refuse_store.result (same_err c.open_host.result c.in-Err.why _ c.in-Err.is e) said) refl c.open_host.ensures.named

pub returns-in-Err-clause-reads : goal.returns-in-Err-clause-reads
returns-in-Err-clause-reads g c = reads-of-none c.in-Err.why (g.K.Ends.stream c.args.output.now).output (g.K.Ends.stream c.refuse_store.new.output).output _ c.refuse_store.result c.refuse_store.ensures.said
