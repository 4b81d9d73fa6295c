use Rattle.std.proofs.Common.{Option, List, subst, sym}
use Rattle.qd_base.specs.declared.op.Entry.{Entry}
use Rattle.qd_store.specs.Owned.{Store as Owned}
use Rattle.qd_store_backend.specs.Backs.{BeginsWith}
use Rattle.qd_store_backend.proofs.Begun.{told_over}
use Rattle.qd_top.specs.declared.status.Status.TheVariants as status
use Rattle.qd_top.specs.Run.{ServedAll}
use Rattle.qd_top.proofs.PortLemmas.{first_shared, history_shared, unshared}
use Rattle.qd_top.proofs.ports.serve_shared.Goals as goal

pub serve_passes-requires-clause-first : goal.serve_passes-requires-clause-first
serve_passes-requires-clause-first g c ls within = first_shared c.in-Ok.pass c.share.new.pass c.args.store c.args.told.now.history c.in-Ok.ensures.starts c.share.ensures.origin c.share.ensures.view

pub returns-in-Ok-clause-served : goal.returns-in-Ok-clause-served
returns-in-Ok-clause-served g c =
    subst (λ (h : Option (List Entry)). ServedAll c.args.kind h (g.H.Host.supply c.args.host.now) (g.H.Host.supply c.serve_passes.new.host) c.args.most c.serve_passes.result)
    (history_shared c.in-Ok.pass c.share.new.pass c.args.told.now.history c.share.ensures.origin c.share.ensures.view c.in-Ok.ensures.starts.told) c.serve_passes.ensures.served

pub returns-in-Err-clause-served : goal.returns-in-Err-clause-served
returns-in-Err-clause-served g c =
    let begins = subst (λ (o : Owned). BeginsWith c.args.told.now.history o) (sym c.in-Err.ensures.back) c.requires.told in
    unshared c.args.kind c.args.told.now.history (g.H.Host.supply c.args.host.now) (g.H.Host.supply c.put_back.new.host) c.args.most status.NoMemory c.in-Err.store (told_over c.args.told.now.history c.in-Err.store begins) c.put_back.ensures.kept c.put_back.ensures.back (λ e. absurd (cc (e)))
