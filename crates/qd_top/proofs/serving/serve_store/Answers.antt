use Rattle.std.proofs.Common.{List, Option, None, subst}
use Rattle.qd_base.specs.declared.op.Entry.{Entry}
use Rattle.qd_store.specs.Owned.{Store as Owned}
use Rattle.qd_store_backend.proofs.Begun.{told_over}
use Rattle.qd_store_backend.proofs.Leaving.{settled_left}
use Rattle.qd_top.specs.Run.{fresh, traffic}
use Rattle.qd_top.specs.Stores.{RanFrom, begun_of, store_with}
use Rattle.qd_top.proofs.HostLemmas.{folders_back, handed-back}
use Rattle.qd_top.proofs.serving.serve_store.Goals as goal

pub returns-in-Ok-clause-ran : goal.returns-in-Ok-clause-ran
returns-in-Ok-clause-ran g c =
    let host = g.H.Host.supply c.args.host.now in
    let after = g.H.Host.supply c.serve_back.new.host in
    let was = g.W.Ends.stream c.args.wire.now in
    let now = g.W.Ends.stream c.serve_back.new.wire in
    let back = c.in-Ok.back in
    let none = settled_left c.args.told.now.history c.args.store back.left (told_over c.args.told.now.history c.args.store c.requires.told) c.requires.settled c.in-Ok.ensures.left in
    λ print reads.
    subst (λ (o : Owned). RanFrom print (begun_of o c.args.told.now.history (fresh host)) host after (traffic was now was now) c.serve_back.result) c.in-Ok.ensures.owned
    (subst (λ (h : Option (List Entry)). RanFrom print (store_with back.parts.owned h None (fresh host)) host after (traffic was now was now) c.serve_back.result) c.in-Ok.ensures.history
    (subst (λ (l : Option Entry). RanFrom print (store_with back.parts.owned back.parts.history l (fresh host)) host after (traffic was now was now) c.serve_back.result) none (c.serve_back.ensures.ran print reads)))

pub returns-in-Err-clause-ran : goal.returns-in-Err-clause-ran
returns-in-Err-clause-ran g c =
    let host = g.H.Host.supply c.args.host.now in
    λ print reads.
    handed-back c.stores_are_whole.ensures.law print c.args.told.now.history host (g.H.Host.supply c.put_back.new.self) (g.H.Vol.Volume.storage c.into_volume.result) c.args.store c.in-Err.store
    (g.W.Ends.stream c.args.wire.now).input (g.W.Ends.stream c.args.wire.now).output c.requires.told c.requires.settled c.keeps_its_law.ensures.versions c.in-Err.ensures.handed_back c.requires.lent c.into_volume.ensures.volume c.put_back.ensures

pub returns-in-Err-clause-folders : goal.returns-in-Err-clause-folders
returns-in-Err-clause-folders g c = folders_back (g.H.Host.supply c.args.host.now) (g.H.Host.supply c.put_back.new.self) (g.H.Vol.Volume.storage c.into_volume.result) c.put_back.ensures
