use Rattle.std.proofs.Common.{subst, sym}
use Rattle.qd_store.specs.declared.fault.OpenFault.{OpenFault}
use Rattle.qd_top.specs.Stores.{HasNoStore, with_volume}
use Rattle.qd_top.proofs.HostLemmas.{folders_back, no_store, servable}
use Rattle.qd_top.proofs.PortLemmas.{connections_back, connections_still}
use Rattle.qd_top.proofs.opening.open_volume.Goals as goal

pub returns-in-Ok-clause-opened : goal.returns-in-Ok-clause-opened
returns-in-Ok-clause-opened g c =
    let host = g.H.Host.supply c.args.host.now in
    let storage = g.H.Vol.Volume.storage c.args.volume in
    let e = c.in-Ok.ensures in
    servable c.args.told.now.history host storage c.in-Ok.store c.requires.lent c.requires.found e.told c.keeps_its_law.ensures.book c.keeps_its_law.ensures.versions e.settled e.usual e.alone e.first e.counted

pub returns-in-Err-clause-unopened : goal.returns-in-Err-clause-unopened
returns-in-Err-clause-unopened g c =
    let host = g.H.Host.supply c.args.host.now in
    let back = g.H.Host.supply c.give_back.new.host in
    let storage = g.H.Vol.Volume.storage c.args.volume in
    let e = c.in-Err.ensures in
    subst (λ (why : OpenFault). HasNoStore why (with_volume storage host) back) (sym c.give_back.ensures.why)
    (no_store host back storage c.in-Err.unmade.storage c.requires.lent c.give_back.ensures.back c.faults_come_back.ensures.volume c.in-Err.unmade.why e.made e.counted e.told)

pub returns-in-Err-clause-folders : goal.returns-in-Err-clause-folders
returns-in-Err-clause-folders g c = folders_back (g.H.Host.supply c.args.host.now) (g.H.Host.supply c.give_back.new.host) c.in-Err.unmade.storage c.give_back.ensures.back

pub returns-in-Ok-clause-connections : goal.returns-in-Ok-clause-connections
returns-in-Ok-clause-connections g c = connections_still (g.H.Host.supply c.args.host.now)

pub returns-in-Err-clause-connections : goal.returns-in-Err-clause-connections
returns-in-Err-clause-connections g c = connections_back (g.H.Host.supply c.args.host.now) (g.H.Host.supply c.give_back.new.host) c.in-Err.unmade.storage c.give_back.ensures.back
