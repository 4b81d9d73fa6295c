use Rattle.std.proofs.Common.{inl, inr, refl, subst, sym}
use Rattle.qd_store.specs.declared.fault.OpenFault.{OpenFault}
use Rattle.qd_store.specs.Owned.{Store as Owned}
use Rattle.qd_store_backend.specs.Volumes.{MayFind}
use Rattle.qd_top.specs.Stores.{HasNoStore, IsServable, with_volume}
use Rattle.qd_top.proofs.HostLemmas.{asks-failed, asks-memory, asks-ok, if_err, if_ok, names-later, no_store_alike, not_had, servable_alike, volume_given}
use Rattle.qd_top.proofs.PortLemmas.{connections_on}
use Rattle.qd_top.proofs.opening.open_host.Goals as goal

pub open_volume-requires-clause-found : goal.open_volume-requires-clause-found
open_volume-requires-clause-found g c = λ κs lives. subst (MayFind c.args.told.now.history) (sym c.in-Ok.ensures.told) c.requires.found

pub returns-in-Ok-clause-opened : goal.returns-in-Ok-clause-opened
returns-in-Ok-clause-opened g c =
    let host = g.H.Host.supply c.args.host.now in
    let given = g.H.Host.supply c.volume.new.self in
    let storage = g.H.Vol.Volume.storage c.in-Ok.volume in
    let new = g.H.Host.supply c.open_volume.new.host in
    let alike = volume_given host given storage c.volume.ensures.clocks c.in-Ok.ensures.counted c.in-Ok.ensures.told in
    if_ok (λ (o : Owned). IsServable c.args.told.now.history (with_volume storage given) new o) (λ (o : Owned). IsServable c.args.told.now.history host new o) c.open_volume.result (λ o. servable_alike c.args.told.now.history host (with_volume storage given) new alike o) c.open_volume.ensures.opened

pub returns-in-Ok-clause-unopened : goal.returns-in-Ok-clause-unopened
returns-in-Ok-clause-unopened g c =
    let host = g.H.Host.supply c.args.host.now in
    let given = g.H.Host.supply c.volume.new.self in
    let storage = g.H.Vol.Volume.storage c.in-Ok.volume in
    let new = g.H.Host.supply c.open_volume.new.host in
    let alike = volume_given host given storage c.volume.ensures.clocks c.in-Ok.ensures.counted c.in-Ok.ensures.told in
    if_err (λ (why : OpenFault). HasNoStore why (with_volume storage given) new) (λ (why : OpenFault). HasNoStore why host new) c.open_volume.result (λ why. no_store_alike host (with_volume storage given) new alike why) c.open_volume.ensures.unopened

pub returns-in-Ok-clause-named : goal.returns-in-Ok-clause-named
returns-in-Ok-clause-named g c =
    let host = g.H.Host.supply c.args.host.now in
    let given = g.H.Host.supply c.volume.new.self in
    names-later host.folders given.folders (g.H.Host.supply c.open_volume.new.host).folders _ _ _ (λ p. p) c.open_volume.ensures.folders (inl (asks-ok host.folders given.folders _ c.in-Ok.volume c.in-Ok.ensures.named))

pub returns-in-Err-Failed-clause-unopened : goal.returns-in-Err-Failed-clause-unopened
returns-in-Err-Failed-clause-unopened g c =
    let counted = rw c.in-Err-Failed.field-0-is at c.in-Err-Failed.ensures.counted in
    (not_had (g.H.Host.supply c.args.host.now) (g.H.Host.supply c.volume.new.self) c.volume.ensures.clocks c.in-Err-Failed.ensures.shelf, counted.1)

pub returns-in-Err-Failed-clause-named : goal.returns-in-Err-Failed-clause-named
returns-in-Err-Failed-clause-named g c =
    let named = rw c.in-Err-Failed.field-0-is at c.in-Err-Failed.ensures.named in
    inl (asks-failed _ (g.H.Host.supply c.args.host.now).folders (g.H.Host.supply c.volume.new.self).folders _ named)

pub returns-in-Err-Memory-clause-unopened : goal.returns-in-Err-Memory-clause-unopened
returns-in-Err-Memory-clause-unopened g c = not_had (g.H.Host.supply c.args.host.now) (g.H.Host.supply c.volume.new.self) c.volume.ensures.clocks c.in-Err-Memory.ensures.shelf

pub returns-in-Err-Memory-clause-named : goal.returns-in-Err-Memory-clause-named
returns-in-Err-Memory-clause-named g c =
    let named = rw c.in-Err-Memory.field-0-is at c.in-Err-Memory.ensures.named in
    inr (refl, asks-memory _ (g.H.Host.supply c.args.host.now).folders (g.H.Host.supply c.volume.new.self).folders _ named)

pub returns-in-Ok-clause-connections : goal.returns-in-Ok-clause-connections
returns-in-Ok-clause-connections g c =
    connections_on (g.H.Host.supply c.args.host.now) (g.H.Host.supply c.volume.new.self) (g.H.Host.supply c.open_volume.new.host) c.volume.ensures.connections c.open_volume.ensures.connections
