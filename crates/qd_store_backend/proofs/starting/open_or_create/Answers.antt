use Rattle.std.proofs.Common.{◌≡◌, ◌∙◌, Result, Ok, Err, sym, ap, subst}
use Rattle.qd_volume.specs.Calls.{Storage}
use Rattle.qd_durable.specs.Moments.{Told}
use Rattle.qd_store.specs.declared.fault.OpenFault.{OpenFault}
use Rattle.qd_store.specs.declared.fault.OpenFault.TheVariants as fault
use Rattle.qd_store.specs.Opening.{Opens}
use Rattle.qd_store.specs.Owned.{Left, Store, storage_in, store_in}
use Rattle.qd_store_backend.proofs.Started.{opened, started}
use Rattle.qd_store_backend.proofs.starting.open_or_create.Goals as goal

pub returns-in-Ok-clause-told : goal.returns-in-Ok-clause-told
returns-in-Ok-clause-told g c =
    let given : Result Store Left = Ok c.in-Ok.store in
    let is : given ≡ c.open_store.result = rw c.in-Ok.is at c.open_store-2.view_is in
    opened (g.V.Volume.storage c.args.volume).disk c.in-Ok.store.storage.disk (Ok c.in-Ok.store.store) (λ e. cc)
    (subst (λ (r : Result Store Left). Told (g.V.Volume.storage c.args.volume).disk (storage_in r).disk (Opens (store_in r))) (sym is) c.open_store.ensures.told)

pub returns-in-Err-NotMade-clause-told : goal.returns-in-Err-NotMade-clause-told
returns-in-Err-NotMade-clause-told g c =
    let storage : Storage = g.V.Volume.storage c.in-Err-NotMade.field-0.volume in
    let why : c.in-Err-NotMade.field-0.why ≡ fault.NotMade = search in
    let given : Result Store Left = Err (record { storage = storage; why = fault.NotMade }) in
    let is : given ≡ c.open_store.result = ap (λ (w : OpenFault). Err (record { storage = storage; why = w })) (sym why) ∙ rw c.in-Err-NotMade.is at c.open_store-2.view_is in
    started (g.V.Volume.storage c.args.volume).disk storage.disk c.create.result
    (subst (λ (r : Result Store Left). Told (g.V.Volume.storage c.args.volume).disk (storage_in r).disk (Opens (store_in r))) (sym is) c.open_store.ensures.told)
    c.create.ensures.empty c.create.ensures.causes c.create.ensures.told
