use Rattle.std.proofs.Common.{refl, subst}
use Rattle.qd_io.specs.declared.fault.IoFault.{IoFault}
use Rattle.qd_durable.specs.Moments.{Told}
use Rattle.qd_versions.specs.Calls.{Repairs}
use Rattle.qd_versions.specs.Stores.{Store}
use Rattle.qd_versions.proofs.Stores.{same_versions, store_same}
use Rattle.qd_versions.proofs.StoreTold.{repair_told, repaired_number}
use Rattle.qd_versions.proofs.store.VersionStore.repair.Goals as goal

pub invariant_of-self : goal.invariant_of-self
invariant_of-self g c =
    store_same (record { root = c.self.inside.root; versions = c.self.inside.catalog; kept = c.self.inside.kept }) (record { root = c.repair.new.self; versions = c.self.inside.catalog; kept = c.self.inside.kept }) c.self.invariant
    (same_versions c.self.inside.catalog) (repaired_number c.repair.result c.self.inside.root c.repair.new.self c.repair.ensures.clean c.repair.ensures.stays)

pub returns-clause-told : goal.returns-clause-told
returns-clause-told g c =
    let after : Store = record { root = c.repair.new.self; versions = c.self.inside.catalog; kept = c.self.inside.kept } in
    subst (λ (s : Store). Told (g.V.Volume.storage c.args.volume.now).disk (g.V.Volume.storage c.repair.new.volume).disk (Repairs {T = Unit {0}} {E = IoFault} c.repair.result s after)) c.self.view_is
    (repair_told c.repair.result (record { root = c.self.inside.root; versions = c.self.inside.catalog; kept = c.self.inside.kept }) after _ _ refl refl c.repair.ensures.told)
