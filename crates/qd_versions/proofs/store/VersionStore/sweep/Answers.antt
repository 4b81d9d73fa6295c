use Rattle.std.proofs.Common.{◌≡◌, true, Ok, Err, [], refl, subst}
use Rattle.std.proofs.lemmas.Result.{err_from_is_err_and}
use Rattle.qd_io.specs.declared.fault.IoFault.{IoFault}
use Rattle.qd_durable.specs.Moments.{Told}
use Rattle.qd_versions.specs.Calls.{SweepsFront}
use Rattle.qd_versions.specs.Stores.{Store}
use Rattle.qd_versions.proofs.Stores.{front_none, front_rest, front_small, same_versions, store_same, store_swept, version_swept}
use Rattle.qd_versions.proofs.KeptTails.{one_current, one_swept}
use Rattle.qd_versions.proofs.StoreTold.{sweep_done_told, sweep_failed_told, sweep_none_told}
use Rattle.qd_versions.proofs.store.VersionStore.sweep.Goals as goal

pub clear-requires : goal.clear-requires
clear-requires g c = record { block = front_small (record { root = c.self.inside.root; versions = c.self.inside.catalog; kept = c.self.inside.kept }) c.in-Some.block c.self.invariant c.in-Some.ensures.front }

pub invariant_of-self : goal.invariant_of-self
invariant_of-self g c =
    store_same (record { root = c.self.inside.root; versions = c.self.inside.catalog; kept = c.self.inside.kept }) (record { root = c.clear.new.root; versions = c.self.inside.catalog; kept = c.self.inside.kept }) c.self.invariant
    (same_versions c.self.inside.catalog) c.clear.ensures.number

pub returns-in_err-clear-in-Some-clause-told : goal.returns-in_err-clear-in-Some-clause-told
returns-in_err-clear-in-Some-clause-told g c =
    let p = err_from_is_err_and c.from_residual.result c.from_residual.ensures.1 in
    let before : Store = record { root = c.self.inside.root; versions = c.self.inside.catalog; kept = c.self.inside.kept } in
    let after : Store = record { root = c.clear.new.root; versions = c.self.inside.catalog; kept = c.self.inside.kept } in
    let rest = front_rest c.self.inside.catalog.retired c.in-Some.block c.in-Some.ensures.front in
    rw p.1
    (subst (λ (s : Store). Told (g.V.Volume.storage c.args.volume.now).disk (g.V.Volume.storage c.clear.new.volume).disk (SweepsFront {E = IoFault} (Err p.0) s after)) c.self.view_is
    (sweep_failed_told before after c.in-Some.block rest.0 rest.1 refl (one_current c.self.inside.catalog) refl c.self.invariant.apart c.in_err-clear-in-Some.field-0.0 p.0 _ _ c.in_err-clear-in-Some.ensures.told))

pub invariant_of-self-in-Some : goal.invariant_of-self-in-Some
invariant_of-self-in-Some g c =
    store_swept (record { root = c.self.inside.root; versions = c.self.inside.catalog; kept = c.self.inside.kept }) (record { root = c.clear.new.root; versions = c.swept.new.self; kept = c.self.inside.kept }) c.in-Some.block c.self.invariant c.swept.ensures.swept c.clear.ensures.number

pub returns-in-None-clause-idle : goal.returns-in-None-clause-idle
returns-in-None-clause-idle g c = λ e. (subst (λ (s : Store). s.versions.retired ≡ []) c.self.view_is (front_none c.self.inside.catalog.retired c.in-None.ensures.front), refl, refl)

pub returns-in-None-clause-told : goal.returns-in-None-clause-told
returns-in-None-clause-told g c = sweep_none_told IoFault c.args.self.now _

pub returns-in_ok-clear-in-Some-clause-told : goal.returns-in_ok-clear-in-Some-clause-told
returns-in_ok-clear-in-Some-clause-told g c =
    let before : Store = record { root = c.self.inside.root; versions = c.self.inside.catalog; kept = c.self.inside.kept } in
    let after : Store = record { root = c.clear.new.root; versions = c.swept.new.self; kept = c.self.inside.kept } in
    let rest = front_rest c.self.inside.catalog.retired c.in-Some.block c.in-Some.ensures.front in
    subst (λ (s : Store). Told (g.V.Volume.storage c.args.volume.now).disk (g.V.Volume.storage c.clear.new.volume).disk (SweepsFront {E = IoFault} (Ok true) s after)) c.self.view_is
    (sweep_done_told before after c.in-Some.block rest.0 rest.1 (version_swept before after c.in-Some.block c.self.invariant c.swept.ensures.swept c.clear.ensures.number) (one_swept before after c.in-Some.block c.self.invariant c.swept.ensures.swept c.clear.ensures.number) refl c.self.invariant.apart c.in_ok-clear-in-Some.field-0 _ _ c.in_ok-clear-in-Some.ensures.told)
