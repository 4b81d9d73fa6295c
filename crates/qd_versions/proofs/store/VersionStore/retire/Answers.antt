use Rattle.std.proofs.Common.{◌≢◌, sym, refl, subst}
use Rattle.qd_catalog.specs.Versions.{IsLive}
use Rattle.qd_versions.specs.Stores.{Store}
use Rattle.qd_versions.specs.Kept.{KeepsTails}
use Rattle.qd_versions.proofs.KeptTails.{one_retired, tails_still}
use Rattle.qd_versions.proofs.Stores.{store_retired}
use Rattle.qd_versions.proofs.store.VersionStore.retire.Goals as goal

pub invariant_of-self : goal.invariant_of-self
invariant_of-self c =
    store_retired (record { root = c.self.inside.root; versions = c.self.inside.catalog; kept = c.self.inside.kept }) (record { root = c.self.inside.root; versions = c.retire.new.self; kept = c.self.inside.kept }) c.args.row c.self.invariant
    (subst (λ (s : Store). c.args.row ≢ s.versions.current) (sym c.self.view_is) c.requires.older)
    (subst (λ (s : Store). IsLive s.versions c.args.row) (sym c.self.view_is) c.requires.live) c.retire.ensures.retired refl

pub returns-clause-tails : goal.returns-clause-tails
returns-clause-tails c = λ disk keeps.
    let before : Store = record { root = c.self.inside.root; versions = c.self.inside.catalog; kept = c.self.inside.kept } in
    let after : Store = record { root = c.self.inside.root; versions = c.retire.new.self; kept = c.self.inside.kept } in
    tails_still before after disk
    (one_retired before after c.args.row c.self.invariant
    (subst (λ (s : Store). c.args.row ≢ s.versions.current) (sym c.self.view_is) c.requires.older)
    (subst (λ (s : Store). IsLive s.versions c.args.row) (sym c.self.view_is) c.requires.live) c.retire.ensures.retired refl)
    refl (subst (λ (s : Store). KeepsTails s disk) (sym c.self.view_is) keeps)
