use Rattle.std.proofs.Common.{◌≡◌, None, subst, sym}
use Rattle.qd_base.specs.declared.limits.Limits.{Limits}
use Rattle.qd_store_backend.specs.Backs.{AreUsual}
use Rattle.qd_versions.specs.Publishing.{IsFull}
use Rattle.qd_shared.specs.Desks.{Desk}
use Rattle.qd_shared.specs.Publishing.{IsNext}
use Rattle.qd_shared.proofs.Desking.{no_row, unmoved}
use Rattle.qd_shared.proofs.Merging.{published_told, undamaged_told}
use Rattle.qd_shared.proofs.desk.Desk.show_merged.Goals as goal

pub of_publish-requires : goal.of_publish-requires
of_publish-requires g c =
    record { unmoved = unmoved c.publish-shown.result c.self.inside.store.store.versions.versions c.args.merged.now c.in-Err.cause c.in-Err.is c.publish-shown.ensures.moved (subst (λ (d : Desk). IsNext d c.args.merged.now) (sym c.self.view_is) c.requires.next).over }

pub invariant_of-self : goal.invariant_of-self
invariant_of-self g c =
    let i = c.self.inside in
    record {
      usual = subst (λ (l : Limits). AreUsual l) (sym c.publish-shown.ensures.limits) c.self.invariant.usual;
      told = published_told c.publish-shown.result i.store c.publish-shown.new.self c.args.merged.now c.publish-shown.ensures.told i.telling.history c.self.invariant.told (subst (λ (d : Desk). IsNext d c.args.merged.now) (sym c.self.view_is) c.requires.next).told;
    }

pub invariant_of-self-2 : goal.invariant_of-self-2
invariant_of-self-2 g c =
    let i = c.self.inside in
    record {
      usual = subst (λ (l : Limits). AreUsual l) (sym c.publish-shown.ensures.limits) c.self.invariant.usual;
      told = published_told c.publish-shown.result i.store c.publish-shown.new.self c.args.merged.now c.publish-shown.ensures.told i.telling.history c.self.invariant.told (subst (λ (d : Desk). IsNext d c.args.merged.now) (sym c.self.view_is) c.requires.next).told;
    }

pub returns-in-Err-clause-full : goal.returns-in-Err-clause-full
returns-in-Err-clause-full g c =
    let v = c.self.inside.store.store.versions.versions in
    let next = subst (λ (d : Desk). IsNext d c.args.merged.now) (sym c.self.view_is) c.requires.next in
    λ none.
    subst (λ (d : Desk). IsFull d.owned.store.versions.versions) c.self.view_is
    (no_row c.publish-shown.result v c.args.merged.now.base c.in-Err.cause c.of_publish.result c.in-Err.is c.of_publish.ensures c.publish-shown.ensures.full
    (unmoved c.publish-shown.result v c.args.merged.now c.in-Err.cause c.in-Err.is c.publish-shown.ensures.moved next.over) (let e = none in cc))

pub returns-in-Err-clause-whole : goal.returns-in-Err-clause-whole
returns-in-Err-clause-whole g c file at damaged =
    let i = c.self.inside in
    subst (λ (d : Desk). d.history ≡ None) c.self.view_is
    (undamaged_told c.publish-shown.result i.store c.publish-shown.new.self c.args.merged.now c.publish-shown.ensures.told i.telling.history c.self.invariant.told c.in-Err.cause c.of_publish.result c.in-Err.is c.of_publish.ensures file at (let e = damaged in cc))
