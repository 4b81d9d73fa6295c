use Rattle.std.proofs.Common.{◌≡◌, ◌↔◌, Err, subst}
use Rattle.qd_store.specs.declared.fault.PublishFault.TheVariants as fault
use Rattle.qd_store.specs.Faults.{IsMoved}
use Rattle.qd_store.specs.Owned.{Store}
use Rattle.qd_store.proofs.store.Store.publish.Goals as goal

pub returns-clause-moved : goal.returns-clause-moved
returns-clause-moved g c n =
    subst (λ (o : Store). (c.publish_merged.result ≡ Err (fault.Moved n)) ↔ IsMoved o.store.versions.versions c.args.merged.now.base n) c.self.view_is (c.publish_merged.ensures.moved n)
