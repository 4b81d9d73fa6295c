use Rattle.std.proofs.Common.{subst}
use Rattle.qd_scan.specs.Sources.{IsSource}
use Rattle.qd_store_backend.specs.Backs.{source_of, Parts}
use Rattle.qd_store_backend.proofs.Shown.{source_law}
use Rattle.qd_store_backend.proofs.parts.StorePartsPartSource.keeps_its_law.Goals as goal

pub returns : goal.returns
returns g c =
    let p : Parts = record { owned = c.self.inside.store; history = c.self.inside.telling.history; schemas = c.self.inside.schemas; damages = c.self.inside.damages; last_damage = c.self.inside.last_damage } in
    record { law = subst (λ (q : Parts). IsSource (source_of q)) c.self.view_is (source_law p c.self.invariant.parts c.keeps_its_law.ensures.versions) }
