use Rattle.std.proofs.Common.{None, refl}
use Rattle.qd_store_backend.specs.Backs.{source_of, Parts}
use Rattle.qd_store_backend.proofs.KeptLemmas.{none_kept}
use Rattle.qd_store_backend.proofs.parts.StoreParts.over.Goals as goal

pub invariant_of-result : goal.invariant_of-result
invariant_of-result g c =
    let p : Parts = record { owned = c.args.store; history = c.args.telling.history; schemas = c.args.schemas; damages = 0; last_damage = None } in
    record {
      parts = record { schemas = c.requires.schemas; told = c.requires.told; whole = λ h is. refl; damage = tt };
      blocks = none_kept (source_of p) c.args.kept.cache.entries c.requires.none;
    }
