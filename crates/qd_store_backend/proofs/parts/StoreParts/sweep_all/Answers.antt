use Rattle.std.proofs.Common.{None, subst, sym}
use Rattle.qd_store_backend.specs.Backs.{IsAlone, Parts}
use Rattle.qd_store_backend.proofs.KeptLemmas.{keeping_swept}
use Rattle.qd_store_backend.proofs.parts.StoreParts.sweep_all.Goals as goal

pub invariant_of-self : goal.invariant_of-self
invariant_of-self g c =
    let i = c.self.inside in
    let old : Parts = record { owned = i.store; history = i.telling.history; schemas = i.schemas; damages = i.damages; last_damage = i.last_damage } in
    keeping_swept old c.sweep_queue.new.store None i.kept.cache.entries c.self.invariant c.sweep_queue.ensures.shown c.sweep_queue.ensures.told tt

pub returns-clause-alone : goal.returns-clause-alone
returns-clause-alone g c = c.sweep_queue.ensures.alone (subst IsAlone (sym c.self.view_is) c.requires.alone)
