use Rattle.std.proofs.Common.{◌≡◌, ◌∷◌, Some, refl, sym, ap, subst, ◌∙◌, slice_get, arith}
use Rattle.qd_catalog.specs.Versions.{Versions, Sweeps}
use Rattle.qd_catalog.specs.declared.catalog.Catalog.TheInside.{Inside}
use Rattle.qd_catalog.specs.Inside.{versions_of}
use Rattle.qd_catalog.proofs.CatalogLemmas.{front_is, swept_is_catalog, sweeps}
use Rattle.qd_catalog.proofs.catalog.Catalog.swept.Goals as goal

pub invariant_of-self : goal.invariant_of-self
invariant_of-self c =
    let front = front_is c.self.inside.retired.items c.pop_front.new.self.items c.args.block (ap (λ (v : Versions). slice_get v.retired 0) c.self.view_is ∙ c.requires.front) c.pop_front.ensures.rest in
    swept_is_catalog c.self.inside _ c.args.block c.self.invariant front (λ b. c.swap_remove.ensures.updates.0 b) refl refl (omega (arith, c.swap_remove.ensures.len)) c.pop_front.ensures.capacity

pub returns : goal.returns
returns c =
    let front = front_is c.self.inside.retired.items c.pop_front.new.self.items c.args.block (ap (λ (v : Versions). slice_get v.retired 0) c.self.view_is ∙ c.requires.front) c.pop_front.ensures.rest in
    let after : Inside = record { versions = c.self.inside.versions; current = c.self.inside.current; next_block = c.self.inside.next_block; kept = c.swap_remove.new.self; retired = c.pop_front.new.self } in
    record {
      swept = subst (λ (v : Versions). Sweeps v (versions_of after) c.args.block) c.self.view_is (sweeps c.self.inside after c.args.block c.self.invariant front (λ b. c.swap_remove.ensures.updates.0 b) refl refl refl);
    }
