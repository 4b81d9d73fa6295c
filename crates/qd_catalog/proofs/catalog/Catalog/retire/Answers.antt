use Rattle.std.proofs.Common.{◌≡◌, ◌≢◌, ◌<◌, ◌∙◌, ℕ, List, Option, Some, None, is_some, true, get_or, set, nat_eq, refl, sym, ap, subst, arith}
use Rattle.std.specs.Vec.{with_item}
use Rattle.std.proofs.lemmas.List.{get_or_default}
use Rattle.indexmap.specs.IndexMap.{get}
use Rattle.qd_manifest.specs.declared.shape.TableParts.{TableParts}
use Rattle.qd_manifest.specs.Spelling.{blocks_of}
use Rattle.qd_catalog.specs.declared.version.Version.{Version}
use Rattle.qd_catalog.specs.Versions.{Versions, IsLive, Retires}
use Rattle.qd_catalog.specs.Tracked.{Unlists}
use Rattle.qd_catalog.specs.declared.catalog.Catalog.TheInside.{Inside}
use Rattle.qd_catalog.specs.Inside.{versions_of}
use Rattle.qd_catalog.proofs.QueueLemmas.{waits_of}
use Rattle.qd_catalog.proofs.CatalogLemmas.{live_low, retired_is_catalog, retires}
use Rattle.qd_catalog.proofs.catalog.Catalog.retire.Goals as goal

pub unlist_tables-requires-clause-queue : goal.unlist_tables-requires-clause-queue
unlist_tables-requires-clause-queue c = waits_of (get nat_eq c.self.inside.kept) c.self.inside.versions.items c.self.inside.retired.items c.self.invariant.tracks c.self.invariant.queues

-- the version that a row had
was : (versions : List (Option Version)) (row : ℕ) (v : Option Version) (x : Version) → is_some (get_or versions row None) ≡ true → v ≡ get_or versions row v → Some x ≡ v → get_or versions row None ≡ Some x
was versions row v x live at is = get_or_default versions row None v (live_low versions row live) ∙ sym at ∙ sym is

pub invariant_of-self : goal.invariant_of-self
invariant_of-self c =
    let live : is_some (get_or c.self.inside.versions.items c.args.row None) ≡ true = subst (λ (v : Versions). IsLive v c.args.row) (sym c.self.view_is) c.requires.live in
    let older : c.args.row ≢ c.self.inside.current = subst (λ (v : Versions). c.args.row ≢ v.current) (sym c.self.view_is) c.requires.older in
    let x = was c.self.inside.versions.items c.args.row c.index_mut.result.now c.in-Some.version live c.index_mut.ensures.value c.in-Some.ensures.value in
    let low : c.args.row < 64 = omega (arith, live_low c.self.inside.versions.items c.args.row live, c.self.invariant.rows) in
    let unlisted = subst (λ (ts : List TableParts). Unlists (get nat_eq c.self.inside.kept) (get nat_eq c.unlist_tables.new.kept) c.args.row (blocks_of ts) c.self.inside.retired.items c.unlist_tables.new.retired.items) c.as_slice.ensures.items c.unlist_tables.ensures.unlisted in
    let rows = ap (λ (v : Option Version). set c.self.inside.versions.items c.args.row v) c.take-version.ensures.after in
    retired_is_catalog c.self.inside _ c.args.row c.in-Some.version c.self.invariant x low unlisted rows refl older c.unlist_tables.ensures.len c.unlist_tables.ensures.capacity

pub returns-in-Some : goal.returns-in-Some
returns-in-Some c =
    let live : is_some (get_or c.self.inside.versions.items c.args.row None) ≡ true = subst (λ (v : Versions). IsLive v c.args.row) (sym c.self.view_is) c.requires.live in
    let x = was c.self.inside.versions.items c.args.row c.index_mut.result.now c.in-Some.version live c.index_mut.ensures.value c.in-Some.ensures.value in
    let low : c.args.row < 64 = omega (arith, live_low c.self.inside.versions.items c.args.row live, c.self.invariant.rows) in
    let unlisted = subst (λ (ts : List TableParts). Unlists (get nat_eq c.self.inside.kept) (get nat_eq c.unlist_tables.new.kept) c.args.row (blocks_of ts) c.self.inside.retired.items c.unlist_tables.new.retired.items) c.as_slice.ensures.items c.unlist_tables.ensures.unlisted in
    let rows = ap (λ (v : Option Version). set c.self.inside.versions.items c.args.row v) c.take-version.ensures.after in
    let after : Inside = record { versions = with_item c.self.inside.versions c.args.row c.take-version.new.self; current = c.self.inside.current; next_block = c.self.inside.next_block; kept = c.unlist_tables.new.kept; retired = c.unlist_tables.new.retired } in
    record {
      retired = subst (λ (v : Versions). Retires v (versions_of after) c.args.row) c.self.view_is (retires c.self.inside after c.args.row c.in-Some.version c.self.invariant x low unlisted rows refl refl);
    }
