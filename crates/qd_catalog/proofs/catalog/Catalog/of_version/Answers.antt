use Rattle.std.proofs.Common.{◌≡◌, ◌∙◌, ℕ, List, None, nat_eq, refl, ap, subst, arith}
use Rattle.std.specs.Map.{lookup}
use Rattle.indexmap.specs.IndexMap.{get}
use Rattle.qd_manifest.specs.declared.shape.TableParts.{TableParts}
use Rattle.qd_catalog.specs.declared.blocks.Kept.{Kept}
use Rattle.qd_catalog.specs.declared.catalog.Catalog.TheInside.{Inside}
use Rattle.qd_catalog.specs.Versions.{parts_of}
use Rattle.qd_catalog.specs.Tracked.{ListsAll}
use Rattle.qd_catalog.proofs.CatalogLemmas.{opened_is_catalog, opened}
use Rattle.qd_catalog.proofs.catalog.Catalog.of_version.Goals as goal

pub invariant_of-result : goal.invariant_of-result
invariant_of-result c =
    let start = get nat_eq c.new-kept.result in
    let empty : (b : ℕ) → start b ≡ None = λ b. ap (λ (es : List (ℕ × Kept)). lookup (nat_eq b) es) c.new-kept.ensures.empty in
    let listed = subst (λ (ts : List TableParts). ListsAll start (get nat_eq c.list_with_room.new.kept) 0 (parts_of ts)) c.as_slice.ensures.items c.in_ok-list_with_room.ensures.listed in
    opened_is_catalog start empty _ c.args.n c.args.shape c.in_ok-versions.ensures.rows refl listed (c.reserve.ensures.items ∙ c.new-retired.ensures.items) (omega (arith, c.in_ok-reserve.ensures.ok, c.len.ensures.len))

pub returns : goal.returns
returns c =
    let start = get nat_eq c.new-kept.result in
    let empty : (b : ℕ) → start b ≡ None = λ b. ap (λ (es : List (ℕ × Kept)). lookup (nat_eq b) es) c.new-kept.ensures.empty in
    let listed = subst (λ (ts : List TableParts). ListsAll start (get nat_eq c.list_with_room.new.kept) 0 (parts_of ts)) c.as_slice.ensures.items c.in_ok-list_with_room.ensures.listed in
    let made : Inside = record { versions = c.in_ok-versions.versions; current = 0; next_block = c.args.next_block; kept = c.list_with_room.new.kept; retired = c.reserve.new.self } in
    record { opened = opened start empty made c.args.n c.args.shape c.in_ok-versions.ensures.rows refl listed (c.reserve.ensures.items ∙ c.new-retired.ensures.items) c.args.next_block refl }
