use Rattle.std.proofs.Common.{◌≡◌, ◌≤◌, ◌<◌, ◌+◌, ◌∙◌, ℕ, List, Option, Some, None, get_or, set, nat_eq, length, refl, sym, ap, subst, arith}
use Rattle.std.specs.Vec.{with_item}
use Rattle.indexmap.specs.IndexMap.{get, spare, index_map_len}
use Rattle.qd_manifest.specs.declared.shape.TableParts.{TableParts}
use Rattle.qd_manifest.specs.Spelling.{blocks_of}
use Rattle.qd_catalog.specs.declared.version.Version.{Version}
use Rattle.qd_catalog.specs.Versions.{Versions, parts_of, next_after, new_blocks, MayAdd, Adds}
use Rattle.qd_catalog.specs.Tracked.{new_in, ListsAll}
use Rattle.qd_catalog.specs.declared.catalog.Catalog.TheInside.{Inside}
use Rattle.qd_catalog.specs.Inside.{versions_of}
use Rattle.qd_catalog.proofs.CatalogLemmas.{room_inside, added_is_catalog, adds}
use Rattle.qd_catalog.proofs.catalog.Catalog.add_version.Goals as goal

pub list_tables-requires-clause-room : goal.list_tables-requires-clause-room
list_tables-requires-clause-room c =
    let inside = room_inside c.self.inside c.args.shape (subst (λ (v : Versions). length (new_blocks v c.args.shape) ≤ v.spare) (sym c.self.view_is) c.requires.may.room) in
    let same = ap (λ (ts : List TableParts). length (new_in (get nat_eq c.self.inside.kept) (blocks_of ts))) c.as_slice-in-Some.ensures.items in
    omega arith

pub invariant_of-self : goal.invariant_of-self
invariant_of-self c =
    let may = subst (λ (v : Versions). MayAdd v c.args.n c.args.shape) (sym c.self.view_is) c.requires.may in
    let within : c.in-Some.row < length c.self.inside.versions.items = subst (λ (vs : List (Option Version)). c.in-Some.row < length vs) c.as_slice.ensures.value c.in-Some.ensures.within in
    let free = subst (λ (vs : List (Option Version)). get_or vs c.in-Some.row None ≡ None) c.as_slice.ensures.value c.in-Some.ensures.free in
    let listed = subst (λ (ts : List TableParts). ListsAll (get nat_eq c.self.inside.kept) (get nat_eq c.list_tables.new.kept) c.in-Some.row (parts_of ts)) c.as_slice-in-Some.ensures.items c.list_tables.ensures.listed in
    let len = subst (λ (ts : List TableParts). index_map_len c.list_tables.new.kept ≤ index_map_len c.self.inside.kept + length (new_in (get nat_eq c.self.inside.kept) (blocks_of ts))) c.as_slice-in-Some.ensures.items c.list_tables.ensures.len in
    added_is_catalog c.self.inside _ c.args.n c.in-Some.row c.args.shape c.self.invariant may within free listed refl refl refl len

pub returns-in-Some-clause-added : goal.returns-in-Some-clause-added
returns-in-Some-clause-added c =
    let may = subst (λ (v : Versions). MayAdd v c.args.n c.args.shape) (sym c.self.view_is) c.requires.may in
    let within : c.in-Some.row < length c.self.inside.versions.items = subst (λ (vs : List (Option Version)). c.in-Some.row < length vs) c.as_slice.ensures.value c.in-Some.ensures.within in
    let free = subst (λ (vs : List (Option Version)). get_or vs c.in-Some.row None ≡ None) c.as_slice.ensures.value c.in-Some.ensures.free in
    let listed = subst (λ (ts : List TableParts). ListsAll (get nat_eq c.self.inside.kept) (get nat_eq c.list_tables.new.kept) c.in-Some.row (parts_of ts)) c.as_slice-in-Some.ensures.items c.list_tables.ensures.listed in
    let next = c.next_after_tables-self-inside.ensures.next ∙ ap (λ (ts : List TableParts). next_after c.self.inside.next_block (blocks_of ts)) c.as_slice-in-Some-2.ensures.items in
    let after : Inside = record { versions = with_item c.self.inside.versions c.in-Some.row (Some (record { n = c.args.n; shape = c.args.shape })); current = c.in-Some.row; next_block = c.next_after_tables-self-inside.result; kept = c.list_tables.new.kept; retired = c.self.inside.retired } in
    subst (λ (v : Versions). Adds v (versions_of after) c.args.n c.args.shape c.in-Some.row) c.self.view_is
    (adds c.self.inside after c.args.n c.in-Some.row c.args.shape c.self.invariant may within free listed refl refl refl next)
