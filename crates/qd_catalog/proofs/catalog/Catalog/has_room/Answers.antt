use Rattle.std.proofs.Common.{◌≡◌, ◌+◌, ◌-◌, ◌≤◌, ◌∙◌, ℕ, min, List, Option, Some, None, true, is_some, IfSome, Contains, nat_eq, length, All, ◌<◌, ◌^◌, sym, ap, subst, arith, true≢false}
use Rattle.std.specs.List.{list_any}
use Rattle.std.specs.VecDeque.{deque_capacity}
use Rattle.std.proofs.lemmas.Bool.{both_ways}
use Rattle.indexmap.specs.IndexMap.{get, spare, index_map_len}
use Rattle.qd_manifest.specs.declared.shape.TableParts.{TableParts}
use Rattle.qd_manifest.specs.Spelling.{blocks_of}
use Rattle.qd_catalog.specs.Versions.{Versions, new_blocks}
use Rattle.qd_catalog.specs.Tracked.{AreListed, new_in}
use Rattle.qd_catalog.proofs.QueueLemmas.{waits_of, listed_of}
use Rattle.qd_catalog.proofs.CatalogLemmas.{room_seen, room_needed}
use Rattle.qd_catalog.proofs.catalog.Catalog.has_room.Goals as goal

-- what is said of a number that is there
some_of : (r : Option ℕ) (P : ℕ → Type 0) → is_some r ≡ true → IfSome r P → (x : ℕ) × P x
some_of None P e h = absurd (true≢false (sym e))
some_of (Some x) P e h = (x, h)

pub returns-clause-room : goal.returns-clause-room
returns-clause-room c = λ found.
    let inside = c.self.inside in
    let left = some_of c.room_after_tables.result (λ left. left + length (new_in (get nat_eq inside.kept) (blocks_of c.as_slice.result.now)) ≡ c.saturating_sub-room.result) (sym c.is_some.ensures ∙ found) c.room_after_tables.ensures.room in
    let same = ap (λ (ts : List TableParts). length (new_in (get nat_eq inside.kept) (blocks_of ts))) c.as_slice.ensures.items in
    let places : left.0 + length (new_in (get nat_eq inside.kept) (blocks_of c.args.shape.now)) ≡ min (index_map_len inside.kept + spare inside.kept) (deque_capacity inside.retired) - index_map_len inside.kept = omega (arith, left.1, same, c.saturating_sub-room.ensures, c.min-places.ensures, c.capacity.ensures, c.capacity-2.ensures, c.len.ensures.len) in
    subst (λ (v : Versions). length (new_blocks v c.args.shape.now) ≤ v.spare) c.self.view_is (room_seen inside c.args.shape.now left.0 places)

pub returns-clause-unretired : goal.returns-clause-unretired
returns-clause-unretired c = λ found b here queued.
    let inside = c.self.inside in
    let waits = (waits_of (get nat_eq inside.kept) inside.versions.items inside.retired.items c.self.invariant.tracks c.self.invariant.queues).free b (subst (λ (v : Versions). Contains v.retired b) (sym c.self.view_is) queued) in
    let left = some_of c.room_after_tables.result (λ left. AreListed (get nat_eq inside.kept) (blocks_of c.as_slice.result.now)) (sym c.is_some.ensures ∙ found) c.room_after_tables.ensures.listed in
    both_ways (list_any (λ r. r) waits.0.rows) waits.2 (left.1 b waits.0 (subst (λ (ts : List TableParts). Contains (blocks_of ts) b) (sym c.as_slice.ensures.items) here) waits.1)

pub returns-clause-enough : goal.returns-clause-enough
returns-clause-enough c = λ few unretired small.
    let inside = c.self.inside in
    let kept = get nat_eq inside.kept in
    let need = room_needed inside c.args.shape.now (subst (λ (v : Versions). length (new_blocks v c.args.shape.now) ≤ v.spare) (sym c.self.view_is) few) in
    let same = ap (λ (ts : List TableParts). length (new_in kept (blocks_of ts))) c.as_slice.ensures.items in
    let listed : AreListed kept (blocks_of c.args.shape.now) = λ b k here e. listed_of kept inside.versions.items inside.retired.items c.self.invariant.tracks c.self.invariant.queues b (λ queued. unretired b here (subst (λ (v : Versions). Contains v.retired b) c.self.view_is queued)) k e in
    c.is_some.ensures ∙ c.room_after_tables.ensures.enough
    (omega (arith, need, same, c.saturating_sub-room.ensures, c.min-places.ensures, c.capacity.ensures, c.capacity-2.ensures, c.len.ensures.len))
    (subst (λ (ts : List TableParts). AreListed kept (blocks_of ts)) (sym c.as_slice.ensures.items) listed)
    (subst (λ (ts : List TableParts). All (λ b. b + 1 < 2 ^ 64) (blocks_of ts)) (sym c.as_slice.ensures.items) small)
