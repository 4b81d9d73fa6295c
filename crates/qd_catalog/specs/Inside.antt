-- What a catalogue keeps, and what contracts see of it. No public clause cites this module.
use Rattle.std.specs.Prelude.{◌≡◌, ℕ, ◌+◌, ◌-◌, ◌≤◌, min, true, nat_eq, List, map, length, is_some, None, slice_index_or}
use Rattle.std.specs.VecDeque.{deque_capacity}
use Rattle.indexmap.specs.IndexMap.{spare, get, index_map_len}
use Rattle.qd_catalog.specs.declared.catalog.Catalog.TheInside.{Inside}
use Rattle.qd_catalog.specs.Versions.{Versions}
use Rattle.qd_catalog.specs.Tracked.{Tracks, Queues, listing}

abbrev pub written_in : Inside → List (ℕ × ℕ)
written_in c = map (λ e. (e.0, e.1.written)) c.kept.entries

abbrev pub versions_of : Inside → Versions
versions_of c = record {
  versions = c.versions.items;
  current = c.current;
  next_block = c.next_block;
  written = written_in c;
  retired = c.retired.items;
  spare = min (spare c.kept) (deque_capacity c.retired - index_map_len c.kept);
}

pub record IsCatalog (c : Inside) : Type 0 where
  pub rows : length c.versions.items ≡ 64
  pub live : is_some (slice_index_or c.versions.items c.current None) ≡ true
  pub tracks : Tracks (get nat_eq c.kept) (listing c.versions.items)
  pub queues : Queues (get nat_eq c.kept) (listing c.versions.items) c.retired.items
  pub room : index_map_len c.kept ≤ deque_capacity c.retired
