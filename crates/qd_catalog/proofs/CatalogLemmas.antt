-- What each call leaves of a catalogue: its invariant, and what contracts see.
use Rattle.std.proofs.Common.{◌≡◌, ◌≢◌, ℕ, zero, suc, ◌+◌, ◌-◌, ◌<◌, ◌≤◌, min, Bool, true, false, cond, not, nat_eq, ◌↔◌, List, [], ◌∷◌, ◌++◌, length, get_or, set, drop, replicate, slice_get, is_some, Option, Some, None, Contains, IfSome, refl, sym, ap, subst, ◌∙◌, inl, inr, ⊎_elim, arith, true≢false}
use Rattle.std.specs.List.{list_any, IsDistinct}
use Rattle.std.specs.Map.{lookup}
use Rattle.std.specs.VecDeque.{deque_capacity}
use Rattle.indexmap.specs.IndexMap.{get, spare, index_map_len}
use Rattle.std.proofs.lemmas.Bool.{cases_Bool, cases_eq, cases_lt, both_ways, and_from, not_from_false, eqb-true}
use Rattle.std.proofs.lemmas.List.{length-set, get_or-set_same, get_or-set_other, get_or_default, get_or_past}
use Rattle.std.proofs.lemmas.Option.{none-some, same_Some}
use Rattle.std.proofs.lemmas.Map.Views.{Contains-from_any}
use Rattle.qd_base.proofs.Lists.{IsDistinct-nil}
use Rattle.qd_base.specs.declared.part.Part.{Part}
use Rattle.qd_manifest.specs.declared.shape.TableParts.{TableParts}
use Rattle.qd_manifest.specs.Spelling.{blocks_in, blocks_of}
use Rattle.qd_catalog.specs.declared.catalog.Catalog.TheInside.{Inside}
use Rattle.qd_catalog.specs.declared.blocks.Kept.{Kept}
use Rattle.qd_catalog.specs.declared.version.Version.{Version}
use Rattle.qd_catalog.specs.Versions.{Versions, version_at, IsLive, IsListed, lists, written_of, shown, parts_of, next_after, new_blocks, MayAdd, Adds, AreGone, Retires, Sweeps, first_row, IsOpened}
use Rattle.qd_catalog.specs.Tracked.{listed_by, kept_in, but_row, goes, listing, Tracks, Queues, Waits, new_in, ListsAll, Unlists}
use Rattle.qd_catalog.specs.Inside.{versions_of, IsCatalog}
use Rattle.qd_catalog.proofs.KeptLemmas.{blocks_of_parts, new_in_entries, rows_in_kept, rows_added, rows_stay, rows_but, rows_listed, shown-absent}
use Rattle.qd_catalog.proofs.AddLemmas.{tracks_added, queues_added}
use Rattle.qd_catalog.proofs.RetireLemmas.{tracks_removed, queues_removed, gone_listed, gone_free, none_true}
use Rattle.qd_catalog.proofs.SweepLemmas.{tracks_swept, queues_swept}

-- a row with a version is one of the rows
pub live_low : (versions : List (Option Version)) (row : ℕ) → is_some (get_or versions row None) ≡ true → row < length versions
live_low [] row e = absurd (true≢false (sym e))
live_low (v ∷ versions) zero e = omega arith
live_low (v ∷ versions) (suc row) e = let h = live_low versions row e in omega arith

-- ---- room

-- the room for new blocks, inside
pub room_inside : (c : Inside) (shape : List TableParts) → length (new_blocks (versions_of c) shape) ≤ (versions_of c).spare → length (new_in (get nat_eq c.kept) (blocks_of shape)) ≤ min (spare c.kept) (deque_capacity c.retired - index_map_len c.kept)
room_inside c shape h = subst (λ (bs : List ℕ). length bs ≤ min (spare c.kept) (deque_capacity c.retired - index_map_len c.kept)) (new_in_entries c.kept.entries (blocks_of shape)) h

pub room_seen : (c : Inside) (shape : List TableParts) (left : ℕ) → left + length (new_in (get nat_eq c.kept) (blocks_of shape)) ≡ min (index_map_len c.kept + spare c.kept) (deque_capacity c.retired) - index_map_len c.kept → length (new_blocks (versions_of c) shape) ≤ (versions_of c).spare
room_seen c shape left e =
    let inside : length (new_in (get nat_eq c.kept) (blocks_of shape)) ≤ min (spare c.kept) (deque_capacity c.retired - index_map_len c.kept) = omega arith in
    subst (λ (bs : List ℕ). length bs ≤ min (spare c.kept) (deque_capacity c.retired - index_map_len c.kept)) (sym (new_in_entries c.kept.entries (blocks_of shape))) inside

pub room_needed : (c : Inside) (shape : List TableParts) → length (new_blocks (versions_of c) shape) ≤ (versions_of c).spare → length (new_in (get nat_eq c.kept) (blocks_of shape)) ≤ min (index_map_len c.kept + spare c.kept) (deque_capacity c.retired) - index_map_len c.kept
room_needed c shape few =
    let inside : length (new_in (get nat_eq c.kept) (blocks_of shape)) ≤ min (spare c.kept) (deque_capacity c.retired - index_map_len c.kept) = subst (λ (bs : List ℕ). length bs ≤ min (spare c.kept) (deque_capacity c.retired - index_map_len c.kept)) (new_in_entries c.kept.entries (blocks_of shape)) few in
    omega (arith, inside)

-- ---- a version that is added

module _ (c d : Inside) (n row : ℕ) (shape : List TableParts) (good : IsCatalog c) (may : MayAdd (versions_of c) n shape) (within : row < length c.versions.items) (free : get_or c.versions.items row None ≡ None) (listed : ListsAll (get nat_eq c.kept) (get nat_eq d.kept) row (parts_of shape)) (rows : d.versions.items ≡ set c.versions.items row (Some (record { n = n; shape = shape }))) (newest : d.current ≡ row) (queue : d.retired ≡ c.retired) where
  abbrev it : Option Version
  it = Some (record { n = n; shape = shape })

  low : row < 64
  low = let size = good.rows in omega arith

  not_queued : (b : ℕ) → list_any (nat_eq b) (blocks_in (parts_of shape)) ≡ true → Contains c.retired.items b → ⊥
  not_queued b here waits = may.unretired b (Contains-from_any (λ x y t. eqb-true x y t) b (blocks_of shape) (ap (λ (bs : List ℕ). list_any (nat_eq b) bs) (blocks_of_parts shape) ∙ here)) waits

  tracks_new : Tracks (get nat_eq d.kept) (listing d.versions.items)
  tracks_new = subst (λ (vs : List (Option Version)). Tracks (get nat_eq d.kept) (listing vs)) (sym rows) (tracks_added (get nat_eq c.kept) (get nat_eq d.kept) c.versions.items row n shape good.rows low free listed good.tracks)

  queues_same : Queues (get nat_eq d.kept) (listing d.versions.items) c.retired.items
  queues_same = subst (λ (vs : List (Option Version)). Queues (get nat_eq d.kept) (listing vs) c.retired.items) (sym rows) (queues_added (get nat_eq c.kept) (get nat_eq d.kept) c.versions.items row n shape good.rows low free listed good.tracks c.retired.items not_queued good.queues)

  pub added_is_catalog : index_map_len d.kept ≤ index_map_len c.kept + length (new_in (get nat_eq c.kept) (blocks_of shape)) → IsCatalog d
  added_is_catalog len = record {
    rows = ap (λ (vs : List (Option Version)). length vs) rows ∙ length-set c.versions.items row it ∙ good.rows;
    live = ap (λ (vs : List (Option Version)). is_some (get_or vs d.current None)) rows ∙ ap (λ (r : ℕ). is_some (get_or (set c.versions.items row it) r None)) newest ∙ ap (λ (v : Option Version). is_some v) (get_or-set_same c.versions.items row it None within);
    tracks = tracks_new;
    queues = subst (λ q. Queues (get nat_eq d.kept) (listing d.versions.items) q.items) (sym queue) queues_same;
    room = (let inside = room_inside c shape may.room in let fits = good.room in let capacity = ap (λ q. deque_capacity q) queue in omega arith);
  }

  pub adds : d.next_block ≡ next_after c.next_block (blocks_of shape) → Adds (versions_of c) (versions_of d) n shape row
  adds next = record {
    within = low;
    free = free;
    versions = rows;
    current = newest;
    next_block = next;
    written = λ b. rows_added c.kept.entries d.kept.entries row (parts_of shape) listed b;
    retired = ap (λ q. q.items) queue;
  }

-- ---- a version that goes

module _ (c d : Inside) (row : ℕ) (x : Version) (good : IsCatalog c) (live : get_or c.versions.items row None ≡ Some x) (low : row < 64) (unlisted : Unlists (get nat_eq c.kept) (get nat_eq d.kept) row (blocks_of x.shape) c.retired.items d.retired.items) (rows : d.versions.items ≡ set c.versions.items row None) (same : d.current ≡ c.current) where
  abbrev now : ℕ → ℕ → Bool
  now = listing (set c.versions.items row None)

  tracks_left : Tracks (get nat_eq d.kept) now
  tracks_left = tracks_removed (get nat_eq c.kept) (get nat_eq d.kept) c.versions.items row x c.retired.items d.retired.items good.rows low live unlisted good.tracks

  queues_left : Queues (get nat_eq d.kept) now d.retired.items
  queues_left = queues_removed (get nat_eq c.kept) (get nat_eq d.kept) c.versions.items row x c.retired.items d.retired.items good.rows low live unlisted good.tracks good.queues

  pub retired_is_catalog : row ≢ c.current → index_map_len d.kept ≡ index_map_len c.kept → deque_capacity d.retired ≡ deque_capacity c.retired → IsCatalog d
  retired_is_catalog other len capacity = record {
    rows = ap (λ (vs : List (Option Version)). length vs) rows ∙ length-set c.versions.items row None ∙ good.rows;
    live = ap (λ (vs : List (Option Version)). is_some (get_or vs d.current None)) rows ∙ ap (λ (r : ℕ). is_some (get_or (set c.versions.items row None) r None)) same ∙ ap (λ (v : Option Version). is_some v) (get_or-set_other c.versions.items row c.current None None (λ e. other (sym e))) ∙ good.live;
    tracks = subst (λ (vs : List (Option Version)). Tracks (get nat_eq d.kept) (listing vs)) (sym rows) tracks_left;
    queues = subst (λ (vs : List (Option Version)). Queues (get nat_eq d.kept) (listing vs) d.retired.items) (sym rows) queues_left;
    room = (let fits = good.room in omega arith);
  }

  -- no row lists a block that the 64 rows don't list
  past : (b r : ℕ) → 64 ≤ r → now r b ≡ false
  past b r far =
      let size : length (set c.versions.items row None) ≤ r = omega (arith, length-set c.versions.items row None, good.rows) in
      ap (λ (v : Option Version). lists v b) (get_or_past (set c.versions.items row None) r None size)

  unlisted_now : (b : ℕ) → ((r : ℕ) → r < 64 → now r b ≡ false) → (r : ℕ) → now r b ≡ true → ⊥
  unlisted_now b h r e = elim (cases_lt r 64) [
    | inl near ↦ both_ways (now r b) (h r near) e
    | inr far ↦ both_ways (now r b) (past b r far) e
  ]

  not_now : (b r : ℕ) → (now r b ≡ true → ⊥) → now r b ≡ false
  not_now b r h = elim (cases_Bool (now r b)) [
    | inl holds ↦ absurd (h holds)
    | inr none ↦ none
  ]

  goes_at : (b : ℕ) (o : Option Kept) → get nat_eq c.kept b ≡ o → listing c.versions.items row b ≡ true → ((r : ℕ) → now r b ≡ true → ⊥) → goes (get nat_eq c.kept b) row ≡ true
  goes_at b None e here none = absurd (both_ways (listing c.versions.items row b) (good.tracks.absent b e row low) here)
  goes_at b (Some k) e here none =
      let left : listed_by k row ≡ true = good.tracks.there b k e row low ∙ here in
      let others : list_any (λ r. r) (but_row row k).rows ≡ false = none_true (but_row row k).rows (λ r lt. (
      let near : r < 64 = omega (arith, length-set k.rows row false, good.tracks.rows b k e) in
      elim (cases_eq r row) [
        | inl at ↦ subst (λ (i : ℕ). get_or (but_row row k).rows i false ≡ false) (sym at) (get_or-set_same k.rows row false false (omega (arith, good.tracks.rows b k e)))
        | inr other ↦ get_or-set_other k.rows row r false false other ∙ good.tracks.there b k e r near ∙ ap (λ (v : Option Version). lists v b) (sym (get_or-set_other c.versions.items row r None None other)) ∙ not_now b r (none r)
      ])) in
      ap (λ (o : Option Kept). goes o row) e ∙ and_from (listed_by k row) (not (list_any (λ r. r) (but_row row k).rows)) left (not_from_false (list_any (λ r. r) (but_row row k).rows) others)

  pub retires : d.next_block ≡ c.next_block → Retires (versions_of c) (versions_of d) row
  retires next = record {
    versions = rows;
    current = same;
    next_block = next;
    written = λ b. rows_stay c.kept.entries d.kept.entries row (blocks_of x.shape) c.retired.items d.retired.items unlisted b;
    gone = unlisted.gone;
    retired = unlisted.queue;
    are_gone = record {
      once = unlisted.once;
      exactly = λ b. (
        λ went. (
          gone_listed (get nat_eq c.kept) (get nat_eq d.kept) c.versions.items row x c.retired.items d.retired.items good.rows low live unlisted good.tracks good.queues b went,
          λ still. unlisted_now b (gone_free (get nat_eq c.kept) (get nat_eq d.kept) c.versions.items row x c.retired.items d.retired.items good.rows low live unlisted good.tracks good.queues b went) still.0 (ap (λ (vs : List (Option Version)). lists (get_or vs still.0 None) b) (sym rows) ∙ still.1),
        ),
        λ h. (unlisted.exactly b).1 (
          ap (λ (v : Option Version). lists v b) (sym live) ∙ h.0,
          goes_at b (get nat_eq c.kept b) refl h.0 (λ r e. h.1 (r, ap (λ (vs : List (Option Version)). lists (get_or vs r None) b) rows ∙ e)),
        ),
      );
    };
  }

-- ---- a block that is swept

pub front_is : (xs ys : List ℕ) (b : ℕ) → slice_get xs 0 ≡ Some b → ys ≡ drop 1 xs → xs ≡ b ∷ ys
front_is [] ys b e f = absurd (none-some b e)
front_is (x ∷ xs) ys b e f = ap (λ (y : ℕ). y ∷ xs) (same_Some x b e) ∙ ap (λ (l : List ℕ). b ∷ l) (sym f)

module _ (c d : Inside) (block : ℕ) (good : IsCatalog c) (front : c.retired.items ≡ block ∷ d.retired.items) (without : (b : ℕ) → get nat_eq d.kept b ≡ cond (nat_eq block b) None (get nat_eq c.kept b)) (rows : d.versions ≡ c.versions) (same : d.current ≡ c.current) where
  queues_here : Queues (get nat_eq c.kept) (listing c.versions.items) (block ∷ d.retired.items)
  queues_here = subst (λ (l : List ℕ). Queues (get nat_eq c.kept) (listing c.versions.items) l) front good.queues

  pub swept_is_catalog : index_map_len d.kept ≤ index_map_len c.kept → deque_capacity d.retired ≡ deque_capacity c.retired → IsCatalog d
  swept_is_catalog len capacity = record {
    rows = ap (λ vs. length vs.items) rows ∙ good.rows;
    live = ap (λ vs. is_some (get_or vs.items d.current None)) rows ∙ ap (λ (r : ℕ). is_some (get_or c.versions.items r None)) same ∙ good.live;
    tracks = subst (λ (vs : List (Option Version)). Tracks (get nat_eq d.kept) (listing vs)) (sym (ap (λ vs. vs.items) rows)) (tracks_swept (get nat_eq c.kept) (get nat_eq d.kept) c.versions.items block d.retired.items without good.tracks queues_here);
    queues = subst (λ (vs : List (Option Version)). Queues (get nat_eq d.kept) (listing vs) d.retired.items) (sym (ap (λ vs. vs.items) rows)) (queues_swept (get nat_eq c.kept) (get nat_eq d.kept) c.versions.items block d.retired.items without good.tracks queues_here);
    room = (let fits = good.room in omega arith);
  }

  pub sweeps : d.next_block ≡ c.next_block → Sweeps (versions_of c) (versions_of d) block
  sweeps next = record {
    versions = ap (λ vs. vs.items) rows;
    current = same;
    next_block = next;
    written = λ b. rows_but c.kept.entries d.kept.entries block without b;
    retired = front;
  }

-- ---- the catalogue of one version

no_version : (n row : ℕ) → get_or (replicate {A = Option Version} n None) row None ≡ None
no_version zero row = refl
no_version (suc n) zero = refl
no_version (suc n) (suc row) = no_version n row

abbrev pub no_rows_live : List (Option Version)
no_rows_live = None ∷ replicate 63 None

none_live : (row : ℕ) → get_or no_rows_live row None ≡ None
none_live zero = refl
none_live (suc row) = no_version 63 row

module _ (start : ℕ → Option Kept) (empty : (b : ℕ) → start b ≡ None) where
  tracks_nothing : Tracks start (listing no_rows_live)
  tracks_nothing = record {
    rows = λ b k e. absurd (none-some k (sym (empty b) ∙ e));
    there = λ b k e r lt. absurd (none-some k (sym (empty b) ∙ e));
    absent = λ b e r lt. ap (λ (v : Option Version). lists v b) (none_live r);
  }

  queues_nothing : Queues start (listing no_rows_live) []
  queues_nothing = record {
    once = IsDistinct-nil nat_eq;
    there = λ b c e. absurd (omega (arith, c.1));
    free = λ b c. absurd (omega (arith, c.1));
    all = λ b k e h. absurd (none-some k (sym (empty b) ∙ e));
  }

  module _ (d : Inside) (n : ℕ) (shape : List TableParts) (rows : d.versions.items ≡ first_row n shape) (first : d.current ≡ 0) (listed : ListsAll start (get nat_eq d.kept) 0 (parts_of shape)) (queue : d.retired.items ≡ []) where
    pub opened_is_catalog : index_map_len d.kept ≤ deque_capacity d.retired → IsCatalog d
    opened_is_catalog fits = record {
      rows = ap (λ (vs : List (Option Version)). length vs) rows;
      live = ap (λ (vs : List (Option Version)). is_some (get_or vs d.current None)) rows ∙ ap (λ (r : ℕ). is_some (get_or (first_row n shape) r None)) first;
      tracks = subst (λ (vs : List (Option Version)). Tracks (get nat_eq d.kept) (listing vs)) (sym rows) (tracks_added start (get nat_eq d.kept) no_rows_live 0 n shape refl (omega arith) refl listed tracks_nothing);
      queues = subst (λ (l : List ℕ). Queues (get nat_eq d.kept) (listing d.versions.items) l) (sym queue) (subst (λ (vs : List (Option Version)). Queues (get nat_eq d.kept) (listing vs) []) (sym rows) (queues_added start (get nat_eq d.kept) no_rows_live 0 n shape refl (omega arith) refl listed tracks_nothing [] (λ b e c. absurd (omega (arith, c.1))) queues_nothing));
      room = fits;
    }

    shown_at : (b : ℕ) → (kept_in (start b)).written ≡ 0
    shown_at b = ap (λ (o : Option Kept). (kept_in o).written) (empty b)

    pub opened : (next : ℕ) → d.next_block ≡ next → IsOpened (versions_of d) n next shape
    opened next e = record {
      versions = rows;
      current = first;
      next_block = e;
      written = λ b. rows_in_kept d.kept.entries b ∙ ap (λ (o : Option Kept). (kept_in o).written) (listed b) ∙ rows_listed (list_any (nat_eq b) (blocks_in (parts_of shape))) (start b) 0 (shown (parts_of shape) b) (λ none. shown-absent (parts_of shape) b none) ∙ (let none = shown_at b in omega arith);
      retired = queue;
    }
