-- What the holder's steps on versions leave: the lock may be given back, and the pass has gone on.
use Rattle.std.proofs.Common.{◌≡◌, ◌≢◌, ◌∙◌, ℕ, zero, suc, true, ◌<◌, ◌≤◌, List, [], ◌∷◌, length, map, get_or, set, Option, Some, None, is_some, refl, sym, ap, ap₂, subst, arith}
use mathlib.Core.List.{IsPrefix}
use Rattle.std.proofs.lemmas.List.{get_or-set_other, get_or-set_same, length-map, length-set, map-set}
use Rattle.std.proofs.lemmas.List.Elements.{Contains-append_right}
use Rattle.qd_base.specs.declared.limits.TheConstants.{MAX_TXNS}
use Rattle.qd_base.specs.declared.op.Entry.{Entry}
use Rattle.qd_catalog.specs.declared.version.Version as catalog
use Rattle.qd_catalog.specs.Versions as rows
use Rattle.qd_catalog.specs.Versions.{Adds, IsLive, Retires}
use Rattle.qd_manifest.specs.declared.shape.TableParts.{TableParts}
use Rattle.qd_manifest.specs.Spelling.{blocks_of}
use Rattle.qd_score.specs.Calls.{MayGiveBack}
use Rattle.qd_score.specs.Publishing.{MayLetGo, MayMakeCurrent, MayMakeLive, with_current, with_live, without_row}
use Rattle.qd_score.specs.Rule.{with_view}
use Rattle.qd_score_model.specs.declared.view.Mode.TheVariants.{Keeper}
use Rattle.qd_score_model.specs.declared.view.Place.{Place}
use Rattle.qd_score_model.specs.declared.view.Refusal.{Refusal}
use Rattle.qd_score_model.specs.declared.view.Version.{Version}
use Rattle.qd_score_model.specs.Machine.{AllPresent, IsGreatest, refuses, sees, version_at}
use Rattle.qd_score_model.proofs.Lists.{prefix_refl, prefix_trans}
use Rattle.qd_sequencer.specs.Sequences.{Sequence}
use Rattle.qd_store_backend.specs.Backs.{current, n_in}
use Rattle.qd_shared.specs.declared.item.Item.{Item}
use Rattle.qd_shared.specs.Desks.{Desk, book_of, items_in, items_of, place_in, version_of, versions_in}
use Rattle.qd_shared.specs.Holding.{Along, Grows, MayEnd, SeesAll, Steps}
use Rattle.qd_shared.specs.Passes.{Knowing}
use Rattle.qd_shared.specs.Publishing.{HasRows, IsRest}
use Rattle.qd_shared.specs.Rounds.{IsRefused, current_row}
use Rattle.qd_shared.proofs.Held.{See}
use Rattle.qd_shared.proofs.Items.{items_count}
use Rattle.qd_shared.proofs.Rows.{Row, on_board, present_all, row_of, same_row, written_row}

-- ---- what stays

pub rest_items : (old new : Desk) → IsRest old new → items_in new ≡ items_in old
rest_items old new rest = ap₂ (λ (s : Sequence) (h : Option (List Entry)). items_of s.refs h) rest.sequence rest.history

pub rest_grows : (old new : Desk) → IsRest old new → Grows old new
rest_grows old new rest = record {
  items = subst (λ (l : List Item). IsPrefix (items_in old) l) (sym (rest_items old new rest)) (prefix_refl (items_in old));
  stays = ap₂ (λ limits (h : Option (List Entry)). record { limits = limits; told = is_some h }) rest.limits rest.history;
  rise = rest.faults;
}

pub grows_refl : (d : Desk) → Grows d d
grows_refl d = record { items = prefix_refl (items_in d); stays = refl; rise = omega arith }

pub grows_both : (a b c : Desk) → Grows a b → Grows b c → Grows a c
grows_both a b c g h = record {
  items = prefix_trans (items_in a) (items_in b) (items_in c) g.items h.items;
  stays = h.stays ∙ g.stays;
  rise = let x = g.rise in let y = h.rise in omega (arith, x, y);
}

-- ---- steps

pub steps_none : (now : Knowing) (from to : Desk) → MayEnd now from → Grows from to → Steps now now from to
steps_none now from to (h, held, may) grows = record {
  sight = h;
  sight_then = h;
  held = held;
  held_then = held;
  history = refl;
  origin = refl;
  mode = refl;
  phase = refl;
  room = refl;
  own = refl;
  records = refl;
  refused = prefix_refl now.view.refused;
  grows = grows;
}

one_sight : (now : Knowing) (a b : See) → now.view.hold ≡ Some a → now.view.hold ≡ Some b → a ≡ b
one_sight now a b x y = let z : Some a ≡ Some b = sym x ∙ y in cc

pub steps_both : (a b c : Knowing) (x y z : Desk) → Steps a b x y → Steps b c y z → Steps a c x z
steps_both a b c x y z s t = record {
  sight = s.sight;
  sight_then = t.sight_then;
  held = s.held;
  held_then = t.held_then;
  history = t.history ∙ (ap (λ (h : See). h.history) (one_sight b t.sight s.sight_then t.held s.held_then) ∙ s.history);
  origin = t.origin ∙ s.origin;
  mode = t.mode ∙ s.mode;
  phase = t.phase ∙ s.phase;
  room = t.room ∙ s.room;
  own = t.own ∙ s.own;
  records = t.records ∙ s.records;
  refused = prefix_trans a.view.refused b.view.refused c.view.refused s.refused t.refused;
  grows = grows_both x y z s.grows t.grows;
}

-- a hold goes on by steps
pub along_steps : (k now then : Knowing) (found from to : Desk) → Along k now found → Steps now then from to → Along k then found
along_steps k now then found from to a s = record {
  hold = s.sight_then;
  held = s.held_then;
  history = s.history ∙ (ap (λ (h : See). h.history) (one_sight now s.sight a.hold s.held a.held) ∙ a.history);
  origin = s.origin ∙ a.origin;
  mode = s.mode ∙ a.mode;
  phase = s.phase ∙ a.phase;
  room = s.room ∙ a.room;
  own = s.own ∙ a.own;
  records = s.records ∙ a.records;
}

abbrev pub place_with : ℕ → ℕ → Place
place_with n row = record { n = n; row = row }

-- ---- the lock may be given back

-- over a desk with the versions that are seen
pub may_end_at : (now : Knowing) (h : See) (from to : Desk) → now.view.hold ≡ Some h → IsPrefix h.history (items_in from) → (now.view.mode ≡ Keeper → items_in from ≡ h.history) → IsRest from to → h.faults ≤ from.owned.storage.faults → h.removed ≤ to.removed
    → versions_in to ≡ h.versions → place_in to ≡ h.current → IsGreatest h.current.n h.versions → HasRows to → MayEnd now to
may_end_at now h from to held history keeper rest faults removed versions place greatest have = (
  h,
  held,
  record {
    history = subst (λ (l : List Item). IsPrefix h.history l) (sym (rest_items from to rest)) history;
    keeper = λ m. rest_items from to rest ∙ keeper m;
    faults = let rise = rest.faults in omega (arith, rise, faults);
    removed = removed;
    versions = versions;
    current = place;
    greatest = greatest;
    present = subst (λ (l : List Row). AllPresent blocks_of l (book_of to).present) versions (present_all to have);
  },
)

-- ---- a version is let go

live_version : (o : Option catalog.Version) → is_some o ≡ true → (y : catalog.Version) × (o ≡ Some y)
live_version None live = absurd (cc)
live_version (Some y) live = (y, refl)

live_within : (l : List (Option catalog.Version)) (row : ℕ) → is_some (get_or l row None) ≡ true → row < length l
live_within [] row live = absurd (cc)
live_within (x ∷ xs) zero live = omega arith
live_within (x ∷ xs) (suc row) live = let h = live_within xs row live in omega (arith, h)

-- a row that is live and not the current one may be let go
pub may_let_go : (now : Knowing) (d : Desk) (row : ℕ) → MayEnd now d → IsLive d.owned.store.versions.versions row → row ≢ current_row d → (h : See) × (now.view.hold ≡ Some h) × MayLetGo h row
may_let_go now d row (h, held, may) live older =
    let (y, at) = live_version (get_or d.owned.store.versions.versions.versions row None) live in (
      h,
      held,
      record {
        live = (record { n = y.n; shape = y.shape }, ap (λ (l : List Row). version_at l row) (sym may.versions) ∙ on_board d row y at);
        other = λ e. older (e ∙ ap (λ (p : Place). p.row) (sym may.current));
      },
    )

-- there are 64 rows, and a live one is among them
pub retired_within : (from to : Desk) (row : ℕ) → Retires from.owned.store.versions.versions to.owned.store.versions.versions row → HasRows to → IsLive from.owned.store.versions.versions row → row < 64
retired_within from to row retired have live =
    let lt = live_within from.owned.store.versions.versions.versions row live in
    let same : length to.owned.store.versions.versions.versions ≡ length from.owned.store.versions.versions.versions = ap length retired.versions ∙ length-set from.owned.store.versions.versions.versions row None in
    let rows = have.rows in
    omega (arith, lt, same, rows)

module _ (now : Knowing) (from to : Desk) (row : ℕ) (retired : Retires from.owned.store.versions.versions to.owned.store.versions.versions row) (older : row ≢ current_row from) where
  retired_versions : versions_in to ≡ set (versions_in from) row None
  retired_versions = ap (map version_of) retired.versions ∙ map-set version_of from.owned.store.versions.versions.versions row None

  pub retired_other : (other : ℕ) → other ≢ row → rows.version_at to.owned.store.versions.versions other ≡ rows.version_at from.owned.store.versions.versions other
  retired_other other apart =
      ap (λ (l : List (Option catalog.Version)). get_or l other None) retired.versions ∙ get_or-set_other from.owned.store.versions.versions.versions row other None None apart

  pub retired_current : current to.owned.store ≡ current from.owned.store
  retired_current =
      ap (λ (r : ℕ). rows.version_at to.owned.store.versions.versions r) retired.current ∙ retired_other (current_row from) (λ e. older (sym e))

  pub retired_row : row < 64 → length to.owned.store.versions.versions.versions ≡ 64 → rows.version_at to.owned.store.versions.versions row ≡ None
  retired_row within count =
      let same : length to.owned.store.versions.versions.versions ≡ length from.owned.store.versions.versions.versions = ap length retired.versions ∙ length-set from.owned.store.versions.versions.versions row None in
      ap (λ (l : List (Option catalog.Version)). get_or l row None) retired.versions
      ∙ get_or-set_same from.owned.store.versions.versions.versions row None None (omega (arith, within, count, same))

  pub retired_end : row < 64 → MayEnd now from → IsRest from to → to.removed ≡ from.removed → HasRows to
      → (h : See) (then : Knowing) → now.view.hold ≡ Some h → then ≡ with_view now (sees now.view (without_row h row)) → MayEnd then to × Steps now then from to
  retired_end within (h0, held0, may) rest removed have h then held is =
      let e = one_sight now h0 h held0 held in
      let m : MayGiveBack blocks_of now.view h (book_of from) = subst (λ (x : See). MayGiveBack blocks_of now.view x (book_of from)) e may in
      let count : length (set h.versions row None) ≡ 64 = ap length (sym (retired_versions ∙ ap (λ (l : List Row). set l row None) m.versions)) ∙ (length-map to.owned.store.versions.versions.versions version_of ∙ have.rows) in
      let within_h : row < length h.versions = omega (arith, within, count, length-set h.versions row None) in
      let seen = with_view now (sees now.view (without_row h row)) in
      let end : MayEnd seen to =
      may_end_at seen (without_row h row) from to refl m.history m.keeper rest m.faults (subst (λ (n : ℕ). h.removed ≤ n) (sym removed) m.removed)
      (retired_versions ∙ ap (λ (l : List Row). set l row None) m.versions)
      (ap₂ (λ (o : Option catalog.Version) (r : ℕ). place_with (n_in o) r) retired_current retired.current ∙ m.current)
      (written_row h.versions row None (λ (other : ℕ) (y : Version (List TableParts)). y.n ≤ h.current.n) within_h (λ y none. absurd (cc)) (λ other y apart at. m.greatest other y at))
      have
      in
      let steps : Steps now seen from to = record {
        sight = h;
        sight_then = without_row h row;
        held = held;
        held_then = refl;
        history = refl;
        origin = refl;
        mode = refl;
        phase = refl;
        room = refl;
        own = refl;
        records = refl;
        refused = prefix_refl now.view.refused;
        grows = rest_grows from to rest;
      } in
      (subst (λ (x : Knowing). MayEnd x to) (sym is) end, subst (λ (x : Knowing). Steps now x from to) (sym is) steps)

-- a row was found pinned
pub refused_end : (now then : Knowing) (from : Desk) (row word : ℕ) → MayEnd now from → then ≡ with_view now (refuses now.view row word) → 3 ≤ word
    → MayEnd then from × Steps now then from from × IsRefused then.view.refused row
refused_end now then from row word (h, held, may) is pins =
    let seen = with_view now (refuses now.view row word) in
    let r : Refusal = record { row = row; word = word } in
    let end : MayEnd seen from = (h, held, record { history = may.history; keeper = may.keeper; faults = may.faults; removed = may.removed; versions = may.versions; current = may.current; greatest = may.greatest; present = may.present }) in
    let steps : Steps now seen from from = record {
      sight = h;
      sight_then = h;
      held = held;
      held_then = held;
      history = refl;
      origin = refl;
      mode = refl;
      phase = refl;
      room = refl;
      own = refl;
      records = refl;
      refused = (r ∷ [], refl);
      grows = grows_refl from;
    } in
    let found : IsRefused seen.view.refused row = (word, Contains-append_right now.view.refused (r ∷ []) r (0, omega arith, refl), pins) in
    (subst (λ (x : Knowing). MayEnd x from) (sym is) end, subst (λ (x : Knowing). Steps now x from from) (sym is) steps, subst (λ (x : Knowing). IsRefused x.view.refused row) (sym is) found)

-- ---- versions stay

-- the desk goes on, and its versions are as they were
pub same_end : (now : Knowing) (from to : Desk) → MayEnd now from → IsRest from to → from.removed ≤ to.removed → to.owned.store.versions.versions.versions ≡ from.owned.store.versions.versions.versions → current_row to ≡ current_row from → HasRows to
    → MayEnd now to × Steps now now from to
same_end now from to (h, held, may) rest removed list row have =
    let same : current to.owned.store ≡ current from.owned.store = ap₂ (λ (l : List (Option catalog.Version)) (r : ℕ). get_or l r None) list row in
    let end : MayEnd now to =
    may_end_at now h from to held may.history may.keeper rest may.faults (let m = may.removed in omega (arith, removed, m))
    (ap (map version_of) list ∙ may.versions) (ap₂ (λ (o : Option catalog.Version) (r : ℕ). place_with (n_in o) r) same row ∙ may.current) may.greatest have
    in
    (end, steps_none now from to (h, held, may) (rest_grows from to rest))

-- ---- a version is shown

module _ (now : Knowing) (from to : Desk) (row upto : ℕ) (shape : List TableParts) (adds : Adds from.owned.store.versions.versions to.owned.store.versions.versions upto shape row)
    (may : MayEnd now from) (sees_all : SeesAll now from) (rest : IsRest from to) (removed : to.removed ≡ from.removed) (have : HasRows to) (all : upto ≤ length from.owned.store.sequence.refs) (more : n_in (current from.owned.store) < upto) (few : upto ≤ MAX_TXNS) where
  abbrev pub next : Version (List TableParts)
  next = record { n = upto; shape = shape }

  abbrev pub place : Place
  place = place_with upto row

  -- what the holder sees
  abbrev pub before : See
  before = may.0

  within : row < length from.owned.store.versions.versions.versions
  within = let w = adds.within in let count : length to.owned.store.versions.versions.versions ≡ length from.owned.store.versions.versions.versions = ap length adds.versions ∙ length-set from.owned.store.versions.versions.versions row (Some (record { n = upto; shape = shape })) in let r = have.rows in omega (arith, w, count, r)

  added_versions : versions_in to ≡ set before.versions row (Some next)
  added_versions =
      ap (map version_of) adds.versions ∙ (map-set version_of from.owned.store.versions.versions.versions row (Some (record { n = upto; shape = shape })) ∙ ap (λ (l : List Row). set l row (Some next)) may.2.versions)

  within_seen : row < length before.versions
  within_seen = let w = within in let count : length before.versions ≡ length from.owned.store.versions.versions.versions = ap length (sym may.2.versions) ∙ length-map from.owned.store.versions.versions.versions version_of in omega (arith, w, count)

  added_row : rows.version_at to.owned.store.versions.versions row ≡ Some (record { n = upto; shape = shape })
  added_row =
      ap (λ (l : List (Option catalog.Version)). get_or l row None) adds.versions
      ∙ get_or-set_same from.owned.store.versions.versions.versions row (Some (record { n = upto; shape = shape })) None within

  pub added_current : current to.owned.store ≡ Some (record { n = upto; shape = shape })
  added_current = ap (λ (r : ℕ). rows.version_at to.owned.store.versions.versions r) adds.current ∙ added_row

  newer : before.current.n < upto
  newer = subst (λ (p : Place). p.n < upto) may.2.current more

  pub may_live : (h : See) × (now.view.hold ≡ Some h) × ((x : Version (List TableParts)) × (version_at (versions_in to) row ≡ Some x) × MayMakeLive h row x)
  may_live = (
    before,
    may.1,
    (
      next,
      on_board to row (record { n = upto; shape = shape }) added_row,
      record {
        is_row = adds.within;
        dead = ap (λ (l : List Row). version_at l row) (sym may.2.versions) ∙ (row_of from.owned.store.versions.versions.versions row ∙ ap version_of adds.free);
        greatest = may.2.greatest;
        newer = newer;
        within = (
            let seen : before.history ≡ items_in from = ap (λ (h : See). h.history) (one_sight now before sees_all.0 may.1 sees_all.1) ∙ sees_all.2 in
            let count : length before.history ≡ length from.owned.store.sequence.refs = ap length seen ∙ items_count from.owned.store.sequence.refs from.history in
            omega (arith, count, all)
            );
        small = omega (arith, few);
      },
    ),
  )

  abbrev pub lit : Knowing
  lit = with_view now (sees now.view (with_live before row next))

  -- once it is live
  pub live_is : (then : Knowing) → ((h : See) × (now.view.hold ≡ Some h) × ((x : Version (List TableParts)) × (version_at (versions_in to) row ≡ Some x) × (then ≡ with_view now (sees now.view (with_live h row x))))) → then ≡ lit
  live_is then (h, held, (x, at, is)) =
      let one : h ≡ before = one_sight now h before held may.1 in
      let there : Some x ≡ Some next = sym at ∙ on_board to row (record { n = upto; shape = shape }) added_row in
      let same : x ≡ next = cc in
      is ∙ ap₂ (λ (g : See) (y : Version (List TableParts)). with_view now (sees now.view (with_live g row y))) one same

  pub may_current : (then : Knowing) → then ≡ lit → (h : See) × (then.view.hold ≡ Some h) × MayMakeCurrent h place
  may_current then is = (
    with_live before row next,
    ap (λ (k : Knowing). k.view.hold) is,
    record { live = (next, same_row before.versions row (Some next) within_seen, refl); newer = newer; small = omega (arith, few) },
  )

  abbrev pub shown : Knowing
  shown = with_view lit (sees lit.view (with_current (with_live before row next) place))

  -- once it is the current one
  pub current_is : (then last : Knowing) → then ≡ lit → ((h : See) × (then.view.hold ≡ Some h) × (last ≡ with_view then (sees then.view (with_current h place)))) → last ≡ shown
  current_is then last is (h, held, was) =
      let one : h ≡ with_live before row next = one_sight lit h (with_live before row next) (sym (ap (λ (k : Knowing). k.view.hold) is) ∙ held) refl in
      was ∙ ap₂ (λ (k : Knowing) (g : See). with_view k (sees k.view (with_current g place))) is one

  pub shown_end : (last : Knowing) → last ≡ shown → MayEnd last to × Steps now last from to
  shown_end last is =
      let end : MayEnd shown to =
      may_end_at shown (with_current (with_live before row next) place) from to refl may.2.history may.2.keeper rest may.2.faults (subst (λ (n : ℕ). before.removed ≤ n) (sym removed) may.2.removed)
      added_versions
      (ap₂ (λ (o : Option catalog.Version) (r : ℕ). place_with (n_in o) r) added_current adds.current)
      (written_row before.versions row (Some next) (λ (other : ℕ) (y : Version (List TableParts)). y.n ≤ upto) within_seen
      (λ y same. let e : y ≡ next = cc in let n : y.n ≡ upto = ap (λ (v : Version (List TableParts)). v.n) e in omega (arith, n))
      (λ other y apart at. let le = may.2.greatest other y at in let less = newer in omega (arith, le, less)))
      have
      in
      let steps : Steps now shown from to = record {
        sight = before;
        sight_then = with_current (with_live before row next) place;
        held = may.1;
        held_then = refl;
        history = refl;
        origin = refl;
        mode = refl;
        phase = refl;
        room = refl;
        own = refl;
        records = refl;
        refused = prefix_refl now.view.refused;
        grows = rest_grows from to rest;
      } in
      (subst (λ (x : Knowing). MayEnd x to) (sym is) end, subst (λ (x : Knowing). Steps now x from to) (sym is) steps)
