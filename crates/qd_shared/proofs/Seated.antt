-- A pass before and after a hold, as the calls of a shared store have it.
use Rattle.std.proofs.Common.{◌≡◌, ◌≢◌, ◌∙◌, ℕ, ◌≤◌, inl, inr, List, Option, Some, None, IfOk, IfSome, Result, Ok, Err, length, map, slice_get, refl, sym, ap, ap₂, subst, arith}
use mathlib.Core.List.{IsPrefix}
use Rattle.atomic_table.specs.Seated.{TableId}
use Rattle.qd_base.specs.declared.op.Entry.{Entry}
use Rattle.qd_base.specs.declared.part.Part.{Part}
use Rattle.qd_base.specs.Replay.{first}
use Rattle.qd_block.specs.Blocks.{Block}
use Rattle.qd_catalog.specs.declared.version.Version as catalog
use Rattle.qd_catalog.specs.Versions as rows
use Rattle.qd_durable.specs.declared.fault.LogFault.{LogFault}
use Rattle.qd_durable.specs.declared.fault.LogFault.TheVariants as log
use Rattle.qd_durable.specs.Faults.{CountsVol}
use Rattle.qd_io.specs.Ends.{HasRisen}
use Rattle.qd_manifest.specs.declared.shape.TableParts.{TableParts}
use Rattle.qd_manifest.specs.Spelling.{blocks_of}
use Rattle.qd_scan.specs.Sources.{IsBlockOf, rows_at, rows_in_part, table_rows}
use Rattle.qd_score.specs.Rule.{with_view}
use Rattle.qd_score_model.specs.declared.view.Mode.TheVariants.{Keeper}
use Rattle.qd_score_model.specs.declared.view.Phase.TheVariants.{Pinned}
use Rattle.qd_score_model.specs.declared.view.Place.{Place}
use Rattle.qd_score_model.specs.declared.view.Version.{Version}
use Rattle.qd_score_model.specs.Machine.{AllPresent, pinned_held, version_at}
use Rattle.qd_store.specs.Reading.{IsShownPart}
use Rattle.qd_store.specs.Stores.{Book}
use Rattle.qd_versions.specs.Reading.{IsPartAt}
use Rattle.qd_store_backend.specs.Backs.{current, n_in}
use Rattle.qd_sequencer.specs.declared.fault.CommitFault.{CommitFault}
use Rattle.qd_sequencer.specs.declared.fault.Committed.{Committed}
use Rattle.qd_shared.specs.declared.item.Item.{Item}
use Rattle.qd_shared.specs.Commits.{Asked, Commits, CommitsTo, IsCounted}
use Rattle.qd_shared.specs.Desks.{Desk, items_in, items_of, version_of, versions_in}
use Rattle.qd_shared.specs.Holding.{Along, Begins, Finds, Gives, Grows, MayEnd}
use Rattle.qd_shared.specs.Passes.{HasDesk, Holds, Knowing, Looks, Pass, faults_of, history_of, view_of}
use Rattle.qd_shared.specs.declared.snap.Snap.{Snap}
use Rattle.qd_shared.specs.Publishing.{IsRest}
use Rattle.qd_shared.specs.Snaps.{HasPart, IsCopied, IsPinned, IsRowsOf, IsSnapOf, Notes, ReadsPart}
use Rattle.qd_shared.proofs.Committing.{commits}
use Rattle.qd_shared.proofs.Held.{at_table, holds}
use Rattle.qd_shared.proofs.Items.{history_left, items_count}
use Rattle.qd_shared.proofs.Rows.{Row, in_catalog, on_board}
use Rattle.qd_shared.proofs.Turning.{grows_refl, place_with, rest_grows, rest_items}

-- a pass is no Keeper while it holds the lock
pub not_keeper : (p : Pass) (k now : Knowing) (found : Desk) (table : TableId) → at_table table k ≡ p → Along k now found → (view_of p).mode ≢ Keeper → now.view.mode ≢ Keeper
not_keeper p k now found table is a kind m = kind (ap (λ (q : Pass). (view_of q).mode) (sym is) ∙ (sym a.mode ∙ m))

-- as many items as transactions, where these are told
pub counted_items : (d : Desk) → IsCounted d → IfSome d.history (λ h. length (items_in d) ≡ length h)
counted_items d c = by d.history c.count where
  by : (o : Option (List Entry)) → IfSome o (λ h. length d.owned.store.sequence.refs ≡ length h) → IfSome o (λ h. length (items_of d.owned.store.sequence.refs o) ≡ length h)
  by None is = tt
  by (Some h) is = items_count d.owned.store.sequence.refs (Some h) ∙ is

module _ (p : Pass) (table table' : TableId) (k now then : Knowing) (is : at_table table k ≡ p) (has : HasDesk k) (found : Desk) (b : Begins k found) (a : Along k now found) (same : table' ≡ table) where
  -- what a hold tells the pass
  pub held : (left : Desk) → Grows found left → MayEnd now left → Gives now then left → Holds p (at_table table' then) found left
  held left g may gave = subst (λ (q : Pass). Holds q (at_table table' then) found left) is (holds table table' k now then found left b a g same may gave)

  pub told_left : (left : Desk) → Grows found left → MayEnd now left → Gives now then left → IsCounted left → history_of (at_table table' then) ≡ left.history
  told_left left g may gave counted = history_left (at_table table k) (at_table table' then) found left has.0 has.1 (holds table table' k now then found left b a g same may gave) counted

  pub looks : MayEnd now found → Gives now then found → IsCounted found → Looks p (at_table table' then)
  looks may gave counted = record {
    desk = found;
    holds = held found (grows_refl found) may gave;
    history = told_left found (grows_refl found) may gave counted;
    count = counted_items found counted;
  }

  -- what it has noted and seen then
  pub noted_here : MayEnd now found → Gives now then found → IsCounted found
      → ((view_of (at_table table' then)).noted ≡ versions_in found) × ((view_of (at_table table' then)).seen ≡ items_in found) × (history_of (at_table table' then) ≡ found.history)
  noted_here may gave counted = let h = held found (grows_refl found) may gave in (h.noted, h.seen, told_left found (grows_refl found) may gave counted)

  pub committed_pass : (asked : Asked) (result : Result Committed CommitFault) (left : Desk) → CommitsTo asked result found left → MayEnd now left → Gives now then left → IsCounted left → Commits asked result p (at_table table' then)
  committed_pass asked result left c may gave counted =
      subst (λ (q : Pass). Commits asked result q (at_table table' then)) is
      (commits asked result found left c table table' k now then b a same may gave (λ h. history_left (at_table table k) (at_table table' then) found left has.0 has.1 h counted))

-- ---- a pin

abbrev pub pinned_k : Knowing → Place → Knowing
pinned_k k place = record k { view = record k.view { phase = Pinned place } }

pub begins_pinned : (k : Knowing) (found : Desk) (place : Place) → Begins k found → Begins (pinned_k k place) found
begins_pinned k found place b = record { comes = b.comes; seen = b.seen; sole = b.sole; known = b.known; faults = b.faults; whole = b.whole }

module _ (k now then : Knowing) (found : Desk) (place : Place) (is : then ≡ with_view now (pinned_held now.view place)) where
  abbrev seen : Knowing
  seen = with_view now (pinned_held now.view place)

  pub along_pinned : Along k now found → Along (pinned_k k place) then found
  along_pinned a = subst (λ (x : Knowing). Along (pinned_k k place) x found) (sym is) (record {
    hold = a.hold;
    held = a.held;
    history = a.history;
    origin = a.origin;
    mode = a.mode;
    phase = refl;
    room = a.room;
    own = a.own;
    records = a.records;
  })

  pub may_pinned : MayEnd now found → MayEnd then found
  may_pinned (h, held, may) = subst (λ (x : Knowing). MayEnd x found) (sym is) (
    h,
    held,
    record { history = may.history; keeper = may.keeper; faults = may.faults; removed = may.removed; versions = may.versions; current = may.current; greatest = may.greatest; present = may.present },
  )

-- ---- a pinned version

-- it is live in its row
pub live_pinned : (p : Pass) (table : TableId) (k : Knowing) (found : Desk) (place : Place) → at_table table k ≡ p → Finds k found → IsPinned p place
    → (y : catalog.Version) × (rows.version_at found.owned.store.versions.versions place.row ≡ Some y) × (y.n ≡ place.n)
live_pinned p table k found place is f pinned =
    let (x, at, n) = f.pinned place (ap (λ (q : Pass). (view_of q).phase) is ∙ pinned) in
    let (y, there, same) = in_catalog found place.row x at in
    (y, there, ap (λ (v : Version (List TableParts)). v.n) (sym same) ∙ n)

-- with the tables that were noted
pub noted_pinned : (p : Pass) (table : TableId) (k : Knowing) (found : Desk) (place : Place) (shape : List TableParts) (y : catalog.Version) → at_table table k ≡ p → Finds k found → Notes p place.n shape
    → rows.version_at found.owned.store.versions.versions place.row ≡ Some y → y.n ≡ place.n → y.shape ≡ shape
noted_pinned p table k found place shape y is f (row, noted) at n =
    f.noted row place.row (record { n = place.n; shape = shape }) (record { n = y.n; shape = y.shape }) (ap (λ (q : Pass). version_at (view_of q).noted row) is ∙ noted) (on_board found place.row y at) n

-- what is copied of it
pub snap_of_pinned : {E : Type 0} (r : Result Snap E) (new : Pass) (found : Desk) (place : Place) (n row : ℕ) (y : catalog.Version) → n ≡ place.n → row ≡ place.row → rows.version_at found.owned.store.versions.versions place.row ≡ Some y → y.n ≡ place.n
    → (view_of new).noted ≡ versions_in found → (view_of new).seen ≡ items_in found → history_of new ≡ found.history
    → IfOk r (λ s. s.n ≡ n) → IfOk r (λ s. n ≤ length found.owned.store.sequence.refs) → IfOk r (λ s. (x : catalog.Version) → rows.version_at found.owned.store.versions.versions row ≡ Some x → s.shape ≡ x.shape) → IfOk r (λ s. IsCopied s found.history) → IfOk r (IsSnapOf new place)
snap_of_pinned (Err e) new found place n row y is at live number noted seen told count few shape copied = tt
snap_of_pinned (Ok s) new found place n row y is at live number noted seen told count few shape copied =
    let same : s.shape ≡ y.shape = shape y (ap (λ (r : ℕ). rows.version_at found.owned.store.versions.versions r) at ∙ live) in
    let many : s.n ≡ y.n = count ∙ (is ∙ sym number) in
    record {
      number = count ∙ is;
      within = (let all : length (view_of new).seen ≡ length found.owned.store.sequence.refs = ap length seen ∙ items_count found.owned.store.sequence.refs found.history in omega (arith, all, count, few));
      noted = (place.row, ap (λ (l : List Row). version_at l place.row) noted ∙ (on_board found place.row y live ∙ ap₂ (λ (m : ℕ) (l : List TableParts). Some (record { n = m; shape = l })) (sym many) (sym same)));
      copied = subst (λ (o : Option (List Entry)). IsCopied s o) (sym told) copied;
    }

-- a part of it
abbrev pub part_pinned : (found : Desk) (place : Place) (row table i : ℕ) (shape : List TableParts) (y : catalog.Version) → row ≡ place.row → rows.version_at found.owned.store.versions.versions place.row ≡ Some y → y.shape ≡ shape
    → (t : TableParts) (p : Part) → HasPart shape table i t p → IsPartAt found.owned.store.versions.versions row table i t p
part_pinned found place row table i shape y at live same t p has = record {
  version = y;
  live = ap (λ (r : ℕ). rows.version_at found.owned.store.versions.versions r) at ∙ live;
  its_table = ap (λ (l : List TableParts). slice_get l table) same ∙ has.its_table;
  its_part = has.its_part;
}

rows_pinned : (r : Result Block LogFault) (o : Option (List Entry)) (found : Desk) (row n table i : ℕ) (t : TableParts) (p : Part) (part : IsPartAt found.owned.store.versions.versions row table i t p) → part.version.n ≡ n
    → IfSome o (λ h. IsShownPart r found.owned.store h row table i) → IsRowsOf r o n table t p
rows_pinned (Ok b) None found row n table i t p part is shown = tt
rows_pinned (Ok b) (Some h) found row n table i t p part is shown =
    subst (λ (m : ℕ). table_rows t.schema.cols b ≡ rows_in_part t.schema.time_col (rows_at (first h m) table) p) is (shown t p part)
rows_pinned (Err (log.Damaged file at)) None found row n table i t p part is shown = refl
rows_pinned (Err (log.Damaged file at)) (Some h) found row n table i t p part is shown = absurd shown
rows_pinned (Err log.Vol) o found row n table i t p part is shown = tt
rows_pinned (Err log.Memory) o found row n table i t p part is shown = tt

risen_more : (a b c : ℕ) → a ≤ b → HasRisen b c → HasRisen a c
risen_more a b c le (inl less) = inl (omega (arith, le, less))
risen_more a b c le (inr last) = inr last

vol_counted : (r : Result Block LogFault) (before now : ℕ) → CountsVol before now r → r ≡ Err log.Vol → HasRisen before now
vol_counted (Ok b) before now counted is = absurd (cc)
vol_counted (Err (log.Damaged file at)) before now counted is = absurd (cc)
vol_counted (Err log.Vol) before now counted is = counted.1
vol_counted (Err log.Memory) before now counted is = absurd (cc)

vol_rises : (r : Result Block LogFault) (before now : ℕ) → CountsVol before now r → before ≤ now
vol_rises (Ok b) before now counted = omega (arith, counted)
vol_rises (Err (log.Damaged file at)) before now counted = omega (arith, counted)
vol_rises (Err log.Vol) before now counted = counted.0
vol_rises (Err log.Memory) before now counted = omega (arith, counted)

-- a desk of which a part was read
module _ (found left : Desk) (r : Result Block LogFault) (store : left.owned.store ≡ found.owned.store) (history : left.history ≡ found.history) (counted : CountsVol found.owned.storage.faults left.owned.storage.faults r) where
  read_rest : IsRest found left
  read_rest = record { sequence = ap (λ (b : Book). b.sequence) store; limits = ap (λ (b : Book). b.limits) store; history = history; faults = vol_rises r found.owned.storage.faults left.owned.storage.faults counted }

  pub read_grows : Grows found left
  read_grows = rest_grows found left read_rest

  pub read_end : (now : Knowing) → left.removed ≡ found.removed → MayEnd now found → MayEnd now left
  read_end now removed (h, held, may) = (
    h,
    held,
    record {
      history = subst (λ (l : List Item). IsPrefix h.history l) (sym (rest_items found left read_rest)) may.history;
      keeper = λ m. rest_items found left read_rest ∙ may.keeper m;
      faults = (let up = vol_rises r found.owned.storage.faults left.owned.storage.faults counted in let le = may.faults in omega (arith, up, le));
      removed = subst (λ (n : ℕ). h.removed ≤ n) (sym removed) may.removed;
      versions = ap (λ (b : Book). map version_of b.versions.versions.versions) store ∙ may.versions;
      current = ap (λ (b : Book). place_with (n_in (current b)) b.versions.versions.current) store ∙ may.current;
      greatest = may.greatest;
      present = subst (λ (l : List ℕ). AllPresent blocks_of h.versions l) (sym (ap (λ (b : Book). map (λ (e : ℕ × ℕ). e.0) b.versions.versions.written) store)) may.present;
    },
  )

-- a part was read
module _ (p : Pass) (table' : TableId) (then : Knowing) (found left : Desk) (r : Result Block LogFault) (place : Place) (shape : List TableParts) (row table i : ℕ) (y : catalog.Version) (is_row : row ≡ place.row) (live : rows.version_at found.owned.store.versions.versions place.row ≡ Some y) (number : y.n ≡ place.n) (same : y.shape ≡ shape)
    (store : left.owned.store ≡ found.owned.store) (history : left.history ≡ found.history) (counted : CountsVol found.owned.storage.faults left.owned.storage.faults r) (h : Holds p (at_table table' then) found left) (told : history_of (at_table table' then) ≡ left.history) (c : IsCounted left) where
  pub reads : ((t : TableParts) (q : Part) → IsPartAt found.owned.store.versions.versions row table i t q → IfOk r (λ b. IsBlockOf t.schema q b)) → IfSome found.history (λ g. IsShownPart r found.owned.store g row table i) → ReadsPart r p (at_table table' then) place shape table i
  reads block shown = record {
    found = found;
    left = left;
    holds = h;
    noted = (
      place.row,
      ap (λ (l : List Row). version_at l place.row) (h.noted ∙ ap (λ (b : Book). map version_of b.versions.versions.versions) store)
          ∙ (on_board found place.row y live ∙ ap₂ (λ (m : ℕ) (l : List TableParts). Some (record { n = m; shape = l })) number same),
    );
    shown = ap (λ (b : Book). n_in (current b)) store;
    items = ap₂ items_of (ap (λ (b : Book). b.sequence.refs) store) history;
    history = told;
    count = counted_items left c;
    block = λ t q has. block t q (part_pinned found place row table i shape y is_row live same t q has);
    rows = λ t q has.
        subst (λ (o : Option (List Entry)). IsRowsOf r o place.n table t q) (sym (told ∙ history))
        (rows_pinned r found.history found row place.n table i t q (part_pinned found place row table i shape y is_row live same t q has) number shown);
    vol = λ failed.
        risen_more (faults_of p) found.owned.storage.faults (faults_of (at_table table' then)) h.faults_before
        (subst (λ (n : ℕ). HasRisen found.owned.storage.faults n) (sym h.faults) (vol_counted r found.owned.storage.faults left.owned.storage.faults counted failed));
  }
