-- Merges into the current version of a desk: they are drafted, carried over to a later hold, and shown.
use Rattle.std.proofs.Common.{◌≡◌, ◌∙◌, ℕ, ◌<◌, ◌≤◌, inl, inr, List, ◌++◌, length, map, drop, Option, None, Some, IfSome, Result, Ok, Err, refl, sym, ap, ap₂, subst, arith}
use mathlib.Core.List.{IsPrefix}
use Rattle.std.proofs.lemmas.List.{take-append-le}
use Rattle.atomic_table.specs.Seated.{TableId}
use Rattle.qd_base.specs.declared.op.Entry.{Entry}
use Rattle.qd_base.specs.Database.{Database}
use Rattle.qd_base.specs.Replay.{after, first}
use Rattle.qd_apply.specs.Drafts.{Planning}
use Rattle.qd_block.specs.Blocks.{Block}
use Rattle.qd_catalog.specs.declared.version.Version as catalog
use Rattle.qd_catalog.specs.Versions.{current_n, n_of}
use Rattle.qd_durable.specs.declared.fault.LogFault.{LogFault}
use Rattle.qd_durable.specs.declared.fault.LogFault.TheVariants as log
use Rattle.qd_durable.specs.Faults.{CountsVol}
use Rattle.qd_durable.specs.Moments.{Told}
use Rattle.qd_manifest.specs.declared.shape.TableParts.{TableParts}
use Rattle.qd_manifest.specs.Spelling.{blocks_of}
use Rattle.qd_score_model.specs.Machine.{AllPresent}
use Rattle.qd_score_model.specs.Machine as board
use Rattle.qd_store.specs.declared.fault.PublishFault.{PublishFault}
use Rattle.qd_store.specs.Calls.{IsPublished}
use Rattle.qd_store.specs.Drafts.{Drafted, Extends, IsDraftOver, IsDraftedFrom, IsMerged, IsMergedInto, IsMergedOver, IsNextOf, Merging, between}
use Rattle.qd_store.specs.declared.fault.PublishFault.TheVariants as publish
use Rattle.qd_store.specs.Faults.{IsUndamaged}
use Rattle.qd_store.specs.Merges.{PublishesMerged, next_version}
use Rattle.qd_store.specs.Owned.{Store}
use Rattle.qd_store.specs.Stores.{Book, IsStore}
use Rattle.qd_txnfile.specs.Versions.{Version}
use Rattle.qd_volume.specs.Disk.{Disk}
use Rattle.qd_store.proofs.Rounds.{Merges, merged_into, merged_next, merged_upto}
use Rattle.qd_store_backend.specs.Backs.{IsTold, current, n_in}
use Rattle.qd_store_backend.proofs.Told.{told_of}
use Rattle.qd_shared.specs.declared.rounds.RoundFault.{RoundFault}
use Rattle.qd_shared.specs.declared.rounds.RoundFault.TheVariants as fault
use Rattle.qd_shared.specs.declared.item.Item.{Item}
use Rattle.qd_shared.specs.Desks.{Desk, items_in, version_of, versions_in}
use Rattle.qd_shared.specs.Holding.{Finds, Grows, MayEnd}
use Rattle.qd_shared.specs.Passes.{GoesOnTo, Knowing, Pass, history_of, view_of}
use Rattle.qd_shared.specs.Publishing.{IsDraftFault, IsDraftOf, IsNext, IsNextAt, IsOf, IsRest, IsRound, OnlyCalls, drafts_fault, publishes_fault}
use Rattle.qd_shared.proofs.Held.{at_table}
use Rattle.qd_shared.proofs.Rows.{Row, on_board}
use Rattle.qd_shared.proofs.Turning.{place_with, rest_grows, rest_items}

-- ---- what is told stays told

published_store : (result : Result ℕ PublishFault) (new : Store) (h : List Entry) (last v : Version) (after : Disk) → new.storage.disk ≡ Some after → IsPublished result new.store h last v after → IsTold new h
published_store (Ok row) new h last v after at is = (after, last, at, is last)
published_store (Err cause) new h last v after at (inl is) = (after, last, at, is)
published_store (Err cause) new h last v after at (inr is) = (after, v, at, is)

-- where a merge is published, or isn't
pub published_told : (result : Result ℕ PublishFault) (old new : Store) (m : Merging) → Told old.storage.disk new.storage.disk (PublishesMerged result old.store new.store m) → (o : Option (List Entry)) → IfSome o (IsTold old)
    → IfSome o (λ h. IsNextOf old.store h m) → IfSome o (IsTold new)
published_told result old new m told None is next = tt
published_told result old new m told (Some h) (disk, last, at, holds) next =
    let by = told_of (PublishesMerged result old.store new.store m) old.storage.disk new.storage.disk disk at told in
    published_store result new h last (next_version old.store m) by.0 by.1 (by.2.behind h last holds next)

-- what is told of a store has no damage that a publication finds
pub undamaged_told : (result : Result ℕ PublishFault) (old new : Store) (m : Merging) → Told old.storage.disk new.storage.disk (PublishesMerged result old.store new.store m) → (o : Option (List Entry)) → IfSome o (IsTold old)
    → (cause : PublishFault) (told : RoundFault) → result ≡ Err cause → told ≡ publishes_fault cause → (file at : ℕ) → told ≡ fault.Damaged file at → o ≡ None
undamaged_told result old new m published None is cause told failed named file at damaged = refl
undamaged_told result old new m published (Some h) (disk, last, there, holds) cause told failed named file at damaged =
    let by = told_of (PublishesMerged result old.store new.store m) old.storage.disk new.storage.disk disk there published in
    absurd (none cause named (subst IsUndamaged failed (by.2.whole h last holds)))
  where
    none : (c : PublishFault) → told ≡ publishes_fault c → IsUndamaged {T = ℕ} (Err c) → ⊥
    none (publish.Moved n) named whole = cc (named, damaged)
    none publish.NoRow named whole = cc (named, damaged)
    none publish.Vol named whole = cc (named, damaged)
    none (publish.Damaged f a) named whole = whole
    none publish.Memory named whole = cc (named, damaged)

-- what is said of each history is said of the one that is told
pub of_told : {T : Type 0} (P : List Entry → T → Type 0) (owned : Store) (t : T) → IfSome owned.storage.disk (λ disk. (h : List Entry) (next : Version) → IsStore owned.store h next disk → P h t) → (o : Option (List Entry)) → IfSome o (IsTold owned) → IfSome o (λ h. P h t)
of_told P owned t each None is = tt
of_told P owned t each (Some h) (disk, next, at, holds) = subst (λ (d : Option Disk). IfSome d (λ disk. (h : List Entry) (next : Version) → IsStore owned.store h next disk → P h t)) at each h next holds

-- ---- faults

-- why there is no draft
pub draft_fault : {T : Type 0} (cause : LogFault) (told : RoundFault) (result : Result T LogFault) (old new : Desk) → result ≡ Err cause → told ≡ drafts_fault cause → CountsVol old.owned.storage.faults new.owned.storage.faults result
    → ((file at : ℕ) → cause ≡ log.Damaged file at → old.history ≡ None) → IsDraftFault told old new
draft_fault log.Vol told result old new is named counted sound = subst (λ (f : RoundFault). IsDraftFault f old new) (sym named) (subst (λ r. CountsVol old.owned.storage.faults new.owned.storage.faults r) is counted).1
draft_fault (log.Damaged file at) told result old new is named counted sound = subst (λ (f : RoundFault). IsDraftFault f old new) (sym named) (sound file at refl)
draft_fault log.Memory told result old new is named counted sound = subst (λ (f : RoundFault). IsDraftFault f old new) (sym named) tt

-- ---- a desk of which only the volume was called

calls_rest : (found left : Desk) → OnlyCalls found left → IsRest found left
calls_rest found left c = record { sequence = ap (λ (b : Book). b.sequence) c.store; limits = ap (λ (b : Book). b.limits) c.store; history = c.history; faults = c.faults }

pub calls_grows : (found left : Desk) → OnlyCalls found left → Grows found left
calls_grows found left c = rest_grows found left (calls_rest found left c)

pub calls_items : (found left : Desk) → OnlyCalls found left → items_in left ≡ items_in found
calls_items found left c = rest_items found left (calls_rest found left c)

pub calls_shown : (found left : Desk) → OnlyCalls found left → current left.owned.store ≡ current found.owned.store
calls_shown found left c = ap (λ (b : Book). current b) c.store

-- the lock may be given back with it
pub calls_end : (now : Knowing) (found left : Desk) → OnlyCalls found left → MayEnd now found → MayEnd now left
calls_end now found left c (h, held, may) = (
  h,
  held,
  record {
    history = subst (λ (l : List Item). IsPrefix h.history l) (sym (calls_items found left c)) may.history;
    keeper = λ m. calls_items found left c ∙ may.keeper m;
    faults = (let up = c.faults in let le = may.faults in omega (arith, up, le));
    removed = subst (λ (n : ℕ). h.removed ≤ n) (sym c.removed) may.removed;
    versions = ap (λ (b : Book). map version_of b.versions.versions.versions) c.store ∙ may.versions;
    current = ap (λ (b : Book). place_with (n_in (current b)) b.versions.versions.current) c.store ∙ may.current;
    greatest = may.greatest;
    present = subst (λ (l : List ℕ). AllPresent blocks_of h.versions l) (sym (ap (λ (b : Book). map (λ (e : ℕ × ℕ). e.0) b.versions.versions.written) c.store)) may.present;
  },
)

-- ---- a draft

-- it goes on behind the current version
pub draft_goes : (s : Book) (d : Drafted) → IsDraftOver s.versions.versions d → d.plan.base < d.plan.upto → n_in (current s) < d.plan.upto
draft_goes s d (x, at, (es, contents, db, is), written) goes =
    let base : d.plan.base ≡ n_in (current s) = ap (λ (p : Planning). p.base) is.plan ∙ sym (ap n_in at) in
    omega (arith, base, goes)

-- one of a desk's transactions up to a number is one of all
pub drafted_of : (d : Desk) (most upto : ℕ) (draft : Drafted) → IsDraftOver d.owned.store.versions.versions draft → n_in (current d.owned.store) < draft.plan.upto → draft.plan.upto ≤ upto → upto ≤ most
    → IfSome d.history (λ h. IsDraftedFrom (Ok draft) d.owned.store h upto) → IsDraftOf d most draft
drafted_of d most upto draft over more few all told = record {
  over = over;
  more = more;
  within = omega (arith, few, all);
  told = by d.history told;
}
  where
    by : (o : Option (List Entry)) → IfSome o (λ h. IsDraftedFrom (Ok draft) d.owned.store h upto) → IfSome o (λ h. (k : ℕ) × IsDraftedFrom (Ok draft) d.owned.store h k)
    by None told = tt
    by (Some h) told = (upto, told)

-- ---- the next of a desk

live_now : (o : Option catalog.Version) (n : ℕ) → n_of o ≡ Some n → (x : catalog.Version) × (o ≡ Some x) × (x.n ≡ n)
live_now None n is = absurd (cc)
live_now (Some x) n is = (x, refl, (let e = is in cc))

-- where the current version and the next block are as at the draft, a merge is of what comes next
pub next_now : (d : Desk) (m : Merging) (next : ℕ) → IsNextAt d m next → (current_n d.owned.store.versions.versions ≡ Some m.base) × (d.owned.store.versions.versions.next_block ≡ next) × Extends d.owned.store.versions.versions m → IsNext d m
next_now d m next is (now, block, extends) =
    let (x, at, number) = live_now (current d.owned.store) m.base now in
    let known = is x at number in
    record {
      over = (x, at, subst (λ (b : ℕ). IsMergedInto b x m) (sym block) known.into, extends);
      told = by d.history x at known.told;
    }
  where
    by : (o : Option (List Entry)) (x : catalog.Version) → current d.owned.store ≡ Some x → IfSome o (λ h. (contents : ℕ → Block) × IsMerged next x (between h x.n m.upto) contents (first h x.n) m) → IfSome o (λ h. IsNextOf d.owned.store h m)
    by None x at known = tt
    by (Some h) x at (contents, merged) = (x, contents, at, subst (λ (b : ℕ). IsMerged b x (between h x.n m.upto) contents (first h x.n) m) (sym block) merged)

-- a desk with the same current version and history
pub next_here : (found d : Desk) (m : Merging) (next : ℕ) → current d.owned.store ≡ current found.owned.store → d.history ≡ found.history → IsNextAt found m next → IsNextAt d m next
next_here found d m next shown history is x at base = subst (λ (o : Option (List Entry)). IsOf next o x m) (sym history) (is x (sym shown ∙ at) base)

-- ---- a pass knows a merge

-- of what it has drafted
pub round_of : (p : Pass) (found left : Desk) (draft : Drafted) (m : Merging) (next : ℕ) → (view_of p).noted ≡ versions_in left → (view_of p).seen ≡ items_in left → history_of p ≡ found.history → OnlyCalls found left
    → IsDraftOf found (length (items_in found)) draft → next ≡ found.owned.store.versions.versions.next_block → Merges draft m → IfSome (history_of p) (λ h. length (view_of p).seen ≡ length h) → IsRound p m next
round_of p found left draft m next noted seen history calls d is merges count =
    let s = found.owned.store in
    let over = merged_into s.versions.versions draft m d.over merges in
    let number : m.upto ≡ draft.plan.upto = merged_upto s.versions.versions draft m draft.plan.upto d.over merges refl in
    let x = over.0 in
    let at : current s ≡ Some x = over.1 in
    let base : m.base ≡ x.n = over.2.3.base in
    record {
      row = s.versions.versions.current;
      into = x;
      noted = ap (λ (l : List Row). board.version_at l s.versions.versions.current) (noted ∙ ap (λ (b : Book). map version_of b.versions.versions.versions) calls.store) ∙ on_board found s.versions.versions.current x at;
      is = record {
        into = subst (λ (b : ℕ). IsMergedInto b x m) (sym is) over.2;
        told = subst (λ (o : Option (List Entry)). IfSome o (λ h. (contents : ℕ → Block) × IsMerged next x (between h x.n m.upto) contents (first h x.n) m)) (sym history) (by found.history x at d.told);
      };
      count = count;
      within = (let all : length (view_of p).seen ≡ length (items_in found) = ap length (seen ∙ calls_items found left calls) in let few = d.within in omega (arith, all, number, few));
      more = (let shown : n_in (current s) ≡ x.n = ap n_in at in let more = d.more in omega (arith, base, shown, more, number));
    }
  where
    one : (o : Option catalog.Version) (x y : catalog.Version) → o ≡ Some x → o ≡ Some y → y ≡ x
    one o x y a b = let e : Some y ≡ Some x = sym b ∙ a in cc

    by : (o : Option (List Entry)) (x : catalog.Version) → current found.owned.store ≡ Some x → IfSome o (λ h. (upto : ℕ) × IsDraftedFrom (Ok draft) found.owned.store h upto)
        → IfSome o (λ h. (contents : ℕ → Block) × IsMerged next x (between h x.n m.upto) contents (first h x.n) m)
    by None x at told = tt
    by (Some h) x at (upto, drafted) =
        let (y, contents, there, merged) = merged_next found.owned.store h upto draft m drafted merges in (
          contents,
          subst (λ (v : catalog.Version). IsMerged next v (between h v.n m.upto) contents (first h v.n) m) (one (current found.owned.store) x y at there)
              (subst (λ (b : ℕ). IsMerged b y (between h y.n m.upto) contents (first h y.n) m) (sym is) merged),
        )

-- ---- it holds it still when it takes the lock again

-- the same transactions of a history that has gone on
between_on : (h more : List Entry) (from upto : ℕ) → upto ≤ length h → between (h ++ more) from upto ≡ between h from upto
between_on h more from upto le = ap (drop from) (take-append-le upto h more le)

first_on : (h more : List Entry) (n : ℕ) → n ≤ length h → first (h ++ more) n ≡ first h n
first_on h more n le = ap after (take-append-le n h more le)

told_on : (m : Merging) (next : ℕ) (x : catalog.Version) (seen history : Option (List Entry)) → GoesOnTo seen history → IfSome seen (λ h. m.upto ≤ length h) → x.n ≤ m.upto
    → IfSome seen (λ h. (contents : ℕ → Block) × IsMerged next x (between h x.n m.upto) contents (first h x.n) m) → IfSome history (λ h. (contents : ℕ → Block) × IsMerged next x (between h x.n m.upto) contents (first h x.n) m)
told_on m next x None history goes few low told = subst (λ (o : Option (List Entry)). IfSome o (λ h. (contents : ℕ → Block) × IsMerged next x (between h x.n m.upto) contents (first h x.n) m)) (sym goes) tt
told_on m next x (Some h) history (more, goes) few low (contents, merged) =
    subst (λ (o : Option (List Entry)). IfSome o (λ h. (contents : ℕ → Block) × IsMerged next x (between h x.n m.upto) contents (first h x.n) m)) (sym goes) (
      contents,
      subst (λ (es : List Entry). IsMerged next x es contents (first (h ++ more) x.n) m) (sym (between_on h more x.n m.upto few))
          (subst (λ (db : Database). IsMerged next x (between h x.n m.upto) contents db m) (sym (first_on h more x.n (omega (arith, few, low)))) merged),
    )

pub round_here : (p : Pass) (table : TableId) (k : Knowing) (found : Desk) (m : Merging) (next : ℕ) → at_table table k ≡ p → Finds k found → GoesOnTo (history_of p) found.history → IsRound p m next → IsNextAt found m next
round_here p table k found m next is finds goes r x at base =
    let into : m.base ≡ r.into.n = r.is.into.3.base in
    let number : x.n ≡ r.into.n = base ∙ into in
    let here = on_board found found.owned.store.versions.versions.current x at in
    let shape : x.shape ≡ r.into.shape = finds.noted r.row found.owned.store.versions.versions.current (record { n = r.into.n; shape = r.into.shape }) (record { n = x.n; shape = x.shape }) (ap (λ (q : Pass). board.version_at (view_of q).noted r.row) is ∙ r.noted) here number in
    let same : x ≡ r.into = ap₂ (λ (n : ℕ) (l : List TableParts). record { n = n; shape = l }) number shape in
    subst (λ (y : catalog.Version). IsOf next found.history y m) (sym same)
    (record { into = r.is.into; told = told_on m next r.into (history_of p) found.history goes (few (history_of p) r.count) (let more = r.more in omega (arith, more, into)) r.is.told })
  where
    few : (o : Option (List Entry)) → IfSome o (λ h. length (view_of p).seen ≡ length h) → IfSome o (λ h. m.upto ≤ length h)
    few None all = tt
    few (Some h) all = let le = r.within in omega (arith, all, le)
