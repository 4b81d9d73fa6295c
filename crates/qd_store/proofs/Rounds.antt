-- Drafts over the current version of a store, and what becomes of them when they are merged.
use Rattle.std.proofs.Common.{◌≡◌, ◌∙◌, ℕ, ◌<◌, ◌≤◌, List, [], All, Some, Ok, map, get_or, slice_get, ap, arith, subst, sym}
use Rattle.std.proofs.lemmas.List.{get_or-map, length-map}
use Rattle.std.proofs.lemmas.Option.{get_or_from_slice_get, slice_get_within}
use Rattle.qd_base.specs.declared.op.Entry.{Entry}
use Rattle.qd_base.specs.declared.part.Part.{Part}
use Rattle.qd_base.specs.Database.{Database}
use Rattle.qd_base.specs.Replay.{first}
use Rattle.qd_block.specs.Blocks.{Block}
use Rattle.qd_catalog.specs.declared.version.Version.{Version}
use Rattle.qd_catalog.specs.Versions.{Versions, version_at, written_of}
use Rattle.qd_apply.specs.Drafts.{Planning}
use Rattle.qd_apply.specs.Laws.{IsGrowth}
use Rattle.qd_manifest.specs.declared.shape.TableParts.{TableParts}
use Rattle.qd_versions.specs.declared.published.GrownBlock.{GrownBlock}
use Rattle.qd_store.specs.Drafts.{Drafted, IsDraft, IsDraftOver, IsDraftedFrom, IsMerged, IsMergedInto, IsMergedOver, IsNextOf, Merging, between, round_of}
use Rattle.qd_store.specs.Grown.{IsShownWhole, growth_of, rows_written, written_to}
use Rattle.qd_store.specs.Stores.{Book}
use Rattle.qd_store.proofs.RoundLists.{between_round}

-- what the merge of a draft says: what it is of, and behind which parts it puts rows
abbrev pub Merges : Drafted → Merging → Type 0
Merges d m = (next : ℕ) (x : Version) (es : List Entry) (contents : ℕ → Block) (db : Database) → IsDraft next x es contents db d → IsMerged next x es contents db m

abbrev pub Grows : Drafted → Merging → Type 0
Grows d m = All (IsGrowth d.plan.shape d.plan.written) (map growth_of m.grown)

-- ---- parts that show all rows that were written

module _ (v : Versions) where
  part_written : (parts : List Part) (i : ℕ) (p : Part) → slice_get parts i ≡ Some p → get_or (written_to v parts) i 0 ≡ written_of v p.block
  part_written parts i p there =
      get_or-map (λ (q : Part). written_of v q.block) parts i p 0 (slice_get_within parts i p there)
      ∙ ap (λ (q : Part). written_of v q.block) (get_or_from_slice_get parts i p p there)

  table_written : (shape : List TableParts) (i : ℕ) (t : TableParts) → slice_get shape i ≡ Some t → get_or (rows_written v shape) i [] ≡ written_to v t.parts
  table_written shape i t there =
      get_or-map (λ (u : TableParts). written_to v u.parts) shape i t [] (slice_get_within shape i t there)
      ∙ ap (λ (u : TableParts). written_to v u.parts) (get_or_from_slice_get shape i t t there)

  module _ (x : Version) (at : version_at v v.current ≡ Some x) where
    shown_whole : (g : GrownBlock) → IsGrowth x.shape (rows_written v x.shape) (growth_of g) → IsShownWhole v g
    shown_whole g is = record {
      table = is.table;
      part = is.part;
      there = record { version = x; live = at; its_table = is.its_table; its_part = is.its_part };
      all = is.all ∙ ap (λ (l : List ℕ). get_or l g.part 0) (table_written x.shape g.table is.table is.its_table) ∙ part_written is.table.parts g.part is.part is.its_part;
    }

    pub all_shown : (grown : List GrownBlock) → All (IsGrowth x.shape (rows_written v x.shape)) (map growth_of grown) → All (IsShownWhole v) grown
    all_shown grown each k d lt =
        shown_whole (get_or grown k d)
        (subst (IsGrowth x.shape (rows_written v x.shape)) (get_or-map growth_of grown k d (growth_of d) lt) (each k (growth_of d) (omega (arith, lt, length-map grown growth_of))))

-- ---- a merge

-- it is into the version that the draft is over
pub merged_into : (v : Versions) (d : Drafted) (m : Merging) → IsDraftOver v d → Merges d m → (x : Version) × (version_at v v.current ≡ Some x) × IsMergedInto v.next_block x m
merged_into v d m (x, at, (es, contents, db, is), written) by = (x, at, (es, contents, db, by v.next_block x es contents db is))

-- and over it
pub merged_over : (v : Versions) (d : Drafted) (m : Merging) → IsDraftOver v d → Merges d m → Grows d m → IsMergedOver v m
merged_over v d m (x, at, (es, contents, db, is), written) by grows = (
  x,
  at,
  (es, contents, db, by v.next_block x es contents db is),
  all_shown v x at m.grown
      (subst (λ (w : List (List ℕ)). All (IsGrowth x.shape w) (map growth_of m.grown)) written
      (subst (λ (l : List TableParts). All (IsGrowth l d.plan.written) (map growth_of m.grown)) (ap (λ (p : Planning). p.shape) is.plan) grows)),
)

-- and of as many transactions
pub merged_upto : (v : Versions) (d : Drafted) (m : Merging) (upto : ℕ) → IsDraftOver v d → Merges d m → d.plan.upto ≡ upto → m.upto ≡ upto
merged_upto v d m upto (x, at, (es, contents, db, is), written) by same = (by v.next_block x es contents db is).upto ∙ sym (ap (λ (p : Planning). p.upto) is.plan) ∙ same

-- it goes on, and up to where the draft does
pub merged_bounds : (v : Versions) (d : Drafted) (m : Merging) (upto : ℕ) → IsDraftOver v d → Merges d m → (d.plan.base < d.plan.upto) × (d.plan.upto ≤ upto) → (m.base < m.upto) × (m.upto ≤ upto)
merged_bounds v d m upto (x, at, (es, contents, db, is), written) by (goes, most) =
    let made = by v.next_block x es contents db is in
    let base : m.base ≡ d.plan.base = made.base ∙ sym (ap (λ (p : Planning). p.base) is.plan) in
    let to : m.upto ≡ d.plan.upto = made.upto ∙ sym (ap (λ (p : Planning). p.upto) is.plan) in
    (omega (arith, goes, base, to), omega (arith, most, to))

-- ---- of a history

-- what is merged are the history's next transactions, up to where the draft goes
pub merged_next : (s : Book) (h : List Entry) (upto : ℕ) (d : Drafted) (m : Merging) → IsDraftedFrom (Ok d) s h upto → Merges d m → IsNextOf s h m
merged_next s h upto d m (x, contents, at, is) by =
    let next = s.versions.versions.next_block in
    let es = round_of (between h x.n upto) in
    let made = by next x es contents (first h x.n) is in
    let same : between h x.n m.upto ≡ es = ap (between h x.n) made.upto ∙ between_round h x.n upto in
    (x, contents, at, subst (λ (l : List Entry). IsMerged next x l contents (first h x.n) m) (sym same) made)
