-- What is known of a whole volume that was opened: its one history, and its one version.
use Rattle.std.proofs.Common.{◌≡◌, ℕ, zero, suc, ◌*◌, ◌^◌, ◌<◌, ◌≤◌, false, List, [], ◌∷◌, ◌++◌, length, take, All, None, Contains, refl, sym, ◌∙◌, ap, subst, arith}
use Rattle.std.proofs.lemmas.List.Elements.{All-contains, All-contains_itself, All-weaker}
use Rattle.qd_base.specs.declared.op.Entry.{Entry}
use Rattle.qd_base.specs.declared.part.Part.{Part}
use Rattle.qd_base.specs.declared.part.WalRef.{WalRef}
use Rattle.qd_base.specs.declared.schema.Schema.{Schema}
use Rattle.qd_base.specs.Replay.{first}
use Rattle.qd_base.proofs.Tables.{schemas_of-replay}
use Rattle.qd_durable.specs.Moments.{ComesFrom, EachNow, SameBut}
use Rattle.qd_durable.specs.Places.{StandsAt}
use Rattle.qd_column_files.specs.Files.{HoldsBlock}
use Rattle.qd_manifest.specs.declared.shape.Manifest.{Manifest}
use Rattle.qd_manifest.specs.declared.shape.TableParts.{TableParts}
use Rattle.qd_manifest.specs.Laws.{OneManifestIsSpelled}
use Rattle.qd_manifest.specs.declared.shape.TheConstants.{BLOCKS_PER_TRANSACTION}
use Rattle.qd_manifest.specs.Spelling.{blocks_in, blocks_of, manifest_bytes, schemas_in, IsManifest}
use Rattle.qd_scan.specs.Sources.{IsBlockOf}
use Rattle.qd_seq.specs.Laws.{OneListIsGiven}
use Rattle.qd_seq.specs.Layout.{GivesList, SpellsLog}
use Rattle.qd_seq.specs.States.{Knows}
use Rattle.qd_sequencer.specs.Histories.{AreSpelled}
use Rattle.qd_sequencer.specs.Reading.{IsLogged}
use Rattle.qd_sequencer.proofs.Held.{spelled_long}
use Rattle.qd_txnfile.specs.Laws.{OneVersionIsGiven}
use Rattle.qd_txnfile.specs.Versions.{GivesVersion, Version}
use Rattle.qd_versions.proofs.Kept.{files_same, gives_kept}
use Rattle.qd_volume.specs.Disk.{Disk, Image, images_now, reads_of}
use Rattle.qd_wal.specs.Reading.{SpellsAt}
use Rattle.qd_wal.specs.Segments.{file_in, part_at}
use Rattle.qd_wal_entry.specs.Spelling.{SpellsEntry}
use Rattle.qd_store.specs.Marks.{IsMade}
use Rattle.qd_store.specs.Prefixes.{HoldsBlocks, IsShown}
use Rattle.qd_store.specs.Found.{Agree, Finds, Found, IsWhole, version_of}
use Rattle.qd_store.proofs.Sides.{blocks_kept, blocks_each}
use Rattle.qd_base.specs.declared.limits.TheConstants.{MAX_TXNS}

-- ---- lists

behind : {X : Type 0} (x y : X) (xs : List X) → Contains xs y → Contains (x ∷ xs) y
behind x y xs there = (suc there.0, omega (arith, there.1), there.2)

at_front : {X : Type 0} (x : X) (xs : List X) → Contains (x ∷ xs) x
at_front x xs = (0, omega arith, refl)

-- what is spelled where two images have the same bytes
one_respelled : (ref : WalRef) (e : Entry) (a b : List ℕ) → part_at a ref ≡ part_at b ref → SpellsAt a ref e → SpellsAt b ref e
one_respelled ref e a b same spelled = record {
  whole = subst (λ (l : List ℕ). length l ≡ ref.len) same spelled.whole;
  spelled = subst (λ (l : List ℕ). SpellsEntry l e) same spelled.spelled;
}

pub respelled : (refs : List WalRef) (h : List Entry) (a b : Image) → ((ref : WalRef) → Contains refs ref → part_at (a (file_in ref)) ref ≡ part_at (b (file_in ref)) ref) → AreSpelled refs h a → AreSpelled refs h b
respelled [] [] a b same spelled = tt
respelled [] (e ∷ es) a b same spelled = spelled
respelled (ref ∷ refs) [] a b same spelled = spelled
respelled (ref ∷ refs) (e ∷ es) a b same spelled = (
  one_respelled ref e (a (file_in ref)) (b (file_in ref)) (same ref (at_front ref refs)) spelled.0,
  respelled refs es a b (λ r there. same r (behind ref r refs there)) spelled.1,
)

-- a fact of each part's block, by the table and the part
module _ (P : ℕ → Type 0) where
  part_each : (parts : List Part) → ((p : Part) → Contains parts p → P p.block) → All (λ (p : Part). P p.block) parts
  part_each parts h = All-weaker (Contains parts) (λ (p : Part). P p.block) h parts (All-contains_itself parts)

  pub table_each : (shape : List TableParts) → ((t : TableParts) (p : Part) → Contains shape t → Contains t.parts p → P p.block) → All P (blocks_of shape)
  table_each shape h =
      blocks_each P shape
      (All-weaker (Contains shape) (λ (t : TableParts). All (λ (p : Part). P p.block) t.parts) (λ t there. part_each t.parts (λ p in_parts. h t p there in_parts)) shape (All-contains_itself shape))

-- the block of a part is among those of the version
in_blocks : (parts : List Part) (p : Part) → Contains parts p → Contains (blocks_in parts) p.block
in_blocks [] p there = absurd (omega (arith, there.1))
in_blocks (q ∷ ps) p (zero, low, is) = subst (λ (x : Part). Contains (blocks_in (q ∷ ps)) x.block) is (at_front q.block (blocks_in ps))
in_blocks (q ∷ ps) p (suc k, low, is) = behind q.block p.block (blocks_in ps) (in_blocks ps p (k, omega (arith, low), is))

front_contains : (xs ys : List ℕ) (b : ℕ) → Contains xs b → Contains (xs ++ ys) b
front_contains [] ys b there = absurd (omega (arith, there.1))
front_contains (x ∷ xs) ys b (zero, low, is) = subst (Contains (x ∷ (xs ++ ys))) is (at_front x (xs ++ ys))
front_contains (x ∷ xs) ys b (suc k, low, is) = behind x b (xs ++ ys) (front_contains xs ys b (k, omega (arith, low), is))

back_contains : (xs ys : List ℕ) (b : ℕ) → Contains ys b → Contains (xs ++ ys) b
back_contains [] ys b there = there
back_contains (x ∷ xs) ys b there = behind x b (xs ++ ys) (back_contains xs ys b there)

pub in_shape : (shape : List TableParts) (t : TableParts) (p : Part) → Contains shape t → Contains t.parts p → Contains (blocks_of shape) p.block
in_shape [] t p there in_parts = absurd (omega (arith, there.1))
in_shape (s ∷ ss) t p (zero, low, is) in_parts = front_contains (blocks_in s.parts) (blocks_of ss) p.block (in_blocks s.parts p (subst (λ (x : TableParts). Contains x.parts p) (sym is) in_parts))
in_shape (s ∷ ss) t p (suc k, low, is) in_parts = back_contains (blocks_in s.parts) (blocks_of ss) p.block (in_shape ss t p (k, omega (arith, low), is) in_parts)

-- ---- versions

pub same_found : (one : OneManifestIsSpelled) (f g : Found) → IsManifest f.n f.manifest → IsManifest g.n g.manifest → version_of f ≡ version_of g → (f.n ≡ g.n) × (f.manifest ≡ g.manifest)
same_found one f g sound other same =
    let bytes : manifest_bytes f.manifest ≡ manifest_bytes g.manifest = ap (λ (v : Version). v.manifest) same in (
      ap (λ (v : Version). v.n) same,
      one f.n g.n (manifest_bytes f.manifest) f.manifest g.manifest (record { sound = sound; whole = refl }) (record { sound = other; whole = bytes }),
    )

low_block : (n next b : ℕ) → b < next → next ≤ n * BLOCKS_PER_TRANSACTION → n ≤ MAX_TXNS → b < 2 ^ 52
low_block n next b low most few = omega (arith, low, most, few)

-- ---- a whole volume, of which each file reads as it did

module _ (lists : OneListIsGiven) (roots : OneVersionIsGiven) (manifests : OneManifestIsSpelled) (before after : Disk) (whole : IsWhole before) (f : Found) (finds : Finds f (reads_of before)) (read_now : images_now before (reads_of before))
    (earlier : EachNow after (ComesFrom (SameBut (λ file. false)) before))
    (refs : List WalRef) (list_read : GivesList refs (reads_of before)) (list_now : EachNow after (GivesList refs))
    (v : Version) (version_read : GivesVersion v (reads_of before)) (version_now : EachNow after (GivesVersion v)) where
  pub refs_are : refs ≡ f.refs
  refs_are = lists (reads_of before 1) refs f.refs list_read finds.history.gives

  pub version_is : v ≡ version_of f
  version_is = roots (reads_of before) v (version_of f) version_read finds.version

  -- an image, and the one from before that it is
  module _ (image : Image) (now : images_now after image) where
    abbrev was : Image
    was = (earlier image now).0

    was_now : images_now before was
    was_now = (earlier image now).1

    same : SameBut (λ file. false) was image
    same = (earlier image now).2

    abbrev g : Found
    g = (whole.each was was_now).0

    found : Finds g was
    found = (whole.each was was_now).1

    g_refs : g.refs ≡ f.refs
    g_refs = lists (was 1) g.refs refs found.history.gives (subst (SpellsLog refs) (same 1 refl) (list_now image now)) ∙ refs_are

    g_same : (f.n ≡ g.n) × (f.manifest ≡ g.manifest)
    g_same = same_found manifests f g finds.manifest found.manifest
        (sym version_is ∙ roots image v (version_of g) (version_now image now) (gives_kept (version_of g) was image (files_same (λ file. false) refl refl was image same) found.version))

    agree : Agree f g (reads_of before) was
    agree = whole.agree (reads_of before) was f g read_now was_now finds found

    pub made_there : IsMade image
    made_there = subst (λ (l : List ℕ). StandsAt l 0 (1 ∷ [])) (sym (same 0 refl)) found.made

    pub spelled_there : AreSpelled f.refs f.history image
    spelled_there =
        respelled f.refs f.history (reads_of before) image
        (λ ref there. agree.entries ref there (subst (λ (l : List WalRef). Contains l ref) (sym g_refs) there) ∙ sym (ap (λ (l : List ℕ). part_at l ref) (same (file_in ref) refl)))
        finds.history.spelled

    pub blocks_there : HoldsBlocks f.manifest.shape finds.tables.blocks image
    blocks_there =
        blocks_kept (λ file. false) f.manifest.shape finds.tables.blocks (first f.history f.n) was image finds.tables.stands (λ k d lt file is. refl) same
        (table_each (λ b. HoldsBlock b (finds.tables.blocks b) was) f.manifest.shape
        (λ t p in_shape_t in_parts.
        agree.blocks t p (finds.tables.blocks p.block) in_shape_t in_parts
        (subst (λ (m : Manifest). Contains (blocks_of m.shape) p.block) g_same.1 (in_shape f.manifest.shape t p in_shape_t in_parts))
        (All-contains (λ (q : Part). IsBlockOf t.schema q (finds.tables.blocks q.block)) t.parts p (All-contains (λ (t : TableParts). All (λ (q : Part). IsBlockOf t.schema q (finds.tables.blocks q.block)) t.parts) f.manifest.shape t finds.tables.stands.fit in_shape_t) in_parts)
        (All-contains (λ b. HoldsBlock b (finds.tables.blocks b) (reads_of before)) (blocks_of f.manifest.shape) p.block finds.tables.held (in_shape f.manifest.shape t p in_shape_t in_parts))))

  -- ---- the version stands for the history

  history_long : length f.history ≡ length f.refs
  history_long = sym (spelled_long f.refs f.history (reads_of before) finds.history.spelled)

  pub few_shown : f.n ≤ MAX_TXNS
  few_shown = omega (arith, finds.few, history_long, finds.history.gives.records.few)

  pub blocks_small : All (λ b. b < 2 ^ 52) (blocks_of f.manifest.shape)
  blocks_small =
      All-weaker (λ b. b < f.manifest.next_block) (λ b. b < 2 ^ 52)
      (λ b low. low_block f.n f.manifest.next_block b low finds.manifest.next few_shown) (blocks_of f.manifest.shape) finds.manifest.below

  pub shown_there : IsShown f.history f.n f.manifest.shape after
  shown_there = record {
    few = finds.few;
    small = blocks_small;
    blocks = finds.tables.blocks;
    stands = finds.tables.stands;
    held = blocks_there;
  }

  pub logged_there : Knows refs None after → (schemas : List Schema) → schemas ≡ schemas_in f.manifest.shape → IsLogged refs f.n schemas f.history after
  logged_there knows schemas are = record {
    log = knows;
    spelled = λ image now. subst (λ (l : List WalRef). AreSpelled l f.history image) (sym refs_are) (spelled_there image now);
    lawful = finds.history.lawful;
    version = are ∙ finds.tables.stands.schemas ∙ schemas_of-replay [] (take f.n f.history);
  }
