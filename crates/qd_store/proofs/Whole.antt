-- The volumes of stores, and what crashes leave of them, are whole.
use Rattle.std.proofs.Common.{◌≡◌, ◌⊎◌, inl, inr, ℕ, zero, suc, false, List, [], ◌∷◌, ◌++◌, length, All, Option, Some, None, Contains, refl, sym, ◌∙◌, ap, ap₂, subst, arith}
use Rattle.std.proofs.lemmas.List.{take_all}
use Rattle.std.proofs.lemmas.List.Elements.{All-contains}
use Rattle.qd_base.specs.declared.op.Entry.{Entry}
use Rattle.qd_base.specs.declared.part.Part.{Part}
use Rattle.qd_base.specs.declared.part.WalRef.{WalRef}
use Rattle.qd_base.specs.Database.{Database}
use Rattle.qd_base.specs.Replay.{after, first}
use Rattle.qd_block.specs.Blocks.{Block, column_in}
use Rattle.qd_catalog.specs.declared.version.Version as catalog
use Rattle.qd_catalog.specs.Versions.{version_at}
use Rattle.qd_durable.specs.Moments.{EachNow, SameBut}
use Rattle.qd_durable.specs.Places.{StandsAt}
use Rattle.qd_wal_entry.specs.Laws.{OneSpelling}
use Rattle.qd_column_files.specs.Files.{HoldsBlock, column_file}
use Rattle.qd_column_files.specs.Laws.{OneBlockIsHeld}
use Rattle.qd_manifest.specs.declared.shape.Manifest.{Manifest}
use Rattle.qd_manifest.specs.declared.shape.TableParts.{TableParts}
use Rattle.qd_manifest.specs.Laws.{OneManifestIsSpelled}
use Rattle.qd_manifest.specs.Spelling.{blocks_of, IsManifest}
use Rattle.qd_scan.specs.Sources.{IsBlockOf}
use Rattle.qd_seq.specs.Laws.{OneListIsGiven}
use Rattle.qd_seq.specs.Layout.{GivesList, SpellsLog}
use Rattle.qd_seq.specs.States as log
use Rattle.qd_seq.proofs.Steps.{known_given as log_given}
use Rattle.qd_sequencer.specs.Histories as histories
use Rattle.qd_sequencer.specs.Histories.{AreSpelled, HasPending, HoldsHistory}
use Rattle.qd_sequencer.specs.Laws.{WhatASequenceHolds}
use Rattle.qd_column_format.specs.Spelling.{SpellsColumn}
use Rattle.qd_txnfile.specs.declared.half.Other.{Other}
use Rattle.qd_txnfile.specs.declared.half.Other.TheVariants as other
use Rattle.qd_txnfile.specs.Laws.{OneVersionIsGiven}
use Rattle.qd_txnfile.specs.States as root
use Rattle.qd_txnfile.specs.States.{IsDirty}
use Rattle.qd_txnfile.specs.Versions.{GivesVersion, Version}
use Rattle.qd_versions.specs.Stores as versions
use Rattle.qd_versions.specs.Stores.{current_version, manifest_in}
use Rattle.qd_versions.specs.Laws as known
use Rattle.qd_versions.proofs.Kept.{files_same, gives_kept}
use Rattle.qd_volume.specs.Disk.{Disk, Image, images_now}
use Rattle.qd_wal.specs.Laws.{OneEntryIsRead}
use Rattle.qd_wal.specs.Reading.{SpellsAt}
use Rattle.qd_wal.specs.Segments.{file_in, part_at}
use Rattle.qd_store.specs.Prefixes.{HoldsTables, IsLeft, IsShown}
use Rattle.qd_store.specs.Found.{Finds, Found, IsWhole, version_of}
use Rattle.qd_store.specs.Stores.{Book, IsStore}
use Rattle.qd_store.specs.Calls.{MayShow, ShowsOneOf}
use Rattle.qd_store.specs.Laws.{AppliedIsAll, CrashedIsWhole, OneIsFound, StoresAreWhole}
use Rattle.qd_store.proofs.Committing.{the_current}
use Rattle.qd_store.proofs.OneOf.{current_is, shows_one_of}
use Rattle.qd_store.proofs.Opened.{in_shape, respelled, same_found}
use Rattle.qd_store.proofs.Sides.{LeftTables, Shows, blocks_kept}

-- ---- one image in place of another

block_same : (n : ℕ) (rows : Block) (a b : Image) → ((file : ℕ) → b file ≡ a file) → HoldsBlock n rows a → HoldsBlock n rows b
block_same n rows a b same holds = record {
  each = λ col low.
      subst (λ (l : List ℕ). SpellsColumn l (b (column_file n col 1)) (column_in rows col)) (sym (same (column_file n col 0)))
      (subst (λ (l : List ℕ). SpellsColumn (a (column_file n col 0)) l (column_in rows col)) (sym (same (column_file n col 1))) (holds.each col low));
}

pub finds_same : (f : Found) (a b : Image) → SameBut (λ file. false) a b → Finds f a → Finds f b
finds_same f a b same finds = record {
  made = subst (λ (l : List ℕ). StandsAt l 0 (1 ∷ [])) (sym (same 0 refl)) finds.made;
  history = record {
    gives = subst (SpellsLog f.refs) (sym (same 1 refl)) finds.history.gives;
    spelled = respelled f.refs f.history a b (λ ref there. ap (λ (l : List ℕ). part_at l ref) (sym (same (file_in ref) refl))) finds.history.spelled;
    lawful = finds.history.lawful;
  };
  version = gives_kept (version_of f) a b (files_same (λ file. false) refl refl a b same) finds.version;
  manifest = finds.manifest;
  few = finds.few;
  tables = record {
    blocks = finds.tables.blocks;
    stands = finds.tables.stands;
    held = blocks_kept (λ file. false) f.manifest.shape finds.tables.blocks (first f.history f.n) a b finds.tables.stands (λ k d lt file is. refl) same finds.tables.held;
  };
}

pub crashed_is_whole : CrashedIsWhole
crashed_is_whole f image disk finds same = record {
  each = λ i now. (f, finds_same f image i (same i now) finds);
  agree = λ a b g k now_a now_b found_a found_b.
      let equal : (file : ℕ) → b file ≡ a file = λ file. same b now_b file refl ∙ sym (same a now_a file refl) in
      record {
        entries = λ ref in_g in_k. ap (λ (l : List ℕ). part_at l ref) (sym (equal (file_in ref)));
        blocks = λ t p rows in_shape in_parts in_other of holds. block_same p.block rows a b equal holds;
      };
}

-- ---- one finding

histories_one : (one : OneEntryIsRead) (image : Image) (refs : List WalRef) (a b : List Entry) → AreSpelled refs a image → AreSpelled refs b image → a ≡ b
histories_one one image [] [] [] s t = refl
histories_one one image [] (x ∷ xs) b s t = absurd s
histories_one one image [] [] (y ∷ ys) s t = absurd t
histories_one one image (ref ∷ refs) [] b s t = absurd s
histories_one one image (ref ∷ refs) (x ∷ xs) [] s t = absurd t
histories_one one image (ref ∷ refs) (x ∷ xs) (y ∷ ys) s t =
    ap₂ (λ (e : Entry) (es : List Entry). e ∷ es) (one (image (file_in ref)) ref x y s.0 t.0) (histories_one one image refs xs ys s.1 t.1)

pub one_is_found : OneListIsGiven → OneVersionIsGiven → OneManifestIsSpelled → OneEntryIsRead → OneIsFound
one_is_found lists roots manifests entries f g image ff gg =
    let refs : f.refs ≡ g.refs = lists (image 1) f.refs g.refs ff.history.gives gg.history.gives in
    let history : f.history ≡ g.history = histories_one entries image f.refs f.history g.history ff.history.spelled (subst (λ (l : List WalRef). AreSpelled l g.history image) (sym refs) gg.history.spelled) in
    let both = same_found manifests f g ff.manifest gg.manifest (roots image (version_of f) (version_of g) ff.version gg.version) in
    whole refs history both.0 both.1
  where
    whole : f.refs ≡ g.refs → f.history ≡ g.history → f.n ≡ g.n → f.manifest ≡ g.manifest → f ≡ g
    whole r h n m =
        ap₂ (λ (a : List WalRef × List Entry) (b : ℕ × Manifest). record { refs = a.0; history = a.1; n = b.0; manifest = b.1 })
        (ap₂ (λ (x : List WalRef) (y : List Entry). (x, y)) r h) (ap₂ (λ (x : ℕ) (y : Manifest). (x, y)) n m)

-- ---- the volume of a store

contains_split : {X : Type 0} (xs : List X) (y z : X) → Contains (xs ++ y ∷ []) z → Contains xs z ⊎ (z ≡ y)
contains_split [] y z (zero, low, is) = inr (sym is)
contains_split [] y z (suc k, low, is) = absurd (omega (arith, low))
contains_split (x ∷ xs) y z (zero, low, is) = inl (0, omega arith, is)
contains_split (x ∷ xs) y z (suc k, low, is) = by (contains_split xs y z (k, omega (arith, low), is))
  where
    by : Contains xs z ⊎ (z ≡ y) → Contains (x ∷ xs) z ⊎ (z ≡ y)
    by (inl there) = inl (suc there.0, omega (arith, there.1), there.2)
    by (inr same) = inr same

-- the transaction of a reference in two images
abbrev BothSpell : Image → Image → WalRef → Type 0
BothSpell a b ref = (e : Entry) × SpellsAt (a (file_in ref)) ref e × SpellsAt (b (file_in ref)) ref e

both_spelled : (refs : List WalRef) (h : List Entry) (a b : Image) → AreSpelled refs h a → AreSpelled refs h b → (ref : WalRef) → Contains refs ref → BothSpell a b ref
both_spelled [] h a b s t ref there = absurd (omega (arith, there.1))
both_spelled (r ∷ refs) [] a b s t ref there = absurd s
both_spelled (r ∷ refs) (e ∷ es) a b s t ref (zero, low, is) = subst (BothSpell a b) is (e, s.0, t.0)
both_spelled (r ∷ refs) (e ∷ es) a b s t ref (suc k, low, is) = both_spelled refs es a b s.1 t.1 ref (k, omega (arith, low), is)

same_bytes : (one : OneSpelling) (a b : Image) (ref : WalRef) → BothSpell a b ref → part_at (a (file_in ref)) ref ≡ part_at (b (file_in ref)) ref
same_bytes one a b ref (e, s, t) = one (part_at (a (file_in ref)) ref) (part_at (b (file_in ref)) ref) e s.spelled t.spelled

module _ (lists : OneListIsGiven) (roots : OneVersionIsGiven) (manifests : OneManifestIsSpelled) (spellings : OneSpelling) (blocks_one : OneBlockIsHeld) (what : WhatASequenceHolds) (given : known.WhatIsKnownIsGiven)
    (s : Book) (h : List Entry) (next : Version) (disk : Disk) (law : versions.IsStore s.versions) (is : IsStore s h next disk) where
  abbrev x : catalog.Version
  x = (the_current (version_at s.versions.versions s.versions.versions.current) law.live).0

  at : version_at s.versions.versions s.versions.versions.current ≡ Some x
  at = (the_current (version_at s.versions.versions s.versions.versions.current) law.live).1

  shown : IsShown h x.n x.shape disk
  shown = is.versions.live s.versions.versions.current x at

  sound : IsManifest x.n (manifest_in s.versions.versions.next_block x.shape)
  sound = (law.current x at).sound

  left_now : (known : Other) (left : IsDirty known → IsLeft h next disk) (image : Image) → images_now disk image → LeftTables h next disk known left image
  left_now (other.Opening n) left image now = record { blocks = (left tt).shown.blocks; stands = (left tt).shown.stands; held = (left tt).shown.held image now }
  left_now other.Older left image now = tt
  left_now other.Closed left image now = tt
  left_now (other.Written n) left image now = tt

  shows_now : (image : Image) → images_now disk image → Shows s.versions h next x disk (λ d. (is.versions.pending d).left) image
  shows_now image now = record {
    made = is.versions.made image now;
    given = given s.versions next disk is.versions.rooted image now;
    current = record { blocks = shown.blocks; stands = shown.stands; held = shown.held image now };
    others = left_now s.versions.root.other (λ d. (is.versions.pending d).left) image now;
  }

  pub store_shows : EachNow disk (ShowsOneOf h (histories.IsPending s.sequence.pending disk) (MayShow s next))
  store_shows image now =
      shows_one_of s.versions h (histories.IsPending s.sequence.pending disk) s.sequence.refs next x disk (λ d. (is.versions.pending d).left) image at sound shown.few (shows_now image now)
      (what s.sequence h disk is.sequence image now)

  -- entries
  entries_agree : (a b : Image) (f : Found) → images_now disk a → images_now disk b → Finds f a → (ref : WalRef) → Contains f.refs ref → part_at (a (file_in ref)) ref ≡ part_at (b (file_in ref)) ref
  entries_agree a b f now_a now_b finds ref there = by s.sequence.pending is.sequence.pending (is.sequence.log)
    where
      in_refs : Contains s.sequence.refs ref → part_at (a (file_in ref)) ref ≡ part_at (b (file_in ref)) ref
      in_refs in_list = same_bytes spellings a b ref (both_spelled s.sequence.refs h a b (is.sequence.spelled a now_a) (is.sequence.spelled b now_b) ref in_list)

      from_list : (refs : List WalRef) → GivesList refs a → Contains refs ref
      from_list refs gives = subst (λ (l : List WalRef). Contains l ref) (lists (a 1) f.refs refs finds.history.gives gives) there

      last : (pref : WalRef) → HasPending (Some pref) h disk → Contains s.sequence.refs ref ⊎ (ref ≡ pref) → part_at (a (file_in ref)) ref ≡ part_at (b (file_in ref)) ref
      last pref pending (inl in_list) = in_refs in_list
      last pref pending (inr same) = same_bytes spellings a b ref (subst (BothSpell a b) (sym same) (pending.0, pending.1 a now_a, pending.1 b now_b))

      one_of_two : (pref : WalRef) → HasPending (Some pref) h disk → log.GivesOneOf s.sequence.refs pref a → part_at (a (file_in ref)) ref ≡ part_at (b (file_in ref)) ref
      one_of_two pref pending (inl gives) = in_refs (from_list s.sequence.refs gives)
      one_of_two pref pending (inr gives) = last pref pending (contains_split s.sequence.refs pref ref (from_list (s.sequence.refs ++ pref ∷ []) gives))

      by : (pending : Option WalRef) → HasPending pending h disk → log.Knows s.sequence.refs pending disk → part_at (a (file_in ref)) ref ≡ part_at (b (file_in ref)) ref
      by None has knows = in_refs (from_list s.sequence.refs (log_given s.sequence.refs None disk knows a now_a))
      by (Some pref) has knows = one_of_two pref has (log_given s.sequence.refs (Some pref) disk knows a now_a)

  -- blocks
  blocks_agree : (n : ℕ) (shape : List TableParts) → IsShown h n shape disk → (a b : Image) → images_now disk a → images_now disk b → (t : TableParts) (p : Part) (rows : Block) → Contains shape t → Contains t.parts p → IsBlockOf t.schema p rows → HoldsBlock p.block rows a → HoldsBlock p.block rows b
  blocks_agree n shape held a b now_a now_b t p rows in_tables in_parts of holds =
      let in_blocks = in_shape shape t p in_tables in_parts in
      let fit : IsBlockOf t.schema p (held.blocks p.block) = All-contains (λ (q : Part). IsBlockOf t.schema q (held.blocks q.block)) t.parts p (All-contains (λ (u : TableParts). All (λ (q : Part). IsBlockOf u.schema q (held.blocks q.block)) u.parts) shape t held.stands.fit in_tables) in_parts in
      let there = All-contains (λ c. HoldsBlock c (held.blocks c) a) (blocks_of shape) p.block (held.held a now_a) in_blocks in
      subst (λ (r : Block). HoldsBlock p.block r b) (sym (blocks_one t.schema p p.block rows (held.blocks p.block) a of fit holds there))
      (All-contains (λ c. HoldsBlock c (held.blocks c) b) (blocks_of shape) p.block (held.held b now_b) in_blocks)

  -- the version of an image
  module _ (a b : Image) (f : Found) (now_a : images_now disk a) (now_b : images_now disk b) (finds : Finds f a) (t : TableParts) (p : Part) (rows : Block) (in_tables : Contains f.manifest.shape t) (in_parts : Contains t.parts p) (of : IsBlockOf t.schema p rows) (holds : HoldsBlock p.block rows a) where
    of_version : (n : ℕ) (m : Manifest) → IsManifest n m → IsShown h n m.shape disk → version_of f ≡ versions.stored n m.next_block m.shape → HoldsBlock p.block rows b
    of_version n m is_sound held same =
        let both = same_found manifests f (record { refs = []; history = []; n = n; manifest = m }) finds.manifest is_sound same in
        blocks_agree n m.shape held a b now_a now_b t p rows (subst (λ (k : Manifest). Contains k.shape t) both.1 in_tables) in_parts of holds

    of_current : GivesVersion (current_version s.versions.versions) a → HoldsBlock p.block rows b
    of_current gives = of_version x.n (manifest_in s.versions.versions.next_block x.shape) sound shown (roots a (version_of f) (current_version s.versions.versions) finds.version gives ∙ current_is s.versions x at)

    of_left : IsLeft h next disk → GivesVersion next a → HoldsBlock p.block rows b
    of_left left gives = of_version next.n left.manifest left.sound left.shown (roots a (version_of f) next finds.version gives ∙ left.spelled)

    of_known : (known : Other) (left : IsDirty known → IsLeft h next disk) → root.GivesKnown known (current_version s.versions.versions) next a → HoldsBlock p.block rows b
    of_known other.Older left gives = of_current gives
    of_known other.Closed left gives = of_current gives
    of_known (other.Written n) left gives = of_current gives
    of_known (other.Opening n) left (inl gives) = of_current gives
    of_known (other.Opening n) left (inr gives) = of_left (left tt) gives

    block_agrees : HoldsBlock p.block rows b
    block_agrees = of_known s.versions.root.other (λ d. (is.versions.pending d).left) (given s.versions next disk is.versions.rooted a now_a)

  pub store_whole : IsWhole disk
  store_whole = record {
    each = λ image now. let shows = store_shows image now in (shows.found, shows.finds);
    agree = λ a b f g now_a now_b finds_a finds_b. record {
      entries = λ ref in_f in_g. entries_agree a b f now_a now_b finds_a ref in_f;
      blocks = λ t p rows in_tables in_parts in_other of holds. block_agrees a b f now_a now_b finds_a t p rows in_tables in_parts of holds;
    };
  }

pub stores_are_whole : OneListIsGiven → OneVersionIsGiven → OneManifestIsSpelled → OneSpelling → OneBlockIsHeld → WhatASequenceHolds → known.WhatIsKnownIsGiven → StoresAreWhole
stores_are_whole lists roots manifests spellings blocks what given = record {
  whole = λ s h next disk law is. store_whole lists roots manifests spellings blocks what given s h next disk law is;
  shows = λ s h next disk law is. store_shows lists roots manifests spellings blocks what given s h next disk law is;
}

-- ---- a store whose transactions are all shown

spelled_long : (refs : List WalRef) (h : List Entry) (image : Image) → AreSpelled refs h image → length refs ≡ length h
spelled_long [] [] image s = refl
spelled_long [] (e ∷ es) image s = absurd s
spelled_long (ref ∷ refs) [] image s = absurd s
spelled_long (ref ∷ refs) (e ∷ es) image s = ap suc (spelled_long refs es image s.1)

pub applied_is_all : AppliedIsAll
applied_is_all s h next disk x is at all image now =
    let shown = is.versions.live s.versions.versions.current x at in
    let long : x.n ≡ length h = all ∙ spelled_long s.sequence.refs h image (is.sequence.spelled image now) in
    subst (λ (db : Database). HoldsTables x.shape db image) (ap (λ (n : ℕ). first h n) long ∙ ap after (take_all (length h) h (omega arith)))
    (record { blocks = shown.blocks; stands = shown.stands; held = shown.held image now })
