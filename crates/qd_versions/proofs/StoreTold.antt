-- What the calls of a store make of a volume, told or not, from what its root's make of it.
use Rattle.std.proofs.Common.{◌≡◌, ◌≢◌, ◌⊎◌, inl, inr, ℕ, ◌<◌, ◌≤◌, Bool, true, false, ◌||◌, List, ◌∷◌, length, get_or, All, Contains, Option, Some, None, IfSome, Result, Ok, Err, OnOk, OnErr, sym, ap, ◌∙◌, subst, arith}
use Rattle.std.specs.Arc.{arc_value}
use Rattle.std.proofs.lemmas.List.{get_or-map, length-map, same_lists}
use Rattle.qd_block.specs.Blocks.{Block}
use Rattle.qd_io.specs.declared.fault.IoFault.{IoFault}
use Rattle.qd_catalog.specs.Versions.{IsListed, Versions, version_at}
use Rattle.qd_volume.specs.Disk.{Disk, Image, reads_of}
use Rattle.qd_column_format.specs.Laws.{OneColumnIsSpelled}
use Rattle.qd_column_files.specs.Files.{HoldsBlock, is_file_of}
use Rattle.qd_column_files.specs.Growing.{GoesOn, with_rows}
use Rattle.qd_column_files.proofs.Below.{reads_left}
use Rattle.qd_durable.specs.Moments.{EachNow, LeavesOnly, Moves, SameBut, Told}
use Rattle.qd_durable.proofs.Moved.{but_same, leaves_still, leaves_weaker, moves_still}
use Rattle.qd_durable.proofs.Writes.{told_map, told_still}
use Rattle.qd_txnfile.specs.Calls as root
use Rattle.qd_txnfile.specs.States.{IsDirty, Knows, Root, with_other}
use Rattle.qd_txnfile.specs.declared.half.Other.TheVariants as other
use Rattle.qd_txnfile.specs.Versions.{GivesVersion, Version, is_version_file}
use Rattle.qd_txnfile.proofs.Steps.{known_given}
use Rattle.qd_versions.specs.declared.fault.PublishFault.{PublishFault}
use Rattle.qd_versions.specs.declared.growing.Growing.{Growing}
use Rattle.qd_versions.specs.declared.published.GrownBlock.{GrownBlock}
use Rattle.qd_versions.specs.declared.published.NewBlock.{NewBlock}
use Rattle.qd_versions.specs.Calls.{Creates, IsPublished, IsRepaired, IsSwept, Publishes, Repairs, SweepsFront, is_swept_file, no_tables}
use Rattle.qd_manifest.specs.declared.shape.TableParts.{TableParts}
use Rattle.qd_versions.specs.declared.keeping.KeptTail.{KeptTail}
use Rattle.qd_versions.specs.Kept.{IsNamed, KeepsTails}
use Rattle.qd_versions.specs.Publishing.{AreHeldBy, GivesBefore, GivesWhole, HoldsGrown, KeepsGrown, MayGrow, MayPublish, grown_block, grown_blocks, is_published_file}
use Rattle.qd_versions.specs.Stores.{IsRooted, Store, current_version}
use Rattle.qd_versions.specs.Tails.{AreGrowing, AreReady, AreTails, HoldsMore, IsFit, IsLeft, Keeps, blocks_growing, tails_in}
use Rattle.qd_versions.specs.Writing.{Clears, IsLaid, LaysDown}
use Rattle.qd_versions.proofs.Files.{of_not_version}
use Rattle.qd_versions.proofs.Growths.{of_not_other, or_none}
use Rattle.qd_versions.proofs.KeptTails.{OneCurrent, found_tail, some_item, tails_done, tails_failed, tails_stay, tails_still}
use Rattle.qd_versions.proofs.Stores.{part_block}

-- what a call of the root answers
abbrev Answer : Type 0
Answer = Result (Unit {0}) IoFault

-- a root that knows a version knows one that is equal
knows_as : (r : Root) (v w next : Version) (disk : Disk) → v ≡ w → Knows r v next disk → Knows r w next disk
knows_as r v w next disk same knows = subst (λ (x : Version). Knows r x next disk) same knows

-- ---- what is read of blocks that grow, and what it says of them

module _ (v : Versions) (grown : List GrownBlock) (growing : List Growing) (may : All (MayGrow v) grown) (are : AreGrowing v grown growing) where
  pub fit_all : All (IsFit v.next_block) growing
  fit_all k d less =
      let here : k < length grown = omega (arith, less, are.count) in
      (are.each k (some_item grown k here) d here).fit

  pub blocks_same : blocks_growing growing ≡ grown_blocks v grown
  blocks_same =
      same_lists (blocks_growing growing) (grown_blocks v grown) (length-map growing (λ (x : Growing). x.block) ∙ are.count ∙ sym (length-map grown (grown_block v)))
      (λ k d less.
      let here : k < length grown = omega (arith, less, length-map growing (λ (x : Growing). x.block), are.count) in
      let e = some_item growing k (omega (arith, here, are.count)) in
      let g = some_item grown k here in
      get_or-map (λ (x : Growing). x.block) growing k e d (omega (arith, here, are.count))
      ∙ (are.each k g e here).block
      ∙ sym (get_or-map (grown_block v) grown k g d here))

  module _ (held : ℕ → Block) where
    keeps_grown : (image : Image) → Keeps held growing image → KeepsGrown v held grown image
    keeps_grown image keeps k d less t p at =
        let there : k < length growing = omega (arith, less, are.count) in
        let e = some_item growing k there in
        subst (λ n. HoldsBlock n (held n) image) ((are.each k d e less).block ∙ part_block v (get_or grown k d) t p at) (keeps k e there)

    holds_grown : (image : Image) → HoldsMore held growing image → HoldsGrown v held grown image
    holds_grown image more k d less t p at =
        let there : k < length growing = omega (arith, less, are.count) in
        let e = some_item growing k there in
        let is = are.each k d e less in
        subst (λ (b : Block). HoldsBlock p.block (with_rows (held p.block) b.rows) image) is.rows
        (subst (λ n. HoldsBlock n (with_rows (held n) (arc_value (get_or growing k e).rows).rows) image) (is.block ∙ part_block v (get_or grown k d) t p at) (more k e there))

-- what is found goes on behind the blocks that the volume holds
module _ (one_column : OneColumnIsSpelled) (s : Store) (grown : List GrownBlock) (growing : List Growing) (may : All (MayGrow s.versions) grown) (are : AreGrowing s.versions grown growing) (held : ℕ → Block) where
  all_ready : (disk : Disk) → KeepsTails s disk → AreTails (length grown) s grown growing (reads_of disk) → AreHeldBy s.versions held grown disk → AreReady held growing disk
  all_ready disk keeps tails by k e less =
      let here : k < length grown = omega (arith, less, are.count) in
      let d = some_item grown k here in
      let g = get_or grown k d in
      let m = may k d here in
      let is = are.each k d e here in
      let x = get_or growing k e in
      let there = by k d here m.t m.p m.there in
      let found = tails k d e here m.t m.p m.there in
      let goes : GoesOn (held m.p.block) x.tail (arc_value x.rows) = record {
        kinds = there.0.kinds ∙ sym m.kinds ∙ ap (λ (b : Block). b.kinds) (sym is.rows);
        time_col = there.0.time_col ∙ sym m.time_col ∙ ap (λ (b : Block). b.time_col) (sym is.rows);
        goes_on = found_tail one_column s disk g.table g.part m.t m.p x.tail (held m.p.block) keeps m.there found.0 found.1 (there.1 (reads_of disk) (reads_left disk)) there.0;
      } in
      subst (λ n. GoesOn (held n) x.tail (arc_value x.rows) × EachNow disk (HoldsBlock n (held n))) (sym (is.block ∙ part_block s.versions g m.t m.p m.there)) (goes, there.1)

-- what is kept behind a publication that was done, and the version that it made
pub record IsNext (old new : Store) (growing now : List Growing) : Type 0 where
  pub n : ℕ
  pub shape : List TableParts
  pub count : ℕ
  pub may : MayPublish old.versions n shape count
  pub current : version_at new.versions new.versions.current ≡ Some (record { n = n; shape = shape })
  pub later : old.versions.next_block ≤ new.versions.next_block
  pub mid : List KeptTail
  pub left : All (IsLeft old.kept (blocks_growing growing)) mid
  pub kept : All (λ k. Contains mid k ⊎ Contains (tails_in now) k) new.kept

-- ---- a version that is laid down

module _ (one_column : OneColumnIsSpelled) (old new : Store) (v : Version) (blocks : List NewBlock) (grown : List GrownBlock) (growing now : List Growing) (may : All (MayGrow old.versions) grown) (are : AreGrowing old.versions grown growing) where
  abbrev touched : ℕ → Bool
  touched = is_published_file old.versions.next_block (grown_blocks old.versions grown)

  same_files : (before after : Disk) → Moves (SameBut (is_published_file old.versions.next_block (blocks_growing growing))) before after → Moves (SameBut (is_published_file old.versions.next_block (grown_blocks old.versions grown))) before after
  same_files before after moves = subst (λ (bs : List ℕ). Moves (SameBut (is_published_file old.versions.next_block bs)) before after) (blocks_same old.versions grown growing may are) moves

  module _ (before : Disk) (tails : AreTails (length grown) old grown growing (reads_of before)) where
    ready_by : (held : ℕ → Block) → KeepsTails old before → AreHeldBy old.versions held grown before → AreReady held growing before
    ready_by held kept by = all_ready one_column old grown growing may are held before kept tails by

    module _ {T : Type 0} (result : Result T PublishFault) (after : Disk) (laid : LaysDown result old.root new.root old.versions.next_block v blocks growing now before after) where
      laid_moments : (last : Version) (held : ℕ → Block) → IsRooted old last before → KeepsTails old before → AreHeldBy old.versions held grown before → LeavesOnly before after (λ image. GivesBefore old.root.other (current_version old.versions) last before image ⊎ GivesVersion (current_version old.versions) image ⊎ (GivesWhole v blocks image × HoldsGrown old.versions held grown image))
      laid_moments last held rooted kept by =
          leaves_weaker (λ image. GivesBefore old.root.other (current_version old.versions) last before image ⊎ GivesVersion (current_version old.versions) image ⊎ (GivesWhole v blocks image × HoldsMore held growing image)) (λ image. GivesBefore old.root.other (current_version old.versions) last before image ⊎ GivesVersion (current_version old.versions) image ⊎ (GivesWhole v blocks image × HoldsGrown old.versions held grown image)) before after
          of (laid.any_moment (current_version old.versions) last held rooted.root (ready_by held kept by))
        where
          of : (image : Image) → GivesBefore old.root.other (current_version old.versions) last before image ⊎ GivesVersion (current_version old.versions) image ⊎ (GivesWhole v blocks image × HoldsMore held growing image) → GivesBefore old.root.other (current_version old.versions) last before image ⊎ GivesVersion (current_version old.versions) image ⊎ (GivesWhole v blocks image × HoldsGrown old.versions held grown image)
          of image (inl as_before) = inl as_before
          of image (inr (inl gives)) = inr (inl gives)
          of image (inr (inr whole)) = inr (inr (whole.0, holds_grown old.versions grown growing may are held image whole.1))

      laid_keeps : (held : ℕ → Block) → KeepsTails old before → AreHeldBy old.versions held grown before → LeavesOnly before after (KeepsGrown old.versions held grown) × EachNow after (KeepsGrown old.versions held grown)
      laid_keeps held kept by =
          let keeps = laid.keeps held (ready_by held kept by) in (
            leaves_weaker (Keeps held growing) (KeepsGrown old.versions held grown) before after (λ image k. keeps_grown old.versions grown growing may are held image k) keeps.0,
            λ image now. keeps_grown old.versions grown growing may are held image (keeps.1 image now),
          )

    laid_failed : {T : Type 0} (fault : PublishFault) (after : Disk) → current_version new.versions ≡ current_version old.versions → OneCurrent old.versions new.versions → All (IsLeft old.kept (blocks_growing growing)) new.kept
        → LaysDown {T = T} (Err fault) old.root new.root old.versions.next_block v blocks growing now before after → Publishes {T = ℕ} (Err fault) old new v blocks grown before after
    laid_failed {T} fault after same one left laid = record {
      any_moment = laid_moments {T = T} (Err fault) after laid;
      keeps = laid_keeps {T = T} (Err fault) after laid;
      behind = λ last held rooted kept by. of last held (laid.behind (current_version old.versions) last held rooted.root (ready_by held kept by));
      tails = λ held kept by. tails_failed old new growing before after one laid.elsewhere left kept;
      elsewhere = same_files before after laid.elsewhere;
      removed = laid.removed;
    }
      where
        rooted : (last : Version) → Knows new.root (current_version old.versions) last after → IsRooted new last after
        rooted last knows = record { root = knows_as new.root (current_version old.versions) (current_version new.versions) last after (sym same) knows }

        of : (last : Version) (held : ℕ → Block) → IsLaid {T = T} {E = PublishFault} (Err fault) old.root new.root (current_version old.versions) last v blocks growing held before after → IsPublished {T = ℕ} {E = PublishFault} (Err fault) old new last v blocks grown held before after
        of last held (inl touched) = inl (touched.0, (rooted last touched.1.0, touched.1.1))
        of last held (inr (inl clean)) = inr (inl (rooted last clean.0, clean.1))
        of last held (inr (inr whole)) = inr (inr (rooted v whole.0, λ image now. let h = whole.1 image now in (h.0, holds_grown old.versions grown growing may are held image h.1)))

    laid_done : {T : Type 0} (done : T) (row : ℕ) (after : Disk) → current_version new.versions ≡ v → IsNext old new growing now → LaysDown {T = T} (Ok done) old.root new.root old.versions.next_block v blocks growing now before after → Publishes {T = ℕ} (Ok row) old new v blocks grown before after
    laid_done {T} done row after is next laid = record {
      any_moment = laid_moments {T = T} (Ok done) after laid;
      keeps = laid_keeps {T = T} (Ok done) after laid;
      behind = λ last held rooted kept by.
          let knows = laid.behind (current_version old.versions) last held rooted.root (ready_by held kept by) in
          (λ image now. let h = knows.0 image now in (h.0, holds_grown old.versions grown growing may are held image h.1), λ later. record { root = knows_as new.root v (current_version new.versions) later after (sym is) (knows.1 later) });
      tails = λ held kept by.
          let ready = ready_by held kept by in
          let grew = laid.tails held ready in
          tails_done old new next.n next.shape next.count next.may next.current next.later grown growing now may are before after laid.elsewhere held ready grew.0 grew.1 kept next.mid next.left next.kept;
      elsewhere = same_files before after laid.elsewhere;
      removed = tt;
    }

-- nothing was begun
publish_none : (fault : PublishFault) (old new : Store) (v : Version) (blocks : List NewBlock) (grown : List GrownBlock) (disk : Disk) → new.root ≡ old.root → current_version new.versions ≡ current_version old.versions → OneCurrent old.versions new.versions → new.kept ≡ old.kept → Publishes {T = ℕ} (Err fault) old new v blocks grown disk disk
publish_none fault old new v blocks grown disk root same one kept = record {
  any_moment = λ last held rooted tails by. leaves_still (λ image. GivesBefore old.root.other (current_version old.versions) last disk image ⊎ GivesVersion (current_version old.versions) image ⊎ (GivesWhole v blocks image × HoldsGrown old.versions held grown image)) disk
      (λ image now. inl (known_given old.root (current_version old.versions) last disk rooted.root image now, (image, now, but_same is_version_file image)));
  keeps = λ held tails by. (
    leaves_still (KeepsGrown old.versions held grown) disk (λ image now k d less t p at. (by k d less t p at).1 image now),
    λ image now k d less t p at. (by k d less t p at).1 image now,
  );
  behind = λ last held rooted tails by. inl (λ dirty. subst (λ (r : Root). IsDirty r.other) root dirty, (record { root = subst (λ (r : Root). Knows r (current_version new.versions) last disk) (sym root) (knows_as old.root (current_version old.versions) (current_version new.versions) last disk (sym same) rooted.root) }, moves_still (SameBut is_version_file) disk (but_same is_version_file)));
  tails = λ held tails by. tails_still old new disk one kept tails;
  elsewhere = moves_still (SameBut (is_published_file old.versions.next_block (grown_blocks old.versions grown))) disk (but_same (is_published_file old.versions.next_block (grown_blocks old.versions grown)));
  removed = inl (moves_still (SameBut is_version_file) disk (but_same is_version_file));
}

module _ (before after : Store) (v : Version) (blocks : List NewBlock) (grown : List GrownBlock) where
  pub publish_none_told : (fault : PublishFault) (old : Option Disk) → after.root ≡ before.root → current_version after.versions ≡ current_version before.versions → OneCurrent before.versions after.versions → after.kept ≡ before.kept → Told old old (Publishes {T = ℕ} (Err fault) before after v blocks grown)
  publish_none_told fault old root same one kept = told_still (Publishes {T = ℕ} (Err fault) before after v blocks grown) old (λ disk. publish_none fault before after v blocks grown disk root same one kept)

  module _ (one_column : OneColumnIsSpelled) (growing now : List Growing) (may : All (MayGrow before.versions) grown) (are : AreGrowing before.versions grown growing) where
    -- the blocks' files were read before
    abbrev WereRead : Option Disk → Type 0
    WereRead old = IfSome old (λ disk. AreTails (length grown) before grown growing (reads_of disk))

    pub publish_failed_told : (fault : PublishFault) (old new : Option Disk) → WereRead old → current_version after.versions ≡ current_version before.versions → OneCurrent before.versions after.versions → All (IsLeft before.kept (blocks_growing growing)) after.kept
        → Told old new (LaysDown {T = Unit {0}} (Err fault) before.root after.root before.versions.next_block v blocks growing now) → Told old new (Publishes {T = ℕ} (Err fault) before after v blocks grown)
    publish_failed_told fault None new read same one left told = told
    publish_failed_told fault (Some a) new read same one left told = (told.0, told.1, laid_failed one_column before after v blocks grown growing now may are a read {T = Unit {0}} fault told.0 same one left told.2)

    pub publish_done_told : (done : Unit {0}) (row : ℕ) (old new : Option Disk) → WereRead old → current_version after.versions ≡ v → IsNext before after growing now → Told old new (LaysDown (Ok done) before.root after.root before.versions.next_block v blocks growing now) → Told old new (Publishes (Ok row) before after v blocks grown)
    publish_done_told done row None new read is next told = told
    publish_done_told done row (Some a) new read is next told = (told.0, told.1, laid_done one_column before after v blocks grown growing now may are a read done row told.0 is next told.2)

-- ---- making, repair and sweeping

module _ (v : Version) (is : v ≡ no_tables) where
  pub create_failed_told : (fault answer : IoFault) (old new : Option Disk) → Told old new (root.Creates {E = IoFault} (Err fault) v) → Told old new (Creates {E = IoFault} (Err answer))
  create_failed_told fault answer old new told =
      told_map (root.Creates {E = IoFault} (Err fault) v) (Creates {E = IoFault} (Err answer)) old new (λ a b made. record { created = tt; elsewhere = made.elsewhere }) told

  pub create_done_told : (s : Store) (old new : Option Disk) → current_version s.versions ≡ no_tables → Told old new (root.Creates {E = IoFault} (Ok s.root) v) → Told old new (Creates {E = IoFault} (Ok s))
  create_done_told s old new current told =
      told_map (root.Creates {E = IoFault} (Ok s.root) v) (Creates {E = IoFault} (Ok s)) old new (λ a b made. by a b made) told
    where
      by : (a b : Disk) → root.Creates {E = IoFault} (Ok s.root) v a b → Creates {E = IoFault} (Ok s) a b
      by a b made = record {
        created = (
          subst (λ (x : Version). EachNow b (GivesVersion x)) is made.created.0,
          λ next. record { root = knows_as s.root v (current_version s.versions) next b (is ∙ sym current) (made.created.1 next) },
        );
        elsewhere = made.elsewhere;
      }

pub create_none_told : (fault : IoFault) (old : Option Disk) → Told old old (Creates {E = IoFault} (Err fault))
create_none_told fault old = told_still (Creates {E = IoFault} (Err fault)) old (λ disk. record { created = tt; elsewhere = moves_still (SameBut is_version_file) disk (but_same is_version_file) })

repaired_as : (result : Answer) (before after : Store) (next : Version) (disk : Disk) → after.versions ≡ before.versions → root.IsRepaired result after.root (current_version before.versions) next disk → IsRepaired result after next disk
repaired_as (Ok done) before after next disk same repaired =
    let e : current_version before.versions ≡ current_version after.versions = ap current_version (sym same) in (
      subst (λ (x : Version). EachNow disk (GivesVersion x)) e repaired.0,
      record { root = knows_as after.root (current_version before.versions) (current_version after.versions) next disk e repaired.1 },
    )
repaired_as (Err fault) before after next disk same repaired =
    record { root = knows_as after.root (current_version before.versions) (current_version after.versions) next disk (ap current_version (sym same)) repaired }

as_current : (v w : Versions) → w ≡ v → OneCurrent v w
as_current v w same = record { at = ap (λ (x : Versions). version_at x x.current) same; next = ap (λ (x : Versions). x.next_block) same }

pub repair_told : (result : Answer) (before after : Store) (old new : Option Disk) → after.versions ≡ before.versions → after.kept ≡ before.kept → Told old new (root.Repairs result before.root after.root) → Told old new (Repairs result before after)
repair_told result before after old new same kept told =
    told_map (root.Repairs result before.root after.root) (Repairs result before after) old new
    (λ a b r. record {
      any_moment = λ next rooted. r.any_moment (current_version before.versions) next rooted.root;
      behind = λ next rooted. repaired_as result before after next b same (r.behind (current_version before.versions) next rooted.root);
      tails = λ tails. tails_stay before after (as_current before.versions after.versions same) is_version_file a b r.elsewhere kept (λ block file name of. of_not_version block file of) tails;
      elsewhere = r.elsewhere;
    }) told

-- an empty queue
pub sweep_none_told : (E : Type 0) (s : Store) (old : Option Disk) → Told old old (SweepsFront {E = E} (Ok false) s s)
sweep_none_told E s old = told_still (SweepsFront {E = E} (Ok false) s s) old (λ disk. record {
  any_moment = λ next rooted. leaves_still (λ image. GivesBefore s.root.other (current_version s.versions) next disk image ⊎ GivesVersion (current_version s.versions) image) disk
      (λ image now. inl (known_given s.root (current_version s.versions) next disk rooted.root image now, (image, now, but_same is_version_file image)));
  tails = λ tails. tails;
  behind = λ next rooted. inl (λ dirty. dirty, (rooted, moves_still (SameBut is_version_file) disk (but_same is_version_file)));
  swept = tt;
  elsewhere = moves_still (SameBut (is_swept_file s.versions.retired)) disk (but_same (is_swept_file s.versions.retired));
})

module _ (before after : Store) (block : ℕ) (rest : List ℕ) (front : before.versions.retired ≡ block ∷ rest) (same : current_version after.versions ≡ current_version before.versions) (one : OneCurrent before.versions after.versions) (kept : after.kept ≡ before.kept) (apart : (b : ℕ) → IsListed before.versions b → Contains before.versions.retired b → ⊥) where
  swept_files : (a b : Disk) → Moves (SameBut (is_swept_file (block ∷ rest))) a b → Moves (SameBut (is_swept_file before.versions.retired)) a b
  swept_files a b moves = subst (λ (l : List ℕ). Moves (SameBut (is_swept_file l)) a b) (sym front) moves

  rooted_as : (next : Version) (a b : Disk) → ((IsDirty after.root.other → IsDirty before.root.other) × (Knows after.root (current_version before.versions) next b × Moves (SameBut is_version_file) a b)) ⊎ (Knows after.root (current_version before.versions) next b × (IsDirty after.root.other → ⊥)) → ((IsDirty after.root.other → IsDirty before.root.other) × (IsRooted after next b × Moves (SameBut is_version_file) a b)) ⊎ (IsRooted after next b × (IsDirty after.root.other → ⊥))
  rooted_as next a b (inl touched) = inl (touched.0, (record { root = knows_as after.root (current_version before.versions) (current_version after.versions) next b (sym same) touched.1.0 }, touched.1.1))
  rooted_as next a b (inr clean) = inr (record { root = knows_as after.root (current_version before.versions) (current_version after.versions) next b (sym same) clean.0 }, clean.1)

  -- the current version doesn't name the block
  unnamed : (b : ℕ) → IsNamed before.versions b → b ≢ block
  unnamed b name same = apart b (before.versions.current, name) (subst (λ (l : List ℕ). Contains l b) (sym front) (0, omega arith, sym same))

  swept_apart : (b file : ℕ) → IsNamed before.versions b → is_file_of b file ≡ true → (is_version_file file || is_file_of block file) ≡ false
  swept_apart b file name of = or_none (is_version_file file) (is_file_of block file) (of_not_version b file of) (of_not_other b block file (unnamed b name) of)

  swept_tails : (a b : Disk) → Moves (SameBut (λ file. is_version_file file || is_file_of block file)) a b → KeepsTails before a → KeepsTails after b
  swept_tails a b moves tails = tails_stay before after one (λ file. is_version_file file || is_file_of block file) a b moves kept swept_apart tails

  pub sweep_failed_told : (fault answer : IoFault) (old new : Option Disk) → Told old new (Clears {T = Unit {0}} (Err fault) before.root after.root block) → Told old new (SweepsFront {E = IoFault} (Err answer) before after)
  sweep_failed_told fault answer old new told =
      told_map (Clears {T = Unit {0}} (Err fault) before.root after.root block) (SweepsFront {E = IoFault} (Err answer) before after) old new
      (λ a b c. record {
        any_moment = λ next rooted. c.any_moment (current_version before.versions) next rooted.root;
        behind = λ next rooted. rooted_as next a b (c.behind (current_version before.versions) next rooted.root);
        tails = swept_tails a b c.elsewhere;
        swept = tt;
        elsewhere = swept_files a b c.elsewhere;
      }) told

  pub sweep_done_told : (done : Unit {0}) (old new : Option Disk) → Told old new (Clears {E = IoFault} (Ok done) before.root after.root block) → Told old new (SweepsFront {E = IoFault} (Ok true) before after)
  sweep_done_told done old new told =
      told_map (Clears {E = IoFault} (Ok done) before.root after.root block) (SweepsFront {E = IoFault} (Ok true) before after) old new
      (λ a b c. record {
        any_moment = λ next rooted. c.any_moment (current_version before.versions) next rooted.root;
        behind = λ next rooted. rooted_as next a b (c.behind (current_version before.versions) next rooted.root);
        tails = swept_tails a b c.elsewhere;
        swept = subst (λ (l : List ℕ). IsSwept {E = IoFault} (Ok true) l b) (sym front) c.gone;
        elsewhere = swept_files a b c.elsewhere;
      }) told

-- a repair leaves the number of the current version
pub repaired_number : (result : Answer) (old new : Root) → OnOk result ((IsDirty old.other × (new ≡ with_other old other.Closed)) ⊎ ((IsDirty old.other → ⊥) × (new ≡ old))) → OnErr result (IsDirty old.other × (new ≡ old)) → new.n ≡ old.n
repaired_number (Ok done) old new (inl was) stays = ap (λ (r : Root). r.n) was.1
repaired_number (Ok done) old new (inr clean) stays = ap (λ (r : Root). r.n) clean.1
repaired_number (Err fault) old new clean stays = ap (λ (r : Root). r.n) stays.1
