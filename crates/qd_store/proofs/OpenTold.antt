-- What an opening makes of a told volume, step by step.
use Rattle.std.proofs.Common.{◌≡◌, inl, inr, ℕ, ◌≤◌, false, List, [], ◌∷◌, length, drop, None, Ok, Err, refl, sym, ◌∙◌, ap, subst, arith}
use Rattle.qd_base.specs.declared.op.Entry.{Entry}
use Rattle.qd_base.specs.declared.part.WalRef.{WalRef}
use Rattle.qd_base.specs.declared.schema.Schema.{Schema}
use Rattle.qd_base.specs.Schemas.{schemas_step}
use Rattle.std.specs.List.{fold}
use Rattle.std.proofs.Math.Path.{fun_ext}
use Rattle.qd_wal.specs.Segments.{file_in}
use Rattle.qd_durable.specs.declared.fault.LogFault.{LogFault}
use Rattle.qd_durable.specs.declared.fault.LogFault.TheVariants as damage
use Rattle.qd_durable.specs.Moments.{EachNow, LeavesEarlier, SameBut}
use Rattle.qd_durable.proofs.Moved.{earlier_both, earlier_still, earlier_synced, now_has, sync_reads}
use Rattle.qd_io.specs.declared.fault.IoFault.{IoFault}
use Rattle.qd_io.specs.declared.fault.IoFault.TheVariants as io
use Rattle.qd_catalog.specs.Versions as rows
use Rattle.qd_manifest.specs.declared.shape.Manifest.{Manifest}
use Rattle.qd_manifest.specs.declared.shape.TableParts.{TableParts}
use Rattle.qd_manifest.specs.Laws.{OneManifestIsSpelled}
use Rattle.qd_manifest.specs.Spelling.{schemas_in, IsManifest}
use Rattle.qd_seq.specs.Laws.{DamagedGivesNone, OneListIsGiven, OtherFilesLeaveIt}
use Rattle.qd_seq.specs.Layout.{GivesList, SpellsLog}
use Rattle.qd_seq.specs.Damage.{IsDamaged as LogDamaged}
use Rattle.qd_seq.specs.Opening as log
use Rattle.qd_seq.specs.States.{Knows, Log}
use Rattle.qd_sequencer.specs.Reading.{AreRead, BreaksOff, IsBroken, IsGood, IsLogged, IsTakenOver}
use Rattle.qd_sequencer.proofs.Held.{spelled_long}
use Rattle.qd_sequencer.proofs.ReadLemmas.{no_break}
use Rattle.qd_txnfile.specs.Laws.{OneVersionIsGiven}
use Rattle.qd_txnfile.specs.Versions.{GivesVersion, Version}
use Rattle.qd_versions.proofs.Kept.{files_same, gives_kept}
use Rattle.qd_versions.specs.Laws.{DamagedGivesNoStore}
use Rattle.qd_versions.specs.Opening as versions
use Rattle.qd_versions.specs.Stores as stores
use Rattle.qd_versions.specs.Stores.{IsRooted, current_version, stored}
use Rattle.qd_volume.specs.Disk.{Disk, Image, changed, file_of, images_now, reads_of}
use Rattle.qd_volume.specs.Files.{Synced}
use Rattle.qd_volume.proofs.Sound.{image_of_reads, sound_file}
use Rattle.qd_store.specs.declared.fault.OpenFault.TheVariants as fault
use Rattle.qd_store.specs.Faults.{open_damage, open_fault}
use Rattle.qd_store.specs.Marks.{IsMade}
use Rattle.qd_store.specs.Found.{Finds, Found, IsWhole, version_of}
use Rattle.qd_store.specs.Opening.{InEntries, InLog, InVersions, IsDamaged, IsOpened, IsUndamaged, Opens}
use Rattle.qd_store.specs.Stores.{Book, HasVersions}
use Rattle.qd_store.proofs.Opened.{logged_there, made_there, refs_are, same_found, shown_there, version_is}
use Rattle.qd_store.proofs.OpenedStore.{number_is, opened_versions, shape_is, version_of_it}

-- files were synced, and read as they did
pub record HasSynced (before after : Disk) : Type 0 where
  pub reads : (file : ℕ) → reads_of after file ≡ reads_of before file
  pub images : LeavesEarlier before after

pub synced_none : (disk : Disk) → HasSynced disk disk
synced_none disk = record { reads = λ file. refl; images = earlier_still disk }

pub synced_one : (disk : Disk) (file : ℕ) → HasSynced disk (changed disk file Synced)
synced_one disk file = record { reads = λ other. sync_reads disk file other; images = earlier_synced disk file }

pub synced_both : (a b c : Disk) → HasSynced a b → HasSynced b c → HasSynced a c
synced_both a b c first second = record { reads = λ file. second.reads file ∙ first.reads file; images = earlier_both a b c first.images second.images }

pub reads_now : (disk : Disk) → images_now disk (reads_of disk)
reads_now disk file = image_of_reads (file_of disk file) (sound_file disk file)

-- a fact of each image is one of those behind a sync
none_touched : (P : Image → Type 0) → ((a b : Image) → ((file : ℕ) → b file ≡ a file) → P a → P b) → (before after : Disk) → LeavesEarlier before after → EachNow before P → EachNow after P
none_touched P respects before after images had = now_has (SameBut (λ file. false)) P P before after images had (λ a b p same. respects a b (λ file. same file refl) p)

list_respects : (refs : List WalRef) (a b : Image) → ((file : ℕ) → b file ≡ a file) → GivesList refs a → GivesList refs b
list_respects refs a b same gives = subst (SpellsLog refs) (sym (same 1)) gives

version_respects : (v : Version) (a b : Image) → ((file : ℕ) → b file ≡ a file) → GivesVersion v a → GivesVersion v b
version_respects v a b same gives = gives_kept v a b (files_same (λ file. false) refl refl a b (λ file e. same file)) gives

-- damage is where it is for what the files have
damage_before : (records file at : ℕ) (a b : Image) → ((file : ℕ) → b file ≡ a file) → versions.IsDamaged records a file at → versions.IsDamaged records b file at
damage_before records file at a b same damaged = subst (λ (i : Image). versions.IsDamaged records i file at) (sym (fun_ext same)) damaged

breaks_respects : (refs : List WalRef) (schemas : List Schema) (a b : Image) → ((file : ℕ) → b file ≡ a file) → (file at : ℕ) → BreaksOff refs schemas a file at → BreaksOff refs schemas b file at
breaks_respects [] schemas a b same file at breaks = breaks
breaks_respects (ref ∷ refs) schemas a b same file at (inl broken) = inl (subst (λ (l : List ℕ). IsBroken l ref schemas file at) (sym (same (file_in ref))) broken)
breaks_respects (ref ∷ refs) schemas a b same file at (inr (e, good, breaks)) =
    inr (e, subst (λ (l : List ℕ). IsGood l ref schemas e) (sym (same (file_in ref))) good, breaks_respects refs (fold schemas_step schemas e.ops) a b same file at breaks)

-- ---- where nothing was opened

pub failed : (e : IoFault) (before after : Disk) → HasSynced before after → Opens (Err (open_fault e)) before after
failed io.Failed before after synced = record { found = tt; reads = synced.reads; images = synced.images }
failed io.Memory before after synced = record { found = tt; reads = synced.reads; images = synced.images }

pub no_memory : (before after : Disk) → HasSynced before after → Opens (Err fault.Memory) before after
no_memory before after synced = record { found = tt; reads = synced.reads; images = synced.images }

pub not_made : (disk : Disk) → (IsMade (reads_of disk) → ⊥) → Opens (Err fault.NotMade) disk disk
not_made disk absent = record { found = absent; reads = λ file. refl; images = earlier_still disk }

-- ---- the log

-- what a whole volume reads is one of its images
module _ (before : Disk) (whole : IsWhole before) where
  abbrev f : Found
  f = (whole.each (reads_of before) (reads_now before)).0

  f_finds : Finds f (reads_of before)
  f_finds = (whole.each (reads_of before) (reads_now before)).1

pub log_failed : DamagedGivesNone → (e : LogFault) (before between after : Disk) → IsMade (reads_of before) → HasSynced before between → log.Opens (Err e) between after → Opens (Err (open_damage e)) before after
log_failed none damage.Vol before between after made synced opens = let all = synced_both before between after synced (record { reads = opens.reads; images = opens.images }) in record { found = tt; reads = all.reads; images = all.images }
log_failed none damage.Memory before between after made synced opens = let all = synced_both before between after synced (record { reads = opens.reads; images = opens.images }) in record { found = tt; reads = all.reads; images = all.images }
log_failed none (damage.Damaged file at) before between after made synced opens =
    let all = synced_both before between after synced (record { reads = opens.reads; images = opens.images }) in record {
      found = by (subst (λ (l : List ℕ). LogDamaged l at) (all.reads 1) opens.found.1);
      reads = all.reads;
      images = all.images;
    }
  where
    by : LogDamaged (reads_of before 1) at → IsOpened (Err (fault.Damaged file at)) before after
    by damaged = (made, subst (λ (n : ℕ). IsDamaged (reads_of before) n at) (sym opens.found.0) (IsDamaged.InLog at damaged), λ whole. none (reads_of before 1) (f before whole).refs at damaged (f_finds before whole).history.gives)

-- ---- the versions

-- what is read of the log of a volume
pub record HasLog (refs : List WalRef) (before after : Disk) : Type 0 where
  pub made : IsMade (reads_of before)
  pub synced : HasSynced before after
  pub read : GivesList refs (reads_of before)
  pub now : EachNow after (GivesList refs)
  pub knows : Knows refs None after

pub log_opened : (l : Log) (before between after : Disk) → IsMade (reads_of before) → HasSynced before between → log.Opens (Ok l) between after → HasLog l.refs before after
log_opened l before between after made synced opens =
    let all = synced_both before between after synced (record { reads = opens.reads; images = opens.images }) in record {
      made = made;
      synced = all;
      read = list_respects l.refs (reads_of after) (reads_of before) (λ file. sym (all.reads file)) opens.found.0;
      now = opens.found.1;
      knows = opens.found.2;
    }

-- as many records as the history of a whole volume has transactions
module _ (before : Disk) (whole : IsWhole before) (refs : List WalRef) (lists : OneListIsGiven) (read : GivesList refs (reads_of before)) where
  whole_refs : (f before whole).refs ≡ refs
  whole_refs = lists (reads_of before 1) (f before whole).refs refs (f_finds before whole).history.gives read

  whole_long : length refs ≡ length (f before whole).history
  whole_long = ap length (sym whole_refs) ∙ spelled_long (f before whole).refs (f before whole).history (reads_of before) (f_finds before whole).history.spelled

  pub whole_few : (f before whole).n ≤ length refs
  whole_few = omega (arith, (f_finds before whole).few, whole_long)

pub versions_failed : OneListIsGiven → DamagedGivesNoStore → (e : LogFault) (refs : List WalRef) (before between after : Disk) → HasLog refs before between → versions.Opens (Err e) (length refs) between after → Opens (Err (open_damage e)) before after
versions_failed lists none damage.Vol refs before between after has opens = let all = synced_both before between after has.synced (record { reads = opens.reads; images = opens.images }) in record { found = tt; reads = all.reads; images = all.images }
versions_failed lists none damage.Memory refs before between after has opens = let all = synced_both before between after has.synced (record { reads = opens.reads; images = opens.images }) in record { found = tt; reads = all.reads; images = all.images }
versions_failed lists none (damage.Damaged file at) refs before between after has opens =
    let all = synced_both before between after has.synced (record { reads = opens.reads; images = opens.images }) in record {
      found = by (damage_before (length refs) file at (reads_of after) (reads_of before) (λ file. sym (all.reads file)) opens.found);
      reads = all.reads;
      images = all.images;
    }
  where
    by : versions.IsDamaged (length refs) (reads_of before) file at → IsOpened (Err (fault.Damaged file at)) before after
    by damaged = (
      has.made,
      IsDamaged.InVersions refs file at has.read damaged,
      λ whole.
          let g = f before whole in
          none (length refs) (reads_of before) (version_of g) g.manifest file at damaged (f_finds before whole).version (whole_few before whole refs lists has.read)
          (record { sound = (f_finds before whole).manifest; whole = refl }),
    )

-- ---- the store

-- what is read of the log and of the versions
pub record HasRoot (refs : List WalRef) (v : stores.Store) (before after : Disk) : Type 0 where
  pub log : HasLog refs before after
  pub read : GivesVersion (current_version v.versions) (reads_of before)
  pub now : EachNow after (GivesVersion (current_version v.versions))
  pub rooted : (next : Version) → IsRooted v next after

pub root_opened : OtherFilesLeaveIt → (refs : List WalRef) (v : stores.Store) (before between after : Disk) → HasLog refs before between → versions.Opens (Ok v) (length refs) between after → HasRoot refs v before after
root_opened leave refs v before between after has opens =
    let all = synced_both before between after has.synced (record { reads = opens.reads; images = opens.images }) in record {
      log = record {
        made = has.made;
        synced = all;
        read = has.read;
        now = none_touched (GivesList refs) (list_respects refs) between after opens.images has.now;
        knows = (leave (λ file. false) between after refs None refl opens.images has.knows).1;
      };
      read = version_respects (current_version v.versions) (reads_of after) (reads_of before) (λ file. sym (all.reads file)) opens.found.0;
      now = opens.found.1;
      rooted = opens.found.2;
    }

module _ (lists : OneListIsGiven) (roots : OneVersionIsGiven) (manifests : OneManifestIsSpelled) (refs : List WalRef) (v : stores.Store) (m : Manifest) (sound : IsManifest v.root.n m)
    (opened : rows.IsOpened v.versions v.root.n m.next_block m.shape) (schemas : List Schema) (schemas_are : schemas ≡ schemas_in m.shape) (before after : Disk) (has : HasRoot refs v before after) where
  pub found_here : (whole : IsWhole before) (g : Found) → Finds g (reads_of before) → IsLogged refs v.root.n schemas g.history after
  found_here whole g finds =
      let is = version_is lists roots manifests before after whole g finds (reads_now before) has.log.synced.images.now refs has.log.read has.log.now (current_version v.versions) has.read has.now in
      subst (λ (n : ℕ). IsLogged refs n schemas g.history after) (sym (number_is manifests v m sound opened g finds.manifest is))
      (logged_there lists roots manifests before after whole g finds (reads_now before) has.log.synced.images.now refs has.log.read has.log.now (current_version v.versions) has.read has.now has.log.knows schemas
      (schemas_are ∙ ap (λ (l : List TableParts). schemas_in l) (shape_is manifests v m sound opened g finds.manifest is)))

  pub entries_failed : (e : LogFault) → IsTakenOver (Err e) refs v.root.n schemas after → Opens (Err (open_damage e)) before after
  entries_failed damage.Vol over = record { found = tt; reads = has.log.synced.reads; images = has.log.synced.images }
  entries_failed damage.Memory over = record { found = tt; reads = has.log.synced.reads; images = has.log.synced.images }
  entries_failed (damage.Damaged file at) over = record {
    found = (
      has.log.made,
      IsDamaged.InEntries refs v.root.n m file at has.log.read sound
          (subst (λ (w : Version). GivesVersion w (reads_of before)) (version_of_it v.versions v.root.n m.next_block m.shape opened) has.read)
          (breaks_respects (drop v.root.n refs) (schemas_in m.shape) (reads_of after) (reads_of before) (λ file. sym (has.log.synced.reads file)) file at
          (subst (λ (l : List Schema). BreaksOff (drop v.root.n refs) l (reads_of after) file at) schemas_are over.0)),
      λ whole. over.1 (f before whole).history (found_here whole (f before whole) (f_finds before whole)),
    );
    reads = has.log.synced.reads;
    images = has.log.synced.images;
  }

  -- where the transactions behind the version were read, no place is damaged
  module _ (log_none : DamagedGivesNone) (none : DamagedGivesNoStore) (few : v.root.n ≤ length refs) (new : List Schema) (es : List Entry)
      (read : AreRead (drop v.root.n refs) schemas new (reads_of after) es) where
    version_read : GivesVersion (stored v.root.n m.next_block m.shape) (reads_of before)
    version_read = subst (λ (w : Version). GivesVersion w (reads_of before)) (version_of_it v.versions v.root.n m.next_block m.shape opened) has.read

    -- two manifests that the files give are one
    one_found : (n : ℕ) (k : Manifest) → IsManifest n k → GivesVersion (stored n k.next_block k.shape) (reads_of before) → (n ≡ v.root.n) × (k ≡ m)
    one_found n k other gives =
        same_found manifests (record { refs = []; history = []; n = n; manifest = k }) (record { refs = []; history = []; n = v.root.n; manifest = m }) other sound
        (roots (reads_of before) (stored n k.next_block k.shape) (stored v.root.n m.next_block m.shape) gives version_read)

    entries_read : (n : ℕ) (k : Manifest) (file at : ℕ) → n ≡ v.root.n → k ≡ m → BreaksOff (drop n refs) (schemas_in k.shape) (reads_of before) file at → ⊥
    entries_read n k file at n_is k_is breaks =
        let here : BreaksOff (drop v.root.n refs) (schemas_in m.shape) (reads_of before) file at =
        subst (λ (i : ℕ). BreaksOff (drop i refs) (schemas_in m.shape) (reads_of before) file at) n_is
        (subst (λ (x : Manifest). BreaksOff (drop n refs) (schemas_in x.shape) (reads_of before) file at) k_is breaks) in
        no_break (drop v.root.n refs) es schemas (reads_of after) file at read.spelled read.lawful
        (breaks_respects (drop v.root.n refs) schemas (reads_of before) (reads_of after) has.log.synced.reads file at
        (subst (λ (l : List Schema). BreaksOff (drop v.root.n refs) l (reads_of before) file at) (sym schemas_are) here))

    -- the log of these references
    module _ (others : List WalRef) (gives : GivesList others (reads_of before)) where
      one_list : others ≡ refs
      one_list = lists (reads_of before 1) others refs gives has.log.read

      pub versions_whole : (file at : ℕ) → versions.IsDamaged (length others) (reads_of before) file at → ⊥
      versions_whole file at damaged =
          none (length refs) (reads_of before) (stored v.root.n m.next_block m.shape) m file at
          (subst (λ (l : List WalRef). versions.IsDamaged (length l) (reads_of before) file at) one_list damaged) version_read few
          (record { sound = sound; whole = refl })

      pub entries_whole : (n : ℕ) (k : Manifest) (file at : ℕ) → IsManifest n k → GivesVersion (stored n k.next_block k.shape) (reads_of before) → BreaksOff (drop n others) (schemas_in k.shape) (reads_of before) file at → ⊥
      entries_whole n k file at other given breaks =
          let one = one_found n k other given in
          entries_read n k file at one.0 one.1 (subst (λ (l : List WalRef). BreaksOff (drop n l) (schemas_in k.shape) (reads_of before) file at) one_list breaks)

    pub undamaged : IsUndamaged (reads_of before)
    undamaged file at (InLog place damaged) = log_none (reads_of before 1) refs place damaged has.log.read
    undamaged file at (InVersions others place byte gives damaged) = versions_whole others gives place byte damaged
    undamaged file at (InEntries others n k place byte gives other given breaks) = entries_whole others gives n k place byte other given breaks

  pub store_opened : DamagedGivesNone → DamagedGivesNoStore → v.root.n ≤ length refs → v.kept ≡ [] → (s : Book) → s.versions ≡ v → s.sequence.refs ≡ refs → IsTakenOver (Ok s.sequence) refs v.root.n schemas after → Opens (Ok s) before after
  store_opened log_none none few nothing s versions_are refs_same over = record {
    found = (
      has.log.made,
      λ whole g finds.
          let is = version_is lists roots manifests before after whole g finds (reads_now before) has.log.synced.images.now refs has.log.read has.log.now (current_version v.versions) has.read has.now in
          record {
            refs = refs_same ∙ refs_are lists roots manifests before after whole g finds (reads_now before) has.log.synced.images.now refs has.log.read has.log.now (current_version v.versions) has.read has.now;
            shown = ap (λ (x : stores.Store). x.root.n) versions_are ∙ number_is manifests v m sound opened g finds.manifest is;
            stands = λ next. record {
              sequence = over.1 g.history (found_here whole g finds);
              versions = subst (λ (x : stores.Store). HasVersions x g.history next after) (sym versions_are)
                  (opened_versions manifests v m sound opened g finds.manifest is nothing after next
                  (made_there lists roots manifests before after whole g finds (reads_now before) has.log.synced.images.now refs has.log.read has.log.now (current_version v.versions) has.read has.now)
                  has.rooted
                  (shown_there lists roots manifests before after whole g finds (reads_now before) has.log.synced.images.now refs has.log.read has.log.now (current_version v.versions) has.read has.now));
            };
          },
      undamaged log_none none few s.sequence.schemas over.0.0 over.0.1,
    );
    reads = has.log.synced.reads;
    images = has.log.synced.images;
  }
