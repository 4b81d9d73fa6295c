-- What the calls of an opening make of a volume that may be told, one behind another.
use Rattle.std.proofs.Common.{◌≡◌, ℕ, Bool, true, false, List, [], length, Option, Some, None, Ok, Err, IfSome, unwrap_or, ◌≤◌, sym, ◌∙◌, ap, subst}
use Rattle.qd_base.specs.declared.part.WalRef.{WalRef}
use Rattle.qd_base.specs.declared.schema.Schema.{Schema}
use Rattle.qd_catalog.specs.declared.version.Version as catalog
use Rattle.qd_catalog.specs.Versions as rows
use Rattle.qd_catalog.specs.Versions.{n_of, version_at}
use Rattle.qd_durable.specs.declared.fault.LogFault.{LogFault}
use Rattle.qd_durable.specs.Moments.{Told}
use Rattle.qd_durable.proofs.Writes.{told_both, told_map, told_still}
use Rattle.qd_io.specs.declared.fault.IoFault.{IoFault}
use Rattle.qd_manifest.specs.declared.shape.Manifest.{Manifest}
use Rattle.qd_manifest.specs.declared.shape.TableParts.{TableParts}
use Rattle.qd_manifest.specs.Laws.{OneManifestIsSpelled}
use Rattle.qd_manifest.specs.Spelling.{schemas_in, IsManifest}
use Rattle.qd_seq.specs.Laws.{DamagedGivesNone, OneListIsGiven, OtherFilesLeaveIt}
use Rattle.qd_seq.specs.Opening as log
use Rattle.qd_seq.specs.States.{Log}
use Rattle.qd_sequencer.specs.Reading.{IsTakenOver}
use Rattle.qd_txnfile.specs.Laws.{OneVersionIsGiven}
use Rattle.qd_versions.specs.Laws.{DamagedGivesNoStore}
use Rattle.qd_versions.specs.Opening as versions
use Rattle.qd_versions.specs.Stores as stores
use Rattle.qd_volume.specs.Calls.{Syncs}
use Rattle.qd_volume.specs.Disk.{Disk, reads_of}
use Rattle.qd_store.specs.declared.fault.OpenFault.TheVariants as fault
use Rattle.qd_store.specs.Faults.{open_damage, open_fault}
use Rattle.qd_store.specs.Marks.{IsLooked, IsMade}
use Rattle.qd_store.specs.Opening.{Opens}
use Rattle.qd_store.specs.Stores.{AreLimits, Book, IsBook}
use Rattle.qd_store.proofs.OpenedStore.{one_of_it, row_of_it}
use Rattle.qd_store.proofs.OpenTold as told
use Rattle.qd_store.proofs.OpenTold.{HasLog, HasRoot, HasSynced, synced_none, synced_one}
use Rattle.qd_base.specs.declared.limits.TheConstants.{MAX_TXNS}

-- a call that leaves a volume, and says a fact of it
told_with : (P : Disk → Disk → Type 0) (Q : Disk → Type 0) (R : Disk → Disk → Type 0) (before now later : Option Disk) → Told before now P → later ≡ now → IfSome now Q → ((a b : Disk) → P a b → Q b → R a b) → Told before later R
told_with P Q R None now later none same q with_fact = same ∙ none
told_with P Q R (Some a) now later (b, e, p) same q with_fact = (b, same ∙ e, with_fact a b p (subst (λ (o : Option Disk). IfSome o Q) e q))

-- ---- the mark

pub mark_failed : (e : IoFault) (old now : Option Disk) → now ≡ old → Told old now (Opens (Err (open_fault e)))
mark_failed e old now same = subst (λ (o : Option Disk). Told old o (Opens (Err (open_fault e)))) (sym same) (told_still (Opens (Err (open_fault e))) old (λ a. told.failed e a a (synced_none a)))

pub no_mark : (old now : Option Disk) → now ≡ old → (is : Bool) → is ≡ false → IfSome old (λ disk. IsLooked is (reads_of disk)) → Told old now (Opens (Err fault.NotMade))
no_mark None now same is isnt absent = same
no_mark (Some a) now same is isnt absent = (a, same, told.not_made a (subst (λ (b : Bool). IsLooked b (reads_of a)) isnt absent))

-- the mark is there, and its file was synced
pub record IsReady (before after : Disk) : Type 0 where
  pub made : IsMade (reads_of before)
  pub synced : HasSynced before after

module _ (T E : Type 0) where
  pub sync_failed : (e : IoFault) (x : E) (old between now : Option Disk) → between ≡ old → Syncs {T = T} {E = E} between now 0 (Err x) → Told old now (Opens (Err (open_fault e)))
  sync_failed e x None between now same syncs = subst (λ (o : Option Disk). Syncs {T = T} {E = E} o now 0 (Err x)) same syncs
  sync_failed e x (Some a) between now same syncs = (a, subst (λ (o : Option Disk). Syncs {T = T} {E = E} o now 0 (Err x)) same syncs, told.failed e a a (synced_none a))

  pub ready : (done : T) (old between now : Option Disk) → between ≡ old → (is : Bool) → is ≡ true → IfSome old (λ disk. IsLooked is (reads_of disk)) → Syncs {T = T} {E = E} between now 0 (Ok done) → Told old now IsReady
  ready done None between now same is holds made syncs = subst (λ (o : Option Disk). Syncs {T = T} {E = E} o now 0 (Ok done)) same syncs
  ready done (Some a) between now same is holds made syncs = (_, subst (λ (o : Option Disk). Syncs {T = T} {E = E} o now 0 (Ok done)) same syncs, record { made = subst (λ (b : Bool). IsLooked b (reads_of a)) holds made; synced = synced_one a 0 })

-- ---- the log, and the versions

module _ (old between now : Option Disk) where
  pub log_failed : DamagedGivesNone → (e : LogFault) → Told old between IsReady → Told between now (log.Opens (Err e)) → Told old now (Opens (Err (open_damage e)))
  log_failed none e first second = told_both IsReady (log.Opens (Err e)) (Opens (Err (open_damage e))) old between now (λ a b c is opens. told.log_failed none e a b c is.made is.synced opens) first second

  pub log_opened : (l : Log) → Told old between IsReady → Told between now (log.Opens (Ok l)) → Told old now (HasLog l.refs)
  log_opened l first second = told_both IsReady (log.Opens (Ok l)) (HasLog l.refs) old between now (λ a b c is opens. told.log_opened l a b c is.made is.synced opens) first second

  module _ (refs : List WalRef) where
    pub versions_failed : OneListIsGiven → DamagedGivesNoStore → (e : LogFault) → Told old between (HasLog refs) → (list : List WalRef) → list ≡ refs → Told between now (versions.Opens (Err e) (length list)) → Told old now (Opens (Err (open_damage e)))
    versions_failed lists none e first list is second =
        told_both (HasLog refs) (versions.Opens (Err e) (length refs)) (Opens (Err (open_damage e))) old between now (λ a b c has opens. told.versions_failed lists none e refs a b c has opens) first
        (subst (λ (l : List WalRef). Told between now (versions.Opens (Err e) (length l))) is second)

    pub root_opened : OtherFilesLeaveIt → (v : stores.Store) → Told old between (HasLog refs) → (list : List WalRef) → list ≡ refs → Told between now (versions.Opens (Ok v) (length list)) → Told old now (HasRoot refs v)
    root_opened leave v first list is second =
        told_both (HasLog refs) (versions.Opens (Ok v) (length refs)) (HasRoot refs v) old between now (λ a b c has opens. told.root_opened leave refs v a b c has opens) first
        (subst (λ (l : List WalRef). Told between now (versions.Opens (Ok v) (length l))) is second)

-- ---- the store

pub no_memory : (refs : List WalRef) (v : stores.Store) (old now : Option Disk) → Told old now (HasRoot refs v) → Told old now (Opens (Err fault.Memory))
no_memory refs v old now has = told_map (HasRoot refs v) (Opens (Err fault.Memory)) old now (λ a b h. told.no_memory a b h.log.synced) has

-- the number and the tables of the version that was opened
module _ (v : stores.Store) (m : Manifest) (opened : rows.IsOpened v.versions v.root.n m.next_block m.shape) (row : ℕ) (current : row ≡ v.versions.current) where
  row_is_it : version_at v.versions row ≡ Some (record { n = v.root.n; shape = m.shape })
  row_is_it = ap (λ (r : ℕ). version_at v.versions r) current ∙ row_of_it v.versions v.root.n m.next_block m.shape opened

  pub number_here : (o : Option ℕ) (n : ℕ) → o ≡ n_of (version_at v.versions row) → n ≡ unwrap_or o 0 → n ≡ v.root.n
  number_here o n of is = is ∙ ap (λ (p : Option ℕ). unwrap_or p 0) (of ∙ ap (λ (p : Option catalog.Version). n_of p) row_is_it)

  pub tables_here : (tables : List TableParts) → ((x : catalog.Version) → version_at v.versions row ≡ Some x → tables ≡ x.shape) → tables ≡ m.shape
  tables_here tables of = of (record { n = v.root.n; shape = m.shape }) row_is_it

module _ (lists : OneListIsGiven) (roots : OneVersionIsGiven) (manifests : OneManifestIsSpelled) (refs : List WalRef) (v : stores.Store) (m : Manifest) (sound : IsManifest v.root.n m)
    (opened : rows.IsOpened v.versions v.root.n m.next_block m.shape) (schemas : List Schema) (schemas_are : schemas ≡ schemas_in m.shape) (n : ℕ) (number : n ≡ v.root.n)
    (old between now : Option Disk) (has : Told old between (HasRoot refs v)) (same : now ≡ between) where
  pub entries_failed : (e : LogFault) → IfSome between (IsTakenOver (Err e) refs n schemas) → Told old now (Opens (Err (open_damage e)))
  entries_failed e over = told_with (HasRoot refs v) (IsTakenOver (Err e) refs v.root.n schemas) (Opens (Err (open_damage e))) old between now has same
      (subst (λ (k : ℕ). IfSome between (IsTakenOver (Err e) refs k schemas)) number over)
      (λ a b root over. told.entries_failed lists roots manifests refs v m sound opened schemas schemas_are a b root e over)

  pub store_opened : DamagedGivesNone → DamagedGivesNoStore → v.root.n ≤ length refs → v.kept ≡ [] → (s : Book) → s.versions ≡ v → s.sequence.refs ≡ refs → IfSome between (IsTakenOver (Ok s.sequence) refs n schemas) → Told old now (Opens (Ok s))
  store_opened log_none none few nothing s versions_are refs_same over = told_with (HasRoot refs v) (IsTakenOver (Ok s.sequence) refs v.root.n schemas) (Opens (Ok s)) old between now has same
      (subst (λ (k : ℕ). IfSome between (IsTakenOver (Ok s.sequence) refs k schemas)) number over)
      (λ a b root over. told.store_opened lists roots manifests refs v m sound opened schemas schemas_are a b root log_none none few nothing s versions_are refs_same over)

pub book_of_one : (s : Book) (m : Manifest) → AreLimits s.limits → length s.sequence.refs ≤ MAX_TXNS → rows.IsOpened s.versions.versions s.versions.root.n m.next_block m.shape → s.versions.root.n ≤ length s.sequence.refs → IsBook s
book_of_one s m limits few opened all = record {
  limits = limits;
  few = few;
  shown = λ row x at. subst (λ (y : catalog.Version). y.n ≤ length s.sequence.refs) (sym (one_of_it s.versions.versions s.versions.root.n m.next_block m.shape opened row x at)) all;
}
