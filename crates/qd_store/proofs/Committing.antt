-- What a commit makes of a store, from what the sequencer makes of its logs.
use Rattle.std.proofs.Common.{◌≡◌, ◌⊎◌, inl, inr, ℕ, ◌^◌, ◌<◌, nat_eq, nat_le, true, false, ◌||◌, List, [], ◌∷◌, All, Option, Some, None, is_some, Result, Ok, Err, refl, sym, subst, arith}
use Rattle.std.proofs.lemmas.Bool.Decides.{nat_tests}
use Rattle.std.proofs.lemmas.List.Elements.{All-weaker}
use Rattle.qd_base.specs.declared.op.Entry.{Entry}
use Rattle.qd_catalog.specs.declared.version.Version as catalog
use Rattle.qd_catalog.specs.Versions.{version_at}
use Rattle.qd_durable.specs.Moments.{LeavesOnly}
use Rattle.qd_durable.proofs.Moved.{leaves_weaker}
use Rattle.qd_column_files.proofs.FileLemmas.{own_files}
use Rattle.qd_manifest.specs.declared.shape.TableParts.{TableParts}
use Rattle.qd_manifest.specs.Spelling.{blocks_of}
use Rattle.qd_sequencer.specs.Calls.{Accepts, Settles}
use Rattle.qd_sequencer.specs.Sequences.{Sequence}
use Rattle.qd_sequencer.proofs.Held.{may_hold}
use Rattle.qd_sequencer.specs.Histories as histories
use Rattle.qd_sequencer.specs.Histories.{MayHold, is_log_file}
use Rattle.qd_txnfile.specs.States.{IsDirty}
use Rattle.qd_txnfile.specs.Versions.{Version}
use Rattle.qd_versions.specs.Stores as versions
use Rattle.qd_versions.proofs.Kept.{leaves_and}
use Rattle.qd_volume.specs.Disk.{Disk}
use Rattle.qd_store.specs.Stores.{Book, HasVersions, IsStore}
use Rattle.qd_store.specs.Calls.{Commits, IsCommitted, MayShow, ShowsOneOf}
use Rattle.qd_store.proofs.Sides.{Shows, Spares, versions_at_each_moment, versions_kept, versions_longer}
use Rattle.qd_store.proofs.OneOf.{shows_one_of}

-- files of logs are none of a block
no_log : (file : ℕ) → 3 < file → file < 2 ^ 63 → (nat_eq file 1 || nat_le (2 ^ 63) file) ≡ false
no_log file low high = grind (arith, nat_tests)

pub log_spares : (b : ℕ) → b < 2 ^ 52 → Spares is_log_file b
log_spares b small file is = let apart = own_files.apart b file small is in no_log file apart.0 apart.1

pub logs_spare : (shape : List TableParts) → All (λ b. b < 2 ^ 52) (blocks_of shape) → All (Spares is_log_file) (blocks_of shape)
logs_spare shape small = All-weaker (λ b. b < 2 ^ 52) (Spares is_log_file) log_spares (blocks_of shape) small

-- the current version
pub the_current : (o : Option catalog.Version) → is_some o ≡ true → (x : catalog.Version) × (o ≡ Some x)
the_current (Some x) live = (x, refl)
the_current None live = cc

module _ {T E : Type 0} (result : Result T E) (old new : Book) (Own : Entry → Type 0) (before after : Disk)
    (law : versions.IsStore old.versions) (same : new.versions ≡ old.versions) (accepts : Accepts result old.sequence new.sequence Own before after) where
  module _ (h : List Entry) (next : Version) (is : IsStore old h next before) where
    left_spared : (d : IsDirty old.versions.root.other) → All (Spares is_log_file) (blocks_of (is.versions.pending d).left.manifest.shape)
    left_spared d = let p = is.versions.pending d in logs_spare p.left.manifest.shape p.left.shown.small

    live_spared : (row : ℕ) (x : catalog.Version) → version_at old.versions.versions row ≡ Some x → All (Spares is_log_file) (blocks_of x.shape)
    live_spared row x at = logs_spare x.shape (is.versions.live row x at).small

    at_each_moment : LeavesOnly before after (ShowsOneOf h (λ e. Own e ⊎ histories.IsPending old.sequence.pending before e) (MayShow old next))
    at_each_moment =
        let v = old.versions in
        let c = the_current (version_at v.versions v.versions.current) law.live in
        let More : Entry → Type 0 = λ e. Own e ⊎ histories.IsPending old.sequence.pending before e in
        leaves_weaker
        (λ image. MayHold old.sequence.refs h (λ e. Own e ⊎ histories.IsPending old.sequence.pending before e) image × Shows v h next c.0 before (λ d. (is.versions.pending d).left) image)
        (ShowsOneOf h (λ e. Own e ⊎ histories.IsPending old.sequence.pending before e) (MayShow old next)) before after
        (λ image both. shows_one_of v h More old.sequence.refs next c.0 before (λ d. (is.versions.pending d).left) image c.1 (law.current c.0 c.1).sound (is.versions.live v.versions.current c.0 c.1).few both.1 both.0)
        (leaves_and (MayHold old.sequence.refs h (λ e. Own e ⊎ histories.IsPending old.sequence.pending before e)) (Shows v h next c.0 before (λ d. (is.versions.pending d).left)) before after
        (accepts.any_moment h is.sequence)
        (versions_at_each_moment is_log_file before after accepts.elsewhere v h next is.versions refl live_spared left_spared refl refl c.0 c.1))

    still : HasVersions new.versions h next after
    still = subst (λ (v : versions.Store). HasVersions v h next after) (sym same) (versions_kept is_log_file before after accepts.elsewhere old.versions h next is.versions refl live_spared left_spared refl refl)

  pub committed : Commits result old new Own before after
  committed = record {
    any_moment = at_each_moment;
    behind = λ h next is. by result accepts h next is;
    pending = λ h next is. accepts.pending h is.sequence;
  }
    where
      by : (r : Result T E) → Accepts r old.sequence new.sequence Own before after → (h : List Entry) (next : Version) → IsStore old h next before → IsCommitted r new h next Own after
      by (Ok done) a h next is =
          let b = a.behind h is.sequence in
          (b.0, b.1, record { sequence = b.3; versions = versions_longer new.versions h (b.0 ∷ []) next after (still h next is) })
      by (Err fault) a h next is = record { sequence = a.behind h is.sequence; versions = still h next is }

-- ---- a repair in front of a commit

module _ {T E : Type 0} (Own : Entry → Type 0) where
  -- a repair alone is a commit that failed
  pub settled_alone : (fault : E) (old new : Sequence) (before after : Disk) → Settles old new before after → Accepts {T = T} {E = E} (Err fault) old new Own before after
  settled_alone fault old new before after settles = record {
    any_moment = λ h is.
        leaves_weaker (MayHold old.refs h (histories.IsPending old.pending before)) (MayHold old.refs h (λ e. Own e ⊎ histories.IsPending old.pending before e)) before after
        (λ image holds. may_hold old.refs h (histories.IsPending old.pending before) (λ e. Own e ⊎ histories.IsPending old.pending before e) image (λ e p. inr p) holds)
        (settles.any_moment h is);
    behind = λ h is. settles.behind h is;
    pending = λ h is. inl (settles.pending h is);
    elsewhere = settles.elsewhere;
  }
