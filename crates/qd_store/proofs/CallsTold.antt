-- What the calls of a store make of a volume that may be told.
use Rattle.std.proofs.Common.{◌≡◌, ◌≢◌, ℕ, Bool, true, false, List, [], Option, Some, Result, Ok, Err, IfOk, OnErr, slice_get, refl, sym, ap, subst}
use Rattle.qd_base.specs.declared.op.Entry.{Entry}
use Rattle.qd_catalog.specs.Versions as rows
use Rattle.qd_catalog.specs.Versions.{Retires}
use Rattle.qd_durable.specs.Moments.{Told}
use Rattle.qd_durable.proofs.Writes.{told_map}
use Rattle.qd_sequencer.specs.Calls.{Accepts}
use Rattle.qd_txnfile.specs.Versions.{Version}
use Rattle.qd_versions.specs.Kept.{KeepsTails}
use Rattle.qd_versions.specs.Stores as versions
use Rattle.qd_volume.specs.Disk.{Disk}
use Rattle.qd_sequencer.specs.Laws.{OtherFilesLeaveTheSequence}
use Rattle.qd_versions.specs.Calls.{SweepsFront}
use Rattle.qd_store.specs.Calls.{Commits, Stands}
use Rattle.qd_store.specs.Stores.{Book, IsStore}
use Rattle.qd_store.proofs.Committing.{committed}
use Rattle.qd_store.proofs.Swept.{SameRows, sweeps}
use Rattle.qd_store.proofs.Retiring.{retired_versions}

pub commit_told : {T E : Type 0} (result : Result T E) (old inside new : Book) → old ≡ inside → new.versions ≡ inside.versions → versions.IsStore inside.versions → (Own : Entry → Type 0) (before after : Option Disk)
    → Told before after (Accepts result inside.sequence new.sequence Own) → Told before after (Commits result old new Own)
commit_told result old inside new is same law Own before after told = subst (λ (s : Book). Told before after (Commits result s new Own)) (sym is)
    (told_map (Accepts result inside.sequence new.sequence Own) (Commits result inside new Own) before after (λ a b accepts. committed result inside new Own a b law same accepts) told)

pub retired_holds : (old inside new : Book) (row : ℕ) → old ≡ inside → new.sequence ≡ inside.sequence → Retires inside.versions.versions new.versions.versions row → row ≢ inside.versions.versions.current → new.versions.root ≡ inside.versions.root → ((disk : Disk) → KeepsTails inside.versions disk → KeepsTails new.versions disk)
    → (h : List Entry) (next : Version) (disk : Disk) → IsStore old h next disk → IsStore new h next disk
retired_holds old inside new row is same retired older root tails h next disk stands =
    let s = subst (λ (s : Book). IsStore s h next disk) is stands in record {
      sequence = subst (λ (q : Rattle.qd_sequencer.specs.Sequences.Sequence). Rattle.qd_sequencer.specs.Sequences.IsSequence q h disk) (sym same) s.sequence;
      versions = retired_versions inside.versions new.versions row h next disk retired older root (tails disk) s.versions;
    }

module _ {E : Type 0} (X : Type 0) (inside new : versions.Store) where
  pub rows_of : (result : Result Bool E) → IfOk result (λ swept. swept ≡ true → (block : ℕ) × rows.Sweeps inside.versions new.versions block) → (result ≡ Ok false → (inside.versions.retired ≡ []) × (new ≡ inside) × X) → OnErr result (new.versions ≡ inside.versions)
      → SameRows inside.versions new.versions
  rows_of (Ok true) swept idle same = let s = swept refl in (s.1.versions, s.1.current, s.1.next_block)
  rows_of (Ok false) swept idle same = let e = (idle refl).1 in (ap (λ (v : versions.Store). v.versions.versions) e, ap (λ (v : versions.Store). v.versions.current) e, ap (λ (v : versions.Store). v.versions.next_block) e)
  rows_of (Err fault) swept idle same = (ap (λ (v : rows.Versions). v.versions) same, ap (λ (v : rows.Versions). v.current) same, ap (λ (v : rows.Versions). v.next_block) same)

pub swept_told : {E : Type 0} (result : Result Bool E) (old inside new : Book) (before after : Option Disk) → old ≡ inside → new.sequence ≡ inside.sequence → versions.IsStore inside.versions → OtherFilesLeaveTheSequence
    → SameRows inside.versions.versions new.versions.versions → ((block : ℕ) → slice_get inside.versions.versions.retired 0 ≡ Some block → rows.IsListed inside.versions.versions block → ⊥)
    → Told before after (SweepsFront result inside.versions new.versions) → Told before after (Stands old new)
swept_told result old inside new before after is same law leave rows_same unlisted told = subst (λ (s : Book). Told before after (Stands s new)) (sym is)
    (told_map (SweepsFront result inside.versions new.versions) (Stands inside new) before after (λ a b front. sweeps result inside new a b law leave same rows_same unlisted front) told)
