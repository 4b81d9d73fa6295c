-- What the making of a store makes of a told volume.
use Rattle.std.proofs.Common.{◌≡◌, ℕ, ◌≤◌, [], length, Option, Ok, Err, refl, sym, subst, arith}
use Rattle.qd_catalog.specs.declared.version.Version as catalog
use Rattle.qd_catalog.specs.Versions as rows
use Rattle.qd_catalog.specs.Versions.{version_at}
use Rattle.qd_durable.specs.Moments.{Told}
use Rattle.qd_durable.proofs.Moved.{leaves_both}
use Rattle.qd_durable.proofs.Writes.{told_both, told_map}
use Rattle.qd_io.specs.declared.fault.IoFault.{IoFault}
use Rattle.qd_manifest.specs.Spelling.{IsManifest}
use Rattle.qd_sequencer.specs.Calls as logs
use Rattle.qd_sequencer.specs.Histories.{is_log_file}
use Rattle.qd_sequencer.specs.Laws.{OtherFilesLeaveTheSequence}
use Rattle.qd_sequencer.specs.Sequences.{Sequence}
use Rattle.qd_txnfile.specs.States.{IsDirty}
use Rattle.qd_txnfile.specs.Versions.{is_version_file}
use Rattle.qd_versions.specs.Calls as roots
use Rattle.qd_versions.specs.Stores as versions
use Rattle.qd_versions.specs.Stores.{manifest_in}
use Rattle.qd_volume.specs.Disk.{Disk}
use Rattle.qd_store.specs.Marks.{Marks}
use Rattle.qd_store.specs.Found.{nothing}
use Rattle.qd_store.specs.Stores.{AreLimits, Book, IsBook}
use Rattle.qd_store.specs.Calls.{Creates, IsBeingMade}
use Rattle.qd_store.proofs.Creating.{any_moment, behind, being_made, made_whole, unmade_moments, unmade_now}
use Rattle.qd_store.proofs.OpenedStore.{one_of_it, row_of_it}

-- ---- the store of no transaction

pub sound_of : (v : versions.Store) → versions.IsStore v → rows.IsOpened v.versions 0 0 [] → IsManifest 0 nothing.manifest
sound_of v law opened = subst (λ (n : ℕ). IsManifest 0 (manifest_in n [])) opened.next_block (law.current (record { n = 0; shape = [] }) (row_of_it v.versions 0 0 [] opened)).sound

pub none_shown : (v : versions.Store) → versions.IsStore v → rows.IsOpened v.versions 0 0 [] → v.root.n ≡ 0
none_shown v law opened = sym (law.current (record { n = 0; shape = [] }) (row_of_it v.versions 0 0 [] opened)).number

pub book_of_none : (s : Book) → AreLimits s.limits → s.sequence.refs ≡ [] → rows.IsOpened s.versions.versions 0 0 [] → IsBook s
book_of_none s limits empty opened = record {
  limits = limits;
  few = rw empty (omega arith);
  shown = λ row x at. subst (λ (y : catalog.Version). y.n ≤ length s.sequence.refs) (sym (one_of_it s.versions.versions 0 0 [] opened row x at)) (omega arith);
}

-- ---- step by step

not_logged : (fault answer : IoFault) (a b : Disk) → logs.Makes {E = IoFault} (Err fault) a b → Creates {E = IoFault} (Err answer) a b
not_logged fault answer a b made = record {
  any_moment = λ unmade. unmade_moments is_log_file a b made.elsewhere refl unmade;
  created = λ unmade. being_made b (unmade_now is_log_file a b made.elsewhere refl unmade);
}

pub not_logged_told : (fault answer : IoFault) (before after : Option Disk) → Told before after (logs.Makes {E = IoFault} (Err fault)) → Told before after (Creates {E = IoFault} (Err answer))
not_logged_told fault answer before after told = told_map (logs.Makes {E = IoFault} (Err fault)) (Creates {E = IoFault} (Err answer)) before after (λ a b made. not_logged fault answer a b made) told

module _ (sequence : Sequence) where
  not_rooted : (fault answer : IoFault) (a b c : Disk) → logs.Makes {E = IoFault} (Ok sequence) a b → roots.Creates {E = IoFault} (Err fault) b c → Creates {E = IoFault} (Err answer) a c
  not_rooted fault answer a b c made rooted = record {
    any_moment = λ unmade. leaves_both a b c IsBeingMade (unmade_moments is_log_file a b made.elsewhere refl unmade) (unmade_moments is_version_file b c rooted.elsewhere refl (unmade_now is_log_file a b made.elsewhere refl unmade));
    created = λ unmade. being_made c (unmade_now is_version_file b c rooted.elsewhere refl (unmade_now is_log_file a b made.elsewhere refl unmade));
  }

  pub not_rooted_told : (fault answer : IoFault) (before between after : Option Disk) → Told before between (logs.Makes {E = IoFault} (Ok sequence)) → Told between after (roots.Creates {E = IoFault} (Err fault)) → Told before after (Creates {E = IoFault} (Err answer))
  not_rooted_told fault answer before between after first second =
      told_both (logs.Makes {E = IoFault} (Ok sequence)) (roots.Creates {E = IoFault} (Err fault)) (Creates {E = IoFault} (Err answer)) before between after (λ a b c made rooted. not_rooted fault answer a b c made rooted) first second

module _ (s : Book) where
  module _ (law : OtherFilesLeaveTheSequence) (sound : IsManifest 0 nothing.manifest) (clean : IsDirty s.versions.root.other → ⊥) (opened : rows.IsOpened s.versions.versions 0 0 []) (nothing_kept : s.versions.kept ≡ []) where
    abbrev Both : Disk → Disk → Type 0
    Both a c = (b : Disk) × logs.Makes {E = IoFault} (Ok s.sequence) a b × roots.Creates {E = IoFault} (Ok s.versions) b c

    both_told : (before between late : Option Disk) → Told before between (logs.Makes {E = IoFault} (Ok s.sequence)) → Told between late (roots.Creates {E = IoFault} (Ok s.versions)) → Told before late Both
    both_told before between late first second = told_both (logs.Makes {E = IoFault} (Ok s.sequence)) (roots.Creates {E = IoFault} (Ok s.versions)) Both before between late (λ a b c made rooted. (b, made, rooted)) first second

    not_marked : (fault answer : IoFault) (a c d : Disk) → Both a c → Marks {T = Unit {0}} {E = IoFault} (Err fault) c d → Creates {E = IoFault} (Err answer) a d
    not_marked fault answer a c d both marks = record {
      any_moment = λ unmade. any_moment {T = Unit {0}} {E = IoFault} (Err fault) s law sound clean opened nothing_kept a both.0 c d both.1 both.2 marks unmade;
      created = λ unmade. behind {T = Unit {0}} {E = IoFault} (Err fault) s law sound clean opened nothing_kept a both.0 c d both.1 both.2 marks;
    }

    pub not_marked_told : (fault answer : IoFault) (before between late after : Option Disk) → Told before between (logs.Makes {E = IoFault} (Ok s.sequence)) → Told between late (roots.Creates {E = IoFault} (Ok s.versions)) → Told late after (Marks {T = Unit {0}} {E = IoFault} (Err fault)) → Told before after (Creates {E = IoFault} (Err answer))
    not_marked_told fault answer before between late after first second third =
        told_both Both (Marks {T = Unit {0}} {E = IoFault} (Err fault)) (Creates {E = IoFault} (Err answer)) before late after (λ a c d both marks. not_marked fault answer a c d both marks) (both_told before between late first second) third

    is_marked : (done : Unit {0}) (a c d : Disk) → Both a c → Marks {T = Unit {0}} {E = IoFault} (Ok done) c d → Creates {E = IoFault} (Ok s) a d
    is_marked done a c d both marks = record {
      any_moment = λ unmade. any_moment {T = Unit {0}} {E = IoFault} (Ok done) s law sound clean opened nothing_kept a both.0 c d both.1 both.2 marks unmade;
      created = λ unmade. made_whole {T = Unit {0}} {E = IoFault} (Ok done) s law sound clean opened nothing_kept a both.0 c d both.1 both.2 marks marks.marked;
    }

    pub is_marked_told : (done : Unit {0}) (before between late after : Option Disk) → Told before between (logs.Makes {E = IoFault} (Ok s.sequence)) → Told between late (roots.Creates {E = IoFault} (Ok s.versions)) → Told late after (Marks {T = Unit {0}} {E = IoFault} (Ok done)) → Told before after (Creates {E = IoFault} (Ok s))
    is_marked_told done before between late after first second third =
        told_both Both (Marks {T = Unit {0}} {E = IoFault} (Ok done)) (Creates {E = IoFault} (Ok s)) before late after (λ a c d both marks. is_marked done a c d both marks) (both_told before between late first second) third

-- ---- a store that was made is made, whatever the faults are called

pub made_told : (E F : Type 0) (s : Book) (before after : Option Disk) → Told before after (Creates {E = E} (Ok s)) → Told before after (Creates {E = F} (Ok s))
made_told E F s before after told = told_map (Creates {E = E} (Ok s)) (Creates {E = F} (Ok s)) before after (λ a b made. record { any_moment = made.any_moment; created = made.created }) told
