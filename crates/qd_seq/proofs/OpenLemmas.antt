-- A log that is synced and read.
use Rattle.std.proofs.Common.{◌≡◌, ℕ, List, Option, None, Some, IfSome, Ok, Err, refl, sym, ◌∙◌, subst}
use Rattle.qd_volume.specs.Calls.{Syncs}
use Rattle.qd_volume.specs.Files.{Synced}
use Rattle.qd_volume.specs.Disk.{Disk, changed, reads_of}
use Rattle.qd_durable.specs.Moments.{EachNow, Told}
use Rattle.qd_durable.specs.declared.fault.LogFault.{LogFault}
use Rattle.qd_durable.specs.declared.fault.LogFault.TheVariants as fault
use Rattle.qd_durable.specs.Faults.{vol_of}
use Rattle.qd_durable.proofs.Moved.{earlier_still, earlier_synced, sync_reads, synced_reads}
use Rattle.qd_io.specs.declared.fault.IoFault.{IoFault}
use Rattle.qd_io.specs.declared.fault.IoFault.TheVariants as io
use Rattle.qd_seq.specs.Layout.{GivesList, SpellsLog}
use Rattle.qd_seq.specs.States.{Knows, Log}
use Rattle.qd_seq.specs.Reading.{IsBroken}
use Rattle.qd_seq.specs.Opening.{IsOpened, Opens}

-- a fault tells nothing, or where the log is damaged
broken_opened : (cause : LogFault) (after : Disk) → IsBroken (reads_of after 1) cause → IsOpened (Err cause) after
broken_opened fault.Vol after broken = tt
broken_opened (fault.Damaged file at) after broken = broken
broken_opened fault.Memory after broken = tt

volume_opened : (cause : IoFault) (after : Disk) → IsOpened (Err (vol_of cause)) after
volume_opened io.Failed after = tt
volume_opened io.Memory after = tt

-- the list that is read is known of each image
list_opened : (disk : Disk) (log : Log) → SpellsLog log.refs (reads_of (changed disk 1 Synced) 1) → IsOpened (Ok log) (changed disk 1 Synced)
list_opened disk log spells = (spells, each, knows)
  where
    each : EachNow (changed disk 1 Synced) (GivesList log.refs)
    each image now = subst (λ (l : List ℕ). SpellsLog log.refs l) (sync_reads disk 1 1 ∙ sym (synced_reads disk 1 image now)) spells

    knows : Knows log.refs None (changed disk 1 Synced)
    knows image now = let is = each image now in record { records = is.records; behind = is.closed }

module _ (T : Type 0) where
  pub opens_not_synced : (old new : Option Disk) (cause answer : IoFault) → Syncs {T = T} {E = IoFault} old new 1 (Err cause) → Told old new (Opens (Err (vol_of answer)))
  opens_not_synced None new cause answer synced = synced
  opens_not_synced (Some disk) new cause answer synced = (disk, synced, record { found = volume_opened answer disk; reads = λ file. refl; images = earlier_still disk })

  module _ (old mid new : Option Disk) (done : T) (synced : Syncs {T = T} {E = IoFault} old mid 1 (Ok done)) (same : new ≡ mid) where
    pub opens_broken : (cause : LogFault) → IfSome mid (λ disk. IsBroken (reads_of disk 1) cause) → Told old new (Opens (Err cause))
    opens_broken cause broken = by old synced
      where
        by : (old : Option Disk) → Syncs {T = T} {E = IoFault} old mid 1 (Ok done) → Told old new (Opens (Err cause))
        by None none = same ∙ none
        by (Some disk) is = (
          changed disk 1 Synced,
          same ∙ is,
          record {
            found = broken_opened cause (changed disk 1 Synced) (subst (λ m. IfSome m (λ d. IsBroken (reads_of d 1) cause)) is broken);
            reads = sync_reads disk 1;
            images = earlier_synced disk 1;
          },
        )

    pub opens_read : (log : Log) → IfSome mid (λ disk. SpellsLog log.refs (reads_of disk 1)) → Told old new (Opens (Ok log))
    opens_read log spells = by old synced
      where
        by : (old : Option Disk) → Syncs {T = T} {E = IoFault} old mid 1 (Ok done) → Told old new (Opens (Ok log))
        by None none = same ∙ none
        by (Some disk) is = (
          changed disk 1 Synced,
          same ∙ is,
          record {
            found = list_opened disk log (subst (λ m. IfSome m (λ d. SpellsLog log.refs (reads_of d 1))) is spells);
            reads = sync_reads disk 1;
            images = earlier_synced disk 1;
          },
        )
