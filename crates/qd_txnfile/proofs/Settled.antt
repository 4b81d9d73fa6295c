-- Both files synced, and what a root knows of them then.
use Rattle.std.proofs.Common.{◌≡◌, ◌⊎◌, ℕ, List, Option, None, Some, IfSome, Result, Ok, Err, refl, sym, ◌∙◌, subst}
use Rattle.qd_volume.specs.Calls.{Syncs}
use Rattle.qd_volume.specs.Files.{IsImageOf, Synced, settled}
use Rattle.qd_volume.specs.Disk.{Disk, Image, changed, images_now, reads_of}
use Rattle.qd_durable.specs.Moments.{EachNow, Told}
use Rattle.qd_durable.specs.declared.fault.LogFault.{LogFault}
use Rattle.qd_durable.specs.declared.fault.LogFault.TheVariants as fault
use Rattle.qd_durable.specs.Faults.{vol_of}
use Rattle.qd_io.specs.declared.fault.IoFault.{IoFault}
use Rattle.qd_io.specs.declared.fault.IoFault.TheVariants as io
use Rattle.qd_durable.proofs.Moved.{earlier_both, earlier_still, earlier_synced, sync_reads}
use Rattle.qd_txnfile.specs.declared.half.Half.{Half}
use Rattle.qd_txnfile.specs.declared.half.Half.TheVariants.{First, Second}
use Rattle.qd_txnfile.specs.declared.half.Other.{Other}
use Rattle.qd_txnfile.specs.declared.half.Other.TheVariants as other
use Rattle.qd_txnfile.specs.declared.opening.Found.{Found}
use Rattle.qd_txnfile.specs.Versions.{GivesVersion, HoldsVersion, IsClosed, IsOpenBelow, Version, file_of, limit_of, other_of}
use Rattle.qd_txnfile.specs.States.{HasNext, IsKnown, Knows}
use Rattle.qd_txnfile.specs.Reading.{IsOtherFound}
use Rattle.qd_txnfile.specs.Opening.{IsKnownAs, IsOpened, IsRead, Opens, Settles, version_of}
use Rattle.qd_txnfile.proofs.Files.{behind_gate}

-- both files were synced
both_settled : (disk : Disk) (image : Image) → images_now (changed (changed disk 2 Synced) 3 Synced) image → (image 2 ≡ reads_of disk 2) × (image 3 ≡ reads_of disk 3)
both_settled disk image now =
    let first : IsImageOf (settled (reads_of disk 2)) (image 2) = now 2 in
    let second : IsImageOf (settled (reads_of disk 3)) (image 3) = now 3 in
    (first.settled refl refl, second.settled refl refl)

module _ (T U E : Type 0) where
  pub settle_failed : (old new : Option Disk) (fault answer : E) → Syncs {T = T} {E = E} old new 2 (Err fault) → Told old new (Settles {T = U} {E = E} (Err answer))
  settle_failed None new fault answer synced = synced
  settle_failed (Some disk) new fault answer synced = (disk, synced, record { settled = tt; reads = λ file. refl; images = earlier_still disk })

  pub settle_both : (old mid new : Option Disk) (done : T) (result : Result U E) → Syncs {T = T} {E = E} old mid 2 (Ok done) → Syncs mid new 3 result → Told old new (Settles result)
  settle_both None mid new done result first second = subst (λ m. Syncs m new 3 result) first second
  settle_both (Some disk) mid new done (Err fault) first second =
      let late : new ≡ Some (changed disk 2 Synced) = subst (λ m. Syncs {T = U} {E = E} m new 3 (Err fault)) first second in
      (changed disk 2 Synced, late, record { settled = tt; reads = sync_reads disk 2; images = earlier_synced disk 2 })
  settle_both (Some disk) mid new done (Ok answer) first second =
      let once = changed disk 2 Synced in
      let twice = changed once 3 Synced in
      let late : new ≡ Some twice = subst (λ m. Syncs {T = U} {E = E} m new 3 (Ok answer)) first second in (
        twice,
        late,
        record {
          settled = both_settled disk;
          reads = λ file. sync_reads once 3 file ∙ sync_reads disk 2 file;
          images = earlier_both disk once twice (earlier_synced disk 2) (earlier_synced once 3);
        },
      )

-- each image has what the files read
read_by_each : (before after : Disk) → ((file : ℕ) → reads_of after file ≡ reads_of before file) → EachNow after (λ image. (image 2 ≡ reads_of before 2) × (image 3 ≡ reads_of before 3)) → (half : Half) (image : Image) → images_now after image → image (file_of half) ≡ reads_of after (file_of half)
read_by_each before after reads each First image now = (each image now).0 ∙ sym (reads 2)
read_by_each before after reads each Second image now = (each image now).1 ∙ sym (reads 3)

-- the other file as it is found
found_follows : (known : Other) (limit : ℕ) (bytes : List ℕ) (current next : Version) → IsOtherFound known limit bytes → HasNext known current next
found_follows other.Older limit bytes current next is = tt
found_follows other.Closed limit bytes current next is = tt
found_follows (other.Written n) limit bytes current next is = absurd is
found_follows (other.Opening n) limit bytes current next is = absurd is

found_known : (known : Other) (limit : ℕ) (bytes : List ℕ) (next : Version) → IsOtherFound known limit bytes → IsKnown known limit next bytes
found_known other.Older limit bytes next is = (is.n, is.small, is.below, behind_gate bytes _ is.open_gate)
found_known other.Closed limit bytes next is = is
found_known (other.Written n) limit bytes next is = absurd is
found_known (other.Opening n) limit bytes next is = absurd is

-- what was read of settled files
module _ (before after : Disk) (reads : (file : ℕ) → reads_of after file ≡ reads_of before file) (each : EachNow after (λ image. (image 2 ≡ reads_of before 2) × (image 3 ≡ reads_of before 3)))
  where
    opened_root : (found : Found) → IsKnownAs found after → (later : Version) → Knows found.file (version_of found) later after
    opened_root found is later = record {
      number = is.0;
      follows = found_follows found.file.other (limit_of found.file.current found.n) (reads_of after (file_of (other_of found.file.current))) (version_of found) later is.2;
      holds = λ image now. subst (λ (l : List ℕ). HoldsVersion l (version_of found)) (sym (read_by_each before after reads each found.file.current image now)) is.1.holds;
      known = λ image now. subst (λ (l : List ℕ). IsKnown found.file.other (limit_of found.file.current found.n) later l) (sym (read_by_each before after reads each (other_of found.file.current) image now)) (found_known found.file.other (limit_of found.file.current found.n) (reads_of after (file_of (other_of found.file.current))) later is.2);
    }

    clean_given : (found : Found) → IsKnownAs found after → EachNow after (GivesVersion (version_of found))
    clean_given found is image now = (
      found.file.current,
      record {
        holds = subst (λ (l : List ℕ). HoldsVersion l (version_of found)) (sym (read_by_each before after reads each found.file.current image now)) is.1.holds;
        older = subst (λ (l : List ℕ). IsClosed l ⊎ IsOpenBelow (limit_of found.file.current found.n) l) (sym (read_by_each before after reads each (other_of found.file.current) image now)) is.1.older;
      },
    )

    pub opened_by : (result : Result Found LogFault) → IsRead result after → IsOpened result after
    opened_by (Ok found) is = ((found.file.current, is.1), clean_given found is, opened_root found is)
    opened_by (Err fault.Vol) is = tt
    opened_by (Err (fault.Damaged file at)) is = is
    opened_by (Err fault.Memory) is = tt

-- both files synced, and read
module _ (T : Type 0) where
  pub opens_not_settled : (old new : Option Disk) (cause answer : IoFault) → Told old new (Settles {T = T} {E = IoFault} (Err cause)) → Told old new (Opens (Err (vol_of answer)))
  opens_not_settled None new cause answer told = told
  opens_not_settled (Some disk) new cause answer told = (told.0, told.1, record { found = by answer; reads = told.2.reads; images = told.2.images })
    where
      by : (answer : IoFault) → IsOpened (Err (vol_of answer)) told.0
      by io.Failed = tt
      by io.Memory = tt

  pub opens_read : (old mid new : Option Disk) (done : T) (result : Result Found LogFault) → Told old mid (Settles {T = T} {E = IoFault} (Ok done)) → new ≡ mid → IfSome mid (λ disk. IsRead result disk) → Told old new (Opens result)
  opens_read None mid new done result told same read = same ∙ told
  opens_read (Some disk) mid new done result told same read =
      let is : IsRead result told.0 = subst (λ m. IfSome m (λ d. IsRead result d)) told.1 read in
      (told.0, same ∙ told.1, record { found = opened_by disk told.0 told.2.reads told.2.settled result is; reads = told.2.reads; images = told.2.images })
