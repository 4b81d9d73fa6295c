-- What is found in two version files, from what is read of them.
use Rattle.std.proofs.Common.{◌≡◌, ℕ, ◌≤◌, List, length, Option, IfSome, Result, Ok, Err, refl, sym, subst, arith}
use Rattle.std.specs.Int.{to_le_bytes, w64}
use Rattle.qd_volume.specs.Disk.{Disk, Image, reads_of}
use Rattle.qd_durable.specs.declared.fault.LogFault.{LogFault}
use Rattle.qd_durable.specs.declared.fault.LogFault.TheVariants as fault
use Rattle.qd_durable.proofs.Standing.{stands_room}
use Rattle.qd_txnfile.specs.declared.half.Other.{Other}
use Rattle.qd_txnfile.specs.declared.half.Other.TheVariants as other
use Rattle.qd_txnfile.specs.declared.reading.Newest.{Newest}
use Rattle.qd_txnfile.specs.Versions.{file_of}
use Rattle.qd_txnfile.specs.States.{IsNewer, Root}
use Rattle.qd_txnfile.specs.Reading.{IsFound, IsManifest, IsNewest, IsNewestRead}
use Rattle.qd_txnfile.specs.Opening.{IsRead}
use Rattle.qd_txnfile.proofs.Files.{number_long}
use Rattle.qd_txnfile.proofs.ReadLemmas.{newest_cut, newest_whole, some_both, some_of}
use Rattle.qd_txnfile.proofs.Steps.{root_of}

-- what is found of the other file promises no newer version
pub found_newer : (n : ℕ) (known : Other) → IsFound known → IsNewer n known
found_newer n other.Older found = tt
found_newer n other.Closed found = tt
found_newer n (other.Written m) found = absurd found
found_newer n (other.Opening m) found = absurd found

-- files that are damaged
pub read_broken : (disk : Disk) (cause : LogFault) → IsNewestRead (Err cause) (reads_of disk) → IsRead (Err cause) disk
read_broken disk fault.Vol broken = tt
read_broken disk (fault.Damaged file at) broken = broken
read_broken disk fault.Memory broken = tt

-- a newest version has its length
newest_long : (newest : Newest) (image : Image) → IsNewest newest image → 17 ≤ length (image (file_of newest.half))
newest_long newest image is = omega (arith, stands_room (image (file_of newest.half)) 9 (to_le_bytes w64 newest.size) is.size (omega (arith, number_long newest.size)), number_long newest.size)

-- a newest version whose manifest is cut, or wasn't read
pub read_cut : (newest : Newest) (disk : Disk) (cause : LogFault) → IsNewest newest (reads_of disk) → IsManifest (Err cause) (file_of newest.half) newest.size (reads_of disk (file_of newest.half)) → IsRead (Err cause) disk
read_cut newest disk fault.Vol is manifest = tt
read_cut newest disk fault.Memory is manifest = tt
read_cut newest disk (fault.Damaged file at) is manifest =
    let long = newest_long newest (reads_of disk) is in
    let cut = manifest long in
    let damage = newest_cut newest (reads_of disk) is long cut.2 in
    subst (λ f. IsRead (Err (fault.Damaged f at)) disk) (sym cut.0) (subst (λ a. IsRead (Err (fault.Damaged (file_of newest.half) a)) disk) (sym cut.1) damage)

-- and one that was read whole
pub read_whole : (newest : Newest) (disk : Disk) (root : Root) (manifest : List ℕ) → root ≡ root_of newest.half newest.n newest.other → IsNewest newest (reads_of disk) → IsManifest (Ok manifest) (file_of newest.half) newest.size (reads_of disk (file_of newest.half)) → IsRead (Ok (record { file = root; n = newest.n; manifest = manifest })) disk
read_whole newest disk root manifest is found whole =
    subst (λ (r : Root). IsRead (Ok (record { file = r; n = newest.n; manifest = manifest })) disk) (sym is) (refl, newest_whole newest (reads_of disk) manifest found whole.0 whole.1, found.chosen.other)

-- the same of a volume that may tell nothing
pub broken_told : (disk : Option Disk) (cause answer : LogFault) → answer ≡ cause → IfSome disk (λ d. IsNewestRead (Err cause) (reads_of d)) → IfSome disk (λ d. IsRead (Err answer) d)
broken_told disk cause answer same told =
    subst (λ (f : LogFault). IfSome disk (λ d. IsRead (Err f) d)) (sym same)
    (some_of (λ d. IsNewestRead (Err cause) (reads_of d)) (λ d. IsRead (Err cause) d) disk (λ d is. read_broken d cause is) told)

module _ (old mid : Option Disk) (stays : mid ≡ old) (newest : Newest) (file : ℕ) (is : file ≡ file_of newest.half) (found : IfSome old (λ d. IsNewestRead (Ok newest) (reads_of d))) where
  -- what was read of the file
  of_the_file : (result : Result (List ℕ) LogFault) → IfSome mid (λ d. IsManifest result file newest.size (reads_of d file)) → IfSome old (λ d. IsManifest result (file_of newest.half) newest.size (reads_of d (file_of newest.half)))
  of_the_file result told =
      subst (λ (m : Option Disk). IfSome m (λ d. IsManifest result (file_of newest.half) newest.size (reads_of d (file_of newest.half)))) stays
      (subst (λ f. IfSome mid (λ d. IsManifest result f newest.size (reads_of d f))) is told)

  pub cut_told : (cause answer : LogFault) → answer ≡ cause → IfSome mid (λ d. IsManifest (Err cause) file newest.size (reads_of d file)) → IfSome old (λ d. IsRead (Err answer) d)
  cut_told cause answer same told =
      subst (λ (f : LogFault). IfSome old (λ d. IsRead (Err f) d)) (sym same)
      (some_both (λ d. IsNewest newest (reads_of d)) (λ d. IsManifest (Err cause) (file_of newest.half) newest.size (reads_of d (file_of newest.half))) (λ d. IsRead (Err cause) d) old
      (λ d a b. read_cut newest d cause a b) found (of_the_file (Err cause) told))

  pub whole_told : (root : Root) (manifest : List ℕ) → root ≡ root_of newest.half newest.n newest.other → IfSome mid (λ d. IsManifest (Ok manifest) file newest.size (reads_of d file)) → IfSome old (λ d. IsRead (Ok (record { file = root; n = newest.n; manifest = manifest })) d)
  whole_told root manifest same told =
      some_both (λ d. IsNewest newest (reads_of d)) (λ d. IsManifest (Ok manifest) (file_of newest.half) newest.size (reads_of d (file_of newest.half))) (λ d. IsRead (Ok (record { file = root; n = newest.n; manifest = manifest })) d) old
      (λ d a b. read_whole newest d root manifest same a b) found (of_the_file (Ok manifest) told)
