-- What is read of a told volume's log, piece by piece.
use Rattle.std.proofs.Common.{◌≡◌, ℕ, ◌+◌, ◌<◌, ◌≤◌, List, length, take, Option, None, Some, IfSome, Result, Ok, refl, sym, ◌∙◌, ap, subst}
use Rattle.qd_io.specs.declared.fault.IoFault.{IoFault}
use Rattle.qd_base.specs.declared.part.WalRef.{WalRef}
use Rattle.qd_volume.specs.Calls.{ReadsAt}
use Rattle.qd_volume.specs.Disk.{Disk, reads_of}
use Rattle.qd_durable.specs.Places.{StandsAt}
use Rattle.qd_durable.specs.declared.fault.LogFault.{LogFault}
use Rattle.qd_durable.specs.declared.fault.LogFault.TheVariants as fault
use Rattle.qd_seq.specs.declared.reading.End.{End}
use Rattle.qd_seq.specs.declared.reading.End.TheVariants as end
use Rattle.qd_seq.specs.Layout.{HasRecords, SpellsLog, place_of}
use Rattle.qd_seq.specs.Reading.{AreTaken, IsBroken, IsMarked}
use Rattle.qd_seq.proofs.PieceLemmas.{first_read, read_all, read_size, read_stands}
use Rattle.qd_seq.proofs.ReadLemmas.{piece_closed, piece_cut, records_within}

-- the first bytes of a log
pub mark_told : {T : Type 0} (disk : Option Disk) (before after : List ℕ) (n : ℕ) (result : Result T LogFault) → length before ≡ 8 → ReadsAt {E = IoFault} disk 1 0 before after (Ok n) → ((whole : List ℕ) → take n after ≡ take 8 whole → IsMarked result whole) → IfSome disk (λ d. IsMarked result (reads_of d 1))
mark_told None before after n result room reads says = tt
mark_told (Some d) before after n result room reads says = says (reads_of d 1) (first_read (reads_of d 1) before after n reads room)

-- the records of a piece, in the log
abbrev pub Taking : End → List WalRef → List WalRef → List ℕ → Type 0
Taking last refs more piece = (bytes : List ℕ) → HasRecords refs bytes → StandsAt bytes (place_of (length refs)) piece → AreTaken last more (place_of (length refs) + length piece) bytes

-- a piece that was read behind some records
module _ (disk : Option Disk) (refs more : List WalRef) (at n : ℕ) (before after : List ℕ) (is : at ≡ place_of (length refs)) (reads : ReadsAt {E = IoFault} disk 1 at before after (Ok n)) where
  told : (last : End) (Q : List ℕ → Type 0) → Taking last refs more (take n after) → ((bytes : List ℕ) → AreTaken last more (at + n) bytes → (n < length before → length bytes ≡ at + n) → Q bytes) → IfSome disk (λ d. HasRecords refs (reads_of d 1) → Q (reads_of d 1))
  told last Q taken says = by disk reads
    where
      by : (disk : Option Disk) → ReadsAt {E = IoFault} disk 1 at before after (Ok n) → IfSome disk (λ d. HasRecords refs (reads_of d 1) → Q (reads_of d 1))
      by None none = tt
      by (Some d) gives = λ has.
          let bytes = reads_of d 1 in
          let stands : StandsAt bytes (place_of (length refs)) (take n after) = subst (λ k. StandsAt bytes k (take n after)) is (read_stands bytes at before after n gives) in
          let end_is : place_of (length refs) + length (take n after) ≡ at + n = ap (λ k. k + length (take n after)) (sym is) ∙ ap (λ k. at + k) (read_size bytes at before after n gives) in
          says bytes (subst (λ k. AreTaken last more k bytes) end_is (taken bytes has stands))
          (λ short. read_all bytes at before after n gives short (subst (λ k. k ≤ length bytes) (sym is) (records_within refs bytes has)))

  pub closed_told : Taking end.Closed refs more (take n after) → IfSome disk (λ d. HasRecords refs (reads_of d 1) → SpellsLog more (reads_of d 1))
  closed_told taken = told end.Closed (λ bytes. SpellsLog more bytes) taken (λ bytes are all. piece_closed more (at + n) bytes are)

  pub cut_told : (cause : LogFault) → cause ≡ fault.Damaged 1 (at + n) → n < length before → Taking end.Cut refs more (take n after) → IfSome disk (λ d. HasRecords refs (reads_of d 1) → IsBroken (reads_of d 1) cause)
  cut_told cause same short taken = told end.Cut (λ bytes. IsBroken bytes cause) taken
      (λ bytes are all. subst (λ (f : LogFault). IsBroken bytes f) (sym same) (refl, piece_cut more (at + n) bytes (all short) are))

  pub full_told : Taking end.Cut refs more (take n after) → IfSome disk (λ d. HasRecords refs (reads_of d 1) → HasRecords more (reads_of d 1))
  full_told taken = told end.Cut (λ bytes. HasRecords more bytes) taken (λ bytes are all. are.records)

  pub broken_told : (byte : ℕ) (cause : LogFault) → cause ≡ fault.Damaged 1 (place_of (length more) + byte) → Taking (end.Broken byte) refs more (take n after) → IfSome disk (λ d. HasRecords refs (reads_of d 1) → IsBroken (reads_of d 1) cause)
  broken_told byte cause same taken = told (end.Broken byte) (λ bytes. IsBroken bytes cause) taken
      (λ bytes are all. subst (λ (f : LogFault). IsBroken bytes f) (sym same) (refl, are.ends))
