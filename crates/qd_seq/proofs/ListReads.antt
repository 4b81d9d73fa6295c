-- What is read of a told volume's log, piece after piece.
use Rattle.std.proofs.Common.{◌≡◌, ℕ, List, [], Option, IfSome, sym, subst}
use Rattle.qd_base.specs.declared.part.WalRef.{WalRef}
use Rattle.qd_volume.specs.Disk.{Disk, reads_of}
use Rattle.qd_durable.specs.Places.{StandsAt}
use Rattle.qd_seq.specs.Layout.{HasRecords, mark}
use Rattle.qd_seq.proofs.PieceLemmas.{some_both}
use Rattle.qd_seq.proofs.ReadLemmas.{none_taken}

-- what is said of the bytes behind some records
abbrev pub Behind : List WalRef → (List ℕ → Type 0) → Option Disk → Type 0
Behind refs Q disk = IfSome disk (λ d. HasRecords refs (reads_of d 1) → Q (reads_of d 1))

-- the pieces behind the mark
pub read_behind : (disk next : Option Disk) (refs : List WalRef) (Q : List ℕ → Type 0) → next ≡ disk → refs ≡ [] → IfSome disk (λ d. StandsAt (reads_of d 1) 0 mark) → Behind refs Q next → IfSome disk (λ d. Q (reads_of d 1))
read_behind disk next refs Q same none marked more =
    some_both (λ d. StandsAt (reads_of d 1) 0 mark) (λ d. HasRecords refs (reads_of d 1) → Q (reads_of d 1)) (λ d. Q (reads_of d 1)) disk
    (λ d stands says. says (subst (λ (l : List WalRef). HasRecords l (reads_of d 1)) (sym none) (none_taken (reads_of d 1) stands)))
    marked (subst (λ m. Behind refs Q m) same more)
