-- What is told of a store stays told behind a call.
use Rattle.std.proofs.Common.{◌≡◌, List, [], ◌∷◌, Option, Some, refl, ap₂, subst}
use Rattle.qd_base.specs.declared.op.Entry.{Entry}
use Rattle.qd_base.specs.declared.part.WalRef.{WalRef}
use Rattle.qd_durable.specs.Moments.{Told}
use Rattle.qd_sequencer.specs.Histories.{AreSpelled}
use Rattle.qd_volume.specs.Disk.{Disk, Image}
use Rattle.qd_wal.specs.Laws.{OneEntryIsRead}
use Rattle.qd_wal.specs.Segments.{file_in}

-- what a call makes of a volume that is told
pub told_of : (Change : Disk → Disk → Type 0) (before after : Option Disk) (disk : Disk) → before ≡ Some disk → Told before after Change → (later : Disk) × (after ≡ Some later) × Change disk later
told_of Change before after disk is told = subst (λ (o : Option Disk). Told o after Change) is told

-- references point to one list of transactions
pub histories_one : OneEntryIsRead → (image : Image) (refs : List WalRef) (a b : List Entry) → AreSpelled refs a image → AreSpelled refs b image → a ≡ b
histories_one one image [] [] [] s t = refl
histories_one one image [] (x ∷ xs) b s t = absurd s
histories_one one image [] [] (y ∷ ys) s t = absurd t
histories_one one image (ref ∷ refs) [] b s t = absurd s
histories_one one image (ref ∷ refs) (x ∷ xs) [] s t = absurd t
histories_one one image (ref ∷ refs) (x ∷ xs) (y ∷ ys) s t =
    ap₂ (λ (e : Entry) (es : List Entry). e ∷ es) (one (image (file_in ref)) ref x y s.0 t.0) (histories_one one image refs xs ys s.1 t.1)
