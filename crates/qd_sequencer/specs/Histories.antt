-- Histories that the images of a volume hold: the references that its log gives, and the transactions that are spelled where
-- those point.
use Rattle.std.specs.Prelude.{◌⊎◌, ℕ, ◌^◌, ◌≤◌, Bool, ◌||◌, nat_eq, nat_le, List, [], ◌∷◌, ◌++◌, Option, None, Some}
use Rattle.std.specs.List.{AllZip}
use Rattle.qd_base.specs.declared.op.Entry.{Entry}
use Rattle.qd_base.specs.declared.part.WalRef.{WalRef}
use Rattle.qd_base.specs.declared.schema.Schema.{Schema}
use Rattle.qd_base.specs.declared.limits.TheConstants.{MAX_BATCH_CELLS}
use Rattle.qd_base.specs.Lawful.{AreLawful, Lawful, SetsKeysAlone, cells_of}
use Rattle.qd_volume.specs.Disk.{Disk, Image}
use Rattle.qd_durable.specs.Moments.{EachNow}
use Rattle.qd_seq.specs.Layout.{GivesList}
use Rattle.qd_wal.specs.Reading.{SpellsAt}
use Rattle.qd_wal.specs.Segments.{file_in}

-- each reference points to the transaction at its place
abbrev pub AreSpelled : List WalRef → List Entry → Image → Type 0
AreSpelled refs h image = AllZip (λ (ref : WalRef) (e : Entry). SpellsAt (image (file_in ref)) ref e) refs h

-- a transaction is lawful over schemas
pub record IsLawfulOver (schemas : List Schema) (e : Entry) : Type 0 where
  pub changes : AreLawful schemas e.ops
  pub cells : cells_of e ≤ MAX_BATCH_CELLS
  pub alone : SetsKeysAlone e.ops

-- a crash that leaves this image leaves this history
pub record HoldsHistory (refs : List WalRef) (h : List Entry) (image : Image) : Type 0 where
  pub gives : GivesList refs image
  pub spelled : AreSpelled refs h image
  pub lawful : Lawful h

-- or that with one transaction more, of which a fact holds
abbrev pub MayHold : List WalRef → List Entry → (Entry → Type 0) → Image → Type 0
MayHold refs h more image = HoldsHistory refs h image ⊎ ((ref : WalRef) × (e : Entry) × more e × HoldsHistory (refs ++ ref ∷ []) (h ++ e ∷ []) image)

-- The transaction of a reference that may have been left behind an open gate.
abbrev pub IsPending : Option WalRef → Disk → Entry → Type 0
IsPending None disk e = ⊥
IsPending (Some ref) disk e = EachNow disk (λ image. SpellsAt (image (file_in ref)) ref e)

-- where one may have been left, it has a transaction, which the history may go on with
abbrev pub HasPending : Option WalRef → List Entry → Disk → Type 0
HasPending None h disk = Unit {0}
HasPending (Some ref) h disk = (e : Entry) × IsPending (Some ref) disk e × Lawful (h ++ e ∷ [])

-- the files of the log of references and of write-ahead logs
abbrev pub is_log_file : ℕ → Bool
is_log_file file = nat_eq file 1 || nat_le (2 ^ 63) file
