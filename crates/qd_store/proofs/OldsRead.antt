-- What is read of the parts that rows are merged into, one behind another.
use Rattle.std.proofs.Common.{◌≡◌, ℕ, suc, zero, ◌+◌, ◌<◌, ◌≤◌, inl, inr, List, [], ◌∷◌, ◌++◌, length, map, take, Option, Some, None, Result, Ok, Err, IfSome, Vec, get_or, refl, sym, ap₂, ◌∙◌, subst, arith}
use Rattle.std.specs.List.{AllByRecursion, AllZip}
use Rattle.std.specs.declared.alloc.Global.{Global}
use Rattle.std.proofs.lemmas.List.{take_all, take_more}
use Rattle.std.proofs.lemmas.List.Elements.{All-from_recursion}
use Rattle.qd_base.specs.declared.op.Entry.{Entry}
use Rattle.qd_base.specs.Database.{StoredTable}
use Rattle.qd_base.specs.Replay.{first}
use Rattle.qd_block.specs.Blocks.{Block}
use Rattle.qd_catalog.specs.declared.version.Version as catalog
use Rattle.qd_catalog.specs.Versions.{version_at}
use Rattle.qd_column_format.specs.Laws.{OneColumnIsSpelled}
use Rattle.qd_column_files.specs.Laws.{OneBlockIsHeld}
use Rattle.qd_durable.specs.declared.fault.LogFault.{LogFault}
use Rattle.qd_durable.specs.declared.fault.LogFault.TheVariants as fault
use Rattle.qd_manifest.specs.declared.shape.TableParts.{TableParts}
use Rattle.qd_txnfile.specs.Versions.{Version}
use Rattle.qd_volume.specs.Disk.{Disk, Image, reads_of}
use Rattle.qd_apply.specs.declared.olds.Late.{Late}
use Rattle.qd_apply.specs.declared.olds.OldPart.{OldPart}
use Rattle.qd_apply.specs.Olds.{all_late, old_read}
use Rattle.qd_apply.specs.Stands.{StandsFor}
use Rattle.qd_store.specs.Damage.{IsPartRead, IsThere, LosesBlock}
use Rattle.qd_store.specs.Drafting.{old_there, ArePartsRead, AreRead, IsReadOf}
use Rattle.qd_store.specs.Stores.{Book, IsStore}
use Rattle.qd_store.proofs.LateParts.{all_read, all_there, not_lost, old_is}

-- one more of each
zipped_more : {X Y : Type 0} (R : X → Y → Type 0) (xs : List X) (ys : List Y) (x : X) (y : Y) → AllZip R xs ys → R x y → AllZip R (xs ++ x ∷ []) (ys ++ y ∷ [])
zipped_more R [] [] x y all r = (r, tt)
zipped_more R [] (z ∷ zs) x y all r = absurd all
zipped_more R (z ∷ zs) [] x y all r = absurd all
zipped_more R (w ∷ ws) (z ∷ zs) x y all r = (all.0, zipped_more R ws zs x y all.1 r)

-- one answer has one cause
pub same_cause : {T : Type 0} (result : Result T LogFault) (cause other : LogFault) → result ≡ Err cause → result ≡ Err other → cause ≡ other
same_cause result cause other is was = cc

-- the parts of some places are read, of an image
abbrev pub AreOf : ℕ → List TableParts → List Late → List OldPart → Image → Type 0
AreOf split shape lates olds image = AllZip (λ late old. IsPartRead split shape late (Ok old) image) lates olds

-- one of them is lost behind those that are read
module _ (split : ℕ) (shape : List TableParts) (d : Late) where
  first_lost : (file place : ℕ) (image : Image) (lates : List Late) (olds : List OldPart) (k : ℕ) → k < length lates → AreOf split shape (take k lates) olds image
      → IsPartRead split shape (get_or lates k d) (Err (fault.Damaged file place)) image → LosesBlock split lates shape image file place
  first_lost file place image [] os k low all it = absurd (omega (arith, low))
  first_lost file place image (l ∷ ls) os zero low all it = inl it
  first_lost file place image (l ∷ ls) [] (suc k) low all it = absurd all
  first_lost file place image (l ∷ ls) (o ∷ os) (suc k) low all it = inr (o, all.0, first_lost file place image ls os k (omega (arith, low)) all.1 it)

  one_lost : (cause : LogFault) (image : Image) (lates : List Late) (olds : List OldPart) (k : ℕ) → k < length lates → AreOf split shape (take k lates) olds image
      → IsPartRead split shape (get_or lates k d) (Err cause) image → ArePartsRead (Err cause) split lates shape image
  one_lost (fault.Damaged file place) image lates olds k low all it = first_lost file place image lates olds k low all it
  one_lost fault.Vol image lates olds k low all it = tt
  one_lost fault.Memory image lates olds k low all it = tt

-- ---- in a loop over them

module _ (s : Book) (written : List (List ℕ)) (split : ℕ) (shape : List TableParts) (tables : List StoredTable) (lates : List Late) (is : lates ≡ all_late 0 written split shape tables)
    (y : catalog.Version) (found : version_at s.versions.versions s.versions.versions.current ≡ Some y) (same : shape ≡ y.shape) where
  pub next_there : (i : ℕ) (d : Late) → i < length lates → (x : catalog.Version) × (version_at s.versions.versions s.versions.versions.current ≡ Some x) × IsThere x.shape (get_or lates i d)
  next_there i d lt = (
    y,
    found,
    subst (λ (l : List TableParts). IsThere l (get_or lates i d)) same
        (All-from_recursion (IsThere shape) lates (subst (AllByRecursion (IsThere shape)) (sym is) (all_there shape 0 written split shape tables refl)) i d lt),
  )

  module _ (i : ℕ) (d : Late) (lt : i < length lates) where
    pub read_more : (olds : List OldPart) (old : OldPart) → AllZip (IsReadOf split shape) (take i lates) olds
        → ((x : catalog.Version) → version_at s.versions.versions s.versions.versions.current ≡ Some x → IsReadOf split x.shape (get_or lates i d) old) → AllZip (IsReadOf split shape) (take (i + 1) lates) (olds ++ old ∷ [])
    read_more olds old all one =
        subst (λ (l : List Late). AllZip (IsReadOf split shape) l (olds ++ old ∷ [])) (sym (take_more lates i d lt))
        (zipped_more (IsReadOf split shape) (take i lates) olds (get_or lates i d) old all (subst (λ (l : List TableParts). IsReadOf split l (get_or lates i d) old) (sym same) (one y found)))

    abbrev pub Reads : Result OldPart LogFault → Disk → Type 0
    Reads result disk = IsPartRead split y.shape (get_or lates i d) result (reads_of disk)

    here : (result : Result OldPart LogFault) (o now : Option Disk) → now ≡ o → ((x : catalog.Version) → version_at s.versions.versions s.versions.versions.current ≡ Some x → IfSome now (λ disk. IsPartRead split x.shape (get_or lates i d) result (reads_of disk)))
        → IfSome o (Reads result)
    here result o now stays one = subst (λ (m : Option Disk). IfSome m (Reads result)) stays (one y found)

    pub files_more : (olds : List OldPart) (old : OldPart) (o now : Option Disk) → now ≡ o → IfSome o (λ disk. AreOf split shape (take i lates) olds (reads_of disk))
        → ((x : catalog.Version) → version_at s.versions.versions s.versions.versions.current ≡ Some x → IfSome now (λ disk. IsPartRead split x.shape (get_or lates i d) (Ok old) (reads_of disk)))
        → IfSome o (λ disk. AreOf split shape (take (i + 1) lates) (olds ++ old ∷ []) (reads_of disk))
    files_more olds old o now stays all one = by o all (here (Ok old) o now stays one)
      where
        by : (p : Option Disk) → IfSome p (λ disk. AreOf split shape (take i lates) olds (reads_of disk)) → IfSome p (Reads (Ok old)) → IfSome p (λ disk. AreOf split shape (take (i + 1) lates) (olds ++ old ∷ []) (reads_of disk))
        by None all it = tt
        by (Some disk) all it =
            subst (λ (l : List Late). AreOf split shape l (olds ++ old ∷ []) (reads_of disk)) (sym (take_more lates i d lt))
            (zipped_more (λ (late : Late) (old : OldPart). IsPartRead split shape late (Ok old) (reads_of disk)) (take i lates) olds (get_or lates i d) old all
            (subst (λ (l : List TableParts). IsPartRead split l (get_or lates i d) (Ok old) (reads_of disk)) (sym same) it))

    -- one that isn't read, behind those that are
    pub files_failed : (olds : List OldPart) (cause : LogFault) (o now : Option Disk) → now ≡ o → IfSome o (λ disk. AreOf split shape (take i lates) olds (reads_of disk))
        → ((x : catalog.Version) → version_at s.versions.versions s.versions.versions.current ≡ Some x → IfSome now (λ disk. IsPartRead split x.shape (get_or lates i d) (Err cause) (reads_of disk)))
        → IfSome o (λ disk. ArePartsRead (Err cause) split (all_late 0 written split shape tables) shape (reads_of disk))
    files_failed olds cause o now stays all one = by o all (here (Err cause) o now stays one)
      where
        by : (p : Option Disk) → IfSome p (λ disk. AreOf split shape (take i lates) olds (reads_of disk)) → IfSome p (Reads (Err cause)) → IfSome p (λ disk. ArePartsRead (Err cause) split (all_late 0 written split shape tables) shape (reads_of disk))
        by None all it = tt
        by (Some disk) all it =
            subst (λ (l : List Late). ArePartsRead (Err cause) split l shape (reads_of disk)) is
            (one_lost split shape d cause (reads_of disk) lates olds i lt all (subst (λ (l : List TableParts). IsPartRead split l (get_or lates i d) (Err cause) (reads_of disk)) (sym same) it))

  -- all of them are
  pub all_are_read : (i : ℕ) (olds : List OldPart) → length lates ≤ i → AllZip (IsReadOf split shape) (take i lates) olds → AreRead written split shape tables olds
  all_are_read i olds le all = subst (λ (l : List Late). AllZip (IsReadOf split shape) l olds) (take_all i lates le ∙ is) all

  pub all_files : (i : ℕ) (list : Vec OldPart Global) (o : Option Disk) → length lates ≤ i → IfSome o (λ disk. AreOf split shape (take i lates) list.items (reads_of disk))
      → IfSome o (λ disk. ArePartsRead (Ok list) split (all_late 0 written split shape tables) shape (reads_of disk))
  all_files i list None le all = tt
  all_files i list (Some disk) le all = subst (λ (l : List Late). AreOf split shape l list.items (reads_of disk)) (take_all i lates le ∙ is) all

-- want of memory says nothing
pub files_memory : (split : ℕ) (lates : List Late) (shape : List TableParts) (o : Option Disk) → IfSome o (λ disk. ArePartsRead (Err fault.Memory) split lates shape (reads_of disk))
files_memory split lates shape None = tt
files_memory split lates shape (Some disk) = tt

-- ---- over a history

module _ (one : OneBlockIsHeld) (spelled : OneColumnIsSpelled) (s : Book) (h : List Entry) (next : Version) (disk : Disk) (is : IsStore s h next disk) (x : catalog.Version) (at : version_at s.versions.versions s.versions.versions.current ≡ Some x) (split : ℕ) where
  olds_are : (contents : ℕ → Block) → StandsFor contents x.shape (first h x.n) → (lates : List Late) (olds : List OldPart) → AreOf split x.shape lates olds (reads_of disk) → olds ≡ map (old_there contents split x.shape) lates
  olds_are contents stands [] [] all = refl
  olds_are contents stands [] (o ∷ os) all = absurd all
  olds_are contents stands (l ∷ ls) [] all = absurd all
  olds_are contents stands (l ∷ ls) (o ∷ os) all =
      ap₂ (λ (a : OldPart) (l : List OldPart). a ∷ l) (old_is one spelled s h next disk is x at split l o all.0 contents stands) (olds_are contents stands ls os all.1)

  -- they are what the merge reads
  pub reads_are : (written : List (List ℕ)) (tables : List StoredTable) (list : Vec OldPart Global) → ArePartsRead (Ok list) split (all_late 0 written split x.shape tables) x.shape (reads_of disk)
      → (contents : ℕ → Block) → StandsFor contents x.shape (first h x.n) → list.items ≡ old_read contents written split x.shape tables
  reads_are written tables list all contents stands =
      olds_are contents stands (all_late 0 written split x.shape tables) list.items all ∙ all_read x.shape contents split 0 written x.shape tables refl

  -- none is lost
  pub none_lost : (lates : List Late) (file place : ℕ) → LosesBlock split lates x.shape (reads_of disk) file place → ⊥
  none_lost [] file place lost = absurd lost
  none_lost (l ∷ ls) file place (inl it) = not_lost one spelled s h next disk is x at split l file place it
  none_lost (l ∷ ls) file place (inr (o, it, lost)) = none_lost ls file place lost
