-- What is read of blocks that grow, one after the other.
use Rattle.std.proofs.Common.{◌≡◌, ◌⊎◌, inl, inr, ℕ, zero, suc, ◌+◌, ◌<◌, List, [], ◌∷◌, ◌++◌, length, get_or, Option, Some, None, IfSome, Err, Ok, refl, sym, ap, ◌∙◌, subst, arith}
use Rattle.std.proofs.lemmas.List.{get_or_push}
use Rattle.qd_base.specs.declared.part.Part.{Part}
use Rattle.qd_durable.specs.declared.fault.LogFault.{LogFault}
use Rattle.qd_durable.specs.declared.fault.LogFault.TheVariants as fault
use Rattle.qd_durable.specs.Faults.{CountsVol}
use Rattle.qd_volume.specs.Disk.{Disk, Image, reads_of}
use Rattle.qd_manifest.specs.declared.shape.TableParts.{TableParts}
use Rattle.qd_versions.specs.declared.growing.Growing.{Growing}
use Rattle.qd_versions.specs.declared.published.GrownBlock.{GrownBlock}
use Rattle.qd_versions.specs.Faults.{CountsPublish, read_fault}
use Rattle.qd_versions.specs.Publishing.{IsLostWhere}
use Rattle.qd_versions.specs.Stores.{Store}
use Rattle.qd_versions.specs.Reading.{IsPartAt}
use Rattle.qd_versions.specs.Tails.{AreTails, AreTailsRead, IsGrowthRead, IsTailFound, IsTailOf}
use Rattle.qd_versions.proofs.Stores.{IsLent}

first_stays : (xs : List Growing) (x : Growing) (k : ℕ) (e : Growing) → k < length xs → get_or (xs ++ x ∷ []) k e ≡ get_or xs k e
first_stays [] x k e less = absurd (omega arith)
first_stays (y ∷ ys) x zero e less = refl
first_stays (y ∷ ys) x (suc k) e less = first_stays ys x k e (omega (arith, less))

-- a fact of the items at each place, and of one more
pub pairs_more : (R : GrownBlock → Growing → Type 0) (grown : List GrownBlock) (xs : List Growing) (g : GrownBlock) (x : Growing) (i : ℕ) → length xs ≡ i → ((d : GrownBlock) → get_or grown i d ≡ g) → R g x
    → ((k : ℕ) (d : GrownBlock) (e : Growing) → k < i → R (get_or grown k d) (get_or xs k e)) → (k : ℕ) (d : GrownBlock) (e : Growing) → k < i + 1 → R (get_or grown k d) (get_or (xs ++ x ∷ []) k e)
pairs_more R grown xs g x i count is new had k d e less = by (cases k less)
  where
    cases : (k : ℕ) → k < i + 1 → (k < i) ⊎ (k ≡ i)
    cases k less = grind arith

    by : (k < i) ⊎ (k ≡ i) → R (get_or grown k d) (get_or (xs ++ x ∷ []) k e)
    by (inl lower) = subst (λ (y : Growing). R (get_or grown k d) y) (sym (first_stays xs x k e (omega (arith, lower, count)))) (had k d e lower)
    by (inr same) =
        subst (λ n. R (get_or grown n d) (get_or (xs ++ x ∷ []) n e)) (sym same)
        (subst (λ (h : GrownBlock). R h (get_or (xs ++ x ∷ []) i e)) (sym (is d)) (subst (λ (y : Growing). R g y) (sym (get_or_push xs x e i count)) new))

-- what is found for the part that is lent, is found for the part of each place that is its
pub growth_found : (s : Store) (g : GrownBlock) (lent : TableParts) (given : Part) (x : Growing) (old : Option Disk) → ((t : TableParts) (p : Part) → IsPartAt s.versions s.versions.current g.table g.part t p → IsLent t lent p given) → x.tail.rows ≡ given.rows
    → IfSome old (λ disk. IsTailFound (Ok x.tail) s.kept lent.schema given (reads_of disk)) → IfSome old (λ disk. IsGrowthRead (Ok x) s g (reads_of disk))
growth_found s g lent given x None is rows found = tt
growth_found s g lent given x (Some disk) is rows found = λ t p at.
    let l = is t p at in (
      rows ∙ ap (λ (q : Part). q.rows) (sym l.part_is),
      subst (λ (u : TableParts). IsTailFound (Ok x.tail) s.kept u.schema p (reads_of disk)) (sym l.table_is) (subst (λ (q : Part). IsTailFound (Ok x.tail) s.kept lent.schema q (reads_of disk)) (sym l.part_is) found),
    )

-- nothing is read yet
pub tails_none : (s : Store) (grown : List GrownBlock) (xs : List Growing) (old : Option Disk) → IfSome old (λ disk. AreTails 0 s grown xs (reads_of disk))
tails_none s grown xs None = tt
tails_none s grown xs (Some disk) = λ k d e less. absurd (omega arith)

module _ (s : Store) (grown : List GrownBlock) (xs : List Growing) (g : GrownBlock) (i : ℕ) (is : (d : GrownBlock) → get_or grown i d ≡ g) where
  -- what is read beside what was read
  pub tails_more : (x : Growing) (old now : Option Disk) → length xs ≡ i → now ≡ old → IfSome old (λ disk. AreTails i s grown xs (reads_of disk)) → IfSome now (λ disk. IsGrowthRead (Ok x) s g (reads_of disk)) → IfSome old (λ disk. AreTails (i + 1) s grown (xs ++ x ∷ []) (reads_of disk))
  tails_more x None now count same had new = tt
  tails_more x (Some disk) now count same had new =
      pairs_more (λ h y. IsTailOf s h y (reads_of disk)) grown xs g x i count is
      (subst (λ (o : Option Disk). IfSome o (λ disk. IsTailOf s g x (reads_of disk))) same new) had

  -- damage of one
  lost_at : (fault : LogFault) (disk : Disk) → i < length grown → IsGrowthRead (Err fault) s g (reads_of disk) → AreTailsRead (Err fault) s grown (reads_of disk)
  lost_at (fault.Damaged file at) disk here read = record {
    g = g;
    among = (i, here, is g);
    t = read.0;
    p = read.1;
    there = read.2;
    lost = read.3.0;
    none = read.3.1;
  }
  lost_at fault.Vol disk here read = tt
  lost_at fault.Memory disk here read = tt

  pub tails_lost : (fault : LogFault) (old now : Option Disk) → i < length grown → now ≡ old → IfSome now (λ disk. IsGrowthRead (Err fault) s g (reads_of disk)) → IfSome old (λ disk. AreTailsRead (Err fault) s grown (reads_of disk))
  tails_lost fault None now here same read = tt
  tails_lost fault (Some disk) now here same read = lost_at fault disk here (subst (λ (o : Option Disk). IfSome o (λ disk. IsGrowthRead (Err fault) s g (reads_of disk))) same read)

-- ---- what a publication answers for it

lost_as : (fault : LogFault) (s : Store) (grown : List GrownBlock) (image : Image) → AreTailsRead (Err fault) s grown image → IsLostWhere (read_fault fault) s.versions grown image
lost_as (fault.Damaged file at) s grown image read = read
lost_as fault.Vol s grown image read = tt
lost_as fault.Memory s grown image read = tt

pub lost_told : (fault : LogFault) (s : Store) (grown : List GrownBlock) (old : Option Disk) → IfSome old (λ disk. AreTailsRead (Err fault) s grown (reads_of disk)) → IfSome old (λ disk. IsLostWhere (read_fault fault) s.versions grown (reads_of disk))
lost_told fault s grown None read = tt
lost_told fault s grown (Some disk) read = lost_as fault s grown (reads_of disk) read

pub counts_read : (T U : Type 0) (before now : ℕ) (fault : LogFault) → CountsVol {T = T} before now (Err fault) → CountsPublish {T = U} before now (Err (read_fault fault))
counts_read T U before now (fault.Damaged file at) counts = counts
counts_read T U before now fault.Vol counts = counts
counts_read T U before now fault.Memory counts = counts
