-- What is read of the files of a block.
use Rattle.std.proofs.Common.{◌≡◌, ℕ, ◌<◌, List, [], ◌∷◌, ◌++◌, length, get_or, Option, None, Some, IfSome, Result, Ok, Err, subst, arith}
use Rattle.qd_base.specs.declared.part.Part.{Part}
use Rattle.qd_base.specs.declared.schema.ColType.TheVariants as kind
use Rattle.qd_base.specs.declared.schema.Schema.{Schema}
use Rattle.qd_base.specs.Lawful.{IsSchema}
use Rattle.qd_block.specs.Blocks.{block_of, column_in}
use Rattle.qd_column.specs.Cells.{CellsOf, no_cells}
use Rattle.qd_durable.specs.declared.fault.LogFault.{LogFault}
use Rattle.qd_durable.specs.declared.fault.LogFault.TheVariants as fault
use Rattle.qd_manifest.specs.Spelling.{IsPart}
use Rattle.qd_volume.specs.Disk.{Disk, Image, reads_of}
use Rattle.qd_column_files.specs.Files.{column_file}
use Rattle.qd_column_files.specs.Reading.{AreColumnsOf, HoldsColumns, IsBlockRead, IsColumnLost, IsColumnRead}
use Rattle.qd_column_files.proofs.ColumnLemmas.{block_column}
use Rattle.qd_column_files.proofs.MadeLemmas.{made_held, made_is, more_held}

-- the files of a column of an image
abbrev pub read_of : Schema → Part → ℕ → Image → Result CellsOf LogFault → Type 0
read_of s p col image result = IsColumnRead result s p col (image (column_file p.block col 0)) (image (column_file p.block col 1))

module _ (s : Schema) (p : Part) (part : IsPart s p) (col : ℕ) (shown : col < p.cols) (columns : List CellsOf) (are : AreColumnsOf s p columns) (at : length columns ≡ col) where
  -- a column is lost
  lost : (image : Image) (file place : ℕ) → HoldsColumns p.block columns image → IsColumnLost s p col file place (image (column_file p.block col 0)) (image (column_file p.block col 1)) → IsBlockRead (Err (fault.Damaged file place)) s p image
  lost image file place holds is = (
    record {
      col = col;
      shown = shown;
      before = λ k lt.
          let none = no_cells kind.Time in
          let within : k < length columns = omega (arith, at, lt) in
          (get_or columns k none, ((are.each k none within).is, holds k none within));
      half = is.half;
      in_file = is.in_file;
      damaged = is.damaged;
    },
    λ b holds_b of_b whole. is.none (column_in b col) (block_column s p b col of_b shown whole part) (holds_b.each col (omega (arith, of_b.columns, shown))),
  )

  failed : (image : Image) (e : LogFault) → HoldsColumns p.block columns image → read_of s p col image (Err e) → IsBlockRead (Err e) s p image
  failed image (fault.Damaged file place) holds is = lost image file place holds is
  failed image fault.Vol holds is = tt
  failed image fault.Memory holds is = tt

  pub told_failed : (old mid : Option Disk) (e : LogFault) → mid ≡ old → IfSome old (λ disk. HoldsColumns p.block columns (reads_of disk)) → IfSome mid (λ disk. read_of s p col (reads_of disk) (Err e)) → IfSome old (λ disk. IsBlockRead (Err e) s p (reads_of disk))
  told_failed None mid e same holds read = tt
  told_failed (Some disk) mid e same holds read = failed (reads_of disk) e holds (subst (λ m. IfSome m (λ d. read_of s p col (reads_of d) (Err e))) same read)

  -- or read
  pub told_more : (old mid : Option Disk) (column : CellsOf) → mid ≡ old → IfSome old (λ disk. HoldsColumns p.block columns (reads_of disk)) → IfSome mid (λ disk. read_of s p col (reads_of disk) (Ok column)) → IfSome old (λ disk. HoldsColumns p.block (columns ++ column ∷ []) (reads_of disk))
  told_more None mid column same holds read = tt
  told_more (Some disk) mid column same holds read = more_held p.block columns column col (reads_of disk) holds at (subst (λ m. IfSome m (λ d. read_of s p col (reads_of d) (Ok column))) same read)

-- nothing is read yet
pub told_none : (block : ℕ) (old : Option Disk) → IfSome old (λ disk. HoldsColumns block [] (reads_of disk))
told_none block None = tt
told_none block (Some disk) = λ k d lt. absurd (omega (arith, lt))

-- all is read
pub told_made : (s : Schema) (p : Part) (columns : List CellsOf) → IsSchema s → IsPart s p → length columns ≡ p.cols → AreColumnsOf s p columns → (old : Option Disk) → IfSome old (λ disk. HoldsColumns p.block columns (reads_of disk)) → IfSome old (λ disk. IsBlockRead (Ok (block_of p.rows s.time_col columns)) s p (reads_of disk))
told_made s p columns schema part all are None holds = tt
told_made s p columns schema part all are (Some disk) holds = (made_held s p columns schema part all are (reads_of disk) holds, made_is s p columns schema part all are)

-- a fault of memory says nothing
pub told_memory : (s : Schema) (p : Part) (old : Option Disk) → IfSome old (λ disk. IsBlockRead (Err fault.Memory) s p (reads_of disk))
told_memory s p None = tt
told_memory s p (Some disk) = tt
