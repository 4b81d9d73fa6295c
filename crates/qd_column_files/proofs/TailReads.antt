-- What is read of what rows behind those of a part go on with.
use Rattle.std.proofs.Common.{◌≡◌, ◌⊎◌, inl, inr, ℕ, ◌<◌, ◌≤◌, List, [], ◌∷◌, ◌++◌, length, get_or, Option, None, Some, IfSome, Result, Ok, Err, sym, ◌∙◌, ap, ap₂, subst, arith}
use Rattle.std.proofs.lemmas.Bool.{cases_lt}
use Rattle.std.proofs.lemmas.List.{get_or-take, get_or_append_left, get_or_at, length-map, length_push}
use Rattle.std.proofs.lemmas.List.FromFn.{fill_by_all}
use Rattle.qd_base.specs.declared.part.Part.{Part}
use Rattle.qd_base.specs.declared.schema.ColType.{ColType}
use Rattle.qd_base.specs.declared.schema.ColType.TheVariants as kind
use Rattle.qd_base.specs.declared.schema.Schema.{Schema}
use Rattle.qd_base.specs.Rows.{Row, cell_at}
use Rattle.qd_block.specs.Blocks.{column_in, kinds_in}
use Rattle.qd_column.specs.Cells.{CellsOf}
use Rattle.qd_column_format.specs.Laws.{OneColumnIsSpelled}
use Rattle.qd_column_format.specs.Spelling.{SpellsColumn}
use Rattle.qd_column_format.specs.Tails.{Behind, behind}
use Rattle.qd_durable.specs.declared.fault.LogFault.{LogFault}
use Rattle.qd_durable.specs.declared.fault.LogFault.TheVariants as fault
use Rattle.qd_manifest.specs.Spelling.{IsPart}
use Rattle.qd_volume.specs.Disk.{Disk, Image, reads_of}
use Rattle.qd_column_files.specs.Calls.{HoldsColumn}
use Rattle.qd_column_files.specs.Columns.{kind_of}
use Rattle.qd_column_files.specs.Files.{column_file}
use Rattle.qd_column_files.specs.Growing.{IsColumnTail, IsStoredTail, IsTailRead}
use Rattle.qd_column_files.specs.Reading.{IsFitColumn}
use Rattle.qd_column_files.proofs.ColumnLemmas.{block_column}
use Rattle.qd_column_files.proofs.GrowLemmas.{nothing, tail_at}
use Rattle.qd_column_files.proofs.BlockLemmas.{read_of}

-- ---- a column

-- the same of a column's tail
abbrev pub tail_of_column : Schema → Part → ℕ → Image → Result Behind LogFault → Type 0
tail_of_column s p col image result = IsColumnTail result s p col (image (column_file p.block col 0)) (image (column_file p.block col 1))

module _ (s : Schema) (p : Part) (col : ℕ) where
  pub stored_told : (old : Option Disk) (k : ColType) (file other : ℕ) (t : Behind) → k ≡ kind_of s col → file ≡ column_file p.block col 0 → other ≡ column_file p.block col 1
      → IfSome old (λ disk. IsStoredTail (Ok (Some t)) k p.rows (reads_of disk file) (reads_of disk other)) → IfSome old (λ disk. tail_of_column s p col (reads_of disk) (Ok t))
  stored_told None k file other t is is_main is_aux told = tt
  stored_told (Some disk) k file other t is is_main is_aux told = λ column same rows spelled.
      one t (behind column)
      (told column (same ∙ sym is) rows
      (subst (λ (f : ℕ). SpellsColumn (reads_of disk f) (reads_of disk other) column) (sym is_main)
      (subst (λ (f : ℕ). SpellsColumn (reads_of disk (column_file p.block col 0)) (reads_of disk f) column) (sym is_aux) spelled)))
    where
      one : (x y : Behind) → Some x ≡ Some y → x ≡ y
      one x y e = cc

  pub texts_told : OneColumnIsSpelled → (old : Option Disk) (column : CellsOf) (t : Behind) → IsFitColumn s p col column → t ≡ behind column → IfSome old (λ disk. read_of s p col (reads_of disk) (Ok column)) → IfSome old (λ disk. tail_of_column s p col (reads_of disk) (Ok t))
  texts_told one None column t fit made read = tt
  texts_told one (Some disk) column t fit made read = λ other same rows spelled. made ∙ ap behind (one (reads_of disk (column_file p.block col 0)) (reads_of disk (column_file p.block col 1)) column other (fit.is.kind ∙ sym same) (fit.is.rows ∙ sym rows) read spelled)

-- ---- a block

-- the tails of the first columns of a part, whatever columns an image holds
abbrev pub AreTails : Schema → Part → List Behind → Image → Type 0
AreTails s p tails image = (k : ℕ) (d : Behind) → k < length tails → (column : CellsOf) → column.kind ≡ kind_of s k → length column.cells ≡ p.rows → HoldsColumn p.block k column image → get_or tails k d ≡ behind column

each_tail : (P : ℕ → Behind → Type 0) (tails : List Behind) (t : Behind) → ((k : ℕ) (d : Behind) → k < length tails → P k (get_or tails k d)) → P (length tails) t → (k : ℕ) (d : Behind) → k < length (tails ++ t ∷ []) → P k (get_or (tails ++ t ∷ []) k d)
each_tail P tails t had here k d lt = by (cases_lt k (length tails))
  where
    by : (k < length tails) ⊎ (length tails ≤ k) → P k (get_or (tails ++ t ∷ []) k d)
    by (inl less) = subst (P k) (sym (get_or_append_left tails (t ∷ []) d k less)) (had k d less)
    by (inr most) =
        let at : length tails ≡ k = omega (arith, most, lt, length_push tails t) in
        subst (P k) (sym (get_or_at tails t [] d k at)) (subst (λ (n : ℕ). P n t) at here)

pub none_read : (s : Schema) (p : Part) (old : Option Disk) → IfSome old (λ disk. AreTails s p [] (reads_of disk))
none_read s p None = tt
none_read s p (Some disk) = λ k d lt. absurd (omega (arith, lt))

pub more_read : (s : Schema) (p : Part) (col : ℕ) (old mid : Option Disk) (tails : List Behind) (t : Behind) → mid ≡ old → length tails ≡ col → IfSome old (λ disk. AreTails s p tails (reads_of disk)) → IfSome mid (λ disk. tail_of_column s p col (reads_of disk) (Ok t)) → IfSome old (λ disk. AreTails s p (tails ++ t ∷ []) (reads_of disk))
more_read s p col None mid tails t same at had read = tt
more_read s p col (Some disk) mid tails t same at had read =
    each_tail (λ (k : ℕ) (x : Behind). (column : CellsOf) → column.kind ≡ kind_of s k → length column.cells ≡ p.rows → HoldsColumn p.block k column (reads_of disk) → x ≡ behind column) tails t had
    (subst (λ (k : ℕ). (column : CellsOf) → column.kind ≡ kind_of s k → length column.cells ≡ p.rows → HoldsColumn p.block k column (reads_of disk) → t ≡ behind column) (sym at)
    (subst (λ (m : Option Disk). IfSome m (λ d. tail_of_column s p col (reads_of d) (Ok t))) same read))

pub all_read : (s : Schema) (p : Part) (old : Option Disk) (tails : List Behind) → length tails ≡ p.cols → IfSome old (λ disk. AreTails s p tails (reads_of disk)) → IfSome old (λ disk. IsTailRead (Ok (tail_at p.rows tails)) s p (reads_of disk))
all_read s p None tails all had = tt
all_read s p (Some disk) tails all had = λ b holds of_b.
    ap₂ tail_at (sym of_b.rows)
    (fill_by_all (λ (col : ℕ). behind (column_in b col)) tails (length b.kinds) nothing (all ∙ sym of_b.columns)
    (λ k lt.
    let low : k < p.cols = omega (arith, of_b.columns, lt) in
    had k nothing (omega (arith, all, low)) (column_in b k)
    (ap (λ (ks : List ColType). get_or ks k kind.Time) of_b.kinds ∙ get_or-take p.cols (kinds_in s.cols) k kind.Time low)
    (length-map b.rows (λ (r : Row). cell_at r k) ∙ of_b.rows)
    (holds.each k lt)))

module _ (s : Schema) (p : Part) (part : IsPart s p) (col : ℕ) (shown : col < p.cols) where
  failed_of : (image : Image) (e : LogFault) → tail_of_column s p col image (Err e) → IsTailRead (Err e) s p image
  failed_of image (fault.Damaged file at) is = (
    record { col = col; shown = shown; lost = is },
    λ b holds of_b whole. is.none (column_in b col) (block_column s p b col of_b shown whole part) (holds.each col (omega (arith, of_b.columns, shown))),
  )
  failed_of image fault.Vol is = tt
  failed_of image fault.Memory is = tt

  pub failed_read : (old mid : Option Disk) (e : LogFault) → mid ≡ old → IfSome mid (λ disk. tail_of_column s p col (reads_of disk) (Err e)) → IfSome old (λ disk. IsTailRead (Err e) s p (reads_of disk))
  failed_read None mid e same read = tt
  failed_read (Some disk) mid e same read = failed_of (reads_of disk) e (subst (λ (m : Option Disk). IfSome m (λ d. tail_of_column s p col (reads_of d) (Err e))) same read)
