-- One block is held, and calls elsewhere leave it.
use Rattle.std.proofs.Common.{◌≡◌, ℕ, suc, ◌<◌, List, [], ◌∷◌, length, take, get_or, refl, sym, ◌∙◌, ap, subst, arith}
use Rattle.std.proofs.lemmas.List.{ext_get_or, get_or-map, length-map, length-take, take-map}
use Rattle.qd_base.specs.declared.cell.Cell.{Cell}
use Rattle.qd_base.specs.declared.cell.Cell.TheVariants as cell
use Rattle.qd_base.specs.declared.part.Part.{Part}
use Rattle.qd_base.specs.declared.schema.Col.{Col}
use Rattle.qd_base.specs.declared.schema.ColType.{ColType}
use Rattle.qd_base.specs.declared.schema.ColType.TheVariants as kind
use Rattle.qd_base.specs.declared.schema.Schema.{Schema}
use Rattle.qd_base.specs.Lawful.{HasKinds}
use Rattle.qd_base.specs.Rows.{Row, cell_at}
use Rattle.qd_block.specs.Blocks.{Block, column_in, kinds_in}
use Rattle.qd_column.specs.Cells.{CellsOf}
use Rattle.qd_durable.proofs.Moved.{moments_have, now_has}
use Rattle.qd_durable.specs.Moments.{SameBut}
use Rattle.qd_scan.specs.Sources.{IsBlockOf}
use Rattle.qd_column_format.specs.Spelling.{SpellsColumn}
use Rattle.qd_column_format.specs.Added.{first_rows}
use Rattle.qd_column_format.specs.Laws.{FirstRowsAreSpelled, OneColumnIsSpelled}
use Rattle.qd_volume.specs.Disk.{Image}
use Rattle.qd_column_files.proofs.FileLemmas.{own_files}
use Rattle.qd_column_files.specs.Files.{HoldsBlock, column_file, front_of}
use Rattle.qd_column_files.specs.Laws.{FirstRowsAreHeld, OneBlockIsHeld, OtherFilesLeaveBlocks}

pub row_length : (cols : List Col) (row : Row) → HasKinds cols row → length row ≡ length cols
row_length [] [] h = refl
row_length [] (x ∷ xs) h = absurd h
row_length (c ∷ cs) [] h = absurd h
row_length (c ∷ cs) (x ∷ xs) h = ap suc (row_length cs xs h.1)

-- the columns that a part shows are there
pub shown_there : (s : Schema) (p : Part) (b : Block) → IsBlockOf s p b → length (take p.cols s.cols) ≡ p.cols
shown_there s p b is =
    let kinds : length (take p.cols (kinds_in s.cols)) ≡ p.cols = ap length (sym is.kinds) ∙ is.columns in
    omega (arith, kinds, length-take p.cols (kinds_in s.cols), length-take p.cols s.cols, length-map s.cols (λ (c : Col). c.kind))

pub row_has : (s : Schema) (p : Part) (b : Block) (i : ℕ) (d : Row) → IsBlockOf s p b → i < p.rows → length (get_or b.rows i d) ≡ p.cols
row_has s p b i d is low = row_length (take p.cols s.cols) (get_or b.rows i d) (is.fit i d (omega (arith, is.rows, low))) ∙ shown_there s p b is

module _ (one_column : OneColumnIsSpelled) (s : Schema) (p : Part) (block : ℕ) (a b : Block) (image : Image) (of_a : IsBlockOf s p a) (of_b : IsBlockOf s p b) (in_a : HoldsBlock block a image) (in_b : HoldsBlock block b image) where
  same_kinds : a.kinds ≡ b.kinds
  same_kinds = of_a.kinds ∙ sym of_b.kinds

  same_column : (col : ℕ) → col < p.cols → column_in a col ≡ column_in b col
  same_column col low =
      one_column (image (column_file block col 0)) (image (column_file block col 1)) (column_in a col) (column_in b col)
      (ap (λ (ks : List ColType). get_or ks col kind.Time) same_kinds)
      (length-map a.rows (λ (r : Row). cell_at r col) ∙ of_a.rows ∙ sym of_b.rows ∙ sym (length-map b.rows (λ (r : Row). cell_at r col)))
      (in_a.each col (omega (arith, of_a.columns, low)))
      (in_b.each col (omega (arith, of_b.columns, low)))

  same_cell : (i col : ℕ) → i < p.rows → col < p.cols → get_or (get_or a.rows i []) col cell.Null ≡ get_or (get_or b.rows i []) col cell.Null
  same_cell i col lt low =
      let f : Row → Cell = λ r. cell_at r col in
      sym (get_or-map f a.rows i [] cell.Null (omega (arith, of_a.rows, lt)))
      ∙ ap (λ (c : CellsOf). get_or c.cells i cell.Null) (same_column col low)
      ∙ get_or-map f b.rows i [] cell.Null (omega (arith, of_b.rows, lt))

  same_row : (i : ℕ) → i < p.rows → get_or a.rows i [] ≡ get_or b.rows i []
  same_row i lt =
      let long = row_has s p a i [] of_a lt in
      let also = row_has s p b i [] of_b lt in
      ext_get_or cell.Null (get_or a.rows i []) (get_or b.rows i []) (long ∙ sym also) (λ col low. same_cell i col lt (omega (arith, long, low)))

  same_block : a ≡ b
  same_block =
      let rows : a.rows ≡ b.rows = ext_get_or [] a.rows b.rows (of_a.rows ∙ sym of_b.rows) (λ i low. same_row i (omega (arith, of_a.rows, low))) in
      ap (λ (ks : List ColType). record { kinds = ks; time_col = a.time_col; rows = a.rows }) same_kinds
      ∙ ap (λ n. record { kinds = b.kinds; time_col = n; rows = a.rows }) (of_a.time_col ∙ sym of_b.time_col)
      ∙ ap (λ (rs : List Row). record { kinds = b.kinds; time_col = b.time_col; rows = rs }) rows

pub one_block : OneColumnIsSpelled → OneBlockIsHeld
one_block one_column s p block a b image of_a of_b in_a in_b = same_block one_column s p block a b image of_a of_b in_a in_b

pub blocks_stay : OtherFilesLeaveBlocks
blocks_stay touched block b before after moves apart few had =
    let P : Image → Type 0 = HoldsBlock block b in
    let keeps : (earlier image : Image) → P earlier → SameBut touched earlier image → P image = λ earlier image holds same. record {
      each = λ col low.
          subst (λ (l : List ℕ). SpellsColumn l (image (column_file block col 1)) (column_in b col)) (sym (same (column_file block col 0) (apart (column_file block col 0) (own_files.among block col 0 (omega arith) (omega arith)))))
          (subst (λ (l : List ℕ). SpellsColumn (earlier (column_file block col 0)) l (column_in b col)) (sym (same (column_file block col 1) (apart (column_file block col 1) (own_files.among block col 1 (omega arith) (omega arith))))) (holds.each col low));
    } in
    (moments_have (SameBut touched) P P before after moves had keeps, now_has (SameBut touched) P P before after moves had keeps)

-- the first rows of a block
pub first_rows_held : FirstRowsAreSpelled → FirstRowsAreHeld
first_rows_held spelled block n b image held = record {
  each = λ col lt.
      let main = image (column_file block col 0) in
      let aux = image (column_file block col 1) in
      let front : first_rows n (column_in b col) ≡ column_in (front_of n b) col = ap (λ (cs : List Cell). record { kind = get_or b.kinds col kind.Time; cells = cs }) (take-map (λ (r : Row). cell_at r col) n b.rows) in
      subst (SpellsColumn main aux) front (spelled main aux n (column_in b col) (held.each col lt));
}
