-- Columns of chosen rows and of parts, by what they are kept as.
use Rattle.std.proofs.Common.{◌≡◌, ℕ, ◌<◌, List, length, map, get_or, refl, sym, ap, ap₂, ◌∙◌, All, slice_range, subst}
use Rattle.std.proofs.lemmas.List.{length-map}
use Rattle.qd_base.specs.declared.cell.Cell.{Cell}
use Rattle.qd_base.specs.declared.cell.Cell.TheVariants as cell
use Rattle.qd_base.specs.declared.schema.ColType.{ColType}
use Rattle.qd_column.specs.Cells.{CellsOf, cells_at}
use Rattle.qd_column.specs.declared.runs.Run.{Run}
use Rattle.qd_column.specs.Runs.{laid}
use Rattle.qd_column.proofs.ListLemmas.{map-chosen, map-part}
use Rattle.qd_column.proofs.RunLemmas.{map-laid}

abbrev pub made_of : ColType → List Cell → CellsOf
made_of k cells = record { kind = k; cells = cells }

pub chosen_images : {S : Type 0} (k : ColType) (f : S → Cell) (d : S) (xs v : List S) (places : List ℕ) (column : CellsOf) → made_of k (map f xs) ≡ column → All (λ i. i < length column.cells) places → v ≡ map (λ i. get_or xs i d) places → made_of k (map f v) ≡ cells_at column places
chosen_images k f d xs v places column view within is =
    let size : length column.cells ≡ length xs = ap (λ (c : CellsOf). length c.cells) (sym view) ∙ length-map xs f in
    let low : All (λ i. i < length xs) places = λ j b lt. subst (λ (n : ℕ). get_or places j b < n) size (within j b lt) in
    ap (λ l. made_of k (map f l)) is ∙ ap (made_of k) (map-chosen f xs d cell.Null places low) ∙ ap (λ (c : CellsOf). cells_at c places) view

pub chosen_cells : (k : ColType) (xs v : List Cell) (places : List ℕ) (column : CellsOf) → made_of k xs ≡ column → v ≡ map (λ i. get_or xs i cell.Null) places → made_of k v ≡ cells_at column places
chosen_cells k xs v places column view is = ap (made_of k) is ∙ ap (λ (c : CellsOf). cells_at c places) view

abbrev pub part_of_column : CellsOf → ℕ → ℕ → CellsOf
part_of_column column a b = record { kind = column.kind; cells = slice_range column.cells a b }

pub part_images : {S : Type 0} (k : ColType) (f : S → Cell) (xs v : List S) (a b : ℕ) (column : CellsOf) → made_of k (map f xs) ≡ column → v ≡ slice_range xs a b → made_of k (map f v) ≡ part_of_column column a b
part_images k f xs v a b column view is = ap (λ l. made_of k (map f l)) is ∙ ap (made_of k) (map-part f xs a b) ∙ ap (λ (c : CellsOf). part_of_column c a b) view

pub part_cells : (k : ColType) (xs v : List Cell) (a b : ℕ) (column : CellsOf) → made_of k xs ≡ column → v ≡ slice_range xs a b → made_of k v ≡ part_of_column column a b
part_cells k xs v a b column view is = ap (made_of k) is ∙ ap (λ (c : CellsOf). part_of_column c a b) view

pub spliced_images : {S : Type 0} (k : ColType) (f : S → Cell) (xs ys v : List S) (runs : List Run) (first second : CellsOf) → made_of k (map f xs) ≡ first → made_of k (map f ys) ≡ second → v ≡ laid xs ys runs → made_of k (map f v) ≡ made_of first.kind (laid first.cells second.cells runs)
spliced_images k f xs ys v runs first second of_first of_second is = ap (λ l. made_of k (map f l)) is ∙ ap (made_of k) (map-laid f xs ys runs) ∙ ap₂ (λ (a : CellsOf) (b : CellsOf). made_of a.kind (laid a.cells b.cells runs)) of_first of_second
