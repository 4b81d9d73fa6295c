-- The cells of the keys from bucket to bucket.
use Rattle.std.proofs.Common.{◌≡◌, ℕ, List, [], ◌∷◌, length, map, fold, get_or, replicate, sym, ap, ◌∙◌, arith, All}
use Rattle.std.specs.List.{zip}
use Rattle.std.proofs.lemmas.List.{get_or-map, length-map, length-replicate}
use Rattle.std.proofs.lemmas.List.Elements.{All-map, All-replicate, All-set}
use Rattle.std.proofs.lemmas.Slice.Zip.{length-zip}
use Rattle.qd_base.specs.declared.cell.Cell.{Cell}
use Rattle.qd_base.specs.declared.cell.Cell.TheVariants as cell
use Rattle.qd_base.specs.Rows.{Row}
use Rattle.qd_meaning.specs.declared.parts.Fill.{Fill}
use Rattle.qd_meaning.specs.Sampled.{fill_cell}
use Rattle.qd_value.specs.declared.scalars.Scalar.{Scalar}
use Rattle.qd_value.specs.Scalars.{cell_of}
use Rattle.qd_sample.specs.Cells.{answers_at, filled_by, next_cells, placed}

-- rows of so many cells
abbrev pub AreWide : ℕ → List Row → Type 0
AreWide m rows = All (λ (r : Row). length r ≡ m) rows

pub null_rows : (n m : ℕ) → AreWide m (replicate n (replicate m cell.Null))
null_rows n m = All-replicate (λ (r : Row). length r ≡ m) n (replicate m cell.Null) (length-replicate m cell.Null)

placed_wide : (columns : List (List Cell)) (keys : List ℕ) (m : ℕ) → length columns ≡ m → (groups : List ℕ) (cells : List Row) → AreWide m cells → AreWide m (fold (placed columns keys) cells groups)
placed_wide columns keys m wide [] cells are = are
placed_wide columns keys m wide (g ∷ gs) cells are =
    placed_wide columns keys m wide gs (placed columns keys cells g) (All-set (λ (r : Row). length r ≡ m) cells (get_or keys g 0) (answers_at columns g) (length-map columns (λ l. get_or l g cell.Null) ∙ wide) are)

filled_wide : (fills : List Fill) (before : Row) → length before ≡ length fills → length (filled_by fills before) ≡ length fills
filled_wide fills before same = length-map (zip fills before) (λ (f : Fill × Cell). fill_cell f.0 f.1) ∙ omega (arith, length-zip fills before, same)

pub next_wide : (columns : List (List Cell)) (keys : List ℕ) (fills : List Fill) (befores : List Row) (groups : List ℕ) → length columns ≡ length fills → AreWide (length fills) befores → AreWide (length fills) (next_cells columns keys fills befores groups)
next_wide columns keys fills befores groups wide are =
    placed_wide columns keys (length fills) wide groups (map (filled_by fills) befores)
    (All-map (λ (r : Row). length r ≡ length fills) (filled_by fills) befores (λ k d low. filled_wide fills (get_or befores k d) (are k d low)))

-- cells that are shown as rows
module _ {C : Type 0} (items : C → List Scalar) (cells : List C) (rows : List Row) (is : map (λ c. map cell_of (items c)) cells ≡ rows) where
  pub shown_size : length cells ≡ length rows
  shown_size = sym (length-map cells (λ c. map cell_of (items c))) ∙ ap length is

  pub shown_wide : (m : ℕ) → AreWide m rows → All (λ c. length (items c) ≡ m) cells
  shown_wide m are = λ k d low.
      sym (length-map (items (get_or cells k d)) cell_of)
      ∙ ap length (sym (get_or-map (λ c. map cell_of (items c)) cells k d (map cell_of (items d)) low) ∙ ap (λ (l : List Row). get_or l k (map cell_of (items d))) is)
      ∙ are k (map cell_of (items d)) (omega (arith, low, shown_size))

-- and rows as cells
pub rows_wide : {C : Type 0} (items : C → List Scalar) (cells : List C) (m : ℕ) → All (λ c. length (items c) ≡ m) cells → AreWide m (map (λ c. map cell_of (items c)) cells)
rows_wide items cells m are = All-map (λ (r : Row). length r ≡ m) (λ c. map cell_of (items c)) cells (λ k d low. length-map (items (get_or cells k d)) cell_of ∙ are k d low)
