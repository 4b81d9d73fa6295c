-- Cells of a column against literals.
use Rattle.std.proofs.Common.{◌≡◌, ℕ, ◌+◌, ◌-◌, ◌<◌, ◌≤◌, List, [], ◌∷◌, ◌++◌, length, map, take, drop, get_or, refl, sym, ap, ◌∙◌, arith, slice_range, length-drop, eqb}
use Rattle.std.specs.Prelude.{Bool, true, false, not, ◌||◌, replicate, cond}
use Rattle.std.specs.Cmp.{bool_eq_equiv}
use Rattle.std.specs.List.{range_with_len, list_any, zip}
use Rattle.std.proofs.lemmas.Cmp.{nat_eq_equiv, int_eq_equiv, nat_list_eq_equiv}
use Rattle.std.proofs.lemmas.List.{map-id, length-take}
use Rattle.std.proofs.lemmas.List.Folds.{list_any_more}
use Rattle.std.proofs.lemmas.Simd.{splat_is_map}
use Rattle.qd_base.specs.declared.cell.Cell.{Cell}
use Rattle.qd_base.specs.declared.cell.Cell.TheVariants as cell
use Rattle.qd_base.specs.declared.limits.TheConstants.{NULL_ID}
use Rattle.qd_base.specs.Rows.{cell_eq}
use Rattle.qd_column.specs.Cells.{CellsOf, cell_of_row}
use Rattle.qd_column.specs.Symbols.{symbol_cell}
use Rattle.qd_value.specs.declared.bound.Comparison.TheVariants as asks
use Rattle.qd_value.specs.Cells.{compares, is_null, is_true}
use Rattle.qd_value.proofs.Orders.{greater-turned, greater_equal-turned}
use Rattle.qd_expr.proofs.ListLemmas.{map-map, part_image, range_part, row_more, zip-either}
use Rattle.qd_expr.proofs.RunLemmas.{map-same}

cell_eq-turned : (a b : Cell) → cell_eq a b ≡ cell_eq b a
cell_eq-turned cell.Null cell.Null = refl
cell_eq-turned (cell.Long x) (cell.Long y) = int_eq_equiv.symm x y
cell_eq-turned (cell.Bool x) (cell.Bool y) = bool_eq_equiv.symm x y
cell_eq-turned (cell.Text x) (cell.Text y) = nat_list_eq_equiv.symm x y
cell_eq-turned (cell.Time x) (cell.Time y) = nat_eq_equiv.symm x y
cell_eq-turned _ _ = refl

-- each comparison of two values, and that of them in the other order
pub turn-equal : (x y : Cell) → compares asks.Equal y x ≡ compares asks.Equal x y
turn-equal x y = cell_eq-turned y x

pub turn-not_equal : (x y : Cell) → compares asks.NotEqual y x ≡ compares asks.NotEqual x y
turn-not_equal x y = ap not (cell_eq-turned y x)

pub turn-less : (x y : Cell) → compares asks.Greater y x ≡ compares asks.Less x y
turn-less x y = greater-turned y x

pub turn-less_equal : (x y : Cell) → compares asks.GreaterEqual y x ≡ compares asks.LessEqual x y
turn-less_equal x y = greater_equal-turned y x

pub turn-greater : (x y : Cell) → compares asks.Less y x ≡ compares asks.Greater x y
turn-greater x y = sym (greater-turned x y)

pub turn-greater_equal : (x y : Cell) → compares asks.LessEqual y x ≡ compares asks.GreaterEqual x y
turn-greater_equal x y = sym (greater_equal-turned x y)

-- a test of one cell more
pub cell_more : (f : Cell → Bool) (column : CellsOf) (from i : ℕ) (items new : List Bool) (x : Bool) (v : Cell) → from ≤ i → items ≡ map (λ k. f (cell_of_row column k)) (range_with_len from (i - from)) → new ≡ items ++ x ∷ [] → x ≡ f v → v ≡ cell_of_row column i
    → new ≡ map (λ k. f (cell_of_row column k)) (range_with_len from (i + 1 - from))
cell_more f column from i items new x v low so_far pushed tested found =
    pushed ∙ ap (λ (l : List Bool). l ++ x ∷ []) so_far ∙ sym (row_more (λ k. f (cell_of_row column k)) from i low x (tested ∙ ap f found))

pub cells_done : (f : Cell → Bool) (column : CellsOf) (from to : ℕ) → from ≤ to → to ≤ length column.cells → map (λ k. f (cell_of_row column k)) (range_with_len from (to - from)) ≡ map f (slice_range column.cells from to)
cells_done f column from to low high =
    sym (map-map f (cell_of_row column) (range_with_len from (to - from))) ∙ ap (map f) (range_part column.cells cell.Null from (to - from) (omega arith))

-- no literal is looked for yet
pub no_literal : (cells : List Cell) (from to : ℕ) → from ≤ to → to ≤ length cells → replicate (to - from) false ≡ map (λ x. list_any (cell_eq x) []) (slice_range cells from to)
no_literal cells from to low high = splat_is_map (slice_range cells from to) (to - from) false (omega (arith, length-take (to - from) (drop from cells), length-drop from cells))

-- one literal more
pub literal_more : (cells literals : List Cell) (i : ℕ) (literal wanted : Cell) (found more new : List Bool) → i < length literals → get_or literals i literal ≡ literal → wanted ≡ literal → found ≡ map (λ x. list_any (cell_eq x) (take i literals)) cells
    → more ≡ map (λ x. cell_eq x wanted) cells → new ≡ map (λ (p : Bool × Bool). p.0 || p.1) (zip found more) → new ≡ map (λ x. list_any (cell_eq x) (take (i + 1) literals)) cells
literal_more cells literals i literal wanted found more new low at same so_far one joined =
    joined
    ∙ ap (λ (l : List Bool). map (λ (p : Bool × Bool). p.0 || p.1) (zip l more)) so_far
    ∙ ap (λ (l : List Bool). map (λ (p : Bool × Bool). p.0 || p.1) (zip (map (λ x. list_any (cell_eq x) (take i literals)) cells) l)) (one ∙ ap (λ (c : Cell). map (λ x. cell_eq x c) cells) same)
    ∙ zip-either (λ x. list_any (cell_eq x) (take i literals)) (λ x. cell_eq x literal) cells
    ∙ map-same (λ x. list_any (cell_eq x) (take i literals) || cell_eq x literal) (λ x. list_any (cell_eq x) (take (i + 1) literals)) cells
    (λ x. sym (list_any_more (cell_eq x) literals i literal low ∙ ap (λ (c : Cell). list_any (cell_eq x) (take i literals) || cell_eq x c) at))

-- a truth is true where its cell is
pub truths_part : (truths : List Bool) (cells : List Cell) (from to : ℕ) → cells ≡ map (λ b. cell.Bool b) truths → slice_range truths from to ≡ map is_true (slice_range cells from to)
truths_part truths cells from to e =
    sym (map-id (slice_range truths from to)) ∙ part_image is_true (λ b. cell.Bool b) truths from to ∙ ap (λ (l : List Cell). map is_true (slice_range l from to)) (sym e)

-- an id is that of NULL where its cell is NULL
pub null_id : (texts : List (List ℕ)) (id : ℕ) → eqb id NULL_ID ≡ is_null (symbol_cell texts id)
null_id texts id = by (eqb id NULL_ID) (get_or texts id [])
  where
    by : (b : Bool) (t : List ℕ) → b ≡ is_null (cond b cell.Null (cell.Text t))
    by true t = refl
    by false t = refl
