-- Rows made as wide as columns are.
use Rattle.std.proofs.Common.{◌≡◌, ℕ, zero, suc, ◌+◌, ◌-◌, ◌<◌, ◌≤◌, List, [], ◌∷◌, ◌++◌, length, map, drop, get_or, refl, sym, ap, ap₂, ◌∙◌, arith, All, subst, replicate, length-append, length-drop, slice_range, append_assoc, append-nil}
use Rattle.std.proofs.lemmas.List.{get_or-map, length-map, get_or-drop, get_or_past, take_all}
use Rattle.qd_base.specs.declared.cell.Cell.{Cell}
use Rattle.qd_base.specs.declared.cell.Cell.TheVariants as cell
use Rattle.qd_base.specs.declared.schema.ColType.{ColType}
use Rattle.qd_base.specs.Database.{missing}
use Rattle.std.specs.List.Sorted.{IsNonDecreasing}
use Rattle.qd_base.specs.Rows.{Row, cell_at, time_in, time_of}
use Rattle.qd_base.specs.Laws.{IsInOrder}
use Rattle.qd_column.proofs.ListLemmas.{part_more, part_none}
use Rattle.qd_column.proofs.RunLemmas.{map-append}
use Rattle.qd_merge.specs.Merged.{with_missing}
use Rattle.qd_merge.proofs.Times.{rows_in_order, times_rise}

get-append-left : {T : Type 0} (xs ys : List T) (i : ℕ) (d : T) → i < length xs → get_or (xs ++ ys) i d ≡ get_or xs i d
get-append-left [] ys i d h = absurd (omega arith)
get-append-left (x ∷ xs) ys zero d h = refl
get-append-left (x ∷ xs) ys (suc i) d h = get-append-left xs ys i d (omega arith)

get-append-right : {T : Type 0} (xs ys : List T) (i : ℕ) (d : T) → get_or (xs ++ ys) (length xs + i) d ≡ get_or ys i d
get-append-right [] ys i d = let e : 0 + i ≡ i = omega arith in ap (λ n. get_or ys n d) e
get-append-right (x ∷ xs) ys i d = let e : suc (length xs) + i ≡ suc (length xs + i) = omega arith in rw e (get-append-right xs ys i d)

-- a wide row has the cells that it had
pub wide_cell : (kinds : List ColType) (row : Row) (col : ℕ) → col < length row → cell_at (with_missing kinds row) col ≡ cell_at row col
wide_cell kinds row col h = get-append-left row (map missing (drop (length row) kinds)) col cell.Null h

-- and none in the columns that it lacked
pub lacking_cell : (kinds : List ColType) (row : Row) (col : ℕ) (d : ColType) → length row ≤ col → col < length kinds → cell_at (with_missing kinds row) col ≡ missing (get_or kinds col d)
lacking_cell kinds row col d low high =
    let place : length row + (col - length row) ≡ col = omega arith in
    let at : get_or (drop (length row) kinds) (col - length row) d ≡ get_or kinds col d = get_or-drop (length row) kinds (col - length row) d ∙ ap (λ n. get_or kinds n d) place in
    ap (λ n. get_or (with_missing kinds row) n cell.Null) (sym place) ∙ get-append-right row (map missing (drop (length row) kinds)) (col - length row) cell.Null
    ∙ get_or-map missing (drop (length row) kinds) (col - length row) d cell.Null (omega (arith, length-drop (length row) kinds)) ∙ ap missing at

-- nor behind the columns
pub cell_behind : (row : Row) (col : ℕ) → length row ≤ col → cell_at row col ≡ cell.Null
cell_behind row col past = get_or_past row col cell.Null past

pub wide_size : (kinds : List ColType) (row : Row) → length row ≤ length kinds → length (with_missing kinds row) ≡ length kinds
wide_size kinds row h = omega (arith, length-append row (map missing (drop (length row) kinds)), length-map (drop (length row) kinds) missing, length-drop (length row) kinds)

pub map-map : {X Y Z : Type 0} (f : Y → Z) (g : X → Y) (xs : List X) → map f (map g xs) ≡ map (λ x. f (g x)) xs
map-map f g [] = refl
map-map f g (x ∷ xs) = ap (λ l. f (g x) ∷ l) (map-map f g xs)

pub map-all : {X Y : Type 0} (P : X → Type 0) (f g : X → Y) → ((x : X) → P x → f x ≡ g x) → (xs : List X) → All P xs → map f xs ≡ map g xs
map-all P f g same [] h = refl
map-all P f g same (x ∷ xs) h = ap₂ (λ a l. a ∷ l) (same x (h zero x (omega arith))) (map-all P f g same xs (λ k d lt. h (suc k) d (omega arith)))

pub map-const : {X Y : Type 0} (y : Y) (xs : List X) → map (λ x. y) xs ≡ replicate (length xs) y
map-const y [] = refl
map-const y (x ∷ xs) = ap (λ l. y ∷ l) (map-const y xs)

-- the column of wide rows, where the rows have it and where they lack it
pub wide_column : (kinds : List ColType) (rows : List Row) (n col : ℕ) → All (λ r. length r ≡ n) rows → col < n → map (λ r. cell_at r col) (map (with_missing kinds) rows) ≡ map (λ r. cell_at r col) rows
wide_column kinds rows n col sizes h = map-map (λ r. cell_at r col) (with_missing kinds) rows ∙ map-all (λ r. length r ≡ n) (λ r. cell_at (with_missing kinds r) col) (λ r. cell_at r col) (λ r e. wide_cell kinds r col (omega arith)) rows sizes

pub lacking_column : (kinds : List ColType) (rows : List Row) (n col : ℕ) (d : ColType) → All (λ r. length r ≡ n) rows → n ≤ col → col < length kinds → map (λ r. cell_at r col) (map (with_missing kinds) rows) ≡ replicate (length rows) (missing (get_or kinds col d))
lacking_column kinds rows n col d sizes low high = map-map (λ r. cell_at r col) (with_missing kinds) rows ∙ map-all (λ r. length r ≡ n) (λ r. cell_at (with_missing kinds r) col) (λ r. missing (get_or kinds col d)) (λ r e. lacking_cell kinds r col d (omega arith) high) rows sizes ∙ map-const (missing (get_or kinds col d)) rows

module _ (col : ℕ) where
  -- wide rows have the same times
  pub times_wide : (kinds : List ColType) (rows : List Row) → All (λ r. col < length r) rows → map (time_of col) (map (with_missing kinds) rows) ≡ map (time_of col) rows
  times_wide kinds [] h = refl
  times_wide kinds (row ∷ rows) h = ap₂ (λ n l. n ∷ l) (ap time_in (wide_cell kinds row col (h zero row (omega arith)))) (times_wide kinds rows (λ k d lt. h (suc k) d (omega arith)))

  pub wide_in_order : (kinds : List ColType) (rows : List Row) → All (λ r. col < length r) rows → IsInOrder col rows → IsInOrder col (map (with_missing kinds) rows)
  wide_in_order kinds rows h order = rows_in_order col (map (with_missing kinds) rows) (subst IsNonDecreasing (sym (times_wide kinds rows h)) (times_rise col rows order))

-- the cells that a row lacks, one by one
pub wide_next : (kinds : List ColType) (row now next : Row) (from col : ℕ) (kind d : ColType) (x : Cell) → from ≤ col → col < length kinds → now ≡ row ++ map missing (slice_range kinds from col) → kind ≡ get_or kinds col d → x ≡ missing kind → next ≡ now ++ x ∷ [] → next ≡ row ++ map missing (slice_range kinds from (col + 1))
wide_next kinds row now next from col kind d x low high so_far is cell_is added =
    added ∙ ap₂ (λ (l : Row) (y : Cell). l ++ y ∷ []) so_far (cell_is ∙ ap missing is) ∙ append_assoc row (map missing (slice_range kinds from col)) (missing (get_or kinds col d) ∷ [])
    ∙ ap (λ l. row ++ l) (sym (ap (map missing) (part_more kinds from col d low high) ∙ map-append missing (slice_range kinds from col) (get_or kinds col d ∷ [])))

pub wide_done : (kinds : List ColType) (row now : Row) (from col : ℕ) → from ≡ length row → length kinds ≤ col → now ≡ row ++ map missing (slice_range kinds from col) → now ≡ with_missing kinds row
wide_done kinds row now from col size high is = is ∙ ap (λ l. row ++ map missing l) (take_all (col - from) (drop from kinds) (omega (arith, length-drop from kinds)) ∙ ap (λ n. drop n kinds) size)

pub wide_begun : (kinds : List ColType) (row now : Row) (from col : ℕ) → col ≡ from → now ≡ row → now ≡ row ++ map missing (slice_range kinds from col)
wide_begun kinds row now from col at is = is ∙ sym (append-nil row) ∙ ap (λ l. row ++ map missing l) (sym (part_none kinds from) ∙ ap (slice_range kinds from) (sym at))
