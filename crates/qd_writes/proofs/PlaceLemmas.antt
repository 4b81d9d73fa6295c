-- Which literal of a row stands for which column.
use Rattle.std.proofs.Common.{◌≡◌, ℕ, zero, suc, ◌+◌, ◌<◌, Bool, true, false, cond, if◌then◌else◌, eqb, List, [], ◌∷◌, ◌++◌, length, take, drop, get_or, Option, Some, None, refl, sym, ap, ◌∙◌, arith, zero-add}
use Rattle.std.specs.Prelude.{slice_get, unwrap_or}
use Rattle.std.specs.List.{find, zip, range_with_len}
use Rattle.std.specs.Option.{option_map}
use Rattle.std.proofs.Math.Seq.{take-length}
use Rattle.std.proofs.lemmas.List.{get_or-map, length-map, take_more}
use Rattle.std.proofs.lemmas.List.FromFn.{get_or-range_with_len, length-range_with_len}
use Rattle.std.proofs.lemmas.Option.{slice_get-map}
use Rattle.std.proofs.lemmas.Slice.Zip.{get_or-zip, length-zip}
use Rattle.qd_base.specs.declared.cell.Cell.{Cell}
use Rattle.qd_base.specs.declared.cell.Cell.TheVariants as cell
use Rattle.qd_base.specs.declared.schema.Col.{Col}
use Rattle.qd_base.specs.Database.{missing}
use Rattle.qd_sql_ast.specs.declared.tree.Lit.{Lit}
use Rattle.qd_meaning.specs.Inserting.{Target, cell_for, cell_or}
use Rattle.qd_writes.specs.Placing.{place_of, literal_at, pair, taken_cell, cells_of, view_cell, cell_in, placed, ArePlaces}

-- ---- two lists side by side

pub zip_more : {A B : Type 0} (xs : List A) (ys : List B) (i : ℕ) (x : A) (y : B) → i < length xs → i < length ys
    → take (i + 1) (zip xs ys) ≡ take i (zip xs ys) ++ (get_or xs i x, get_or ys i y) ∷ []
zip_more {A} {B} xs ys i x y lt lu =
    take_more (zip xs ys) i (x, y) (let e = length-zip xs ys in omega arith)
    ∙ ap (λ (p : A × B). take i (zip xs ys) ++ p ∷ []) (get_or-zip xs ys i (x, y) lt lu)

pub zip-get : {A B : Type 0} (xs : List A) (ys : List B) (i : ℕ) → slice_get (zip xs ys) i ≡ pair (slice_get xs i) (slice_get ys i)
zip-get [] ys i = refl
zip-get (x ∷ xs) [] zero = refl
zip-get (x ∷ xs) [] (suc i) = none (slice_get xs i)
  where
    none : {A B : Type 0} (o : Option A) → None ≡ pair {B = B} o None
    none None = refl
    none (Some a) = refl
zip-get (x ∷ xs) (y ∷ ys) zero = refl
zip-get (x ∷ xs) (y ∷ ys) (suc i) = zip-get xs ys i

-- ---- the literal of a column

abbrev pub is_of : ℕ → Target × Lit → Bool
is_of col x = eqb x.0.0 col

shifted : (o : Option ℕ) (t : Target) (l : Lit) (ts : List Target) (ls : List Lit) → literal_at o ts ls ≡ literal_at (option_map suc o) (t ∷ ts) (l ∷ ls)
shifted None t l ts ls = refl
shifted (Some i) t l ts ls = refl

pair-none : {A B : Type 0} (o : Option A) → None ≡ pair {B = B} o None
pair-none None = refl
pair-none (Some a) = refl

no_literal : (o : Option ℕ) (ts : List Target) → None ≡ literal_at o ts []
no_literal None ts = refl
no_literal (Some zero) ts = pair-none (slice_get ts zero)
no_literal (Some (suc i)) ts = pair-none (slice_get ts (suc i))

pub found_literal : (col : ℕ) (ts : List Target) (ls : List Lit) → find (is_of col) (zip ts ls) ≡ literal_at (place_of col ts) ts ls
found_literal col [] ls = refl
found_literal col (t ∷ ts) [] = no_literal (place_of col (t ∷ ts)) (t ∷ ts)
found_literal col (t ∷ ts) (l ∷ ls) = go (eqb t.0 col) (found_literal col ts ls)
  where
    go : (b : Bool) → find (is_of col) (zip ts ls) ≡ literal_at (place_of col ts) ts ls
        → cond b (Some (t, l)) (find (is_of col) (zip ts ls)) ≡ literal_at (if b then Some 0 else option_map suc (place_of col ts)) (t ∷ ts) (l ∷ ls)
    go true ih = refl
    go false ih = ih ∙ shifted (place_of col ts) t l ts ls

-- ---- the cells of literals

pub cells_more : (ts : List Target) (ls : List Lit) (i : ℕ) (t : Target) (l : Lit) → i < length ts → i < length ls
    → take i (cells_of ts ls) ++ taken_cell (get_or ts i t, get_or ls i l) ∷ [] ≡ take (i + 1) (cells_of ts ls)
cells_more ts ls i t l lt lu =
    let size = length-zip ts ls in
    let cells = length-map (zip ts ls) taken_cell in
    ap (λ (x : Cell). take i (cells_of ts ls) ++ x ∷ [])
    (sym (get_or-map taken_cell (zip ts ls) i (t, l) cell.Null (omega arith) ∙ ap taken_cell (get_or-zip ts ls i (t, l) lt lu)))
    ∙ sym (take_more (cells_of ts ls) i cell.Null (omega arith))

pub cells_all : (ts : List Target) (ls : List Lit) (i : ℕ) → i ≡ length (zip ts ls) → take i (cells_of ts ls) ≡ cells_of ts ls
cells_all ts ls i e = ap (λ (n : ℕ). take n (cells_of ts ls)) (e ∙ sym (length-map (zip ts ls) taken_cell)) ∙ take-length (cells_of ts ls)

given_cell : (other : Cell) (o : Option (Target × Lit)) → unwrap_or (option_map taken_cell o) other ≡ cell_or other o
given_cell other None = refl
given_cell other (Some x) = refl

-- the cell of a column, whether it is taken from a literal or from the cell of one
pub view-same : (col : Col) (o : Option ℕ) (ts : List Target) (ls : List Lit) → view_cell col o (cells_of ts ls) ≡ cell_in col o ts ls
view-same col None ts ls = refl
view-same col (Some i) ts ls =
    ap (λ (x : Option Cell). unwrap_or x (missing col.kind)) (slice_get-map taken_cell (zip ts ls) i ∙ ap (option_map taken_cell) (zip-get ts ls i))
    ∙ given_cell (missing col.kind) (pair (slice_get ts i) (slice_get ls i))

-- ---- the places of all columns

abbrev pub later : ℕ → Option ℕ → Option ℕ
later n o = option_map (λ (i : ℕ). n + i) o

pub later-zero : (o : Option ℕ) → later 0 o ≡ o
later-zero None = refl
later-zero (Some i) = ap Some (zero-add i)

later-suc : (n : ℕ) (o : Option ℕ) → later (n + 1) o ≡ later n (option_map suc o)
later-suc n None = refl
later-suc n (Some i) = ap Some (omega arith)

pub record MarksFrom (ts : List Target) (count from : ℕ) (places : List (Option ℕ)) : Type 0 where
  pub size : length places ≡ count
  pub each : (col : ℕ) → col < count → get_or places col None ≡ later from (place_of col (drop from ts))

-- ---- a row

pub placed-length : (cols : List Col) (ts : List Target) (ls : List Lit) → length (placed cols ts ls) ≡ length cols
placed-length cols ts ls =
    length-map (zip (range_with_len 0 (length cols)) cols) (cell_for (zip ts ls))
    ∙ length-zip (range_with_len 0 (length cols)) cols
    ∙ (let e = length-range_with_len 0 (length cols) in omega arith)

pub placed-get : (cols : List Col) (ts : List Target) (ls : List Lit) (i : ℕ) (c : Col) (x : Cell) → i < length cols
    → get_or (placed cols ts ls) i x ≡ cell_in (get_or cols i c) (place_of i ts) ts ls
placed-get cols ts ls i c x lt =
    let size = length-range_with_len 0 (length cols) in
    get_or-map (cell_for (zip ts ls)) (zip (range_with_len 0 (length cols)) cols) i (0, c) x (let e = length-zip (range_with_len 0 (length cols)) cols in omega arith)
    ∙ ap (cell_for (zip ts ls)) (get_or-zip (range_with_len 0 (length cols)) cols i (0, c) (omega arith) lt)
    ∙ ap (λ (n : ℕ). cell_for (zip ts ls) (n, get_or cols i c)) (get_or-range_with_len 0 (length cols) i 0 lt ∙ zero-add i)
    ∙ ap (cell_or (missing (get_or cols i c).kind)) (found_literal i ts ls)

pub placed_more : (cols : List Col) (ts : List Target) (ls : List Lit) (places : List (Option ℕ)) (i : ℕ) (c : Col) (x : Cell) (o : Option ℕ) → i < length cols → ArePlaces ts (length cols) places
    → o ≡ get_or places i None → x ≡ cell_in (get_or cols i c) o ts ls → take i (placed cols ts ls) ++ x ∷ [] ≡ take (i + 1) (placed cols ts ls)
placed_more cols ts ls places i c x o lt are e f =
    ap (λ (y : Cell). take i (placed cols ts ls) ++ y ∷ [])
    (f ∙ ap (λ (p : Option ℕ). cell_in (get_or cols i c) p ts ls) (e ∙ are.each i lt) ∙ sym (placed-get cols ts ls i c x lt))
    ∙ sym (take_more (placed cols ts ls) i x (let e = placed-length cols ts ls in omega arith))

pub placed_all : (cols : List Col) (ts : List Target) (ls : List Lit) (i : ℕ) → i ≡ length cols → take i (placed cols ts ls) ≡ placed cols ts ls
placed_all cols ts ls i e = ap (λ (n : ℕ). take n (placed cols ts ls)) (e ∙ sym (placed-length cols ts ls)) ∙ take-length (placed cols ts ls)
