-- Output rows, one value and one row after another, and the length of their lines.
use Rattle.std.proofs.Common.{lit<, ◌≡◌, ℕ, ◌+◌, ◌<◌, ◌≤◌, min, true, ltb, List, [], ◌∷◌, ◌++◌, All, Some, length, flat_map, map, get_or, take, refl, sym, ap, ap₂, subst, ◌∙◌, arith, sum_by}
use Rattle.std.specs.Prelude.{slice_get}
use Rattle.std.specs.List.{zip}
use Rattle.std.proofs.lemmas.Bool.{lt-ltb, ltb-true, ltb_from_iff}
use Rattle.std.proofs.lemmas.List.{get_or-map, length-append, length-map, take_all, take_more}
use Rattle.std.proofs.lemmas.List.Concat.{length-flat_map}
use Rattle.std.proofs.lemmas.List.Sums.{sum_by-take-le, sum_by_more}
use Rattle.std.proofs.lemmas.Option.{get_or_from_slice_get, slice_get_within}
use Rattle.qd_base.specs.declared.limits.TheConstants.{MAX_RESULT_BYTES}
use Rattle.qd_base.specs.declared.cell.Cell.{Cell}
use Rattle.qd_base.specs.declared.cell.Cell.TheVariants as cell
use Rattle.qd_base.specs.declared.schema.Col.{Col}
use Rattle.qd_base.specs.Rows.{Row, cell_at}
use Rattle.qd_value.specs.declared.bound.Bound.{Bound}
use Rattle.qd_print.specs.Printed.{csv_cell, csv_line}
use Rattle.qd_print.proofs.LengthLemmas.{csv_total}
use Rattle.qd_meaning.specs.declared.parts.AskPlan.{AskPlan}
use Rattle.qd_meaning.specs.Answer.{output_row}
use Rattle.qd_meaning.specs.Grouped.{key_of}
use Rattle.qd_expr.proofs.CellLemmas.{row_found}
use Rattle.qd_order.specs.Cuts.{shown_rows}
use Rattle.qd_rows.specs.Sets.{Joined, ResultRows, row_of_place, rows_in}

-- the length of a value with the byte behind it, and of a row's line
abbrev pub field_bytes : Cell → ℕ
field_bytes c = length (csv_cell c) + 1

abbrev pub line_bytes : Row → ℕ
line_bytes row = length (csv_line (map csv_cell row))

-- how many values an output row has
width_is : (picks : List ℕ) (out : List Col) → length (zip picks out) ≡ min (length picks) (length out)
width_is [] [] = refl
width_is [] (c ∷ cs) = let least : 0 ≡ min 0 (length (c ∷ cs)) = omega arith in least
width_is (p ∷ ps) [] = let least : 0 ≡ min (length (p ∷ ps)) 0 = omega arith in least
width_is (p ∷ ps) (c ∷ cs) = let rest = width_is ps cs in omega arith

pub output_width : (picks : List ℕ) (out : List Col) (row : Row) → length (output_row picks out row) ≡ min (length picks) (length out)
output_width picks out row = length-map (zip picks out) _ ∙ width_is picks out

-- one value more
pub line_more : (row : Row) (i : ℕ) (counted value between more : ℕ) (c : Cell) → i < length row → c ≡ cell_at row i → counted ≡ min (sum_by field_bytes (take i row)) 18446744073709551615 → value ≡ min (length (csv_cell c)) 18446744073709551615
    → between ≡ min (counted + value) 18446744073709551615 → more ≡ min (between + 1) 18446744073709551615 → more ≡ min (sum_by field_bytes (take (i + 1) row)) 18446744073709551615
line_more row i counted value between more c low is before one added behind =
    let sum = sum_by_more field_bytes row i cell.Null low in
    let same = ap (λ x. length (csv_cell x)) is in
    omega (arith, sum, same, before, one, added, behind)

pub value_more : (row made more : Row) (i : ℕ) (c v : Cell) → i < length row → c ≡ v → v ≡ cell_at row i → made ≡ take i row → more ≡ made ++ c ∷ [] → more ≡ take (i + 1) row
value_more row made more i c v low same is before whole = whole ∙ ap₂ (λ (l : Row) (x : Cell). l ++ x ∷ []) before (same ∙ is) ∙ sym (take_more row i cell.Null low)

-- a position among so many
pub within_at : (n : ℕ) (ps : List ℕ) → All (λ i. i < n) ps → (k p : ℕ) → slice_get ps k ≡ Some p → p < n
within_at n ps within k p is = subst (λ i. i < n) (get_or_from_slice_get ps k p 0 is) (within k 0 (slice_get_within ps k p is))

-- one row more
module _ (outs : List Row) (ps : List ℕ) where
  abbrev at : ℕ → Row
  at i = get_or outs i []

  row_at : (k p : ℕ) → slice_get ps k ≡ Some p → get_or (map at ps) k [] ≡ at p
  row_at k p is = get_or-map at ps k 0 [] (slice_get_within ps k p is) ∙ ap at (get_or_from_slice_get ps k p 0 is)

  pub rows_more : (k p : ℕ) (made more : List Row) (row shown : Row) → slice_get ps k ≡ Some p → row ≡ shown → shown ≡ at p → made ≡ take k (map at ps) → more ≡ made ++ row ∷ [] → more ≡ take (k + 1) (map at ps)
  rows_more k p made more row shown is given same before whole =
      whole ∙ ap₂ (λ (l : List Row) (x : Row). l ++ x ∷ []) before (given ∙ same ∙ sym (row_at k p is)) ∙ sym (take_more (map at ps) k [] (let low = slice_get_within ps k p is in omega (arith, length-map ps at)))

  pub lines_more : (header k p counted value more : ℕ) (row : Row) → slice_get ps k ≡ Some p → row ≡ at p → counted ≡ min (header + sum_by line_bytes (take k (map at ps))) 18446744073709551615 → value ≡ min (line_bytes row) 18446744073709551615
      → more ≡ min (counted + value) 18446744073709551615 → more ≡ min (header + sum_by line_bytes (take (k + 1) (map at ps))) 18446744073709551615
  lines_more header k p counted value more row is same before one added =
      let low = slice_get_within ps k p is in
      let sum = sum_by_more line_bytes (map at ps) k [] (omega (arith, length-map ps at)) in
      let line = ap line_bytes (same ∙ sym (row_at k p is)) in
      omega (arith, sum, line, before, one, added)

-- the output row of a place of a set
pub set_row : (p : AskPlan) (es : List Bound) (s : ResultRows) (i : ℕ) (place : Joined) → slice_get s.places i ≡ Some place
    → output_row p.picks p.out (key_of es (row_of_place s place)) ≡ get_or (shown_rows p (map (key_of es) (rows_in s))) i []
set_row p es s i place is =
    let low = slice_get_within s.places i place is in
    ap (λ r. output_row p.picks p.out (key_of es r)) (sym (row_found s i place is))
    ∙ ap (output_row p.picks p.out) (sym (get_or-map (key_of es) (rows_in s) i [] [] (omega (arith, length-map s.places (row_of_place s)))))
    ∙ sym (get_or-map (output_row p.picks p.out) (map (key_of es) (rows_in s)) i [] [] (omega (arith, length-map (rows_in s) (key_of es), length-map s.places (row_of_place s))))

-- the output row of a row
pub list_row : (p : AskPlan) (rows : List Row) (i : ℕ) (row : Row) → i < length rows → row ≡ get_or rows i row → output_row p.picks p.out row ≡ get_or (shown_rows p rows) i []
list_row p rows i row low is = ap (output_row p.picks p.out) is ∙ sym (get_or-map (output_row p.picks p.out) rows i row [] low)

-- all of a list
pub all_taken : {X : Type 0} (xs made : List X) (n : ℕ) → length xs ≤ n → made ≡ take n xs → made ≡ xs
all_taken xs made n high is = is ∙ take_all n xs high

-- ---- more bytes than a result may have

module _ {X : Type 0} (header : List ℕ) (f : X → List ℕ) (rows : List X) (k counted : ℕ) (is : counted ≡ min (length header + sum_by (λ row. length (f row)) (take k rows)) 18446744073709551615) where
  -- a header and some rows have more, and so all have
  pub large_so_far : ltb MAX_RESULT_BYTES counted ≡ true → ltb MAX_RESULT_BYTES (length (header ++ flat_map f rows)) ≡ true
  large_so_far more =
      let high = ltb-true MAX_RESULT_BYTES counted more in
      lt-ltb MAX_RESULT_BYTES (length (header ++ flat_map f rows)) (omega (arith, is, high, sum_by-take-le (λ row. length (f row)) rows k, length-append header (flat_map f rows), length-flat_map f rows))

  -- all are counted
  pub large_at_end : length rows ≤ k → ltb MAX_RESULT_BYTES counted ≡ ltb MAX_RESULT_BYTES (length (header ++ flat_map f rows))
  large_at_end whole =
      let all = csv_total header f rows k counted whole is in
      ltb_from_iff ((λ more. (let high = ltb-true MAX_RESULT_BYTES counted more in omega (arith, all, high))), (λ high. lt-ltb MAX_RESULT_BYTES counted (omega (arith, all, high, least))))
    where
      least : MAX_RESULT_BYTES < 18446744073709551615
      least = lit< tt
