-- What is kept of the rows of runs.
use Rattle.std.proofs.Common.{◌≡◌, ℕ, ◌+◌, ◌-◌, ◌<◌, ◌≤◌, List, [], ◌∷◌, ◌++◌, Option, None, map, take, get_or, refl, sym, ap, ◌∙◌, arith}
use Rattle.std.specs.Prelude.{ℤ, pos, fold, length}
use Rattle.std.specs.List.{range_with_len}
use Rattle.std.proofs.Math.IntN.{pos-+ℤ-pos}
use Rattle.std.proofs.lemmas.Grind.{flat_map-append}
use Rattle.std.proofs.lemmas.List.{map-append, take_more, append-nil}
use Rattle.std.proofs.lemmas.List.FromFn.{map-range_with_len_more}
use Rattle.std.proofs.lemmas.List.Sums.{fold-append}
use Rattle.qd_base.specs.declared.cell.Cell.{Cell}
use Rattle.qd_base.specs.Rows.{Row, cell_at}
use Rattle.qd_column.specs.Cells.{long_cell}
use Rattle.qd_rows.specs.declared.runs.Run.{Run}
use Rattle.qd_rows.specs.Runs.{Spot, places_of_run, places_of_runs}
use Rattle.qd_rows.specs.Sets.{Joined, ResultRows, alone, row_of_place, rows_in}
use Rattle.qd_expr.proofs.ListLemmas.{map-map}
use Rattle.qd_expr.proofs.RunLemmas.{map-same, value-column}
use Rattle.qd_value.specs.declared.bound.Bound.{Bound}
use Rattle.qd_value.specs.declared.bound.Bound.TheVariants as is
use Rattle.qd_value.specs.Value.{value}
use Rattle.qd_meaning.specs.declared.parts.Agg.{Agg}
use Rattle.qd_meaning.specs.declared.parts.Agg.TheVariants as agg
use Rattle.qd_meaning.specs.Grouped.{plus}
use Rattle.qd_group.specs.Tallies.{State, counted, summed, argument, next, start, tallied}

-- a sum, number after number
pub summed_longs : (t : Option ℤ) (xs : List ℤ) → summed (fold (λ t x. plus (long_cell x) t) t xs) ≡ fold next (summed t) (map long_cell xs)
summed_longs t [] = refl
summed_longs t (x ∷ xs) = summed_longs (plus (long_cell x) t) xs

counted_from : (n : ℕ) (rows : List Row) → counted (pos (n + length rows)) ≡ fold next (counted (pos n)) (map (argument agg.Count) rows)
counted_from n [] = ap (λ (k : ℕ). counted (pos k)) (omega arith)
counted_from n (r ∷ rs) =
    ap (λ (k : ℕ). counted (pos k)) (omega arith)
    ∙ sym (ap (λ z. fold next (counted z) (map (argument agg.Count) rs)) (pos-+ℤ-pos n 1) ∙ sym (counted_from (n + 1) rs))

-- a count of rows is how many there are
pub counted_all : (rows : List Row) → counted (pos (length rows)) ≡ tallied agg.Count rows
counted_all rows = ap (λ (k : ℕ). counted (pos k)) (omega arith) ∙ counted_from 0 rows

-- the value of a column is the cell there
pub column_value : (x : Bound) (at : ℕ) → x ≡ is.Column at → (row : Row) → value x row ≡ cell_at row at
column_value x at e row = ap (λ (b : Bound). value b row) e ∙ value-column at row

-- what an aggregate takes of the rows of places
abbrev pub taken : Agg → ResultRows → Spot → Cell
taken a s p = argument a (row_of_place s (p, None))

-- the images of numbers of a range, with one more
pub range_more : {X : Type 0} (f : ℕ → X) (a i : ℕ) → a ≤ i → map f (range_with_len a (i + 1 - a)) ≡ map f (range_with_len a (i - a)) ++ f i ∷ []
range_more f a i low =
    let count : i + 1 - a ≡ (i - a) + 1 = omega arith in
    ap (λ n. map f (range_with_len a n)) count ∙ map-range_with_len_more f a (i - a) i (omega arith)

-- the rows of one run more
pub runs_more : (f : Spot → Cell) (st : State) (runs : List Run) (i : ℕ) (d : Run) (before after : State) → i < length runs → before ≡ fold next st (map f (places_of_runs (take i runs)))
    → after ≡ fold next before (map f (places_of_run (get_or runs i d))) → after ≡ fold next st (map f (places_of_runs (take (i + 1) runs)))
runs_more f st runs i d before after low was is =
    is
    ∙ ap (λ (b : State). fold next b (map f (places_of_run (get_or runs i d)))) was
    ∙ sym (fold-append next st (map f (places_of_runs (take i runs))) (map f (places_of_run (get_or runs i d))))
    ∙ ap (fold next st) (sym (ap (map f) whole ∙ map-append f (places_of_runs (take i runs)) (places_of_run (get_or runs i d))))
  where
    whole : places_of_runs (take (i + 1) runs) ≡ places_of_runs (take i runs) ++ places_of_run (get_or runs i d)
    whole =
        ap places_of_runs (take_more runs i d low)
        ∙ flat_map-append places_of_run (take i runs) (get_or runs i d ∷ [])
        ∙ ap (λ l. places_of_runs (take i runs) ++ l) (append-nil (places_of_run (get_or runs i d)))

-- the rows of a set without right columns are those of its runs
pub rows_of_runs : (a : Agg) (s : ResultRows) (runs : List Run) → s.places ≡ alone (places_of_runs runs) → fold next (start a) (map (taken a s) (places_of_runs runs)) ≡ tallied a (rows_in s)
rows_of_runs a s runs e =
    ap (fold next (start a))
    (sym (ap (λ (ps : List Joined). map (argument a) (map (row_of_place s) ps)) e
    ∙ map-map (argument a) (row_of_place s) (alone (places_of_runs runs))
    ∙ map-map (λ (p : Joined). argument a (row_of_place s p)) (λ (p : Spot). (p, None)) (places_of_runs runs)))

-- the numbers of a run are what is taken of its rows
pub longs_taken : (a : Agg) (s : ResultRows) (at : ℕ) (r : Run) (xs : List ℤ) → ((row : Row) → argument a row ≡ cell_at row at) → map long_cell xs ≡ map (λ p. cell_at (row_of_place s (p, None)) at) (places_of_run r)
    → map long_cell xs ≡ map (taken a s) (places_of_run r)
longs_taken a s at r xs taken_is are = are ∙ map-same (λ p. cell_at (row_of_place s (p, None)) at) (taken a s) (places_of_run r) (λ p. sym (taken_is (row_of_place s (p, None))))
