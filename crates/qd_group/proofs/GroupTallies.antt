-- Tallies of groups, run by run.
use Rattle.std.proofs.Common.{◌≡◌, ℕ, zero, suc, ◌+◌, ◌-◌, ◌<◌, List, [], ◌∷◌, None, length, map, take, get_or, set, refl, sym, ap, ◌∙◌, arith, length-append}
use Rattle.std.specs.Prelude.{ℤ, pos}
use Rattle.std.proofs.lemmas.List.{get_or-map, get_or_default, length-map}
use Rattle.std.proofs.lemmas.List.Concat.{get_or-flat_map}
use Rattle.std.proofs.lemmas.List.Folds.{length-flat_map-take}
use Rattle.std.proofs.lemmas.List.FromFn.{length-map-range_with_len, get_or-map-range_with_len}
use Rattle.qd_base.specs.declared.cell.Cell.{Cell}
use Rattle.qd_base.specs.declared.cell.Cell.TheVariants as cell
use Rattle.qd_base.specs.Rows.{Row, cell_at}
use Rattle.qd_column.specs.Cells.{long_cell}
use Rattle.qd_expr.specs.Passing.{row_in}
use Rattle.qd_expr.proofs.ListLemmas.{map-map}
use Rattle.qd_rows.specs.declared.runs.Run.{Run}
use Rattle.qd_rows.specs.Runs.{Spot, no_run, places_of_run, places_of_runs, AreRuns}
use Rattle.qd_rows.specs.Sets.{Joined, ResultRows, alone, row_of_place, rows_in}
use Rattle.qd_meaning.specs.declared.parts.Agg.{Agg}
use Rattle.qd_group.specs.Kept.{kept, AreKept}
use Rattle.qd_group.specs.Tallies.{State, argument, next}
use Rattle.qd_group.proofs.RunLemmas.{before}
use Rattle.qd_group.proofs.TallyLemmas.{kept_more}

pub kept_size : (a : Agg) (ns : List ℕ) (rows : List Row) (i groups : ℕ) (states : List State) → AreKept a ns rows i groups states → length states ≡ groups
kept_size a ns rows i groups states are = ap length are ∙ length-map-range_with_len (kept a ns rows i) 0 groups

pub kept_next : (a : Agg) (ns : List ℕ) (rows : List Row) (i groups : ℕ) (states more : List State) (c : Cell) (d : State) → i < length ns → i < length rows → get_or ns i 0 < groups
    → AreKept a ns rows i groups states → c ≡ argument a (get_or rows i []) → more ≡ set states (get_or ns i 0) (next (get_or states (get_or ns i 0) d) c) → AreKept a ns rows (i + 1) groups more
kept_next a ns rows i groups states more c d low there within are taken written =
    kept_more a ns rows i groups states more (next (get_or states (get_or ns i 0) d) c) c low there within are taken
    (ap (λ s. next s c) (get_or_default states (get_or ns i 0) d (next (get_or states (get_or ns i 0) d) c) (omega (arith, within, kept_size a ns rows i groups states are))))
    written

length_run : (r : Run) → length (places_of_run r) ≡ r.to - r.from
length_run r = length-map-range_with_len {X = Spot} (λ i. (r.block, i)) r.from (r.to - r.from)

-- a run says how many rows stand before it
pub before_is : (n end k : ℕ) (runs : List Run) → AreRuns n runs end → k < length runs → (get_or runs k no_run).before ≡ n + before runs k
before_is n end k [] are h = absurd (omega arith)
before_is n end zero (r ∷ rs) are h = let at : r.before ≡ n = are.0 in omega arith
before_is n end (suc k) (r ∷ rs) are h =
    let rest : (get_or rs k no_run).before ≡ n + (r.to - r.from) + before rs k = before_is (n + (r.to - r.from)) end k rs are.2 (omega arith) in
    omega (arith, length-append (places_of_run r) (places_of_runs (take k rs)), length_run r)

pub run_row : (s : ResultRows) (runs : List Run) (i : ℕ) (d : Run) (k : ℕ) → s.places ≡ alone (places_of_runs runs) → i < length runs → k < (get_or runs i d).to - (get_or runs i d).from
    → row_of_place s (((get_or runs i d).block, (get_or runs i d).from + k), None) ≡ row_in s (before runs i + k)
run_row s runs i d k e low inside =
    sym (ap (λ (l : List Row). get_or l (before runs i + k) []) whole
    ∙ get_or-map f (places_of_runs runs) (before runs i + k) (0, 0) [] there
    ∙ ap f (get_or-flat_map places_of_run runs i k d (0, 0) low (omega (arith, length_run (get_or runs i d)))
    ∙ get_or-map-range_with_len (λ i. (r.block, i)) r.from (r.to - r.from) k (r.from + k) (0, 0) inside refl))
  where
    r : Run
    r = get_or runs i d

    f : Spot → Row
    f p = row_of_place s (p, None)

    whole : rows_in s ≡ map f (places_of_runs runs)
    whole = ap (λ (ps : List Joined). map (row_of_place s) ps) e ∙ map-map (row_of_place s) (λ (p : Spot). (p, None)) (places_of_runs runs)

    there : before runs i + k < length (places_of_runs runs)
    there = omega (arith, length-flat_map-take places_of_run runs i d low, length_run (get_or runs i d), inside)

-- the numbers of a run, and its rows
pub longs_size : (s : ResultRows) (at : ℕ) (r : Run) (xs : List ℤ) → map long_cell xs ≡ map (λ p. cell_at (row_of_place s (p, None)) at) (places_of_run r) → length xs ≡ r.to - r.from
longs_size s at r xs e = sym (length-map xs long_cell) ∙ ap length e ∙ length-map (places_of_run r) (λ p. cell_at (row_of_place s (p, None)) at) ∙ length_run r

pub longs_at : (a : Agg) (s : ResultRows) (at n : ℕ) (r : Run) (xs : List ℤ) → ((row : Row) → argument a row ≡ cell_at row at) → map long_cell xs ≡ map (λ p. cell_at (row_of_place s (p, None)) at) (places_of_run r)
    → ((k : ℕ) → k < r.to - r.from → row_of_place s ((r.block, r.from + k), None) ≡ row_in s (n + k))
    → (k : ℕ) → k < length xs → long_cell (get_or xs k (pos 0)) ≡ argument a (get_or (rows_in s) (n + k) [])
longs_at a s at n r xs column e rows k low =
    sym (get_or-map long_cell xs k (pos 0) cell.Null low)
    ∙ ap (λ (l : List Cell). get_or l k cell.Null) e
    ∙ get_or-map f (places_of_run r) k (0, 0) cell.Null (omega (arith, length_run r, inside))
    ∙ ap f (get_or-map-range_with_len (λ i. (r.block, i)) r.from (r.to - r.from) k (r.from + k) (0, 0) inside refl)
    ∙ sym (column (row_of_place s ((r.block, r.from + k), None)))
    ∙ ap (argument a) (rows k inside)
  where
    f : Spot → Cell
    f p = cell_at (row_of_place s (p, None)) at

    inside : k < r.to - r.from
    inside = omega (arith, low, longs_size s at r xs e)
