-- The times of the rows of runs.
use Rattle.std.proofs.Common.{◌≡◌, ℕ, ◌+◌, ◌-◌, ◌<◌, ◌≤◌, List, [], ◌∷◌, ◌++◌, None, length, map, take, get_or, refl, sym, ap, ap₂, ◌∙◌, arith, append_assoc}
use Rattle.std.specs.List.{range_with_len}
use Rattle.std.proofs.lemmas.Grind.{flat_map-append}
use Rattle.std.proofs.lemmas.List.{append-nil, map-append, take_more}
use Rattle.qd_base.specs.Rows.{Row, cell_at, time_in, time_of}
use Rattle.qd_column.specs.Cells.{time_cell}
use Rattle.qd_expr.proofs.ListLemmas.{map-map}
use Rattle.qd_group.proofs.SumLemmas.{range_more}
use Rattle.qd_rows.specs.declared.runs.Run.{Run}
use Rattle.qd_rows.specs.Runs.{Spot, places_of_run, places_of_runs}
use Rattle.qd_rows.specs.Sets.{Joined, ResultRows, alone, row_of_place, rows_in}

-- the time of the row of a place
abbrev pub time_at : ResultRows → ℕ → Spot → ℕ
time_at s at p = time_of at (row_of_place s (p, None))

-- an item more behind some
pub pushed : {X : Type 0} (first made more : List X) (x : X) (whole : List X) → made ≡ first ++ whole → more ≡ made ++ x ∷ [] → more ≡ first ++ (whole ++ x ∷ [])
pushed first made more x whole was is = is ∙ ap (λ l. l ++ x ∷ []) was ∙ append_assoc first whole (x ∷ [])

-- one row of a run more
pub rows_more : (s : ResultRows) (at : ℕ) (r : Run) (i : ℕ) (first made more : List ℕ) (time : ℕ) → r.from ≤ i → made ≡ first ++ map (λ j. time_at s at (r.block, j)) (range_with_len r.from (i - r.from)) → time ≡ time_at s at (r.block, i)
    → more ≡ made ++ time ∷ [] → more ≡ first ++ map (λ j. time_at s at (r.block, j)) (range_with_len r.from (i + 1 - r.from))
rows_more s at r i first made more time low was is whole =
    pushed first made more time (map f (range_with_len r.from (i - r.from))) was whole
    ∙ ap (λ l. first ++ l) (ap (λ t. map f (range_with_len r.from (i - r.from)) ++ t ∷ []) is ∙ sym (range_more f r.from i low))
  where
    f : ℕ → ℕ
    f j = time_at s at (r.block, j)

pub rows_all : (s : ResultRows) (at : ℕ) (r : Run) (i : ℕ) → i - r.from ≡ r.to - r.from → map (λ j. time_at s at (r.block, j)) (range_with_len r.from (i - r.from)) ≡ map (time_at s at) (places_of_run r)
rows_all s at r i all =
    ap (λ (n : ℕ). map (λ j. time_at s at (r.block, j)) (range_with_len r.from n)) all
    ∙ sym (map-map (time_at s at) (λ i. (r.block, i)) (range_with_len r.from (r.to - r.from)))

-- the moments of a run are its rows' times
pub moments_are : (s : ResultRows) (at : ℕ) (r : Run) (ts : List ℕ) → map time_cell ts ≡ map (λ p. cell_at (row_of_place s (p, None)) at) (places_of_run r) → map (λ t. time_in (time_cell t)) ts ≡ map (time_at s at) (places_of_run r)
moments_are s at r ts are =
    sym (map-map time_in time_cell ts)
    ∙ ap (map time_in) are
    ∙ map-map time_in (λ p. cell_at (row_of_place s (p, None)) at) (places_of_run r)

-- the rows of one run more
pub runs_more : (s : ResultRows) (at : ℕ) (runs : List Run) (i : ℕ) (d : Run) (made more : List ℕ) → i < length runs → made ≡ map (time_at s at) (places_of_runs (take i runs))
    → more ≡ made ++ map (time_at s at) (places_of_run (get_or runs i d)) → more ≡ map (time_at s at) (places_of_runs (take (i + 1) runs))
runs_more s at runs i d made more low was is =
    is
    ∙ ap (λ l. l ++ map (time_at s at) (places_of_run (get_or runs i d))) was
    ∙ sym (map-append (time_at s at) (places_of_runs (take i runs)) (places_of_run (get_or runs i d)))
    ∙ ap (map (time_at s at)) (sym whole)
  where
    whole : places_of_runs (take (i + 1) runs) ≡ places_of_runs (take i runs) ++ places_of_run (get_or runs i d)
    whole =
        ap places_of_runs (take_more runs i d low)
        ∙ flat_map-append places_of_run (take i runs) (get_or runs i d ∷ [])
        ∙ ap (λ l. places_of_runs (take i runs) ++ l) (append-nil (places_of_run (get_or runs i d)))

-- the rows of a set without right columns are those of its runs
pub times_are : (s : ResultRows) (at : ℕ) (runs : List Run) → s.places ≡ alone (places_of_runs runs) → map (time_at s at) (places_of_runs runs) ≡ map (time_of at) (rows_in s)
times_are s at runs e =
    sym (ap (λ (ps : List Joined). map (time_of at) (map (row_of_place s) ps)) e
    ∙ map-map (time_of at) (row_of_place s) (alone (places_of_runs runs))
    ∙ map-map (λ (p : Joined). time_of at (row_of_place s p)) (λ (p : Spot). (p, None)) (places_of_runs runs))
