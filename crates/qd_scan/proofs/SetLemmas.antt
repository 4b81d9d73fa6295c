-- Sets without right columns, to which a block and a run of it are added.
use Rattle.std.proofs.Common.{◌≡◌, ℕ, zero, suc, ◌+◌, ◌-◌, ◌<◌, ◌≤◌, List, [], ◌∷◌, ◌++◌, Option, Some, None, length, map, take, drop, get_or, refl, sym, ap, ap₂, ◌∙◌, arith, All, subst, length-append, length-drop, slice_range, append-nil}
use Rattle.std.specs.List.{range_with_len}
use Rattle.std.proofs.lemmas.List.{ext_get_or, get_or_append_left, get_or-drop, get_or-map, get_or_push, get_or-take, length-map, length-take-le, map-append}
use Rattle.std.proofs.lemmas.List.FromFn.{get_or-map-range_with_len, length-map-range_with_len}
use Rattle.std.proofs.lemmas.List.Elements.{All-append, All-tail, All-head, All-nil}
use Rattle.qd_base.specs.declared.schema.Col.{Col}
use Rattle.qd_base.specs.Rows.{Row}
use Rattle.qd_block.specs.Blocks.{Block, IsWhole}
use Rattle.qd_rows.specs.declared.runs.Run.{Run}
use Rattle.qd_rows.specs.Runs.{Spot, places_of_run, places_of_runs}
use Rattle.qd_rows.specs.Sets.{ResultRows, Joined, alone, absent, block_at, no_block, right_row, side_row, row_of_place, rows_in, IsPlaced, IsRunOf}
use Rattle.qd_rows.proofs.RunLemmas.{length-run}
use Rattle.qd_rows.proofs.SetLemmas.{run_places}
use Rattle.qd_scan.specs.Sources.{rows_between, table_rows}
use Rattle.qd_scan.proofs.RowLemmas.{as_row, table_between, IsFound}

abbrev single : Spot → Joined
single p = (p, None)

-- the rows of runs that are there are there
runs_placed : (s : ResultRows) (runs : List Run) → s.right ≡ None → All (IsRunOf s) runs → All (IsPlaced s) (alone (places_of_runs runs))
runs_placed s [] none each = λ k d lt. absurd (omega arith)
runs_placed s (r ∷ rs) none each =
    subst (All (IsPlaced s)) (sym (map-append single (places_of_run r) (places_of_runs rs)))
    (All-append (IsPlaced s) (alone (places_of_run r)) (alone (places_of_runs rs)) (run_places s.left s.right s.blocks r none (All-head (IsRunOf s) r rs each)) (runs_placed s rs none (All-tail (IsRunOf s) r rs each)))

pub all_placed : (s : ResultRows) (runs : List Run) → s.right ≡ None → s.places ≡ alone (places_of_runs runs) → All (IsRunOf s) runs → All (IsPlaced s) s.places
all_placed s runs none are each = subst (All (IsPlaced s)) (sym are) (runs_placed s runs none each)

-- a set with one block more, and some of its rows
abbrev pub run_of : ℕ → ℕ → ℕ → Run
run_of block from to = record { block = block; from = from; to = to; before = 0 }

abbrev pub with_block : ResultRows → Block → ResultRows
with_block s b = record s { blocks = s.blocks ++ b ∷ [] }

abbrev pub with_run : ResultRows → Block → ℕ → ℕ → ResultRows
with_run s b from to = record (with_block s b) { places = s.places ++ alone (places_of_run (run_of (length s.blocks) from to)) }

right_none : (blocks : List Block) (right : Option (List Col)) (p : Option Spot) → right ≡ None → right_row blocks right p ≡ []
right_none blocks None p e = refl
right_none blocks (Some cols) p e = cc

block_stays : (s : ResultRows) (b : Block) (i : ℕ) → i < length s.blocks → block_at (s.blocks ++ b ∷ []) i ≡ block_at s.blocks i
block_stays s b i low = get_or_append_left s.blocks (b ∷ []) no_block i low

pub block_last : (s : ResultRows) (b : Block) → block_at (s.blocks ++ b ∷ []) (length s.blocks) ≡ b
block_last s b = get_or_push s.blocks b no_block (length s.blocks) refl

-- the rows that were there stay
row_stays : (s : ResultRows) (b : Block) (from to : ℕ) → s.right ≡ None → (p : Joined) → IsPlaced s p → row_of_place (with_run s b from to) p ≡ row_of_place s p
row_stays s b from to none p there =
    ap₂ (λ (l r : Row). l ++ r)
    (ap (λ (x : Block). get_or x.rows p.0.1 [] ++ absent (drop (length x.kinds) s.left)) (block_stays s b p.0.0 there.left.block))
    (right_none (s.blocks ++ b ∷ []) s.right p.1 none ∙ sym (right_none s.blocks s.right p.1 none))

-- and the run's are the block's
row_new : (s : ResultRows) (b : Block) (from to : ℕ) → s.right ≡ None → (i : ℕ) → row_of_place (with_run s b from to) ((length s.blocks, i), None) ≡ as_row s.left b (get_or b.rows i [])
row_new s b from to none i =
    ap₂ (λ (l r : Row). l ++ r)
    (ap (λ (x : Block). get_or x.rows i [] ++ absent (drop (length x.kinds) s.left)) (block_last s b))
    (right_none (s.blocks ++ b ∷ []) s.right None none)
    ∙ append-nil (as_row s.left b (get_or b.rows i []))

run_rows : (s : ResultRows) (b : Block) (from to : ℕ) → s.right ≡ None → from ≤ to → to ≤ length b.rows → map (row_of_place (with_run s b from to)) (alone (places_of_run (run_of (length s.blocks) from to))) ≡ map (as_row s.left b) (slice_range b.rows from to)
run_rows s b from to none low high =
    let row : Joined → Row = row_of_place (with_run s b from to) in
    let n = to - from in
    let places = places_of_run (run_of (length s.blocks) from to) in
    let theirs = map (as_row s.left b) (slice_range b.rows from to) in
    let count : length places ≡ n = length-run (run_of (length s.blocks) from to) in
    let size : length (map row (alone places)) ≡ n = length-map (alone places) row ∙ length-map places single ∙ count in
    let part : length (slice_range b.rows from to) ≡ n = length-take-le n (drop from b.rows) (omega (arith, length-drop from b.rows)) in
    ext_get_or [] (map row (alone places)) theirs (size ∙ sym (length-map (slice_range b.rows from to) (as_row s.left b) ∙ part))
    (λ i lt.
    let low : i < n = omega arith in
    let none_at : Joined = single (0, 0) in
    get_or-map row (alone places) i none_at [] (omega (arith, length-map places single))
    ∙ ap row (get_or-map single places i (0, 0) none_at (omega arith) ∙ ap single (get_or-map-range_with_len (λ k. (length s.blocks, k)) from n i (from + i) (0, 0) low refl))
    ∙ row_new s b from to none (from + i)
    ∙ ap (as_row s.left b) (sym (get_or-take n (drop from b.rows) i [] low ∙ get_or-drop from b.rows i []))
    ∙ sym (get_or-map (as_row s.left b) (slice_range b.rows from to) i [] [] (omega arith)))

map_agree : {X Y : Type 0} (f g : X → Y) (xs : List X) → All (λ x. f x ≡ g x) xs → map f xs ≡ map g xs
map_agree f g [] h = refl
map_agree f g (x ∷ xs) h = ap₂ (λ a l. a ∷ l) (h zero x (omega arith)) (map_agree f g xs (λ k d lt. h (suc k) d (omega arith)))

pub rows_added : (s : ResultRows) (b : Block) (from to : ℕ) → s.right ≡ None → All (IsPlaced s) s.places → from ≤ to → to ≤ length b.rows → rows_in (with_run s b from to) ≡ rows_in s ++ map (as_row s.left b) (slice_range b.rows from to)
rows_added s b from to none placed low high =
    let run = alone (places_of_run (run_of (length s.blocks) from to)) in
    map-append (row_of_place (with_run s b from to)) s.places run
    ∙ ap₂ (λ (l r : List Row). l ++ r)
    (map_agree (row_of_place (with_run s b from to)) (row_of_place s) s.places (λ k d lt. row_stays s b from to none (get_or s.places k d) (placed k d lt)))
    (run_rows s b from to none low high)

-- what a block adds whose rows between two moments are taken as a run
pub run_taken : (s middle new : ResultRows) (b : Block) (lo hi at from to : ℕ) → s.right ≡ None → All (IsPlaced s) s.places → IsWhole b → IsFound b lo hi from to
    → middle ≡ with_block s b → at ≡ length s.blocks → new ≡ record middle { places = middle.places ++ alone (places_of_run (run_of at from to)) }
    → rows_in new ≡ rows_in s ++ rows_between b.time_col lo hi (table_rows s.left b)
run_taken s middle new b lo hi at from to none placed whole found one two three =
    ap rows_in (three ∙ ap (λ (m : ResultRows). record m { places = m.places ++ alone (places_of_run (run_of at from to)) }) one ∙ ap (λ (n : ℕ). record (with_block s b) { places = s.places ++ alone (places_of_run (run_of n from to)) }) two)
    ∙ rows_added s b from to none placed found.ordered found.there
    ∙ ap (λ (l : List Row). rows_in s ++ l) (sym (table_between s.left b lo hi from to whole found.rows))

-- and of which none is
pub none_taken : (s : ResultRows) (b : Block) (lo hi from to : ℕ) → IsWhole b → IsFound b lo hi from to → to ≤ from → rows_in s ≡ rows_in s ++ rows_between b.time_col lo hi (table_rows s.left b)
none_taken s b lo hi from to whole found empty =
    let zero_many : to - from ≡ 0 = omega arith in
    sym (append-nil (rows_in s))
    ∙ ap (λ (l : List Row). rows_in s ++ l) (sym (table_between s.left b lo hi from to whole found.rows ∙ ap (λ (n : ℕ). map (as_row s.left b) (take n (drop from b.rows))) zero_many))
