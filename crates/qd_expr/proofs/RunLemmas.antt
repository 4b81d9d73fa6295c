-- Tests over the rows of a run.
use Rattle.std.proofs.Common.{◌≡◌, ℕ, zero, suc, ◌+◌, ◌-◌, ◌<◌, ◌≤◌, List, [], ◌∷◌, ◌++◌, Option, Some, None, length, map, take, drop, get_or, refl, sym, ap, ◌∙◌, arith, subst, slice_range, append_assoc, slice_get}
use Rattle.std.specs.Prelude.{Bool, true, false, not, ◌&&◌, ◌||◌, replicate}
use Rattle.std.specs.List.{range_with_len, list_all, list_any, zip}
use Rattle.std.proofs.lemmas.List.{length-map, get_or-map, append-nil, drop_all, take_more}
use Rattle.std.proofs.lemmas.Simd.{splat_is_map}
use Rattle.std.proofs.lemmas.List.FromFn.{length-map-range_with_len, get_or-map-range_with_len}
use Rattle.qd_base.specs.declared.cell.Cell.{Cell}
use Rattle.qd_base.specs.declared.cell.Cell.TheVariants as cell
use Rattle.qd_base.specs.Rows.{Row, cell_at}
use Rattle.qd_column.specs.Cells.{CellsOf, cell_of_row}
use Rattle.qd_block.specs.Blocks.{Block, column_in, IsWhole}
use Rattle.qd_rows.specs.declared.runs.Run.{Run}
use Rattle.qd_rows.specs.Runs.{Spot, places_of_run}
use Rattle.qd_rows.specs.Sets.{ResultRows, Joined, block_at, row_of_place, side_row, IsRowAt, IsRunOf}
use Rattle.qd_value.specs.declared.bound.Comparison.{Comparison}
use Rattle.qd_value.specs.declared.bound.Bound.{Bound}
use Rattle.qd_value.specs.declared.bound.Bound.TheVariants as is
use Rattle.qd_value.specs.declared.bound.Bound.TheVariants.{rolls-Column}
use Rattle.qd_value.specs.declared.bound.Bound.TheOpen.{Bound-F}
use Rattle.qd_value.specs.declared.bound.Bound.TheFolds.{fold-roll-Bound}
use Rattle.qd_value.specs.Cells.{compares, is_null, is_within, is_true}
use Rattle.qd_value.specs.Value.{Step, value, value_step, operand_step, passes}
use Rattle.qd_value.proofs.Values.{value-literal, value-compare, value-in_interval, value-is_null, value-not, value-all, value-any}
use Rattle.qd_expr.specs.Passing.{passes_at, passes_in_run, all_in_run, any_in_run}
use Rattle.qd_expr.proofs.CellLemmas.{block_found, cell_there, cell_left, few_kinds, length-side}
use Rattle.qd_expr.proofs.ListLemmas.{map-map, zip-both, zip-either, zip-with, range_part}

pub map-same : {X Y : Type 0} (f g : X → Y) (xs : List X) → ((x : X) → f x ≡ g x) → map f xs ≡ map g xs
map-same f g [] h = refl
map-same f g (x ∷ xs) h = ap (λ y. y ∷ map f xs) (h x) ∙ ap (λ l. g x ∷ l) (map-same f g xs h)

pub value-column : (at : ℕ) (row : Row) → value (is.Column at) row ≡ cell_at row at
value-column at row = ap (λ e. value e row) (sym (rolls-Column at)) ∙ fold-roll-Bound Cell Step (value_step row) operand_step (Bound-F.Column at)

-- each form of a test, by its parts
pub run-not : (x : Bound) (s : ResultRows) (r : Run) → map not (passes_in_run x s r) ≡ passes_in_run (is.Not x) s r
run-not x s r =
    map-map not (λ p. passes_at x s (p, None)) (places_of_run r)
    ∙ map-same (λ p. not (passes_at x s (p, None))) (λ p. passes_at (is.Not x) s (p, None)) (places_of_run r) (λ p. ap is_true (sym (value-not x (row_of_place s (p, None)))))

pub run-all : (xs : List Bound) (s : ResultRows) (r : Run) → all_in_run xs s r ≡ passes_in_run (is.All xs) s r
run-all xs s r = map-same (λ p. list_all (λ e. passes_at e s (p, None)) xs) (λ p. passes_at (is.All xs) s (p, None)) (places_of_run r) (λ p. ap is_true (sym (value-all xs (row_of_place s (p, None)))))

pub run-any : (xs : List Bound) (s : ResultRows) (r : Run) → any_in_run xs s r ≡ passes_in_run (is.Any xs) s r
run-any xs s r = map-same (λ p. list_any (λ e. passes_at e s (p, None)) xs) (λ p. passes_at (is.Any xs) s (p, None)) (places_of_run r) (λ p. ap is_true (sym (value-any xs (row_of_place s (p, None)))))

pub run-compare : (op : Comparison) (x y : Bound) (s : ResultRows) (r : Run) → map (λ p. compares op (value x (row_of_place s (p, None))) (value y (row_of_place s (p, None)))) (places_of_run r) ≡ passes_in_run (is.Compare op x y) s r
run-compare op x y s r = map-same (λ p. compares op (value x (row_of_place s (p, None))) (value y (row_of_place s (p, None)))) (λ p. passes_at (is.Compare op x y) s (p, None)) (places_of_run r) (λ p. ap is_true (sym (value-compare op x y (row_of_place s (p, None)))))

pub run-interval : (x : Bound) (lo hi : ℕ) (s : ResultRows) (r : Run) → map (λ p. is_within lo hi (value x (row_of_place s (p, None)))) (places_of_run r) ≡ passes_in_run (is.InInterval x lo hi) s r
run-interval x lo hi s r = map-same (λ p. is_within lo hi (value x (row_of_place s (p, None)))) (λ p. passes_at (is.InInterval x lo hi) s (p, None)) (places_of_run r) (λ p. ap is_true (sym (value-in_interval x lo hi (row_of_place s (p, None)))))

and-true : (b : Bool) → (b && true) ≡ b
and-true true = refl
and-true false = refl

or-false : (b : Bool) → (b || false) ≡ b
or-false true = refl
or-false false = refl

all-more : (p : Bound → Bool) (es : List Bound) (e : Bound) → (list_all p es && p e) ≡ list_all p (es ++ e ∷ [])
all-more p [] e = sym (and-true (p e))
all-more p (x ∷ xs) e = by (p x) ∙ ap (λ b. p x && b) (all-more p xs e)
  where
    by : (t : Bool) → ((t && list_all p xs) && p e) ≡ (t && (list_all p xs && p e))
    by true = refl
    by false = refl

any-more : (p : Bound → Bool) (es : List Bound) (e : Bound) → (list_any p es || p e) ≡ list_any p (es ++ e ∷ [])
any-more p [] e = sym (or-false (p e))
any-more p (x ∷ xs) e = by (p x) ∙ ap (λ b. p x || b) (any-more p xs e)
  where
    by : (t : Bool) → ((t || list_any p xs) || p e) ≡ (t || (list_any p xs || p e))
    by true = refl
    by false = refl

-- one test more
pub run-all-more : (es : List Bound) (e : Bound) (s : ResultRows) (r : Run) → map (λ (p : Bool × Bool). p.0 && p.1) (zip (all_in_run es s r) (passes_in_run e s r)) ≡ all_in_run (es ++ e ∷ []) s r
run-all-more es e s r =
    zip-both (λ p. list_all (λ e. passes_at e s (p, None)) es) (λ p. passes_at e s (p, None)) (places_of_run r)
    ∙ map-same (λ p. list_all (λ e. passes_at e s (p, None)) es && passes_at e s (p, None)) (λ p. list_all (λ e. passes_at e s (p, None)) (es ++ e ∷ [])) (places_of_run r) (λ p. all-more (λ e. passes_at e s (p, None)) es e)

pub run-any-more : (es : List Bound) (e : Bound) (s : ResultRows) (r : Run) → map (λ (p : Bool × Bool). p.0 || p.1) (zip (any_in_run es s r) (passes_in_run e s r)) ≡ any_in_run (es ++ e ∷ []) s r
run-any-more es e s r =
    zip-either (λ p. list_any (λ e. passes_at e s (p, None)) es) (λ p. passes_at e s (p, None)) (places_of_run r)
    ∙ map-same (λ p. list_any (λ e. passes_at e s (p, None)) es || passes_at e s (p, None)) (λ p. list_any (λ e. passes_at e s (p, None)) (es ++ e ∷ [])) (places_of_run r) (λ p. any-more (λ e. passes_at e s (p, None)) es e)

-- images of the numbers of a range
range-same : {Y : Type 0} (f g : ℕ → Y) (a n : ℕ) → ((i : ℕ) → a ≤ i → i < a + n → f i ≡ g i) → map f (range_with_len a n) ≡ map g (range_with_len a n)
range-same f g a zero h = refl
range-same f g a (suc n) h =
    ap (λ y. y ∷ map f (range_with_len (a + 1) n)) (h a (omega arith) (omega arith))
    ∙ ap (λ l. g a ∷ l) (range-same f g (a + 1) n (λ i low high. h i (omega arith) (omega arith)))

-- a column's cells in a run are those of the run's rows
pub cells_in_run : (s : ResultRows) (r : Run) (at : ℕ) → IsRunOf s r → IsWhole (block_at s.blocks r.block) → at < length (block_at s.blocks r.block).kinds
    → slice_range (column_in (block_at s.blocks r.block) at).cells r.from r.to ≡ map (λ p. cell_at (row_of_place s (p, None)) at) (places_of_run r)
cells_in_run s r at run_there whole low =
    let column = column_in (block_at s.blocks r.block) at in
    let n = r.to - r.from in
    sym (range_part column.cells cell.Null r.from n size)
    ∙ range-same (cell_of_row column) (λ i. cell_at (row_of_place s ((r.block, i), None)) at) r.from n cells
    ∙ sym (map-map (λ p. cell_at (row_of_place s (p, None)) at) (λ i. (r.block, i)) (range_with_len r.from n))
  where
    size : r.from + (r.to - r.from) ≤ length (column_in (block_at s.blocks r.block) at).cells
    size = omega (arith, length-map (block_at s.blocks r.block).rows (λ row. cell_at row at), run_there.within, run_there.some)

    cells : (i : ℕ) → r.from ≤ i → i < r.from + (r.to - r.from) → cell_of_row (column_in (block_at s.blocks r.block) at) i ≡ cell_at (row_of_place s ((r.block, i), None)) at
    cells i from to =
        let high : i < length (block_at s.blocks r.block).rows = omega (arith, run_there.within, run_there.some) in
        let row_there : IsRowAt s.blocks s.left (r.block, i) = record { block = run_there.block; row = high; kinds = run_there.kinds } in
        let few : length (block_at s.blocks r.block).kinds ≤ length s.left = few_kinds (block_at s.blocks r.block).kinds s.left run_there.kinds in
        let size : length (side_row s.blocks s.left (Some (r.block, i))) ≡ length s.left = length-side s.blocks s.left (r.block, i) row_there whole in
        let inside : at < length s.left = omega arith in
        cell_there s.blocks s.left (r.block, i) at row_there whole low ∙ cell_left s ((r.block, i), None) at (length s.left) size inside

pub column_in_run : (f : Cell → Bool) (s : ResultRows) (r : Run) (at : ℕ) → IsRunOf s r → IsWhole (block_at s.blocks r.block) → at < length (block_at s.blocks r.block).kinds
    → map f (slice_range (column_in (block_at s.blocks r.block) at).cells r.from r.to) ≡ map (λ p. f (cell_at (row_of_place s (p, None)) at)) (places_of_run r)
column_in_run f s r at run_there whole low =
    ap (map f) (cells_in_run s r at run_there whole low) ∙ map-map f (λ p. cell_at (row_of_place s (p, None)) at) (places_of_run r)

-- and those of two columns
pub columns_in_run : (f : Cell → Cell → Bool) (s : ResultRows) (r : Run) (at other : ℕ) → IsRunOf s r → IsWhole (block_at s.blocks r.block) → at < length (block_at s.blocks r.block).kinds → other < length (block_at s.blocks r.block).kinds
    → map (λ (p : Cell × Cell). f p.0 p.1) (zip (slice_range (column_in (block_at s.blocks r.block) at).cells r.from r.to) (slice_range (column_in (block_at s.blocks r.block) other).cells r.from r.to))
    ≡ map (λ p. f (cell_at (row_of_place s (p, None)) at) (cell_at (row_of_place s (p, None)) other)) (places_of_run r)
columns_in_run f s r at other run_there whole low less =
    ap (λ (l : List Cell). map (λ (p : Cell × Cell). f p.0 p.1) (zip l (slice_range (column_in (block_at s.blocks r.block) other).cells r.from r.to))) (cells_in_run s r at run_there whole low)
    ∙ ap (λ (l : List Cell). map (λ (p : Cell × Cell). f p.0 p.1) (zip (map (λ p. cell_at (row_of_place s (p, None)) at) (places_of_run r)) l)) (cells_in_run s r other run_there whole less)
    ∙ zip-with f (λ p. cell_at (row_of_place s (p, None)) at) (λ p. cell_at (row_of_place s (p, None)) other) (places_of_run r)

one_more : (k : ℕ) → k + 1 ≡ suc k
one_more k = omega arith

-- the next truth of two lists
both_next : (found more : List Bool) (k : ℕ) → k < length found → k < length more
    → map (λ (p : Bool × Bool). p.0 && p.1) (zip (drop k found) (drop k more)) ≡ (get_or found k false && get_or more k false) ∷ map (λ (p : Bool × Bool). p.0 && p.1) (zip (drop (suc k) found) (drop (suc k) more))
both_next [] more k h j = absurd (omega arith)
both_next (t ∷ ts) [] k h j = absurd (omega arith)
both_next (t ∷ ts) (x ∷ xs) zero h j = refl
both_next (t ∷ ts) (x ∷ xs) (suc k) h j = both_next ts xs k (omega arith) (omega arith)

pub also_next : (found more kept whole : List Bool) (k : ℕ) (x : Bool) → k < length found → k < length more → x ≡ (get_or found k false && get_or more k false)
    → kept ++ map (λ (p : Bool × Bool). p.0 && p.1) (zip (drop k found) (drop k more)) ≡ whole
    → (kept ++ x ∷ []) ++ map (λ (p : Bool × Bool). p.0 && p.1) (zip (drop (k + 1) found) (drop (k + 1) more)) ≡ whole
also_next found more kept whole k x h j one e =
    ap (λ n. (kept ++ x ∷ []) ++ map (λ (p : Bool × Bool). p.0 && p.1) (zip (drop n found) (drop n more))) (one_more k)
    ∙ append_assoc kept (x ∷ []) (map (λ (p : Bool × Bool). p.0 && p.1) (zip (drop (suc k) found) (drop (suc k) more)))
    ∙ ap (λ y. kept ++ y ∷ map (λ (p : Bool × Bool). p.0 && p.1) (zip (drop (suc k) found) (drop (suc k) more))) one
    ∙ ap (λ l. kept ++ l) (sym (both_next found more k h j))
    ∙ e

pub also_end : (found more kept whole : List Bool) (k : ℕ) → length found ≤ k → kept ++ map (λ (p : Bool × Bool). p.0 && p.1) (zip (drop k found) (drop k more)) ≡ whole → kept ≡ whole
also_end found more kept whole k h e =
    sym (append-nil kept) ∙ ap (λ l. kept ++ map (λ (p : Bool × Bool). p.0 && p.1) (zip l (drop k more))) (sym (drop_all k found h)) ∙ e

-- the truth of one row of a run
pub run_truth : (e : Bound) (s : ResultRows) (r : Run) (k : ℕ) → k < r.to - r.from → get_or (passes_in_run e s r) k false ≡ passes_at e s ((r.block, r.from + k), None)
run_truth e s r k low =
    get_or-map (λ p. passes_at e s (p, None)) (places_of_run r) k (0, 0) false (omega (arith, length-map-range_with_len {X = Spot} (λ i. (r.block, i)) r.from (r.to - r.from)))
    ∙ ap (λ p. passes_at e s (p, None)) (get_or-map-range_with_len (λ i. (r.block, i)) r.from (r.to - r.from) k (r.from + k) (0, 0) low refl)

pub length-run_truths : (e : Bound) (s : ResultRows) (r : Run) → length (passes_in_run e s r) ≡ r.to - r.from
length-run_truths e s r = length-map (places_of_run r) (λ p. passes_at e s (p, None)) ∙ length-map-range_with_len {X = Spot} (λ i. (r.block, i)) r.from (r.to - r.from)

pub run-null : (x : Bound) (s : ResultRows) (r : Run) → map (λ p. is_null (value x (row_of_place s (p, None)))) (places_of_run r) ≡ passes_in_run (is.IsNull x) s r
run-null x s r = map-same (λ p. is_null (value x (row_of_place s (p, None)))) (λ p. passes_at (is.IsNull x) s (p, None)) (places_of_run r) (λ p. ap is_true (sym (value-is_null x (row_of_place s (p, None)))))

-- the cells of a column that was found in a run's block
pub column_found : (f : Cell → Bool) (s : ResultRows) (r : Run) (at : ℕ) (b : Block) (column : CellsOf) → IsRunOf s r → slice_get s.blocks r.block ≡ Some b → IsWhole b → at < length b.kinds → column ≡ column_in b at
    → map f (slice_range column.cells r.from r.to) ≡ map (λ p. f (cell_at (row_of_place s (p, None)) at)) (places_of_run r)
column_found f s r at b column there found whole low e =
    let same : block_at s.blocks r.block ≡ b = block_found s.blocks r.block b found in
    ap (λ (c : CellsOf). map f (slice_range c.cells r.from r.to)) (e ∙ ap (λ (x : Block). column_in x at) (sym same))
    ∙ column_in_run f s r at there (subst IsWhole (sym same) whole) (subst (λ (x : Block). at < length x.kinds) (sym same) low)

pub columns_found : (f : Cell → Cell → Bool) (s : ResultRows) (r : Run) (at other : ℕ) (b : Block) (one two : CellsOf) → IsRunOf s r → slice_get s.blocks r.block ≡ Some b → IsWhole b → at < length b.kinds → other < length b.kinds → one ≡ column_in b at → two ≡ column_in b other
    → map (λ (p : Cell × Cell). f p.0 p.1) (zip (slice_range one.cells r.from r.to) (slice_range two.cells r.from r.to)) ≡ map (λ p. f (cell_at (row_of_place s (p, None)) at) (cell_at (row_of_place s (p, None)) other)) (places_of_run r)
columns_found f s r at other b one two there found whole low less e d =
    let same : block_at s.blocks r.block ≡ b = block_found s.blocks r.block b found in
    ap (λ (c : CellsOf). map (λ (p : Cell × Cell). f p.0 p.1) (zip (slice_range c.cells r.from r.to) (slice_range two.cells r.from r.to))) (e ∙ ap (λ (x : Block). column_in x at) (sym same))
    ∙ ap (λ (c : CellsOf). map (λ (p : Cell × Cell). f p.0 p.1) (zip (slice_range (column_in (block_at s.blocks r.block) at).cells r.from r.to) (slice_range c.cells r.from r.to))) (d ∙ ap (λ (x : Block). column_in x other) (sym same))
    ∙ columns_in_run f s r at other there (subst IsWhole (sym same) whole) (subst (λ (x : Block). at < length x.kinds) (sym same) low) (subst (λ (x : Block). other < length x.kinds) (sym same) less)

-- tests of columns and literals are those of their cells
column_value : (x : Bound) (at : ℕ) (row : Row) → x ≡ is.Column at → value x row ≡ cell_at row at
column_value x at row e = ap (λ (b : Bound). value b row) e ∙ value-column at row

literal_value : (x : Bound) (c : Cell) (row : Row) → x ≡ is.Literal c → value x row ≡ c
literal_value x c row e = ap (λ (b : Bound). value b row) e ∙ value-literal c row

pub run_by_literal : (op : Comparison) (x y : Bound) (at : ℕ) (c : Cell) (s : ResultRows) (r : Run) → x ≡ is.Column at → y ≡ is.Literal c
    → map (λ p. compares op (cell_at (row_of_place s (p, None)) at) c) (places_of_run r) ≡ map (λ p. compares op (value x (row_of_place s (p, None))) (value y (row_of_place s (p, None)))) (places_of_run r)
run_by_literal op x y at c s r e d =
    map-same (λ p. compares op (cell_at (row_of_place s (p, None)) at) c) (λ p. compares op (value x (row_of_place s (p, None))) (value y (row_of_place s (p, None)))) (places_of_run r)
    (λ p. sym (ap (λ (v : Cell). compares op v (value y (row_of_place s (p, None)))) (column_value x at (row_of_place s (p, None)) e) ∙ ap (compares op (cell_at (row_of_place s (p, None)) at)) (literal_value y c (row_of_place s (p, None)) d)))

pub run_by_columns : (op : Comparison) (x y : Bound) (at other : ℕ) (s : ResultRows) (r : Run) → x ≡ is.Column at → y ≡ is.Column other
    → map (λ p. compares op (cell_at (row_of_place s (p, None)) at) (cell_at (row_of_place s (p, None)) other)) (places_of_run r) ≡ map (λ p. compares op (value x (row_of_place s (p, None))) (value y (row_of_place s (p, None)))) (places_of_run r)
run_by_columns op x y at other s r e d =
    map-same (λ p. compares op (cell_at (row_of_place s (p, None)) at) (cell_at (row_of_place s (p, None)) other)) (λ p. compares op (value x (row_of_place s (p, None))) (value y (row_of_place s (p, None)))) (places_of_run r)
    (λ p. sym (ap (λ (v : Cell). compares op v (value y (row_of_place s (p, None)))) (column_value x at (row_of_place s (p, None)) e) ∙ ap (compares op (cell_at (row_of_place s (p, None)) at)) (column_value y other (row_of_place s (p, None)) d)))

pub run_by_column : (f : Cell → Bool) (x : Bound) (at : ℕ) (s : ResultRows) (r : Run) → x ≡ is.Column at
    → map (λ p. f (cell_at (row_of_place s (p, None)) at)) (places_of_run r) ≡ map (λ p. f (value x (row_of_place s (p, None)))) (places_of_run r)
run_by_column f x at s r e =
    map-same (λ p. f (cell_at (row_of_place s (p, None)) at)) (λ p. f (value x (row_of_place s (p, None)))) (places_of_run r) (λ p. ap f (sym (column_value x at (row_of_place s (p, None)) e)))

-- the truths of one test more
pub all_found : (tests : List Bound) (i : ℕ) (e : Bound) (s : ResultRows) (r : Run) (found more next : List Bool) → i < length tests → get_or tests i e ≡ e → found ≡ all_in_run (take i tests) s r → more ≡ passes_in_run e s r
    → next ≡ map (λ (p : Bool × Bool). p.0 && p.1) (zip found more) → next ≡ all_in_run (take (i + 1) tests) s r
all_found tests i e s r found more next low at so_far one new =
    new
    ∙ ap (λ (l : List Bool). map (λ (p : Bool × Bool). p.0 && p.1) (zip l more)) so_far
    ∙ ap (λ (l : List Bool). map (λ (p : Bool × Bool). p.0 && p.1) (zip (all_in_run (take i tests) s r) l)) one
    ∙ run-all-more (take i tests) e s r
    ∙ ap (λ (x : Bound). all_in_run (take i tests ++ x ∷ []) s r) (sym at)
    ∙ ap (λ (es : List Bound). all_in_run es s r) (sym (take_more tests i e low))

pub any_found : (tests : List Bound) (i : ℕ) (e : Bound) (s : ResultRows) (r : Run) (found more next : List Bool) → i < length tests → get_or tests i e ≡ e → found ≡ any_in_run (take i tests) s r → more ≡ passes_in_run e s r
    → next ≡ map (λ (p : Bool × Bool). p.0 || p.1) (zip found more) → next ≡ any_in_run (take (i + 1) tests) s r
any_found tests i e s r found more next low at so_far one new =
    new
    ∙ ap (λ (l : List Bool). map (λ (p : Bool × Bool). p.0 || p.1) (zip l more)) so_far
    ∙ ap (λ (l : List Bool). map (λ (p : Bool × Bool). p.0 || p.1) (zip (any_in_run (take i tests) s r) l)) one
    ∙ run-any-more (take i tests) e s r
    ∙ ap (λ (x : Bound). any_in_run (take i tests ++ x ∷ []) s r) (sym at)
    ∙ ap (λ (es : List Bound). any_in_run es s r) (sym (take_more tests i e low))

-- the truth of no test
pub no_test : (t : Bool) (r : Run) (n : ℕ) → n ≡ r.to - r.from → replicate n t ≡ map (λ p. t) (places_of_run r)
no_test t r n e = splat_is_map (places_of_run r) n t (length-map-range_with_len {X = Spot} (λ i. (r.block, i)) r.from (r.to - r.from) ∙ sym e)

pub size_all : (es : List Bound) (s : ResultRows) (r : Run) (found : List Bool) → found ≡ all_in_run es s r → length found ≡ r.to - r.from
size_all es s r found e = ap length e ∙ length-map (places_of_run r) (λ p. list_all (λ x. passes_at x s (p, None)) es) ∙ length-map-range_with_len {X = Spot} (λ i. (r.block, i)) r.from (r.to - r.from)

-- the same where the block is lent once for each call
pub column_lent : (f : Cell → Bool) (s : ResultRows) (r : Run) (at : ℕ) (b one two three : Block) (column : CellsOf) → IsRunOf s r → slice_get s.blocks r.block ≡ Some b → one ≡ b → IsWhole one → two ≡ b → at < length two.kinds → three ≡ b → column ≡ column_in three at
    → map f (slice_range column.cells r.from r.to) ≡ map (λ p. f (cell_at (row_of_place s (p, None)) at)) (places_of_run r)
column_lent f s r at b one two three column there found e whole d low c is_column =
    column_found f s r at b column there found (subst IsWhole e whole) (subst (λ (x : Block). at < length x.kinds) d low) (is_column ∙ ap (λ (x : Block). column_in x at) c)

pub columns_lent : (f : Cell → Cell → Bool) (s : ResultRows) (r : Run) (at other : ℕ) (b one two three four five : Block) (x y : CellsOf) → IsRunOf s r → slice_get s.blocks r.block ≡ Some b → one ≡ b → IsWhole one → two ≡ b → at < length two.kinds → three ≡ b → other < length three.kinds
    → four ≡ b → x ≡ column_in four at → five ≡ b → y ≡ column_in five other
    → map (λ (p : Cell × Cell). f p.0 p.1) (zip (slice_range x.cells r.from r.to) (slice_range y.cells r.from r.to)) ≡ map (λ p. f (cell_at (row_of_place s (p, None)) at) (cell_at (row_of_place s (p, None)) other)) (places_of_run r)
columns_lent f s r at other b one two three four five x y there found e whole d low h less i is_x j is_y =
    columns_found f s r at other b x y there found (subst IsWhole e whole) (subst (λ (z : Block). at < length z.kinds) d low) (subst (λ (z : Block). other < length z.kinds) h less)
    (is_x ∙ ap (λ (z : Block). column_in z at) i) (is_y ∙ ap (λ (z : Block). column_in z other) j)

-- the cells themselves
pub cells_lent : (s : ResultRows) (r : Run) (at : ℕ) (b one two three : Block) (column : CellsOf) → IsRunOf s r → slice_get s.blocks r.block ≡ Some b → one ≡ b → IsWhole one → two ≡ b → at < length two.kinds → three ≡ b → column ≡ column_in three at
    → slice_range column.cells r.from r.to ≡ map (λ p. cell_at (row_of_place s (p, None)) at) (places_of_run r)
cells_lent s r at b one two three column there found e whole d low c is_column =
    let same : b ≡ block_at s.blocks r.block = sym (block_found s.blocks r.block b found) in
    ap (λ (x : CellsOf). slice_range x.cells r.from r.to) (is_column ∙ ap (λ (x : Block). column_in x at) (c ∙ same))
    ∙ cells_in_run s r at there (subst IsWhole (e ∙ same) whole) (subst (λ (x : Block). at < length x.kinds) (d ∙ same) low)

-- one value on each row
pub constant_rows : {X : Type 0} (t : X) (r : Run) (n : ℕ) → n ≡ r.to - r.from → replicate n t ≡ map (λ p. t) (places_of_run r)
constant_rows t r n e = splat_is_map (places_of_run r) n t (length-map-range_with_len {X = Spot} (λ i. (r.block, i)) r.from (r.to - r.from) ∙ sym e)
