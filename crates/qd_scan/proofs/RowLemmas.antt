-- Rows of a block as those of a table.
use Rattle.std.proofs.Common.{◌≡◌, ℕ, zero, suc, ◌+◌, ◌-◌, ◌<◌, ◌≤◌, Bool, List, [], ◌∷◌, ◌++◌, Some, length, map, take, drop, get_or, refl, sym, ap, ◌∙◌, arith, All, subst, inl, inr, leb, slice_get, slice_range}
use Rattle.std.specs.Prelude.{filter, ◌&&◌}
use Rattle.std.specs.List.{AllZip, AllByRecursion}
use Rattle.std.specs.List.Sorted.{IsNonDecreasing}
use Rattle.std.proofs.lemmas.Bool.{cases_lt}
use Rattle.std.proofs.lemmas.List.{get_or-map, get_or_append_left, get_or_default, length-map}
use Rattle.std.proofs.lemmas.List.Elements.{All-map, All-from_recursion, recursion_from_All}
use Rattle.qd_base.specs.declared.cell.Cell.{Cell}
use Rattle.qd_base.specs.declared.cell.Cell.TheVariants as cell
use Rattle.qd_base.specs.declared.schema.Col.{Col}
use Rattle.qd_base.specs.declared.schema.ColType.{ColType}
use Rattle.qd_base.specs.declared.schema.ColType.TheVariants as kind
use Rattle.qd_base.specs.declared.schema.Schema.{Schema}
use Rattle.qd_base.specs.Database.{missing}
use Rattle.qd_base.specs.Lawful.{HasKinds, IsRowOf, Takes}
use Rattle.qd_base.specs.Laws.{IsInOrder}
use Rattle.qd_base.specs.Rows.{Row, cell_at, time_in, time_of}
use Rattle.qd_block.specs.Blocks.{Block, IsTimed, IsWhole}
use Rattle.qd_block.proofs.RowLemmas.{got_there}
use Rattle.qd_rows.specs.Sets.{absent}
use Rattle.qd_scan.specs.Scans.{IsBetween}
use Rattle.qd_scan.specs.Sources.{rows_between, table_rows}
use Rattle.qd_scan.proofs.TimeLemmas.{filter_images, filter_part, is_between, passes_between, fails_before, fails_behind}

-- a row of a block as one of a table
abbrev pub as_row : List Col → Block → Row → Row
as_row cols b r = r ++ absent (drop (length b.kinds) cols)

pub designated : (b : Block) → IsWhole b → b.time_col < length b.kinds
designated b whole = got_there b.kinds b.time_col kind.Time whole.designated

pub long_enough : (b : Block) → IsWhole b → All (λ r. b.time_col < length r) b.rows
long_enough b whole k d lt = let size : length (get_or b.rows k d) ≡ length b.kinds = whole.cells k d lt in let low = designated b whole in omega arith

-- it has the cells that it had
pub cell_stays : (col : ℕ) (r more : Row) → col < length r → cell_at (r ++ more) col ≡ cell_at r col
cell_stays col r more h = get_or_append_left r more cell.Null col h

pub time_stays : (col : ℕ) (r more : Row) → col < length r → time_of col (r ++ more) ≡ time_of col r
time_stays col r more h = ap time_in (cell_stays col r more h)

-- rows in order stay so where their times do
in_order_like : (col : ℕ) (f : Row → Row) (rows : List Row) → All (λ r. time_of col (f r) ≡ time_of col r) rows → IsInOrder col rows → IsInOrder col (map f rows)
in_order_like col f [] same order = tt
in_order_like col f (r ∷ rows) same order = (
  recursion_from_All (λ x. time_of col (f r) ≤ time_of col x) (map f rows)
      (All-map (λ x. time_of col (f r) ≤ time_of col x) f rows
      (λ k d lt. let le = All-from_recursion (λ x. time_of col r ≤ time_of col x) rows order.0 k d lt in let one = same zero r (omega arith) in let two = same (suc k) d (omega arith) in omega (arith, le, one, two))),
  in_order_like col f rows (λ k d lt. same (suc k) d (omega arith)) order.1,
)

pub table_in_order : (cols : List Col) (b : Block) → IsWhole b → IsInOrder b.time_col (table_rows cols b)
table_in_order cols b whole = in_order_like b.time_col (as_row cols b) b.rows (λ k d lt. time_stays b.time_col (get_or b.rows k d) (absent (drop (length b.kinds) cols)) (long_enough b whole k d lt)) whole.order

-- each time is at most every later one
pub times_rise : (col : ℕ) (rows : List Row) → IsInOrder col rows → (i j : ℕ) → i ≤ j → j < length rows → time_of col (get_or rows i []) ≤ time_of col (get_or rows j [])
times_rise col [] order i j low high = absurd (omega arith)
times_rise col (r ∷ rows) order zero zero low high = omega arith
times_rise col (r ∷ rows) order zero (suc j) low high = All-from_recursion (λ x. time_of col r ≤ time_of col x) rows order.0 j [] (omega arith)
times_rise col (r ∷ rows) order (suc i) zero low high = absurd (omega arith)
times_rise col (r ∷ rows) order (suc i) (suc j) low high = times_rise col rows order.1 i j (omega arith) (omega arith)

-- the moments that a block lends are its rows' times
pub record AreLent (b : Block) (times : List ℕ) : Type 0 where
  pub count : length times ≡ length b.rows
  pub each : (k : ℕ) → k < length b.rows → time_of b.time_col (get_or b.rows k []) ≡ get_or times k 0

pub are_lent : (b : Block) (times : List ℕ) → map (λ t. cell.Time t) times ≡ map (λ r. cell_at r b.time_col) b.rows → AreLent b times
are_lent b times lent =
    let count : length times ≡ length b.rows = sym (length-map times (λ t. cell.Time t)) ∙ ap length lent ∙ length-map b.rows (λ r. cell_at r b.time_col) in
    record {
      count = count;
      each = λ k lt. ap time_in (sym (get_or-map (λ r. cell_at r b.time_col) b.rows k [] cell.Null lt) ∙ ap (λ (l : List Cell). get_or l k cell.Null) (sym lent) ∙ get_or-map (λ t. cell.Time t) times k 0 cell.Null (omega arith));
    }

pub lent_rise : (b : Block) (times : List ℕ) → IsWhole b → AreLent b times → IsNonDecreasing times
lent_rise b times whole are i j d low high =
    let less = times_rise b.time_col b.rows whole.order i j low (omega (arith, are.count)) in
    let one = are.each i (omega (arith, are.count)) in
    let two = are.each j (omega (arith, are.count)) in
    let at : (k : ℕ) → k < length times → get_or times k d ≡ get_or times k 0 = λ k lt. get_or_default times k d 0 lt in
    let three = at i (omega arith) in
    let four = at j high in
    omega (arith, less, one, two, three, four)

-- a fact of each row's time is one of the table's
pub table_each : (P : ℕ → Type 0) (cols : List Col) (b : Block) → IsWhole b → All (λ r. P (time_of b.time_col r)) b.rows → All (λ r. P (time_of b.time_col r)) (table_rows cols b)
table_each P cols b whole h =
    All-map (λ r. P (time_of b.time_col r)) (as_row cols b) b.rows
    (λ k d lt. subst P (sym (time_stays b.time_col (get_or b.rows k d) (absent (drop (length b.kinds) cols)) (long_enough b whole k d lt))) (h k d lt))

-- the times of rows in order lie between the first and the last
pub between_ends : (col lo hi : ℕ) (rows : List Row) → IsInOrder col rows → time_of col (get_or rows 0 []) ≡ lo → time_of col (get_or rows (length rows - 1) []) ≡ hi → All (IsBetween col lo hi) rows
between_ends col lo hi rows order first last k d lt =
    let low = times_rise col rows order 0 k (omega arith) lt in
    let high = times_rise col rows order k (length rows - 1) (omega arith) (omega arith) in
    let here : time_of col (get_or rows k d) ≡ time_of col (get_or rows k []) = ap (time_of col) (get_or_default rows k d [] lt) in
    (omega (arith, low, here, first), omega (arith, high, here, last))

-- the cells of a row and those of the columns that it lacks fit
pub fits_all : (n : ℕ) (cols : List Col) (r : Row) → HasKinds (take n cols) r → HasKinds cols (r ++ absent (drop n cols))
fits_all zero cols [] h = absent_fit cols
  where
    missing_fits : (k : ColType) → Takes k (missing k)
    missing_fits kind.Long = tt
    missing_fits kind.Bool = tt
    missing_fits kind.Symbol = tt
    missing_fits kind.Varchar = tt
    missing_fits kind.Time = tt

    absent_fit : (cols : List Col) → HasKinds cols (absent cols)
    absent_fit [] = tt
    absent_fit (c ∷ cs) = (missing_fits c.kind, absent_fit cs)
fits_all zero cols (x ∷ r) h = absurd h
fits_all (suc n) [] [] h = tt
fits_all (suc n) [] (x ∷ r) h = absurd h
fits_all (suc n) (c ∷ cs) [] h = absurd h
fits_all (suc n) (c ∷ cs) (x ∷ r) h = (h.0, fits_all n cs r h.1)

-- a block's rows as a table's
pub table_fits : (s : Schema) (b : Block) → IsWhole b → b.time_col ≡ s.time_col → All (HasKinds (take (length b.kinds) s.cols)) b.rows → All (IsRowOf s) (table_rows s.cols b)
table_fits s b whole same fit =
    All-map (IsRowOf s) (as_row s.cols b) b.rows
    (λ k d lt.
    let r : Row = get_or b.rows k d in
    let timed : IsTimed b.time_col r = All-from_recursion (IsTimed b.time_col) b.rows whole.timed k d lt in
    let stays : cell_at (as_row s.cols b r) b.time_col ≡ cell_at r b.time_col = cell_stays b.time_col r (absent (drop (length b.kinds) s.cols)) (long_enough b whole k d lt) in
    record {
      kinds = fits_all (length b.kinds) s.cols r (fit k d lt);
      timed = λ null. timed (sym stays ∙ ap (cell_at (as_row s.cols b r)) same ∙ null);
    })

-- where the rows of a block lie that have a time from one moment to another
pub record IsFound (b : Block) (lo hi from to : ℕ) : Type 0 where
  pub ordered : from ≤ to
  pub there : to ≤ length b.rows
  pub rows : rows_between b.time_col lo hi b.rows ≡ slice_range b.rows from to

pub rows_found : (b : Block) (times : List ℕ) (lo hi from to : ℕ) → lo ≤ hi → AreLent b times → from ≤ length times → to ≤ length times
    → ((k : ℕ) → k < from → get_or times k 0 < lo) → ((k : ℕ) → from ≤ k → k < length times → lo ≤ get_or times k 0)
    → ((k : ℕ) → k < to → get_or times k 0 ≤ hi) → ((k : ℕ) → to ≤ k → k < length times → hi < get_or times k 0)
    → IsFound b lo hi from to
rows_found b times lo hi from to some are low_from low_to before behind until after =
    let col = b.time_col in
    let size : length times ≡ length b.rows = are.count in
    let at : (k : ℕ) (d : Row) → k < length b.rows → time_of col (get_or b.rows k d) ≡ get_or times k 0 = λ k d lt. ap (time_of col) (get_or_default b.rows k d [] lt) ∙ are.each k lt in
    let ordered : from ≤ to = ordered_ends times lo hi from to some low_from before after in
    let count : from + (to - from) ≡ to = omega arith in
    record {
      ordered = ordered;
      there = omega arith;
      rows = filter_part (is_between col lo hi) b.rows from (to - from) (omega arith)
          (λ k d lt. let e = at k d (omega arith) in let x = before k lt in fails_before col lo hi (get_or b.rows k d) (omega (arith, e, x)))
          (λ k d ge lt. let e = at k d (omega arith) in let x = behind k ge (omega arith) in let y = until k (omega arith) in passes_between col lo hi (get_or b.rows k d) (omega (arith, e, x)) (omega (arith, e, y)))
          (λ k d ge lt. let e = at k d lt in let x = after k (omega arith) (omega arith) in fails_behind col lo hi (get_or b.rows k d) (omega (arith, e, x)));
    }
  where
    ordered_ends : (times : List ℕ) (lo hi from to : ℕ) → lo ≤ hi → from ≤ length times → ((k : ℕ) → k < from → get_or times k 0 < lo) → ((k : ℕ) → to ≤ k → k < length times → hi < get_or times k 0) → from ≤ to
    ordered_ends times lo hi from to some low before after =
        elim (cases_lt to from) [
          | inl lt ↦ absurd (let early = before to lt in let late = after to (omega arith) (omega arith) in omega arith)
          | inr ge ↦ ge
        ]

-- the rows of the table with a time from one moment to another
pub table_between : (cols : List Col) (b : Block) (lo hi from to : ℕ) → IsWhole b → rows_between b.time_col lo hi b.rows ≡ slice_range b.rows from to → rows_between b.time_col lo hi (table_rows cols b) ≡ map (as_row cols b) (slice_range b.rows from to)
table_between cols b lo hi from to whole found =
    filter_images (is_between b.time_col lo hi) (is_between b.time_col lo hi) (as_row cols b) b.rows (λ k d lt. ap (λ t. leb lo t && leb t hi) (time_stays b.time_col (get_or b.rows k d) (absent (drop (length b.kinds) cols)) (long_enough b whole k d lt)))
    ∙ ap (map (as_row cols b)) found
