-- Rows in order of time are the rows put into a table one after another.
use Rattle.std.proofs.Common.{◌≡◌, ◌≢◌, ℕ, ◌<◌, inl, inr, List, [], ◌∷◌, length, map, get_or, refl, sym, ap, ◌∙◌, arith, All, subst, zero-add}
use Rattle.std.specs.List.{range_with_len, AllByRecursion}
use Rattle.std.specs.List.Sorted.{IsNonDecreasing}
use Rattle.std.proofs.lemmas.Bool.Decides.{eqb_tells}
use Rattle.std.proofs.lemmas.List.{get_or-map, length-map, ext_get_or}
use Rattle.std.proofs.lemmas.List.Sorted.{All-permutation, length_permutation}
use Rattle.std.proofs.lemmas.List.FromFn.{get_or-map-range_with_len, length-map-range_with_len, get_or-range_with_len, length-range_with_len}
use Rattle.std.proofs.lemmas.List.Elements.{All-from_recursion, recursion_from_All}
use Rattle.qd_base.specs.declared.cell.Cell.{Cell}
use Rattle.qd_base.specs.declared.cell.Cell.TheVariants as cell
use Rattle.qd_base.specs.declared.limits.TheConstants.{NULL_TIME}
use Rattle.qd_base.specs.Rows.{Row, cell_at, time_in, time_of}
use Rattle.qd_base.specs.Laws.{IsInOrder, at_time}
use Rattle.qd_base.proofs.Lists.{each-map}
use Rattle.qd_base.proofs.Sorted.{images_in_order, images_of_time, stable_is_put}
use Rattle.qd_column.specs.Cells.{CellsOf, time_cell}
use Rattle.qd_block.specs.Blocks.{row_at, rows_of, IsTimed, in_time_order}
use Rattle.qd_block.specs.Order.{placed, IsOrderOf}
use Rattle.qd_block.specs.declared.order.Placed.{Placed}
use Rattle.qd_block.proofs.RowLemmas.{length-rows_of, get_or-rows_of, cell_at-row_at}

-- the moments of a column of times
pub record AreTimes (n col : ℕ) (columns : List CellsOf) (times : List ℕ) : Type 0 where
  pub count : length times ≡ n
  pub each : (i : ℕ) → i < n → cell_at (row_at columns i) col ≡ cell.Time (get_or times i 0)

time_shown : (t : ℕ) → time_cell t ≢ cell.Null → time_cell t ≡ cell.Time t
time_shown t some = elim (eqb_tells t NULL_TIME) [ inl null ↦ absurd (some (rw null.0 refl)) | inr time ↦ rw time.0 refl ]

pub are_times : (n col : ℕ) (columns : List CellsOf) (times : List ℕ) (d : CellsOf) → col < length columns → length (get_or columns col d).cells ≡ n → (get_or columns col d).cells ≡ map time_cell times → AllByRecursion (IsTimed col) (rows_of n columns) → AreTimes n col columns times
are_times n col columns times d there size cells timed =
    let count : length times ≡ n = sym (length-map times time_cell) ∙ ap length (sym cells) ∙ size in
    record {
      count = count;
      each = λ i low.
          let at : cell_at (row_at columns i) col ≡ time_cell (get_or times i 0) = cell_at-row_at columns i col d there ∙ ap (λ (cs : List Cell). get_or cs i cell.Null) cells ∙ get_or-map time_cell times i 0 cell.Null (omega arith) in
          let some : IsTimed col (row_at columns i) = subst (IsTimed col) (get_or-rows_of n i columns [] low) (All-from_recursion (IsTimed col) (rows_of n columns) timed i [] (omega (arith, length-rows_of n columns))) in
          at ∙ time_shown (get_or times i 0) (λ null. some (at ∙ null));
    }

-- rows whose times rise are in order as they are
pub rows_rise : (n col : ℕ) (columns : List CellsOf) (times : List ℕ) → AreTimes n col columns times → IsNonDecreasing times → IsInOrder col (rows_of n columns)
rows_rise n col columns times are rising =
    let at : (i d : ℕ) → i < n → get_or (range_with_len 0 n) i d ≡ i = λ i d h. get_or-range_with_len 0 n i d h ∙ zero-add i in
    let size = length-range_with_len 0 n in
    images_in_order col (row_at columns) (λ i. get_or times i 0) (range_with_len 0 n) (λ i j d low high. let small : j < n = omega (arith, size) in rw (at i d (omega arith), at j d small) (rising i j 0 low (omega (arith, are.count)))) (λ k d lt. let small : k < n = omega (arith, size) in rw (at k d small) (ap time_in (are.each k small)))

-- the row of a place
abbrev pub row_of : List CellsOf → Placed → Row
row_of columns p = row_at columns p.place

map-map : {X Y Z : Type 0} (f : Y → Z) (g : X → Y) (xs : List X) → map f (map g xs) ≡ map (λ x. f (g x)) xs
map-map f g [] = refl
map-map f g (x ∷ xs) = ap (λ l. f (g x) ∷ l) (map-map f g xs)

pub map_places : (columns : List CellsOf) (ps : List Placed) → map (row_at columns) (map (λ (p : Placed). p.place) ps) ≡ map (row_of columns) ps
map_places columns ps = map-map (row_at columns) (λ (p : Placed). p.place) ps

-- facts of the places of times
places_hold : (n col : ℕ) (columns : List CellsOf) (times : List ℕ) → AreTimes n col columns times → All (λ p. (time_of col (row_of columns p) ≡ p.time) × IsTimed col (row_of columns p) × (p.place < n)) (placed times)
places_hold n col columns times are k d lt =
    let make : ℕ → Placed = λ i. record { time = get_or times i 0; place = i } in
    let low : k < length times = omega (arith, length-map-range_with_len make 0 (length times)) in
    let small : k < n = omega (arith, are.count) in
    let at : get_or (placed times) k d ≡ make k = get_or-map-range_with_len make 0 (length times) k k d low (omega arith) in
    let P : Placed → Type 0 = λ p. (time_of col (row_of columns p) ≡ p.time) × IsTimed col (row_of columns p) × (p.place < n) in
    subst P (sym at) (ap time_in (are.each k small), λ null. let e : cell.Time (get_or times k 0) ≡ cell.Null = sym (are.each k small) ∙ null in cc, small)

-- rows at places in order of time
pub record ArePlaced (n col : ℕ) (columns : List CellsOf) (places : List ℕ) : Type 0 where
  pub count : length places ≡ n
  pub within : All (λ i. i < n) places
  pub order : IsInOrder col (map (row_at columns) places)
  pub timed : AllByRecursion (IsTimed col) (map (row_at columns) places)
  pub rows : map (row_at columns) places ≡ in_time_order col (rows_of n columns)

pub are_placed : (n col : ℕ) (columns : List CellsOf) (times : List ℕ) (ps : List Placed) → AreTimes n col columns times → IsOrderOf times ps → ArePlaced n col columns (map (λ (p : Placed). p.place) ps)
are_placed n col columns times ps are order =
    let P : Placed → Type 0 = λ p. (time_of col (row_of columns p) ≡ p.time) × IsTimed col (row_of columns p) × (p.place < n) in
    let first = places_hold n col columns times are in
    let hold : All P ps = All-permutation P (placed times) ps order.moved first in
    let make : ℕ → Placed = λ i. record { time = get_or times i 0; place = i } in
    let all_rows : map (row_of columns) (placed times) ≡ rows_of n columns = map-map (row_of columns) make (range_with_len 0 (length times)) ∙ ap (λ (k : ℕ). map (row_at columns) (range_with_len 0 k)) are.count in
    let sorted : IsInOrder col (map (row_of columns) ps) = images_in_order col (row_of columns) (λ (p : Placed). p.time) ps order.in_order (λ k d lt. (hold k d lt).0) in
    let same : (t : ℕ) → at_time col t (map (row_of columns) ps) ≡ at_time col t (rows_of n columns) = λ t. images_of_time col (row_of columns) (λ (p : Placed). p.time) t ps (λ k d lt. (hold k d lt).0) ∙ ap (map (row_of columns)) (order.stable t) ∙ sym (images_of_time col (row_of columns) (λ (p : Placed). p.time) t (placed times) (λ k d lt. (first k d lt).0)) ∙ ap (at_time col t) all_rows in
    let chosen = map_places columns ps in
    record {
      count = length-map ps (λ (p : Placed). p.place) ∙ length_permutation (placed times) ps order.moved ∙ length-map-range_with_len make 0 (length times) ∙ are.count;
      within = λ k d lt. let low : k < length ps = omega (arith, length-map ps (λ (p : Placed). p.place)) in let q : Placed = record { time = 0; place = 0 } in subst (λ (i : ℕ). i < n) (sym (get_or-map (λ (p : Placed). p.place) ps k q d low)) (hold k q low).2;
      order = subst (IsInOrder col) (sym chosen) sorted;
      timed = subst (λ (rs : List Row). AllByRecursion (IsTimed col) rs) (sym chosen) (each-map (row_of columns) (IsTimed col) ps (recursion_from_All (λ p. IsTimed col (row_of columns p)) ps (λ k d lt. (hold k d lt).1)));
      rows = chosen ∙ stable_is_put col (map (row_of columns) ps) (rows_of n columns) sorted same;
    }

-- rows at places in order of time
abbrev pub row_there : List Row → Placed → Row
row_there rows p = get_or rows p.place []

all_there : (rows : List Row) (n : ℕ) → n ≡ length rows → map (λ i. get_or rows i []) (range_with_len 0 n) ≡ rows
all_there rows n size =
    let f : ℕ → Row = λ i. get_or rows i [] in
    let count : length (map f (range_with_len 0 n)) ≡ n = length-map-range_with_len f 0 n in
    ext_get_or [] (map f (range_with_len 0 n)) rows (count ∙ size) (λ i h. let low : i < n = omega (arith, count) in get_or-map-range_with_len f 0 n i i [] low (omega arith))

times_there : (col : ℕ) (rows : List Row) (times : List ℕ) → map (time_of col) rows ≡ times → All (λ p. (time_of col (row_there rows p) ≡ p.time) × (p.place < length times)) (placed times)
times_there col rows times are k d lt =
    let make : ℕ → Placed = λ i. record { time = get_or times i 0; place = i } in
    let size : length times ≡ length rows = ap length (sym are) ∙ length-map rows (time_of col) in
    let low : k < length times = omega (arith, length-map-range_with_len make 0 (length times)) in
    let at : get_or (placed times) k d ≡ make k = get_or-map-range_with_len make 0 (length times) k k d low (omega arith) in
    let time : time_of col (get_or rows k []) ≡ get_or times k 0 = sym (get_or-map (time_of col) rows k [] 0 (omega arith)) ∙ ap (λ (ts : List ℕ). get_or ts k 0) are in
    let P : Placed → Type 0 = λ p. (time_of col (row_there rows p) ≡ p.time) × (p.place < length times) in
    subst P (sym at) (time, low)

pub places_within : (times : List ℕ) (ps : List Placed) → IsOrderOf times ps → All (λ i. i < length times) (map (λ (p : Placed). p.place) ps)
places_within times ps order =
    let make : ℕ → Placed = λ i. record { time = get_or times i 0; place = i } in
    let P : Placed → Type 0 = λ p. p.place < length times in
    let first : All P (placed times) = λ k d lt. let low : k < length times = omega (arith, length-map-range_with_len make 0 (length times)) in subst P (sym (get_or-map-range_with_len make 0 (length times) k k d low (omega arith))) low in
    let hold : All P ps = All-permutation P (placed times) ps order.moved first in
    λ k d lt. let low : k < length ps = omega (arith, length-map ps (λ (p : Placed). p.place)) in let q : Placed = record { time = 0; place = 0 } in subst (λ (i : ℕ). i < length times) (sym (get_or-map (λ (p : Placed). p.place) ps k q d low)) (hold k q low)

pub rows_placed : (col : ℕ) (rows : List Row) (times : List ℕ) (ps : List Placed) → map (time_of col) rows ≡ times → IsOrderOf times ps → map (λ i. get_or rows i []) (map (λ (p : Placed). p.place) ps) ≡ in_time_order col rows
rows_placed col rows times ps are order =
    let R : Placed → Row = row_there rows in
    let make : ℕ → Placed = λ i. record { time = get_or times i 0; place = i } in
    let first = times_there col rows times are in
    let hold = All-permutation (λ p. (time_of col (R p) ≡ p.time) × (p.place < length times)) (placed times) ps order.moved first in
    let size : length times ≡ length rows = ap length (sym are) ∙ length-map rows (time_of col) in
    let all_rows : map R (placed times) ≡ rows = map-map R make (range_with_len 0 (length times)) ∙ all_there rows (length times) size in
    let sorted : IsInOrder col (map R ps) = images_in_order col R (λ (p : Placed). p.time) ps order.in_order (λ k d lt. (hold k d lt).0) in
    let same : (t : ℕ) → at_time col t (map R ps) ≡ at_time col t rows = λ t. images_of_time col R (λ (p : Placed). p.time) t ps (λ k d lt. (hold k d lt).0) ∙ ap (map R) (order.stable t) ∙ sym (images_of_time col R (λ (p : Placed). p.time) t (placed times) (λ k d lt. (first k d lt).0)) ∙ ap (at_time col t) all_rows in
    map-map (λ i. get_or rows i []) (λ (p : Placed). p.place) ps ∙ stable_is_put col (map R ps) rows sorted same
