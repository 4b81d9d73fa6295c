-- Rows that pass, and the runs that they come from.
use Rattle.std.proofs.Common.{◌≡◌, ℕ, zero, suc, ◌+◌, ◌-◌, ◌<◌, ◌≤◌, ◌⊎◌, inl, inr, List, [], ◌∷◌, ◌++◌, Option, Some, None, length, map, take, drop, get_or, refl, sym, ap, ◌∙◌, arith, subst, append_assoc, slice_get}
use Rattle.std.specs.Prelude.{Bool, true, false, cond, filter}
use Rattle.std.specs.List.{range_with_len}
use Rattle.std.proofs.Math.Seq.{drop-cons}
use Rattle.std.proofs.lemmas.Bool.{cases_order}
use Rattle.std.proofs.lemmas.List.{map-append, get_or-map, length-map, append-nil, drop_all, take_more}
use Rattle.std.proofs.lemmas.Option.{get_or_from_slice_get}
use Rattle.std.proofs.lemmas.List.FromFn.{length-map-range_with_len, get_or-map-range_with_len}
use Rattle.std.proofs.lemmas.List.Elements.{filter-append}
use Rattle.qd_base.specs.Rows.{Row}
use Rattle.qd_block.specs.Blocks.{Block, kinds_in}
use Rattle.qd_block.proofs.RowLemmas.{got_there}
use Rattle.qd_rows.specs.declared.runs.Run.{Run}
use Rattle.qd_rows.specs.Runs.{Spot, places_of_run, places_of_runs}
use Rattle.qd_rows.specs.Sets.{ResultRows, Joined, alone, block_at, row_of_place, rows_in, with_place, IsPlaced, IsRunOf}
use Rattle.qd_value.specs.declared.bound.Bound.{Bound}
use Rattle.qd_value.specs.Value.{passes}
use Rattle.qd_expr.proofs.ListLemmas.{map-map}
use Rattle.qd_expr.specs.Passing.{chosen, passes_at, passes_in_run, passing, with_places}

-- the images of those whose images pass are the images that pass
pub filter-image : {X Y : Type 0} (f : X → Y) (q : Y → Bool) (xs : List X) → map f (filter (λ x. q (f x)) xs) ≡ filter q (map f xs)
filter-image f q [] = refl
filter-image f q (x ∷ xs) = by f (q (f x)) x (filter (λ x. q (f x)) xs) ∙ ap (λ l. cond (q (f x)) (f x ∷ l) l) (filter-image f q xs)
  where
    by : {X Y : Type 0} (f : X → Y) (b : Bool) (x : X) (l : List X) → map f (cond b (x ∷ l) l) ≡ cond b (f x ∷ map f l) (map f l)
    by f true x l = refl
    by f false x l = refl

pub rows_passing : (e : Bound) (s : ResultRows) → rows_in (passing e s) ≡ filter (passes e) (rows_in s)
rows_passing e s = filter-image (row_of_place s) (passes e) s.places

-- the items at which their test is true are those that pass
pub chosen-passing : {X : Type 0} (p : X → Bool) (xs : List X) → chosen (map p xs) xs ≡ filter p xs
chosen-passing p [] = refl
chosen-passing p (x ∷ xs) = ap (λ l. cond (p x) (x ∷ l) l) (chosen-passing p xs)

zero_add : (n : ℕ) → zero + n ≡ n
zero_add n = omega arith

add_zero : (a : ℕ) → a ≡ a + zero
add_zero a = omega arith

suc_add : (m n : ℕ) → suc m + n ≡ suc (m + n)
suc_add m n = omega arith

one_add : (a m : ℕ) → a + 1 + m ≡ a + suc m
one_add a m = omega arith

range_split : (a m n : ℕ) → range_with_len a (m + n) ≡ range_with_len a m ++ range_with_len (a + m) n
range_split a zero n = ap (λ k. range_with_len a k) (zero_add n) ∙ ap (λ k. range_with_len k n) (add_zero a)
range_split a (suc m) n = ap (λ k. range_with_len a k) (suc_add m n) ∙ ap (λ l. a ∷ l) (range_split (a + 1) m n ∙ ap (λ k. range_with_len (a + 1) m ++ range_with_len k n) (one_add a m))

-- a run cut in two
pub run_cut : (block from middle to b c d : ℕ) → from ≤ middle → middle ≤ to
    → places_of_run (record { block = block; from = from; to = to; before = b })
    ≡ places_of_run (record { block = block; from = from; to = middle; before = c }) ++ places_of_run (record { block = block; from = middle; to = to; before = d })
run_cut block from middle to b c d low high =
    ap (λ k. map (λ i. (block, i)) (range_with_len from k)) whole
    ∙ ap (map (λ i. (block, i))) (range_split from (middle - from) (to - middle) ∙ ap (λ k. range_with_len from (middle - from) ++ range_with_len k (to - middle)) at)
    ∙ map-append (λ i. (block, i)) (range_with_len from (middle - from)) (range_with_len middle (to - middle))
  where
    whole : to - from ≡ (middle - from) + (to - middle)
    whole = omega arith

    at : from + (middle - from) ≡ middle
    at = omega arith

-- the next item is chosen where its truth is true
pub chosen_next : {X : Type 0} (found : List Bool) (xs : List X) (k : ℕ) (d : X) → k < length found → k < length xs
    → chosen (drop k found) (drop k xs) ≡ cond (get_or found k false) (get_or xs k d ∷ chosen (drop (suc k) found) (drop (suc k) xs)) (chosen (drop (suc k) found) (drop (suc k) xs))
chosen_next [] xs k d h j = absurd (omega arith)
chosen_next (t ∷ ts) [] k d h j = absurd (omega arith)
chosen_next (t ∷ ts) (x ∷ xs) zero d h j = refl
chosen_next (t ∷ ts) (x ∷ xs) (suc k) d h j = chosen_next ts xs k d (omega arith) (omega arith)

one_more : (k : ℕ) → k + 1 ≡ suc k
one_more k = omega arith

-- a row of a run
pub run_row : (r : Run) (k : ℕ) (d : Joined) → k < r.to - r.from → get_or (alone (places_of_run r)) k d ≡ ((r.block, r.from + k), None)
run_row r k d low =
    get_or-map (λ (p : Spot). (p, None)) (places_of_run r) k (0, 0) d (omega (arith, length-map-range_with_len {X = Spot} (λ i. (r.block, i)) r.from (r.to - r.from)))
    ∙ ap (λ (p : Spot). (p, None)) (get_or-map-range_with_len (λ i. (r.block, i)) r.from (r.to - r.from) k (r.from + k) (0, 0) low refl)

pub length-run_rows : (r : Run) → length (alone (places_of_run r)) ≡ r.to - r.from
length-run_rows r = length-map (places_of_run r) (λ (p : Spot). (p, None)) ∙ length-map-range_with_len {X = Spot} (λ i. (r.block, i)) r.from (r.to - r.from)

-- the next row is kept where it passes
pub filter_next : {X : Type 0} (p : X → Bool) (xs : List X) (k : ℕ) (d : X) → k < length xs → filter p (drop k xs) ≡ cond (p (get_or xs k d)) (get_or xs k d ∷ filter p (drop (suc k) xs)) (filter p (drop (suc k) xs))
filter_next p [] k d h = absurd (omega arith)
filter_next p (x ∷ xs) zero d h = refl
filter_next p (x ∷ xs) (suc k) d h = filter_next p xs k d (omega arith)

pub filter_taken : {X : Type 0} (p : X → Bool) (kept whole xs : List X) (k : ℕ) (x : X) → k < length xs → p x ≡ true → get_or xs k x ≡ x
    → kept ++ filter p (drop k xs) ≡ whole → (kept ++ x ∷ []) ++ filter p (drop (k + 1) xs) ≡ whole
filter_taken p kept whole xs k x h held at e =
    ap (λ n. (kept ++ x ∷ []) ++ filter p (drop n xs)) (one_more k)
    ∙ append_assoc kept (x ∷ []) (filter p (drop (suc k) xs))
    ∙ ap (λ t. kept ++ cond t (x ∷ filter p (drop (suc k) xs)) (filter p (drop (suc k) xs))) (sym held)
    ∙ ap (λ y. kept ++ cond (p y) (y ∷ filter p (drop (suc k) xs)) (filter p (drop (suc k) xs))) (sym at)
    ∙ ap (λ l. kept ++ l) (sym (filter_next p xs k x h))
    ∙ e

pub filter_passed : {X : Type 0} (p : X → Bool) (kept whole xs : List X) (k : ℕ) (x : X) → k < length xs → p x ≡ false → get_or xs k x ≡ x
    → kept ++ filter p (drop k xs) ≡ whole → kept ++ filter p (drop (k + 1) xs) ≡ whole
filter_passed p kept whole xs k x h failed at e =
    ap (λ n. kept ++ filter p (drop n xs)) (one_more k)
    ∙ ap (λ t. kept ++ cond t (x ∷ filter p (drop (suc k) xs)) (filter p (drop (suc k) xs))) (sym failed)
    ∙ ap (λ y. kept ++ cond (p y) (y ∷ filter p (drop (suc k) xs)) (filter p (drop (suc k) xs))) (sym at)
    ∙ ap (λ l. kept ++ l) (sym (filter_next p xs k x h))
    ∙ e

abbrev single : Spot → Joined
single q = (q, None)

-- rows that pass of places that stand in two parts
passing-append : (p : Joined → Bool) (front back : List Spot) → filter p (alone (front ++ back)) ≡ filter p (alone front) ++ filter p (alone back)
passing-append p front back = ap (filter p) (map-append single front back) ∙ filter-append p (alone front) (alone back)

taken_front : (p : Joined → Bool) (kept whole : List Joined) (places front back : List Spot) → places ≡ front ++ back → kept ++ filter p (alone places) ≡ whole → (kept ++ filter p (alone front)) ++ filter p (alone back) ≡ whole
taken_front p kept whole places front back cut e =
    append_assoc kept (filter p (alone front)) (filter p (alone back))
    ∙ ap (λ l. kept ++ l) (sym (passing-append p front back) ∙ ap (λ (l : List Spot). filter p (alone l)) (sym cut))
    ∙ e

found_part : (e : Bound) (s : ResultRows) (part : Run) (found : List Bool) → found ≡ passes_in_run e s part → chosen found (alone (places_of_run part)) ≡ filter (passes_at e s) (alone (places_of_run part))
found_part e s part found is =
    ap (λ l. chosen l (alone (places_of_run part))) (is ∙ sym (map-map (passes_at e s) single (places_of_run part)))
    ∙ chosen-passing (passes_at e s) (alone (places_of_run part))

-- the rows of a run from one on
abbrev pub from_on : Run → ℕ → Run
from_on run from = record { block = run.block; from = from; to = run.to; before = 0 }

-- a part of a run taken
pub part_kept : (e : Bound) (s : ResultRows) (kept whole : List Joined) (run part : Run) (found : List Bool) → part.block ≡ run.block → part.from < part.to → part.to ≤ run.to → found ≡ passes_in_run e s part
    → kept ++ filter (passes_at e s) (alone (places_of_run (from_on run part.from))) ≡ whole
    → (kept ++ chosen found (alone (places_of_run part))) ++ filter (passes_at e s) (alone (places_of_run (from_on run part.to))) ≡ whole
part_kept e s kept whole run part found same some within is all =
    ap (λ l. (kept ++ l) ++ filter (passes_at e s) (alone (places_of_run (from_on run part.to)))) (found_part e s part found is)
    ∙ taken_front (passes_at e s) kept whole (places_of_run (from_on run part.from)) (places_of_run part) (places_of_run (from_on run part.to)) cut all
  where
    cut : places_of_run (from_on run part.from) ≡ places_of_run part ++ places_of_run (from_on run part.to)
    cut =
        run_cut run.block part.from part.to run.to 0 0 0 (omega arith) within
        ∙ ap (λ b. map (λ i. (b, i)) (range_with_len part.from (part.to - part.from)) ++ places_of_run (from_on run part.to)) (sym same)

-- a whole run taken
pub none_left : (p : Joined → Bool) (kept whole : List Joined) (run : Run) (from : ℕ) → run.to ≤ from → kept ++ filter p (alone (places_of_run (from_on run from))) ≡ whole → kept ≡ whole
none_left p kept whole run from h e = sym (append-nil kept) ∙ ap (λ n. kept ++ filter p (alone (map (λ i. (run.block, i)) (range_with_len from n)))) (empty) ∙ e
  where
    empty : 0 ≡ run.to - from
    empty = omega arith

pub runs_kept : (p : Joined → Bool) (kept whole : List Joined) (runs : List Run) (k : ℕ) (run : Run) → k < length runs → get_or runs k run ≡ run → kept ++ filter p (alone (places_of_runs (drop k runs))) ≡ whole
    → (kept ++ filter p (alone (places_of_run run))) ++ filter p (alone (places_of_runs (drop (k + 1) runs))) ≡ whole
runs_kept p kept whole runs k run h at e =
    ap (λ n. (kept ++ filter p (alone (places_of_run run))) ++ filter p (alone (places_of_runs (drop n runs)))) (one_more k)
    ∙ taken_front p kept whole (places_of_runs (drop k runs)) (places_of_run run) (places_of_runs (drop (suc k) runs)) (ap places_of_runs (drop-cons runs k run h) ∙ ap (λ r. places_of_run r ++ places_of_runs (drop (suc k) runs)) at) e

pub no_runs : (p : Joined → Bool) (kept whole : List Joined) (runs : List Run) (k : ℕ) → length runs ≤ k → kept ++ filter p (alone (places_of_runs (drop k runs))) ≡ whole → kept ≡ whole
no_runs p kept whole runs k h e = sym (append-nil kept) ∙ ap (λ l. kept ++ filter p (alone (places_of_runs l))) (sym (drop_all k runs h)) ∙ e

-- a set without rows over the first blocks of another
abbrev pub empty_of : ResultRows → ℕ → ResultRows
empty_of s b = record { left = s.left; right = s.right; blocks = take b s.blocks; places = [] }

pub blocks_more : (s old new : ResultRows) (b : ℕ) (x : Block) → old ≡ empty_of s b → slice_get s.blocks b ≡ Some x → new ≡ record old { blocks = old.blocks ++ x ∷ [] } → new ≡ empty_of s (b + 1)
blocks_more s old new b x is found e =
    e ∙ ap (λ (o : ResultRows). record o { blocks = o.blocks ++ x ∷ [] }) is
    ∙ ap (λ (bs : List Block). record { left = s.left; right = s.right; blocks = bs; places = [] })
    (ap (λ (y : Block). take b s.blocks ++ y ∷ []) (sym (get_or_from_slice_get s.blocks b x x found)) ∙ sym (take_more s.blocks b x (got_there s.blocks b x found)))

-- what is there in a set is there in one over the same columns and blocks
pub placed_too : (s kept : ResultRows) (p : Joined) → kept ≡ with_places s kept.places → IsPlaced s p → IsPlaced kept p
placed_too s kept p same h = subst (λ (k : ResultRows). IsPlaced k p) (sym same) h

pub run_too : (s kept : ResultRows) (r : Run) → kept ≡ with_places s kept.places → IsRunOf s r → IsRunOf kept r
run_too s kept r same h = subst (λ (k : ResultRows). IsRunOf k r) (sym same) h

-- a part of a run that is there is there
pub part_there : (s : ResultRows) (run part : Run) → IsRunOf s run → part.block ≡ run.block → part.from < part.to → part.to ≤ run.to → IsRunOf s part
part_there s run part there same some within =
    record {
      block = subst (λ (b : ℕ). b < length s.blocks) (sym same) there.block;
      some = some;
      within = subst (λ (b : ℕ). part.to ≤ length (block_at s.blocks b).rows) (sym same) (omega (arith, within, there.within));
      kinds = subst (λ (b : ℕ). (block_at s.blocks b).kinds ≡ take (length (block_at s.blocks b).kinds) (kinds_in s.left)) (sym same) there.kinds;
    }

-- a set with one place more
kept_more : (first kept new : ResultRows) (p : Joined) → kept ≡ with_places first kept.places → new ≡ with_place kept p → new ≡ with_places first new.places
kept_more first kept new p same e = e ∙ ap (λ (s : ResultRows). with_place s p) same ∙ ap (λ (s : ResultRows). with_places first s.places) (sym e)

-- what a set holds once the rows of a run before one of them are looked at
abbrev pub IsKept : ResultRows → ResultRows → Run → List Bool → ℕ → Type 0
IsKept first kept part found k =
    (kept ≡ with_places first kept.places)
    × (kept.places ++ chosen (drop k found) (drop k (alone (places_of_run part))) ≡ first.places ++ chosen found (alone (places_of_run part)))

-- truths that are the same as one, from that one on
abbrev pub AreSame : List Bool → ℕ → ℕ → Type 0
AreSame found from to = (i : ℕ) → from ≤ i → i < to → get_or found i false ≡ get_or found from false

same_step : (found : List Bool) (from to i : ℕ) → AreSame found from to → get_or found to false ≡ get_or found from false → from ≤ i → i < to + 1 → get_or found i false ≡ get_or found from false
same_step found from to i h e low high = by (cases_order i to)
  where
    by : (i ≡ to) ⊎ ((i < to) ⊎ (to < i)) → get_or found i false ≡ get_or found from false
    by (inl same) = ap (λ (n : ℕ). get_or found n false) same ∙ e
    by (inr (inl less)) = h i low less
    by (inr (inr more)) = absurd (omega arith)

pub same_more : (found : List Bool) (from to : ℕ) → AreSame found from to → get_or found to false ≡ get_or found from false → AreSame found from (to + 1)
same_more found from to h e = λ i low high. same_step found from to i h e low high

only_one : (found : List Bool) (from i : ℕ) → from ≤ i → i < from + 1 → get_or found i false ≡ get_or found from false
only_one found from i low high = ap (λ (n : ℕ). get_or found n false) same
  where
    same : i ≡ from
    same = omega arith

pub same_one : (found : List Bool) (from : ℕ) → AreSame found from (from + 1)
same_one found from = λ i low high. only_one found from i low high

-- so many rows of a block, from one on
abbrev pub rows_from : ℕ → ℕ → ℕ → List Joined
rows_from block a n = alone (map (λ i. (block, i)) (range_with_len a n))

suc_one : (a k : ℕ) → a + suc k ≡ a + k + 1
suc_one a k = omega arith

suc_left : (k n : ℕ) → suc k + n ≡ k + suc n
suc_left k n = omega arith

-- rows whose truths are all true are chosen
chosen_all : (r : Run) (found : List Bool) (k n : ℕ) → k + n ≤ length found → length found ≡ r.to - r.from → ((i : ℕ) → k ≤ i → i < k + n → get_or found i false ≡ true)
    → chosen (drop k found) (drop k (alone (places_of_run r))) ≡ rows_from r.block (r.from + k) n ++ chosen (drop (k + n) found) (drop (k + n) (alone (places_of_run r)))
chosen_all r found k zero low size held = ap (λ m. chosen (drop m found) (drop m (alone (places_of_run r)))) (add_zero k)
chosen_all r found k (suc n) low size held =
    let xs : List Joined = alone (places_of_run r) in
    let d : Joined = ((0, 0), None) in
    let inside : k < length (alone (places_of_run r)) = omega (arith, length-run_rows r) in
    let rest : List Joined = chosen (drop (suc k) found) (drop (suc k) xs) in
    chosen_next found xs k d (omega arith) inside
    ∙ ap (λ t. cond t (get_or xs k d ∷ rest) rest) (held k (omega arith) (omega arith))
    ∙ ap (λ (x : Joined). x ∷ rest) (run_row r k d (omega arith))
    ∙ ap (λ (l : List Joined). ((r.block, r.from + k), None) ∷ l)
    (chosen_all r found (suc k) n (omega arith) size (λ i from to. held i (omega arith) (omega arith))
    ∙ ap (λ m. rows_from r.block m n ++ chosen (drop (suc k + n) found) (drop (suc k + n) xs)) (suc_one r.from k)
    ∙ ap (λ m. rows_from r.block (r.from + k + 1) n ++ chosen (drop m found) (drop m xs)) (suc_left k n))

-- and those whose truths are all false are passed over
chosen_none : (r : Run) (found : List Bool) (k n : ℕ) → k + n ≤ length found → length found ≡ r.to - r.from → ((i : ℕ) → k ≤ i → i < k + n → get_or found i false ≡ false)
    → chosen (drop k found) (drop k (alone (places_of_run r))) ≡ chosen (drop (k + n) found) (drop (k + n) (alone (places_of_run r)))
chosen_none r found k zero low size failed = ap (λ m. chosen (drop m found) (drop m (alone (places_of_run r)))) (add_zero k)
chosen_none r found k (suc n) low size failed =
    let xs : List Joined = alone (places_of_run r) in
    let d : Joined = ((0, 0), None) in
    let inside : k < length (alone (places_of_run r)) = omega (arith, length-run_rows r) in
    let rest : List Joined = chosen (drop (suc k) found) (drop (suc k) xs) in
    chosen_next found xs k d (omega arith) inside
    ∙ ap (λ t. cond t (get_or xs k d ∷ rest) rest) (failed k (omega arith) (omega arith))
    ∙ chosen_none r found (suc k) n (omega arith) size (λ i from to. failed i (omega arith) (omega arith))
    ∙ ap (λ m. chosen (drop m found) (drop m xs)) (suc_left k n)

-- the part of a run from one of its rows up to another
abbrev pub cut_of : Run → ℕ → ℕ → Run
cut_of r from to = record { block = r.block; from = r.from + from; to = r.from + to; before = 0 }

pub cut_there : (s kept : ResultRows) (r : Run) (from to : ℕ) → kept ≡ with_places s kept.places → IsRunOf s r → from < to → to ≤ r.to - r.from → IsRunOf kept (cut_of r from to)
cut_there s kept r from to same there some within =
    let more : r.from + from < r.from + to = omega arith in
    let inside : r.from + to ≤ r.to = omega (arith, there.some) in
    run_too s kept (cut_of r from to) same (part_there s r (cut_of r from to) there refl more inside)

cut_rows : (r : Run) (from to : ℕ) → from ≤ to → rows_from r.block (r.from + from) (to - from) ≡ alone (places_of_run (cut_of r from to))
cut_rows r from to h = ap (rows_from r.block (r.from + from)) count
  where
    count : to - from ≡ (r.from + to) - (r.from + from)
    count = omega arith

back : (from to : ℕ) → from ≤ to → from + (to - from) ≡ to
back from to h = omega arith

pub cut_taken : (first kept new : ResultRows) (part : Run) (found : List Bool) (from to : ℕ) → from < to → to ≤ length found → length found ≡ part.to - part.from → AreSame found from to → get_or found from false ≡ true
    → new ≡ record kept { places = kept.places ++ alone (places_of_run (cut_of part from to)) } → IsKept first kept part found from → IsKept first new part found to
cut_taken first kept new part found from to some within size same held e inv =
    let xs : List Joined = alone (places_of_run part) in
    let one : List Joined = alone (places_of_run (cut_of part from to)) in
    let rest : List Joined = chosen (drop to found) (drop to xs) in
    let low : from ≤ to = omega arith in
    let inside : from + (to - from) ≤ length found = omega arith in
    let taken = chosen_all part found from (to - from) inside size (λ i a b. same i a (omega arith) ∙ held) in (
      e ∙ ap (λ (s : ResultRows). record s { places = s.places ++ alone (places_of_run (cut_of part from to)) }) inv.0 ∙ ap (λ (s : ResultRows). with_places first s.places) (sym e),
      ap (λ (s : ResultRows). s.places ++ chosen (drop to found) (drop to (alone (places_of_run part)))) e
          ∙ append_assoc kept.places one rest
          ∙ ap (λ (l : List Joined). kept.places ++ l)
          (sym (taken ∙ ap (λ (l : List Joined). l ++ chosen (drop (from + (to - from)) found) (drop (from + (to - from)) xs)) (cut_rows part from to low) ∙ ap (λ m. one ++ chosen (drop m found) (drop m xs)) (back from to low)))
          ∙ inv.1,
    )

pub cut_passed : (first kept : ResultRows) (part : Run) (found : List Bool) (from to : ℕ) → from < to → to ≤ length found → length found ≡ part.to - part.from → AreSame found from to → get_or found from false ≡ false
    → IsKept first kept part found from → IsKept first kept part found to
cut_passed first kept part found from to some within size same failed inv =
    let xs : List Joined = alone (places_of_run part) in
    let low : from ≤ to = omega arith in
    let inside : from + (to - from) ≤ length found = omega arith in
    let passed = chosen_none part found from (to - from) inside size (λ i a b. same i a (omega arith) ∙ failed) in
    (inv.0, ap (λ (l : List Joined). kept.places ++ l) (sym (passed ∙ ap (λ m. chosen (drop m found) (drop m xs)) (back from to low))) ∙ inv.1)

pub part_ended : (first kept : ResultRows) (part : Run) (found : List Bool) (k : ℕ) → IsKept first kept part found k → length found ≤ k → kept ≡ with_places first (first.places ++ chosen found (alone (places_of_run part)))
part_ended first kept part found k inv done =
    inv.0 ∙ ap (with_places first) (sym (append-nil kept.places) ∙ ap (λ (l : List Bool). kept.places ++ chosen l (drop k (alone (places_of_run part)))) (sym (drop_all k found done)) ∙ inv.1)

-- the same where rows are looked at one by one
abbrev pub IsFiltered : ResultRows → ResultRows → Bound → ℕ → Type 0
IsFiltered s kept e i = (kept ≡ with_places s kept.places) × (kept.places ++ filter (passes_at e s) (drop i s.places) ≡ filter (passes_at e s) s.places)

pub row_taken : (s kept new : ResultRows) (e : Bound) (i : ℕ) (p : Joined) → slice_get s.places i ≡ Some p → passes_at e s p ≡ true → new ≡ with_place kept p → IsFiltered s kept e i → IsFiltered s new e (i + 1)
row_taken s kept new e i p found held same inv = (
  kept_more s kept new p inv.0 same,
  ap (λ (x : ResultRows). x.places ++ filter (passes_at e s) (drop (i + 1) s.places)) same
      ∙ filter_taken (passes_at e s) kept.places (filter (passes_at e s) s.places) s.places i p (got_there s.places i p found) held (get_or_from_slice_get s.places i p p found) inv.1,
)

pub row_passed : (s kept : ResultRows) (e : Bound) (i : ℕ) (p : Joined) → slice_get s.places i ≡ Some p → passes_at e s p ≡ false → IsFiltered s kept e i → IsFiltered s kept e (i + 1)
row_passed s kept e i p found failed inv =
    (inv.0, filter_passed (passes_at e s) kept.places (filter (passes_at e s) s.places) s.places i p (got_there s.places i p found) failed (get_or_from_slice_get s.places i p p found) inv.1)

-- what a set holds once the rows of a run before a number are looked at
pub record IsRunKept (s first kept : ResultRows) (e : Bound) (run : Run) (from : ℕ) : Type 0 where
  pub low : run.from ≤ from
  pub high : from ≤ run.to
  pub same : kept ≡ with_places s kept.places
  pub rows : kept.places ++ filter (passes_at e s) (alone (places_of_run (from_on run from))) ≡ first.places ++ filter (passes_at e s) (alone (places_of_run run))

pub run_begun : (s first : ResultRows) (e : Bound) (run : Run) → first ≡ with_places s first.places → run.from ≤ run.to → IsRunKept s first first e run run.from
run_begun s first e run same h = record { low = omega arith; high = h; same = same; rows = refl }

pub run_next : (s first kept new : ResultRows) (e : Bound) (run part : Run) (found : List Bool) (from : ℕ) → IsRunKept s first kept e run from → part.block ≡ run.block → part.from ≡ from → from < part.to → part.to ≤ run.to → found ≡ passes_in_run e s part
    → new ≡ with_places kept (kept.places ++ chosen found (alone (places_of_run part))) → IsRunKept s first new e run part.to
run_next s first kept new e run part found from inv block begins some within one more =
    record {
      low = omega (arith, inv.low);
      high = within;
      same = more ∙ ap (λ (x : ResultRows). with_places x (kept.places ++ chosen found (alone (places_of_run part)))) inv.same ∙ ap (λ (x : ResultRows). with_places s x.places) (sym more);
      rows =
          ap (λ (x : ResultRows). x.places ++ filter (passes_at e s) (alone (places_of_run (from_on run part.to)))) more
          ∙ part_kept e s kept.places (first.places ++ filter (passes_at e s) (alone (places_of_run run))) run part found block (omega arith) within one
          (ap (λ (n : ℕ). kept.places ++ filter (passes_at e s) (alone (places_of_run (from_on run n)))) begins ∙ inv.rows);
    }

pub run_ended : (s first kept : ResultRows) (e : Bound) (run : Run) (from : ℕ) → IsRunKept s first kept e run from → run.to ≤ from → kept ≡ with_places s (first.places ++ filter (passes_at e s) (alone (places_of_run run)))
run_ended s first kept e run from inv done =
    inv.same ∙ ap (with_places s) (none_left (passes_at e s) kept.places (first.places ++ filter (passes_at e s) (alone (places_of_run run))) run from done inv.rows)

-- what a set holds once some runs are looked at
abbrev pub AreRunsKept : ResultRows → ResultRows → Bound → List Run → ℕ → Type 0
AreRunsKept s kept e runs k = (kept ≡ with_places s kept.places) × (kept.places ++ filter (passes_at e s) (alone (places_of_runs (drop k runs))) ≡ filter (passes_at e s) s.places)

pub runs_begun : (s kept : ResultRows) (e : Bound) (runs : List Run) → kept ≡ with_places s [] → s.places ≡ alone (places_of_runs runs) → AreRunsKept s kept e runs 0
runs_begun s kept e runs empty all = (
  empty ∙ ap (λ (x : ResultRows). with_places s x.places) (sym empty),
  ap (λ (x : ResultRows). x.places ++ filter (passes_at e s) (alone (places_of_runs runs))) empty ∙ ap (filter (passes_at e s)) (sym all),
)

pub runs_next : (s kept new : ResultRows) (e : Bound) (runs : List Run) (k : ℕ) (run : Run) → k < length runs → get_or runs k run ≡ run → new ≡ with_places s (kept.places ++ filter (passes_at e s) (alone (places_of_run run)))
    → AreRunsKept s kept e runs k → AreRunsKept s new e runs (k + 1)
runs_next s kept new e runs k run low at more inv = (
  more ∙ ap (λ (x : ResultRows). with_places s x.places) (sym more),
  ap (λ (x : ResultRows). x.places ++ filter (passes_at e s) (alone (places_of_runs (drop (k + 1) runs)))) more
      ∙ runs_kept (passes_at e s) kept.places (filter (passes_at e s) s.places) runs k run low at inv.1,
)

pub runs_ended : (s kept : ResultRows) (e : Bound) (runs : List Run) (k : ℕ) → length runs ≤ k → AreRunsKept s kept e runs k → kept ≡ passing e s
runs_ended s kept e runs k done inv = inv.0 ∙ ap (with_places s) (no_runs (passes_at e s) kept.places (filter (passes_at e s) s.places) runs k done inv.1)

-- the same where rows are looked at one by one
pub rows_begun : (s kept : ResultRows) (e : Bound) → kept ≡ with_places s [] → IsFiltered s kept e 0
rows_begun s kept e empty = (
  empty ∙ ap (λ (x : ResultRows). with_places s x.places) (sym empty),
  ap (λ (x : ResultRows). x.places ++ filter (passes_at e s) s.places) empty,
)

pub rows_ended : (s kept : ResultRows) (e : Bound) (i : ℕ) → length s.places ≤ i → IsFiltered s kept e i → kept ≡ passing e s
rows_ended s kept e i done inv =
    inv.0 ∙ ap (with_places s) (sym (append-nil kept.places) ∙ ap (λ (l : List Joined). kept.places ++ filter (passes_at e s) l) (sym (drop_all i s.places done)) ∙ inv.1)
