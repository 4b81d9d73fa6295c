-- Slots: what their rows are, and one more among others.
use Rattle.std.proofs.lemmas.Bool.{cases_lt}
use Rattle.std.proofs.Common.{◌≡◌, ℕ, zero, suc, ◌+◌, ◌-◌, ◌^◌, ◌<◌, ◌≤◌, inl, inr, List, [], ◌∷◌, ◌++◌, Some, length, map, take, drop, get_or, set, refl, sym, ap, ap₂, ◌∙◌, arith, All, subst, append-nil, append_assoc, slice_get}
use Rattle.std.specs.List.{AllByRecursion, fold, flat_map}
use Rattle.std.specs.List.Sorted.{IsNonDecreasingBy}
use Rattle.std.proofs.lemmas.Grind.{flat_map-append}
use Rattle.std.proofs.lemmas.List.{get_or_default, length-map, take_all}
use Rattle.std.proofs.lemmas.List.Elements.{All-from_recursion, recursion_from_All}
use Rattle.std.proofs.lemmas.Option.{slice_get-get_or}
use Rattle.qd_base.specs.declared.part.Part.{Part}
use Rattle.qd_base.specs.declared.schema.Col.{Col}
use Rattle.qd_base.specs.declared.schema.ColType.TheVariants as kind
use Rattle.qd_base.specs.declared.schema.Schema.{Schema}
use Rattle.qd_base.specs.Lawful.{HasKinds, IsRowOf, IsSchema}
use Rattle.qd_base.specs.Rows.{Row, put, time_of}
use Rattle.qd_time.specs.Units.{start_of, unit_of}
use Rattle.qd_block.specs.Blocks.{Block, kinds_in, IsWhole}
use Rattle.qd_manifest.specs.Spelling.{IsPart}
use Rattle.qd_merge.specs.Laws.{AreKeys}
use Rattle.qd_scan.specs.Sources.{table_rows, IsBlockOf}
use Rattle.qd_scan.proofs.RowLemmas.{between_ends, designated, table_each, table_fits, times_rise}
use Rattle.qd_memory.specs.declared.slots.Slot.{Slot}
use Rattle.qd_memory.specs.Kept.{joined, partition_of, AreAscending, AreSlots, HasPut, IsFull, IsOldOf, IsPiece, IsPlace, IsSlot, LiesIn}
use Rattle.qd_memory.proofs.FullLemmas.{full_rows, timely}
use Rattle.qd_memory.proofs.MomentLemmas.{start_before, start_between}
use Rattle.qd_memory.proofs.PutLemmas.{each_append, each_then, fold_between}

-- the rows of a slot, as the table's
abbrev pub rows_of : Schema → Slot → List Row
rows_of s x = table_rows s.cols x.block

-- they are rows of the table, and lie in its partition
pub slot_each : (s : Schema) (x : Slot) → IsSlot s x → AllByRecursion (LiesIn s x.start) (rows_of s x)
slot_each s x slot =
    let b : Block = x.block in
    let col : b.time_col ≡ s.time_col = slot.block.time_col in
    let fit : All (HasKinds (take (length b.kinds) s.cols)) b.rows = subst (λ (n : ℕ). All (HasKinds (take n s.cols)) b.rows) (sym slot.block.columns) slot.block.fit in
    let fits : All (IsRowOf s) (rows_of s x) = table_fits s b slot.whole col fit in
    let last : time_of s.time_col (get_or b.rows (length b.rows - 1) []) ≡ x.part.hi = ap (λ (n : ℕ). time_of s.time_col (get_or b.rows (n - 1) [])) slot.block.rows ∙ slot.block.last in
    let first' : time_of b.time_col (get_or b.rows 0 []) ≡ x.part.lo = subst (λ (c : ℕ). time_of c (get_or b.rows 0 []) ≡ x.part.lo) (sym col) slot.block.first in
    let last' : time_of b.time_col (get_or b.rows (length b.rows - 1) []) ≡ x.part.hi = subst (λ (c : ℕ). time_of c (get_or b.rows (length b.rows - 1) []) ≡ x.part.hi) (sym col) last in
    let ends = between_ends b.time_col x.part.lo x.part.hi b.rows slot.whole.order first' last' in
    let u = unit_of s.unit in
    let each : All (λ (r : Row). start_of u (time_of b.time_col r) ≡ x.start) (rows_of s x) =
    table_each (λ (t : ℕ). start_of u t ≡ x.start) s.cols b slot.whole
    (λ k d lt. start_between u x.part.lo x.part.hi (time_of b.time_col (get_or b.rows k d)) slot.part.together (ends k d lt).0 (ends k d lt).1 ∙ sym slot.start) in
    recursion_from_All (LiesIn s x.start) (rows_of s x) (λ k d lt. (fits k d lt, subst (λ (c : ℕ). start_of u (time_of c (get_or (rows_of s x) k d)) ≡ x.start) col (each k d lt)))

-- a slot that is made of a block
pub slot_full : (s : Schema) (start : ℕ) (b : Block) (x : Slot) → IsSchema s → slice_get (kinds_in s.cols) s.time_col ≡ Some kind.Time → IsFull s start b → x.start ≡ start → x.block ≡ b
    → x.part.rows ≡ length b.rows → x.part.rows < 2 ^ 64 → x.part.cols ≡ length b.kinds
    → x.part.lo ≡ time_of b.time_col (get_or b.rows 0 []) → x.part.hi ≡ time_of b.time_col (get_or b.rows (length b.rows - 1) []) → IsSlot s x
slot_full s start b x schema timed full at block rows few cols lo hi =
    let u = unit_of s.unit in
    let some : 0 < length b.rows = full.some in
    let col : b.time_col ≡ s.time_col = full.time_col in
    let count : length b.kinds ≡ length s.cols = ap length full.kinds ∙ length-map s.cols (λ (c : Col). c.kind) in
    let lo' : x.part.lo ≡ time_of s.time_col (get_or b.rows 0 []) = lo ∙ ap (λ (c : ℕ). time_of c (get_or b.rows 0 [])) col in
    let hi' : x.part.hi ≡ time_of s.time_col (get_or b.rows (length b.rows - 1) []) = hi ∙ ap (λ (c : ℕ). time_of c (get_or b.rows (length b.rows - 1) [])) col in
    let first : start_of u x.part.lo ≡ start = ap (start_of u) lo' ∙ full.together 0 [] some in
    let last : start_of u x.part.hi ≡ start = ap (start_of u) hi' ∙ full.together (length b.rows - 1) [] (omega arith) in
    let rise = times_rise b.time_col b.rows full.whole.order 0 (length b.rows - 1) (omega arith) (omega arith) in
    let late = timely s (get_or b.rows (length b.rows - 1) []) (full.fit (length b.rows - 1) [] (omega arith)) timed in
    let at_col : b.time_col < length b.kinds = designated b full.whole in
    record {
      start = at ∙ sym first;
      part = record {
        some = omega (arith, rows, some);
        few = few;
        timed = omega (arith, at_col, col, cols);
        columns = omega (arith, cols, count);
        in_order = omega (arith, rise, lo, hi);
        timely = omega (arith, late, hi');
        together = first ∙ sym last;
        one_time = λ one. lo ∙ ap (λ (n : ℕ). time_of b.time_col (get_or b.rows n [])) (omega (arith, one, rows)) ∙ sym hi;
      };
      whole = subst IsWhole (sym block) full.whole;
      block = subst (IsBlockOf s x.part) (sym block) (record {
        rows = sym rows;
        columns = sym cols;
        kinds = full.kinds ∙ sym (take_all x.part.cols (kinds_in s.cols) (omega (arith, cols, count, length-map s.cols (λ (c : Col). c.kind))));
        time_col = col;
        fit = subst (λ (cs : List Col). All (HasKinds cs) b.rows) (sym (take_all x.part.cols s.cols (omega (arith, cols, count)))) (λ k d lt. (full.fit k d lt).kinds);
        first = sym lo';
        last = ap (λ (n : ℕ). time_of s.time_col (get_or b.rows (n - 1) [])) rows ∙ sym hi';
      });
    }

-- ---- slots among others

pub ascending_front : (n : ℕ) (xs : List Slot) → AreAscending xs → AreAscending (take n xs)
ascending_front zero xs h = tt
ascending_front (suc n) [] h = tt
ascending_front (suc n) (x ∷ xs) h = (each_take (λ (y : Slot). x.start < y.start) n xs h.0, ascending_front n xs h.1)
  where
    each_take : (P : Slot → Type 0) (n : ℕ) (xs : List Slot) → AllByRecursion P xs → AllByRecursion P (take n xs)
    each_take P zero xs h = tt
    each_take P (suc n) [] h = tt
    each_take P (suc n) (x ∷ xs) h = (h.0, each_take P n xs h.1)

pub ascending_rest : (n : ℕ) (xs : List Slot) → AreAscending xs → AreAscending (drop n xs)
ascending_rest zero xs h = h
ascending_rest (suc n) [] h = tt
ascending_rest (suc n) (x ∷ xs) h = ascending_rest n xs h.1

each_front : {X : Type 0} (P : X → Type 0) (n : ℕ) (xs : List X) → AllByRecursion P xs → AllByRecursion P (take n xs)
each_front P zero xs h = tt
each_front P (suc n) [] h = tt
each_front P (suc n) (x ∷ xs) h = (h.0, each_front P n xs h.1)

each_rest : {X : Type 0} (P : X → Type 0) (n : ℕ) (xs : List X) → AllByRecursion P xs → AllByRecursion P (drop n xs)
each_rest P zero xs h = h
each_rest P (suc n) [] h = tt
each_rest P (suc n) (x ∷ xs) h = each_rest P n xs h.1

pub slots_front : (s : Schema) (n : ℕ) (xs : List Slot) → AreSlots s xs → AreSlots s (take n xs)
slots_front s n xs h = record { each = each_front (IsSlot s) n xs h.each; apart = ascending_front n xs h.apart }

pub slots_rest : (s : Schema) (n : ℕ) (xs : List Slot) → AreSlots s xs → AreSlots s (drop n xs)
slots_rest s n xs h = record { each = each_rest (IsSlot s) n xs h.each; apart = ascending_rest n xs h.apart }

-- those in front of a place start before a moment
pub front_before : (start n : ℕ) (xs : List Slot) → n ≤ length xs → ((k : ℕ) (d : Slot) → k < n → (get_or xs k d).start < start) → AllByRecursion (λ (x : Slot). x.start < start) (take n xs)
front_before start zero xs h before = tt
front_before start (suc n) [] h before = tt
front_before start (suc n) (x ∷ xs) h before = (before zero x (omega arith), front_before start n xs (omega arith) (λ k d lt. before (suc k) d (omega arith)))

-- and those behind it later, where the first of them doesn't start there
pub rest_behind : (start n : ℕ) (xs : List Slot) → AreAscending xs → ((k : ℕ) (d : Slot) → n ≤ k → k < length xs → start ≤ (get_or xs k d).start) → ((d : Slot) → n < length xs → (get_or xs n d).start ≡ start → ⊥) → AllByRecursion (λ (x : Slot). start < x.start) (drop n xs)
rest_behind start zero [] h behind other = tt
rest_behind start zero (x ∷ xs) h behind other =
    let low : start ≤ x.start = behind zero x (omega arith) (omega arith) in
    let less : start < x.start = below start x.start low (λ e. other x (omega arith) e) in
    (less, each_then (λ (y : Slot). x.start < y.start) (λ (y : Slot). start < y.start) (λ y lt. omega (arith, less, lt)) xs h.0)
  where
    below : (a b : ℕ) → a ≤ b → (b ≡ a → ⊥) → a < b
    below a b le other = elim (cases_lt a b) [ inl lt ↦ lt | inr ge ↦ absurd (other (omega arith)) ]
rest_behind start (suc n) [] h behind other = tt
rest_behind start (suc n) (x ∷ xs) h behind other = rest_behind start n xs h.1 (λ k d low lt. behind (suc k) d (omega arith) (omega arith)) (λ d lt e. other d (omega arith) e)

-- those behind a slot start later
pub rest_later : (n : ℕ) (xs : List Slot) (d : Slot) → n < length xs → AreAscending xs → AllByRecursion (λ (x : Slot). (get_or xs n d).start < x.start) (drop (suc n) xs)
rest_later n [] d lt h = absurd (omega arith)
rest_later zero (x ∷ xs) d lt h = h.0
rest_later (suc n) (x ∷ xs) d lt h = rest_later n xs d (omega arith) h.1

ascending_joined : (before later : List Slot) (y : Slot) → AreAscending before → AreAscending later → AllByRecursion (λ (x : Slot). x.start < y.start) before → AllByRecursion (λ (x : Slot). y.start < x.start) later → AreAscending (before ++ y ∷ later)
ascending_joined [] later y a b low high = (high, b)
ascending_joined (x ∷ before) later y a b low high = (
  each_append (λ (z : Slot). x.start < z.start) before (y ∷ later) a.0 (low.0, each_then (λ (z : Slot). y.start < z.start) (λ (z : Slot). x.start < z.start) (λ z lt. let first = low.0 in omega (arith, first, lt)) later high),
  ascending_joined before later y a.1 b low.1 high,
)

pub slots_joined : (s : Schema) (before later : List Slot) (y : Slot) → AreSlots s before → AreSlots s later → IsSlot s y → AllByRecursion (λ (x : Slot). x.start < y.start) before → AllByRecursion (λ (x : Slot). y.start < x.start) later → AreSlots s (before ++ y ∷ later)
slots_joined s before later y a b is low high = record {
  each = each_append (IsSlot s) before (y ∷ later) a.each (is, b.each);
  apart = ascending_joined before later y a.apart b.apart low high;
}

-- starts don't fall
pub starts_rise : (xs : List Slot) → AreAscending xs → IsNonDecreasingBy (λ (x : Slot). x.start) xs
starts_rise [] h i j d low high = absurd (omega arith)
starts_rise (x ∷ xs) h zero zero d low high = omega arith
starts_rise (x ∷ xs) h zero (suc j) d low high = let lt = All-from_recursion (λ (y : Slot). x.start < y.start) xs h.0 j d (omega arith) in omega (arith, lt)
starts_rise (x ∷ xs) h (suc i) zero d low high = absurd (omega arith)
starts_rise (x ∷ xs) h (suc i) (suc j) d low high = starts_rise xs h.1 i j d (omega arith) (omega arith)

-- ---- rows put among those of slots

pub joined_append : (cols : List Col) (xs ys : List Slot) → joined cols (xs ++ ys) ≡ joined cols xs ++ joined cols ys
joined_append cols xs ys = flat_map-append (λ (x : Slot). table_rows cols x.block) xs ys

-- the rows of slots that start before a moment lie before a moment of its partition, and those of later ones behind
pub rows_before : (s : Schema) (t : ℕ) (xs : List Slot) → AllByRecursion (IsSlot s) xs → AllByRecursion (λ (x : Slot). x.start < start_of (unit_of s.unit) t) xs → AllByRecursion (λ (r : Row). time_of s.time_col r < t) (joined s.cols xs)
rows_before s t [] h low = tt
rows_before s t (x ∷ xs) h low =
    let first : x.start < start_of (unit_of s.unit) t = low.0 in
    each_append (λ (r : Row). time_of s.time_col r < t) (rows_of s x) (joined s.cols xs)
    (each_then (LiesIn s x.start) (λ (r : Row). time_of s.time_col r < t) (λ r is. start_before (unit_of s.unit) (time_of s.time_col r) t (let at = is.1 in omega (arith, at, first))) (rows_of s x) (slot_each s x h.0))
    (rows_before s t xs h.1 low.1)

pub rows_behind : (s : Schema) (t : ℕ) (xs : List Slot) → AllByRecursion (IsSlot s) xs → AllByRecursion (λ (x : Slot). start_of (unit_of s.unit) t < x.start) xs → AllByRecursion (λ (r : Row). t < time_of s.time_col r) (joined s.cols xs)
rows_behind s t [] h high = tt
rows_behind s t (x ∷ xs) h high =
    let first : start_of (unit_of s.unit) t < x.start = high.0 in
    each_append (λ (r : Row). t < time_of s.time_col r) (rows_of s x) (joined s.cols xs)
    (each_then (LiesIn s x.start) (λ (r : Row). t < time_of s.time_col r) (λ r is. start_before (unit_of s.unit) t (time_of s.time_col r) (let at = is.1 in omega (arith, at, first))) (rows_of s x) (slot_each s x h.0))
    (rows_behind s t xs h.1 high.1)

-- rows of one partition put into all rows are put into that partition's
pub put_among : (s : Schema) (start : ℕ) (before middle later : List Slot) (y : Slot) (new : List Row) → AreKeys s.time_col s.keys → AreSlots s before → AreSlots s later
    → AllByRecursion (λ (x : Slot). x.start < start) before → AllByRecursion (λ (x : Slot). start < x.start) later → AllByRecursion (λ (r : Row). partition_of s r ≡ start) new
    → joined s.cols (y ∷ []) ≡ fold (put s.time_col s.keys) (joined s.cols middle) new
    → joined s.cols (before ++ y ∷ later) ≡ fold (put s.time_col s.keys) (joined s.cols (before ++ (middle ++ later))) new
put_among s start before middle later y new keys a b low high at is =
    let u = unit_of s.unit in
    let apart = each_then (λ (r : Row). partition_of s r ≡ start) (λ (r : Row). AllByRecursion (λ (x : Row). time_of s.time_col x < time_of s.time_col r) (joined s.cols before) × AllByRecursion (λ (x : Row). time_of s.time_col r < time_of s.time_col x) (joined s.cols later))
    (λ r e. (
      rows_before s (time_of s.time_col r) before a.each (each_then (λ (x : Slot). x.start < start) (λ (x : Slot). x.start < partition_of s r) (λ x lt. omega (arith, lt, e)) before low),
      rows_behind s (time_of s.time_col r) later b.each (each_then (λ (x : Slot). start < x.start) (λ (x : Slot). partition_of s r < x.start) (λ x lt. omega (arith, lt, e)) later high),
    )) new at in
    joined_append s.cols before (y ∷ later)
    ∙ ap (λ (l : List Row). joined s.cols before ++ l) (joined_append s.cols (y ∷ []) later ∙ ap (λ (l : List Row). l ++ joined s.cols later) is)
    ∙ sym (fold_between s.time_col s.keys (joined s.cols before) (joined s.cols middle) (joined s.cols later) new keys apart)
    ∙ ap (λ (l : List Row). fold (put s.time_col s.keys) l new) (sym (joined_append s.cols before (middle ++ later) ∙ ap (λ (l : List Row). joined s.cols before ++ l) (joined_append s.cols middle later)))

-- ---- one slot more, and one in another's place

pub set_split : (xs : List Slot) (at : ℕ) (y : Slot) → at < length xs → set xs at y ≡ take at xs ++ y ∷ drop (suc at) xs
set_split [] at y lt = absurd (omega arith)
set_split (x ∷ xs) zero y lt = refl
set_split (x ∷ xs) (suc at) y lt = ap (λ (l : List Slot). x ∷ l) (set_split xs at y (omega arith))

pub split_at : (xs : List Slot) (at : ℕ) (d : Slot) → at < length xs → xs ≡ take at xs ++ get_or xs at d ∷ drop (suc at) xs
split_at [] at d lt = absurd (omega arith)
split_at (x ∷ xs) zero d lt = refl
split_at (x ∷ xs) (suc at) d lt = ap (λ (l : List Slot). x ∷ l) (split_at xs at d (omega arith))

split_before : (xs : List Slot) (at : ℕ) → xs ≡ take at xs ++ drop at xs
split_before xs zero = refl
split_before [] (suc at) = refl
split_before (x ∷ xs) (suc at) = ap (λ (l : List Slot). x ∷ l) (split_before xs at)

-- the rows of a batch that lies in one partition
pub piece_lies : (s : Schema) (b : Block) → IsPiece s b → AllByRecursion (λ (r : Row). partition_of s r ≡ partition_of s (get_or b.rows 0 [])) b.rows
piece_lies s b piece = recursion_from_All (λ (r : Row). partition_of s r ≡ partition_of s (get_or b.rows 0 [])) b.rows piece.full.together

pub put_into : (s : Schema) (start at : ℕ) (xs : List Slot) (y : Slot) (new : List Row) → AreKeys s.time_col s.keys → AreSlots s xs → IsSlot s y → y.start ≡ start → IsPlace start xs at → ((d : Slot) → at < length xs → (get_or xs at d).start ≡ start → ⊥)
    → AllByRecursion (λ (r : Row). partition_of s r ≡ start) new → joined s.cols (y ∷ []) ≡ fold (put s.time_col s.keys) [] new → HasPut s xs new (take at xs ++ y ∷ drop at xs)
put_into s start at xs y new keys slots is same place none lies rows =
    let low : AllByRecursion (λ (x : Slot). x.start < start) (take at xs) = front_before start at xs place.within place.before in
    let high : AllByRecursion (λ (x : Slot). start < x.start) (drop at xs) = rest_behind start at xs slots.apart place.behind none in
    record {
      slots = slots_joined s (take at xs) (drop at xs) y (slots_front s at xs slots) (slots_rest s at xs slots) is (subst (λ (n : ℕ). AllByRecursion (λ (x : Slot). x.start < n) (take at xs)) (sym same) low) (subst (λ (n : ℕ). AllByRecursion (λ (x : Slot). n < x.start) (drop at xs)) (sym same) high);
      rows = put_among s start (take at xs) [] (drop at xs) y new keys (slots_front s at xs slots) (slots_rest s at xs slots) low high lies rows
          ∙ ap (λ (l : List Slot). fold (put s.time_col s.keys) (joined s.cols l) new) (sym (split_before xs at));
    }

pub put_over : (s : Schema) (at : ℕ) (xs : List Slot) (x y : Slot) (new : List Row) → AreKeys s.time_col s.keys → AreSlots s xs → IsSlot s y → at < length xs → x ≡ get_or xs at x → y.start ≡ x.start → IsPlace x.start xs at
    → AllByRecursion (λ (r : Row). partition_of s r ≡ x.start) new → joined s.cols (y ∷ []) ≡ fold (put s.time_col s.keys) (rows_of s x) new → HasPut s xs new (set xs at y)
put_over s at xs x y new keys slots is lt there same place lies rows =
    let low : AllByRecursion (λ (z : Slot). z.start < x.start) (take at xs) = front_before x.start at xs place.within place.before in
    let high : AllByRecursion (λ (z : Slot). x.start < z.start) (drop (suc at) xs) = subst (λ (z : Slot). AllByRecursion (λ (w : Slot). z.start < w.start) (drop (suc at) xs)) (sym there) (rest_later at xs x lt slots.apart) in
    let are : take at xs ++ y ∷ drop (suc at) xs ≡ set xs at y = sym (set_split xs at y lt) in
    subst (HasPut s xs new) are (record {
      slots = slots_joined s (take at xs) (drop (suc at) xs) y (slots_front s at xs slots) (slots_rest s (suc at) xs slots) is (subst (λ (n : ℕ). AllByRecursion (λ (z : Slot). z.start < n) (take at xs)) (sym same) low) (subst (λ (n : ℕ). AllByRecursion (λ (z : Slot). n < z.start) (drop (suc at) xs)) (sym same) high);
      rows = put_among s x.start (take at xs) (x ∷ []) (drop (suc at) xs) y new keys (slots_front s at xs slots) (slots_rest s (suc at) xs slots) low high lies (rows ∙ ap (λ (l : List Row). fold (put s.time_col s.keys) l new) (sym (append-nil (rows_of s x))))
          ∙ ap (λ (l : List Slot). fold (put s.time_col s.keys) (joined s.cols l) new) (ap (λ (z : Slot). take at xs ++ z ∷ drop (suc at) xs) there ∙ sym (split_at xs at x lt));
    })

-- a slot's block as old rows, and a block without rows
pub slot_old : (s : Schema) (x : Slot) → IsSlot s x → IsOldOf s x.start x.block
slot_old s x slot = record {
  kinds = ap (λ (n : ℕ). take n (kinds_in s.cols)) slot.block.columns ∙ sym slot.block.kinds;
  time_col = slot.block.time_col;
  each = slot_each s x slot;
}

pub none_old : (s : Schema) (start : ℕ) (b : Block) → b.kinds ≡ kinds_in s.cols → b.time_col ≡ s.time_col → b.rows ≡ [] → IsOldOf s start b
none_old s start b kinds col none = record {
  kinds = take_all (length b.kinds) (kinds_in s.cols) (omega (arith, ap length kinds)) ∙ sym kinds;
  time_col = col;
  each = subst (λ (l : List Row). AllByRecursion (LiesIn s start) (map (λ (r : Row). r ++ Rattle.qd_rows.specs.Sets.absent (drop (length b.kinds) s.cols)) l)) (sym none) tt;
}

-- the slot of a merge
pub slot_rows : (s : Schema) (start : ℕ) (y : Slot) (b : Block) → y.block ≡ b → IsFull s start b → joined s.cols (y ∷ []) ≡ b.rows
slot_rows s start y b is full = append-nil (rows_of s y) ∙ ap (λ (x : Block). table_rows s.cols x) is ∙ full_rows s.cols b full.kinds
