-- Batches, their pieces, and what a merge makes of them.
use Rattle.std.proofs.Common.{◌≡◌, ℕ, ◌+◌, ◌-◌, ◌<◌, ◌≤◌, inl, inr, List, [], ◌∷◌, ◌++◌, Some, length, map, take, drop, get_or, set, refl, sym, ap, ◌∙◌, arith, All, subst, slice_get}
use Rattle.std.specs.List.{AllByRecursion, fold}
use Rattle.std.specs.List.Sorted.{IsNonDecreasing}
use Rattle.std.proofs.lemmas.Bool.{cases_lt}
use Rattle.std.proofs.lemmas.List.{get_or_default}
use Rattle.std.proofs.lemmas.List.Elements.{All-from_recursion, recursion_from_All}
use Rattle.std.proofs.lemmas.Option.{slice_get-get_or}
use Rattle.qd_base.specs.declared.limits.TheConstants.{MAX_TIME}
use Rattle.qd_base.specs.declared.schema.ColType.{ColType}
use Rattle.qd_base.specs.declared.schema.ColType.TheVariants as kind
use Rattle.qd_base.specs.declared.schema.Schema.{Schema}
use Rattle.qd_base.specs.Lawful.{IsRowOf, IsSchema}
use Rattle.qd_base.specs.Rows.{Row, put, time_of}
use Rattle.qd_time.specs.Units.{end_of, start_of, unit_of}
use Rattle.qd_block.specs.Blocks.{Block, in_time_order, kinds_in, IsTimed, IsWhole}
use Rattle.qd_merge.specs.Batch.{batch, last_of_equals}
use Rattle.qd_merge.specs.Laws.{AreKeys, IsBatch}
use Rattle.qd_merge.specs.Merged.{merged}
use Rattle.qd_merge.proofs.Batches.{batch_is_batch, each-lasts}
use Rattle.qd_rows.specs.Sets.{absent}
use Rattle.qd_scan.specs.Sources.{table_rows}
use Rattle.qd_scan.proofs.RowLemmas.{times_rise, AreLent}
use Rattle.qd_memory.specs.declared.slots.Slot.{Slot}
use Rattle.qd_memory.specs.Kept.{joined, partition_of, AreSlots, HasPut, IsBatchOf, IsFull, IsOldOf, IsPiece, IsPlace, IsSlot}
use Rattle.qd_memory.proofs.FullLemmas.{merged_full, merged_rows, timely}
use Rattle.qd_memory.proofs.MomentLemmas.{start_inside}
use Rattle.qd_memory.proofs.PutLemmas.{each_fold}
use Rattle.qd_memory.proofs.SlotLemmas.{piece_lies, put_into, put_over, rows_of, slot_rows}
use Rattle.qd_memory.proofs.TableLemmas.{keys_are}

-- ---- a batch

last_each : (s : Schema) (keys : List ℕ) (rows : List Row) → AllByRecursion (IsRowOf s) rows → AllByRecursion (IsRowOf s) (last_of_equals keys rows)
last_each s [] rows h = h
last_each s (k ∷ ks) rows h = each-lasts (k ∷ ks) (IsRowOf s) rows h

batch_fits : (s : Schema) (waiting : List Row) → All (IsRowOf s) waiting → All (IsRowOf s) (batch s.time_col s.keys waiting)
batch_fits s waiting fit =
    All-from_recursion (IsRowOf s) (batch s.time_col s.keys waiting)
    (last_each s s.keys (in_time_order s.time_col waiting) (each_fold s.time_col (IsRowOf s) [] [] waiting tt (recursion_from_All (IsRowOf s) waiting fit)))

pub rows_timed : (s : Schema) (rows : List Row) → All (IsRowOf s) rows → All (IsTimed s.time_col) rows
rows_timed s rows fit k d lt = (fit k d lt).timed

pub block_keys : (s : Schema) (b : Block) (rows : List Row) → IsSchema s → b ≡ record { kinds = kinds_in s.cols; time_col = s.time_col; rows = rows } → AreKeys b.time_col s.keys
block_keys s b rows schema is = subst (λ (x : Block). AreKeys x.time_col s.keys) (sym is) (keys_are s schema)

pub block_sorted : (s : Schema) (waiting : List Row) (b : Block) → b ≡ record { kinds = kinds_in s.cols; time_col = s.time_col; rows = in_time_order s.time_col waiting } → b.rows ≡ in_time_order b.time_col waiting
block_sorted s waiting b is = ap (λ (x : Block). x.rows) is ∙ sym (ap (λ (x : Block). in_time_order x.time_col waiting) is)

pub batch_rows : (s : Schema) (waiting : List Row) (block b : Block) → block ≡ record { kinds = kinds_in s.cols; time_col = s.time_col; rows = in_time_order s.time_col waiting } → b ≡ record block { rows = batch block.time_col s.keys waiting } → b.rows ≡ batch s.time_col s.keys waiting
batch_rows s waiting block b is made = ap (λ (x : Block). x.rows) made ∙ ap (λ (x : Block). batch x.time_col s.keys waiting) is

pub batch_made : (s : Schema) (waiting : List Row) (block b : Block) → IsSchema s → All (IsRowOf s) waiting → block ≡ record { kinds = kinds_in s.cols; time_col = s.time_col; rows = in_time_order s.time_col waiting }
    → b ≡ record block { rows = batch block.time_col s.keys waiting } → IsWhole b → IsBatchOf s b
batch_made s waiting block b schema fit is made whole =
    let rows : b.rows ≡ batch s.time_col s.keys waiting = batch_rows s waiting block b is made in
    record {
      whole = whole;
      kinds = ap (λ (x : Block). x.kinds) made ∙ ap (λ (x : Block). x.kinds) is;
      time_col = ap (λ (x : Block). x.time_col) made ∙ ap (λ (x : Block). x.time_col) is;
      fit = subst (All (IsRowOf s)) (sym rows) (batch_fits s waiting fit);
      batch = subst (IsBatch s.time_col s.keys) (sym rows) (batch_is_batch s.time_col s.keys waiting);
    }

-- ---- the end of a piece

-- a row's time, as a block gives it
pub time_given : (s : Schema) (b : Block) (i time : ℕ) → b.time_col ≡ s.time_col → i < length b.rows → ((row : Row) → slice_get b.rows i ≡ Some row → time ≡ time_of b.time_col row) → time ≡ time_of s.time_col (get_or b.rows i [])
time_given s b i time col lt given = given (get_or b.rows i []) (slice_get-get_or b.rows i [] lt) ∙ ap (λ (c : ℕ). time_of c (get_or b.rows i [])) col

-- the designated column holds moments
pub block_timed : (s : Schema) (b : Block) → IsWhole b → b.kinds ≡ kinds_in s.cols → b.time_col ≡ s.time_col → slice_get (kinds_in s.cols) s.time_col ≡ Some kind.Time
block_timed s b whole kinds col = subst (λ (c : ℕ). slice_get (kinds_in s.cols) c ≡ Some kind.Time) col (subst (λ (ks : List ColType). slice_get ks b.time_col ≡ Some kind.Time) kinds whole.designated)

-- it is a moment that there is
pub time_few : (s : Schema) (b : Block) (i time : ℕ) → slice_get (kinds_in s.cols) s.time_col ≡ Some kind.Time → All (IsRowOf s) b.rows → b.time_col ≡ s.time_col → i < length b.rows → ((row : Row) → slice_get b.rows i ≡ Some row → time ≡ time_of b.time_col row) → time ≤ MAX_TIME
time_few s b i time there fit col lt given =
    let is = time_given s b i time col lt given in
    let few = timely s (get_or b.rows i []) (fit i [] lt) there in
    omega (arith, is, few)

-- the rows from one up to another are those of its partition
pub record IsPieceEnd (s : Schema) (b : Block) (from to : ℕ) : Type 0 where
  pub some : from < to
  pub within : to ≤ length b.rows
  pub together : (k : ℕ) → from ≤ k → k < to → partition_of s (get_or b.rows k []) ≡ partition_of s (get_or b.rows from [])
  pub apart : to < length b.rows → partition_of s (get_or b.rows from []) < partition_of s (get_or b.rows to [])

pub piece_ends : (s : Schema) (b : Block) (times : List ℕ) (time end from to : ℕ) → IsBatchOf s b → from < length b.rows → AreLent b times
    → ((row : Row) → slice_get b.rows from ≡ Some row → time ≡ time_of b.time_col row) → time < end → ((t : ℕ) → t ≤ MAX_TIME → t < end → t < end_of (unit_of s.unit) time)
    → ((t : ℕ) → t ≤ MAX_TIME → end ≤ t → start_of (unit_of s.unit) time < start_of (unit_of s.unit) t) → to ≤ length times → ((k : ℕ) → k < to → get_or times k 0 < end) → ((k : ℕ) → to ≤ k → k < length times → end ≤ get_or times k 0) → IsPieceEnd s b from to
piece_ends s b times time end from to is low lent given after inside later within before behind =
    let u = unit_of s.unit in
    let count : length times ≡ length b.rows = lent.count in
    let first : time ≡ time_of s.time_col (get_or b.rows from []) = time_given s b from time is.time_col low given in
    let at : (k : ℕ) → k < length b.rows → time_of s.time_col (get_or b.rows k []) ≡ get_or times k 0 = λ k lt. ap (λ (c : ℕ). time_of c (get_or b.rows k [])) (sym is.time_col) ∙ lent.each k lt in
    record {
      some = elim (cases_lt from to) [
        | inl lt ↦ lt
        | inr ge ↦ absurd (let late = behind from ge (omega (arith, count, low)) in let here = at from low in omega (arith, late, here, first, after))
      ];
      within = omega (arith, within, count);
      together = λ k ge lt.
          let there : k < length b.rows = omega (arith, lt, within, count) in
          let here = at k there in
          let early = before k lt in
          let few = timely s (get_or b.rows k []) (is.fit k [] there) (block_timed s b is.whole is.kinds is.time_col) in
          let rise : time_of b.time_col (get_or b.rows from []) ≤ time_of b.time_col (get_or b.rows k []) = times_rise b.time_col b.rows is.whole.order from k ge there in
          let rise' : time_of s.time_col (get_or b.rows from []) ≤ time_of s.time_col (get_or b.rows k []) = subst (λ (c : ℕ). time_of c (get_or b.rows from []) ≤ time_of c (get_or b.rows k [])) is.time_col rise in
          let high : time_of s.time_col (get_or b.rows k []) < end_of u time = inside (time_of s.time_col (get_or b.rows k [])) few (omega (arith, here, early)) in
          start_inside u time (time_of s.time_col (get_or b.rows k [])) (omega (arith, first, rise')) high ∙ ap (start_of u) first;
      apart = λ lt.
          let few = timely s (get_or b.rows to []) (is.fit to [] lt) (block_timed s b is.whole is.kinds is.time_col) in
          let here = at to lt in
          let late = behind to (omega arith) (omega (arith, lt, count)) in
          let next : start_of u time < start_of u (time_of s.time_col (get_or b.rows to [])) = later (time_of s.time_col (get_or b.rows to [])) few (omega (arith, here, late)) in
          subst (λ (t : ℕ). start_of u t < start_of u (time_of s.time_col (get_or b.rows to []))) first next;
    }

-- ---- a piece put into slots

pub piece_start : (s : Schema) (b : Block) (time start : ℕ) → IsPiece s b → ((row : Row) → slice_get b.rows 0 ≡ Some row → time ≡ time_of b.time_col row) → start ≡ start_of (unit_of s.unit) time → start ≡ partition_of s (get_or b.rows 0 [])
piece_start s b time start piece given is = is ∙ ap (start_of (unit_of s.unit)) (time_given s b 0 time piece.full.time_col piece.full.some given)

pub piece_over : (s : Schema) (at : ℕ) (xs : List Slot) (x y : Slot) (b : Block) → IsSchema s → AreSlots s xs → IsPiece s b → IsSlot s y → at < length xs → x ≡ get_or xs at x → x.start ≡ partition_of s (get_or b.rows 0 []) → y.start ≡ x.start
    → IsPlace (partition_of s (get_or b.rows 0 [])) xs at → joined s.cols (y ∷ []) ≡ fold (put s.time_col s.keys) (rows_of s x) b.rows → HasPut s xs b.rows (set xs at y)
piece_over s at xs x y b schema slots piece is lt there start same place rows =
    put_over s at xs x y b.rows (keys_are s schema) slots is lt there same (subst (λ (n : ℕ). IsPlace n xs at) (sym start) place)
    (subst (λ (n : ℕ). AllByRecursion (λ (r : Row). partition_of s r ≡ n) b.rows) (sym start) (piece_lies s b piece)) rows

pub piece_into : (s : Schema) (start at : ℕ) (xs : List Slot) (y : Slot) (old b : Block) → IsSchema s → AreSlots s xs → IsPiece s b → IsSlot s y → y.start ≡ start → start ≡ partition_of s (get_or b.rows 0 [])
    → IsPlace start xs at → ((d : Slot) → at < length xs → (get_or xs at d).start ≡ start → ⊥) → old.rows ≡ [] → joined s.cols (y ∷ []) ≡ fold (put s.time_col s.keys) (table_rows s.cols old) b.rows → HasPut s xs b.rows (take at xs ++ y ∷ drop at xs)
piece_into s start at xs y old b schema slots piece is same first place none empty rows =
    let nothing : table_rows s.cols old ≡ [] = ap (λ (l : List Row). map (λ (r : Row). r ++ absent (drop (length old.kinds) s.cols)) l) empty in
    put_into s start at xs y b.rows (keys_are s schema) slots is same place none
    (subst (λ (n : ℕ). AllByRecursion (λ (r : Row). partition_of s r ≡ n) b.rows) (sym first) (piece_lies s b piece))
    (rows ∙ ap (λ (l : List Row). fold (put s.time_col s.keys) l b.rows) nothing)

-- ---- a merge

pub piece_merged : (s : Schema) (start : ℕ) (old new b : Block) → b ≡ merged s.keys old 0 new → IsWhole b → IsWhole old → IsOldOf s start old → IsPiece s new → start ≡ partition_of s (get_or new.rows 0 []) → IsFull s start b
piece_merged s start old new b is whole whole_old of piece at = merged_full s start old new b is whole whole_old of.each piece (sym at)

pub slot_grown : (s : Schema) (start : ℕ) (old new b : Block) (y : Slot) → b ≡ merged s.keys old 0 new → IsWhole old → IsFull s start b → IsPiece s new → y.block ≡ b → joined s.cols (y ∷ []) ≡ fold (put s.time_col s.keys) (table_rows s.cols old) new.rows
slot_grown s start old new b y is whole_old full piece same = slot_rows s start y b same full ∙ merged_rows s old new b is whole_old piece.full.kinds piece.full.time_col

-- ---- pieces so far

pub none_put : (s : Schema) (xs now : List Slot) (rows : List Row) → AreSlots s xs → now ≡ xs → HasPut s xs (take 0 rows) now
none_put s xs now rows slots same = subst (λ (l : List Slot). HasPut s xs (take 0 rows) l) (sym same) (record { slots = slots; rows = refl })
