-- Tables as changes make and change them.
use Rattle.std.proofs.Common.{◌≡◌, ℕ, zero, suc, ◌+◌, ◌-◌, ◌<◌, ◌≤◌, ◌^◌, Bool, true, false, cond, ltb, inl, inr, ⊎_elim, List, [], ◌∷◌, ◌++◌, Option, Some, None, length, map, take, drop, get_or, set, refl, sym, ap, ap₂, ◌∙◌, arith, All, subst, append-nil, append_assoc, slice_get}
use Rattle.std.specs.List.{AllByRecursion, fold, flat_map, position, position_or_len}
use Rattle.std.specs.Prelude.{IsSomeAnd}
use Rattle.std.proofs.lemmas.List.{get_or-map, get_or_default, length-map, map-append, map-set, take-append-le, drop-append-le}
use Rattle.std.proofs.lemmas.List.Elements.{All-from_recursion, recursion_from_All}
use Rattle.std.proofs.lemmas.List.Sums.{fold-append}
use Rattle.qd_base.specs.declared.schema.Col.{Col}
use Rattle.qd_base.specs.declared.schema.ColType.{ColType}
use Rattle.qd_base.specs.declared.schema.ColType.TheVariants as kind
use Rattle.qd_base.specs.declared.schema.Schema.{Schema}
use Rattle.qd_base.specs.Database.{Database, StoredTable, filled, missing, rekeyed, widened}
use Rattle.qd_base.specs.Lawful.{HasKinds, IsRowOf, IsSchema}
use Rattle.qd_base.specs.Laws.{IsInOrder}
use Rattle.qd_base.specs.Rows.{Row, put, time_of}
use Rattle.qd_base.specs.Schemas.{at_name, same_name, table_at, with_column, with_keys}
use Rattle.qd_base.proofs.Tables.{at_name-position}
use Rattle.qd_base.proofs.Texts.{position-map}
use Rattle.qd_time.specs.Units.{start_of, unit_of}
use Rattle.qd_block.specs.Blocks.{Block, kinds_in}
use Rattle.qd_merge.specs.Batch.{batch}
use Rattle.qd_merge.specs.Laws.{AreKeys}
use Rattle.qd_merge.proofs.Batches.{one_by_one}
use Rattle.qd_rows.specs.Sets.{absent}
use Rattle.qd_scan.specs.Sources.{table_rows}
use Rattle.qd_scan.proofs.RowLemmas.{table_in_order}
use Rattle.qd_memory.specs.declared.slots.Slot.{Slot}
use Rattle.qd_memory.specs.Kept.{database_of, joined, partition_of, schemas_in, stored, AreAscending, AreSlots, HasPut, IsKept, IsSettled, IsSlot, Kept, LiesIn}
use Rattle.qd_memory.proofs.PutLemmas.{each_append, each_then}
use Rattle.qd_memory.proofs.SlotLemmas.{rows_behind, rows_of, slot_each}

pub keys_are : (s : Schema) → IsSchema s → AreKeys s.time_col s.keys
keys_are s schema = ⊎_elim (λ none. inl none) (λ some. inr some.2) schema.keys

kind_at : (cols : List Col) (i : ℕ) → IsSomeAnd (slice_get cols i) (λ c. c.kind ≡ kind.Time) → slice_get (kinds_in cols) i ≡ Some kind.Time
kind_at [] i h = absurd (omega arith)
kind_at (c ∷ cs) zero h = ap Some h
kind_at (c ∷ cs) (suc i) h = kind_at cs i h

pub timed : (s : Schema) → IsSchema s → slice_get (kinds_in s.cols) s.time_col ≡ Some kind.Time
timed s schema = kind_at s.cols s.time_col schema.designated

-- ---- rows in order

in_order_append : (col : ℕ) (a b : List Row) → IsInOrder col a → IsInOrder col b → AllByRecursion (λ (x : Row). AllByRecursion (λ (y : Row). time_of col x ≤ time_of col y) b) a → IsInOrder col (a ++ b)
in_order_append col [] b f g h = g
in_order_append col (x ∷ a) b f g h = (each_append (λ (y : Row). time_of col x ≤ time_of col y) a b f.0 h.0, in_order_append col a b f.1 g h.1)

joined_order : (s : Schema) (xs : List Slot) → AllByRecursion (IsSlot s) xs → AreAscending xs → IsInOrder s.time_col (joined s.cols xs)
joined_order s [] each up = tt
joined_order s (x ∷ xs) each up =
    let slot : IsSlot s x = each.0 in
    in_order_append s.time_col (rows_of s x) (joined s.cols xs)
    (subst (λ (c : ℕ). IsInOrder c (rows_of s x)) slot.block.time_col (table_in_order s.cols x.block slot.whole))
    (joined_order s xs each.1 up.1)
    (each_then (LiesIn s x.start) (λ (r : Row). AllByRecursion (λ (y : Row). time_of s.time_col r ≤ time_of s.time_col y) (joined s.cols xs))
    (λ r lies. each_then (λ (y : Row). time_of s.time_col r < time_of s.time_col y) (λ (y : Row). time_of s.time_col r ≤ time_of s.time_col y) (λ y lt. omega (arith, lt)) (joined s.cols xs)
    (rows_behind s (time_of s.time_col r) xs each.1 (each_then (λ (z : Slot). x.start < z.start) (λ (z : Slot). partition_of s r < z.start) (λ z lt. let e = lies.1 in omega (arith, lt, e)) xs up.0)))
    (rows_of s x) (slot_each s x slot))

-- the rows that waited, put as a batch
pub put_batch : (s : Schema) (old now : List Slot) (waiting rows : List Row) → IsSchema s → AreSlots s old → rows ≡ batch s.time_col s.keys waiting → HasPut s old rows now → joined s.cols now ≡ fold (put s.time_col s.keys) (joined s.cols old) waiting
put_batch s old now waiting rows schema slots is done =
    done.rows ∙ ap (λ (l : List Row). fold (put s.time_col s.keys) (joined s.cols old) l) is ∙ one_by_one s.time_col s.keys (joined s.cols old) waiting (keys_are s schema) (joined_order s old slots.each slots.apart)

-- ---- one column more

slot_widened : (s : Schema) (c : Col) (x : Slot) → IsSlot s x → IsSlot (with_column c s) x
slot_widened s c x slot =
    let n = x.part.cols in
    let few : n ≤ length s.cols = slot.part.columns in
    record {
      start = slot.start;
      part = record {
        some = slot.part.some;
        few = slot.part.few;
        timed = slot.part.timed;
        columns = omega (arith, few, Rattle.std.proofs.Common.length-append s.cols (c ∷ []));
        in_order = slot.part.in_order;
        timely = slot.part.timely;
        together = slot.part.together;
        one_time = slot.part.one_time;
      };
      whole = slot.whole;
      block = record {
        rows = slot.block.rows;
        columns = slot.block.columns;
        kinds = slot.block.kinds ∙ sym (ap (take n) (map-append (λ (c : Col). c.kind) s.cols (c ∷ [])) ∙ take-append-le n (kinds_in s.cols) (c.kind ∷ []) (omega (arith, few, length-map s.cols (λ (c : Col). c.kind))));
        time_col = slot.block.time_col;
        fit = subst (λ (cs : List Col). All (HasKinds cs) x.block.rows) (sym (take-append-le n s.cols (c ∷ []) few)) slot.block.fit;
        first = slot.block.first;
        last = slot.block.last;
      };
    }

slots_widened : (s : Schema) (c : Col) (xs : List Slot) → AllByRecursion (IsSlot s) xs → AllByRecursion (IsSlot (with_column c s)) xs
slots_widened s c [] h = tt
slots_widened s c (x ∷ xs) h = (slot_widened s c x h.0, slots_widened s c xs h.1)

wide_rows : (cols : List Col) (c : Col) (n : ℕ) (rows : List Row) → n ≤ length cols → map (λ (r : Row). r ++ absent (drop n (cols ++ c ∷ []))) rows ≡ map (λ (r : Row). r ++ missing c.kind ∷ []) (map (λ (r : Row). r ++ absent (drop n cols)) rows)
wide_rows cols c n [] few = refl
wide_rows cols c n (r ∷ rows) few =
    ap₂ (λ (a : Row) (l : List Row). a ∷ l)
    (ap (λ (m : List Col). r ++ absent m) (drop-append-le n cols (c ∷ []) few) ∙ ap (λ (m : Row). r ++ m) (map-append (λ (c : Col). missing c.kind) (drop n cols) (c ∷ [])) ∙ sym (append_assoc r (absent (drop n cols)) (missing c.kind ∷ [])))
    (wide_rows cols c n rows few)

joined_widened : (s : Schema) (c : Col) (xs : List Slot) → AllByRecursion (IsSlot s) xs → joined (s.cols ++ c ∷ []) xs ≡ map (λ (r : Row). r ++ missing c.kind ∷ []) (joined s.cols xs)
joined_widened s c [] h = refl
joined_widened s c (x ∷ xs) h =
    let slot : IsSlot s x = h.0 in
    let b : Block = x.block in
    let few = slot.part.columns in
    let cols = slot.block.columns in
    ap₂ (λ (a l : List Row). a ++ l) (wide_rows s.cols c (length b.kinds) b.rows (omega (arith, few, cols))) (joined_widened s c xs h.1)
    ∙ sym (map-append (λ (r : Row). r ++ missing c.kind ∷ []) (rows_of s x) (joined s.cols xs))

pub kept_widened : (t : Kept) (c : Col) → IsKept t → IsSettled t → IsSchema (with_column c t.schema) → IsKept (record { schema = with_column c t.schema; slots = t.slots; parts = t.parts; waiting = t.waiting })
kept_widened t c kept settled schema = record {
  schema = schema;
  slots = record { each = slots_widened t.schema c t.slots kept.slots.each; apart = kept.slots.apart };
  few = kept.few;
  parts = kept.parts;
  waiting = subst (All (IsRowOf (with_column c t.schema))) (sym settled) (λ k d lt. absurd (omega arith));
}

pub stored_widened : (t : Kept) (c : Col) → IsKept t → IsSettled t → stored (record { schema = with_column c t.schema; slots = t.slots; parts = t.parts; waiting = t.waiting }) ≡ widened c (stored t)
stored_widened t c kept settled =
    let s : Schema = t.schema in
    let f = put s.time_col s.keys in
    ap (λ (rows : List Row). let x : StoredTable = record { schema = with_column c s; rows = rows } in x)
    (ap (λ (w : List Row). fold f (joined (s.cols ++ c ∷ []) t.slots) w) settled
    ∙ joined_widened s c t.slots kept.slots.each
    ∙ ap (λ (w : List Row). map (λ (r : Row). r ++ missing c.kind ∷ []) (fold f (joined s.cols t.slots) w)) (sym settled))

-- ---- other keys

slot_rekeyed : (s : Schema) (keys : List ℕ) (x : Slot) → IsSlot s x → IsSlot (with_keys keys s) x
slot_rekeyed s keys x slot = record {
  start = slot.start;
  part = record {
    some = slot.part.some;
    few = slot.part.few;
    timed = slot.part.timed;
    columns = slot.part.columns;
    in_order = slot.part.in_order;
    timely = slot.part.timely;
    together = slot.part.together;
    one_time = slot.part.one_time;
  };
  whole = slot.whole;
  block = record {
    rows = slot.block.rows;
    columns = slot.block.columns;
    kinds = slot.block.kinds;
    time_col = slot.block.time_col;
    fit = slot.block.fit;
    first = slot.block.first;
    last = slot.block.last;
  };
}

slots_rekeyed : (s : Schema) (keys : List ℕ) (xs : List Slot) → AllByRecursion (IsSlot s) xs → AllByRecursion (IsSlot (with_keys keys s)) xs
slots_rekeyed s keys [] h = tt
slots_rekeyed s keys (x ∷ xs) h = (slot_rekeyed s keys x h.0, slots_rekeyed s keys xs h.1)

pub kept_rekeyed : (t : Kept) (keys : List ℕ) → IsKept t → IsSettled t → IsSchema (with_keys keys t.schema) → IsKept (record { schema = with_keys keys t.schema; slots = t.slots; parts = t.parts; waiting = t.waiting })
kept_rekeyed t keys kept settled schema = record {
  schema = schema;
  slots = record { each = slots_rekeyed t.schema keys t.slots kept.slots.each; apart = kept.slots.apart };
  few = kept.few;
  parts = kept.parts;
  waiting = subst (All (IsRowOf (with_keys keys t.schema))) (sym settled) (λ k d lt. absurd (omega arith));
}

-- where no row waits, the rows are the same
pub stored_rekeyed : (t : Kept) (keys : List ℕ) → IsSettled t → stored (record { schema = with_keys keys t.schema; slots = t.slots; parts = t.parts; waiting = t.waiting }) ≡ rekeyed keys (stored t)
stored_rekeyed t keys settled =
    let s : Schema = t.schema in
    let rows : List Row = joined s.cols t.slots in
    ap (λ (l : List Row). let x : StoredTable = record { schema = with_keys keys s; rows = l } in x)
    (ap (λ (w : List Row). fold (put s.time_col keys) rows w) settled ∙ sym (ap (λ (w : List Row). fold (put s.time_col s.keys) rows w) settled))

-- ---- rows that wait

pub stored_filled : (t : Kept) (rows : List Row) → stored (record { schema = t.schema; slots = t.slots; parts = t.parts; waiting = t.waiting ++ rows }) ≡ filled rows (stored t)
stored_filled t rows = ap (λ (l : List Row). let x : StoredTable = record { schema = t.schema; rows = l } in x) (fold-append (put t.schema.time_col t.schema.keys) (joined t.schema.cols t.slots) t.waiting rows)

-- ---- one table of the database

position_of : (ts : List Kept) (name : List ℕ) → position (λ (t : StoredTable). same_name t.schema.name name) (database_of ts) ≡ table_at (schemas_in ts) name
position_of ts name =
    let p : Schema → Bool = λ s. same_name s.name name in
    ap₂ (λ (n m : ℕ). cond (ltb n m) (Some n) None)
    (position-map (λ (t : StoredTable). same_name t.schema.name name) stored ts ∙ sym (position-map p (λ (t : Kept). t.schema) ts))
    (length-map ts stored ∙ sym (length-map ts (λ (t : Kept). t.schema)))

pub table_within : (ts : List Kept) (name : List ℕ) (i : ℕ) → Some i ≡ table_at (schemas_in ts) name → i < length ts
table_within ts name i at = let lt = Rattle.qd_base.proofs.Tables.table_within (schemas_in ts) name i at in omega (arith, lt, length-map ts (λ (t : Kept). t.schema))

pub changed_one : (ts : List Kept) (name : List ℕ) (i : ℕ) (old new : Kept) (change : StoredTable → StoredTable) → Some i ≡ table_at (schemas_in ts) name → old ≡ get_or ts i old → stored new ≡ change (stored old)
    → database_of (set ts i new) ≡ at_name (λ (t : StoredTable). t.schema.name) change name (database_of ts)
changed_one ts name i old new change at there is =
    let lt : i < length ts = table_within ts name i at in
    map-set stored ts i new
    ∙ ap (λ (t : StoredTable). set (database_of ts) i t) (is ∙ ap change (ap stored there ∙ sym (get_or-map stored ts i old (stored old) lt)))
    ∙ sym (at_name-position (λ (t : StoredTable). t.schema.name) change name (database_of ts) i (stored old) (position_of ts name ∙ sym at))

pub kept_set : (ts : List Kept) (i : ℕ) (t : Kept) → AllByRecursion IsKept ts → IsKept t → AllByRecursion IsKept (set ts i t)
kept_set [] i t h is = tt
kept_set (x ∷ ts) zero t h is = (is, h.1)
kept_set (x ∷ ts) (suc i) t h is = (h.0, kept_set ts i t h.1 is)

pub schemas_stored : (ts : List Kept) → map (λ (t : StoredTable). t.schema) (database_of ts) ≡ schemas_in ts
schemas_stored [] = refl
schemas_stored (t ∷ ts) = ap (λ (l : List Schema). t.schema ∷ l) (schemas_stored ts)
