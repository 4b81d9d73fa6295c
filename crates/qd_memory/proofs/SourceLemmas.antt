-- What tables kept by partition show as a source of parts.
use Rattle.std.proofs.Common.{◌≡◌, ℕ, zero, suc, ◌+◌, ◌-◌, ◌<◌, ◌≤◌, ◌^◌, List, [], ◌∷◌, ◌++◌, Some, None, length, map, take, drop, get_or, refl, sym, ap, ap₂, ◌∙◌, arith, All, subst, append-nil}
use Rattle.std.specs.List.{AllByRecursion, fold, flat_map}
use Rattle.std.proofs.lemmas.Grind.{flat_map-append}
use Rattle.std.proofs.lemmas.Bool.{cases_lt}
use Rattle.std.proofs.lemmas.List.{get_or-map, get_or_default, length-map}
use Rattle.std.proofs.lemmas.List.Elements.{All-from_recursion, recursion_from_All, filter-append}
use Rattle.qd_base.specs.declared.part.Part.{Part}
use Rattle.qd_base.specs.declared.schema.Schema.{Schema}
use Rattle.qd_base.specs.Database.{Database, StoredTable, schemas_of}
use Rattle.qd_base.specs.Rows.{Row, put, time_of}
use Rattle.qd_time.specs.Units.{start_of, unit_of}
use Rattle.qd_block.specs.Blocks.{Block}
use Rattle.qd_manifest.specs.Spelling.{no_part, AreParts, IsPart}
use Rattle.qd_scan.specs.Sources.{no_schema, no_table, part_at, parts_at, rows_at, rows_between, rows_in_part, schema_at, table_rows, HasRowsOf, IsBlockOf, IsSource, SourceView, Tells}
use Rattle.qd_scan.proofs.RowLemmas.{between_ends, table_each}
use Rattle.qd_scan.proofs.TimeLemmas.{all_between, is_between, none_between_before, none_between_behind}
use Rattle.qd_memory.specs.declared.slots.Slot.{Slot}
use Rattle.qd_memory.specs.Kept.{database_of, joined, partition_of, schemas_in, source_of, stored, AreAscending, AreSlots, AreTables, IsKept, IsSettled, IsSlot, Kept, LiesByPartition, LiesIn}
use Rattle.qd_memory.proofs.MomentLemmas.{start_before, start_between}
use Rattle.qd_memory.proofs.PutLemmas.{each_append, each_then}
use Rattle.qd_memory.proofs.SlotLemmas.{joined_append, rows_before, rows_behind, rows_of, slot_each, split_at}

-- the rows of a slot lie between its ends
slot_between : (s : Schema) (x : Slot) → IsSlot s x → rows_between s.time_col x.part.lo x.part.hi (rows_of s x) ≡ rows_of s x
slot_between s x slot =
    let b : Block = x.block in
    let last : time_of s.time_col (get_or b.rows (length b.rows - 1) []) ≡ x.part.hi = ap (λ (n : ℕ). time_of s.time_col (get_or b.rows (n - 1) [])) slot.block.rows ∙ slot.block.last in
    let ends : All (λ (r : Row). (x.part.lo ≤ time_of b.time_col r) × (time_of b.time_col r ≤ x.part.hi)) b.rows =
    between_ends b.time_col x.part.lo x.part.hi b.rows slot.whole.order
    (subst (λ (c : ℕ). time_of c (get_or b.rows 0 []) ≡ x.part.lo) (sym slot.block.time_col) slot.block.first)
    (subst (λ (c : ℕ). time_of c (get_or b.rows (length b.rows - 1) []) ≡ x.part.hi) (sym slot.block.time_col) last) in
    subst (λ (c : ℕ). rows_between c x.part.lo x.part.hi (rows_of s x) ≡ rows_of s x) slot.block.time_col
    (all_between b.time_col x.part.lo x.part.hi (rows_of s x) (table_each (λ (t : ℕ). (x.part.lo ≤ t) × (t ≤ x.part.hi)) s.cols b slot.whole ends))

front_starts : (i : ℕ) (xs : List Slot) (d : Slot) → i < length xs → AreAscending xs → AllByRecursion (λ (z : Slot). z.start < (get_or xs i d).start) (take i xs)
front_starts i [] d lt h = absurd (omega arith)
front_starts zero (x ∷ xs) d lt h = tt
front_starts (suc i) (x ∷ xs) d lt h = (All-from_recursion (λ (y : Slot). x.start < y.start) xs h.0 i d (omega arith), front_starts i xs d (omega arith) h.1)

rest_starts : (i : ℕ) (xs : List Slot) (d : Slot) → i < length xs → AreAscending xs → AllByRecursion (λ (z : Slot). (get_or xs i d).start < z.start) (drop (suc i) xs)
rest_starts i [] d lt h = absurd (omega arith)
rest_starts zero (x ∷ xs) d lt h = h.0
rest_starts (suc i) (x ∷ xs) d lt h = rest_starts i xs d (omega arith) h.1

each_front : {X : Type 0} (P : X → Type 0) (n : ℕ) (xs : List X) → AllByRecursion P xs → AllByRecursion P (take n xs)
each_front P zero xs h = tt
each_front P (suc n) [] h = tt
each_front P (suc n) (x ∷ xs) h = (h.0, each_front P n xs h.1)

each_rest : {X : Type 0} (P : X → Type 0) (n : ℕ) (xs : List X) → AllByRecursion P xs → AllByRecursion P (drop n xs)
each_rest P zero xs h = h
each_rest P (suc n) [] h = tt
each_rest P (suc n) (x ∷ xs) h = each_rest P n xs h.1

-- the table's rows in the part of a slot are the slot's
pub own_rows : (s : Schema) (xs : List Slot) (i : ℕ) (x : Slot) → AreSlots s xs → i < length xs → x ≡ get_or xs i x → rows_in_part s.time_col (joined s.cols xs) x.part ≡ rows_of s x
own_rows s xs i x slots lt there =
    let u = unit_of s.unit in
    let slot : IsSlot s x = subst (IsSlot s) (sym there) (All-from_recursion (IsSlot s) xs slots.each i x lt) in
    let p : Row → _ = is_between s.time_col x.part.lo x.part.hi in
    let before : List Row = joined s.cols (take i xs) in
    let later : List Row = joined s.cols (drop (suc i) xs) in
    let start : x.start ≡ start_of u x.part.lo = slot.start in
    let low : AllByRecursion (λ (z : Slot). z.start < start_of u x.part.lo) (take i xs) = subst (λ (n : ℕ). AllByRecursion (λ (z : Slot). z.start < n) (take i xs)) (ap (λ (z : Slot). z.start) (sym there) ∙ start) (front_starts i xs x lt slots.apart) in
    let high : AllByRecursion (λ (z : Slot). start_of u x.part.hi < z.start) (drop (suc i) xs) = subst (λ (n : ℕ). AllByRecursion (λ (z : Slot). n < z.start) (drop (suc i) xs)) (ap (λ (z : Slot). z.start) (sym there) ∙ start ∙ slot.part.together) (rest_starts i xs x lt slots.apart) in
    let none_before : rows_between s.time_col x.part.lo x.part.hi before ≡ [] = none_between_before s.time_col x.part.lo x.part.hi before (All-from_recursion (λ (r : Row). time_of s.time_col r < x.part.lo) before (rows_before s x.part.lo (take i xs) (each_front (IsSlot s) i xs slots.each) low)) in
    let none_later : rows_between s.time_col x.part.lo x.part.hi later ≡ [] = none_between_behind s.time_col x.part.lo x.part.hi later (All-from_recursion (λ (r : Row). x.part.hi < time_of s.time_col r) later (rows_behind s x.part.hi (drop (suc i) xs) (each_rest (IsSlot s) (suc i) xs slots.each) high)) in
    let are : joined s.cols xs ≡ before ++ (rows_of s x ++ later) = ap (joined s.cols) (split_at xs i x lt) ∙ joined_append s.cols (take i xs) (get_or xs i x ∷ drop (suc i) xs) ∙ ap (λ (z : Slot). before ++ (rows_of s z ++ later)) (sym there) in
    ap (rows_between s.time_col x.part.lo x.part.hi) are
    ∙ filter-append p before (rows_of s x ++ later)
    ∙ ap₂ (λ (a c : List Row). a ++ c) none_before (filter-append p (rows_of s x) later ∙ ap₂ (λ (a c : List Row). a ++ c) (slot_between s x slot) none_later)
    ∙ append-nil (rows_of s x)

flat_map_agree : {X Y : Type 0} (f g : X → List Y) (xs : List X) → AllByRecursion (λ x. f x ≡ g x) xs → flat_map f xs ≡ flat_map g xs
flat_map_agree f g [] h = refl
flat_map_agree f g (x ∷ xs) h = ap₂ (λ a l. a ++ l) h.0 (flat_map_agree f g xs h.1)

flat_map_image : {X Y Z : Type 0} (f : Y → List Z) (v : X → Y) (xs : List X) → flat_map f (map v xs) ≡ flat_map (λ x. f (v x)) xs
flat_map_image f v [] = refl
flat_map_image f v (x ∷ xs) = ap (λ l. f (v x) ++ l) (flat_map_image f v xs)

-- so each row lies in a part
pub all_told : (s : Schema) (xs : List Slot) → AreSlots s xs → flat_map (rows_in_part s.time_col (joined s.cols xs)) (map (λ (x : Slot). x.part) xs) ≡ joined s.cols xs
all_told s xs slots =
    let rows : List Row = joined s.cols xs in
    flat_map_image (rows_in_part s.time_col rows) (λ (x : Slot). x.part) xs
    ∙ flat_map_agree (λ (x : Slot). rows_in_part s.time_col rows x.part) (rows_of s) xs
    (recursion_from_All (λ (x : Slot). rows_in_part s.time_col rows x.part ≡ rows_of s x) xs (λ k d lt. own_rows s xs k (get_or xs k d) slots lt (get_or_default xs k d (get_or xs k d) lt)))

parts_apart : (s : Schema) (xs : List Slot) → AllByRecursion (IsSlot s) xs → AreAscending xs → (i : ℕ) → suc i < length (map (λ (x : Slot). x.part) xs) → (get_or (map (λ (x : Slot). x.part) xs) i no_part).hi < (get_or (map (λ (x : Slot). x.part) xs) (suc i) no_part).lo
parts_apart s [] each up i lt = absurd (omega arith)
parts_apart s (x ∷ []) each up i lt = absurd (omega arith)
parts_apart s (x ∷ y ∷ xs) each up zero lt =
    let one : IsSlot s x = each.0 in
    let two : IsSlot s y = each.1.0 in
    let less : x.start < y.start = up.0.0 in
    let a = one.start in
    let b = one.part.together in
    let c = two.start in
    start_before (unit_of s.unit) x.part.hi y.part.lo (omega (arith, less, a, b, c))
parts_apart s (x ∷ y ∷ xs) each up (suc i) lt = parts_apart s (y ∷ xs) each.1 up.1 i (omega arith)

pub parts_are : (s : Schema) (xs : List Slot) → AreSlots s xs → length xs < 2 ^ 64 → AreParts s (map (λ (x : Slot). x.part) xs)
parts_are s xs slots few = record {
  each = All-from_recursion (IsPart s) (map (λ (x : Slot). x.part) xs) (parts_each xs slots.each);
  apart = λ i lt. subst (λ (n : ℕ). (get_or (map (λ (x : Slot). x.part) xs) i no_part).hi < (get_or (map (λ (x : Slot). x.part) xs) n no_part).lo) (one_more i) (parts_apart s xs slots.each slots.apart i (omega arith));
  few = omega (arith, few, length-map xs (λ (x : Slot). x.part));
}
  where
    one_more : (i : ℕ) → suc i ≡ i + 1
    one_more i = omega arith

    parts_each : (xs : List Slot) → AllByRecursion (IsSlot s) xs → AllByRecursion (IsPart s) (map (λ (x : Slot). x.part) xs)
    parts_each [] h = tt
    parts_each (x ∷ xs) h = (let slot : IsSlot s x = h.0 in slot.part, parts_each xs h.1)

abbrev no_kept : Kept
no_kept = record { schema = no_schema; slots = []; parts = []; waiting = [] }

schemas_stored : (ts : List Kept) → schemas_of (database_of ts) ≡ schemas_in ts
schemas_stored [] = refl
schemas_stored (t ∷ ts) = ap (λ (l : List Schema). t.schema ∷ l) (schemas_stored ts)

-- what is known of one table of settled ones
record IsOne (ts : List Kept) (table : ℕ) : Type 0 where
  pub kept : IsKept (get_or ts table no_kept)
  pub settled : IsSettled (get_or ts table no_kept)
  pub schema : schema_at (source_of ts) table ≡ (get_or ts table no_kept).schema
  pub parts : parts_at (source_of ts) table ≡ map (λ (x : Slot). x.part) (get_or ts table no_kept).slots
  pub rows : rows_at (database_of ts) table ≡ joined (get_or ts table no_kept).schema.cols (get_or ts table no_kept).slots

is_one : (ts : List Kept) (table : ℕ) → AllByRecursion IsKept ts → All IsSettled ts → table < length (schemas_in ts) → IsOne ts table
is_one ts table each settled lt =
    let low : table < length ts = omega (arith, length-map ts (λ (t : Kept). t.schema)) in
    let t : Kept = get_or ts table no_kept in
    let kept : IsKept (get_or ts table no_kept) = All-from_recursion IsKept ts each table no_kept low in
    let done : IsSettled (get_or ts table no_kept) = settled table no_kept low in
    record {
      kept = kept;
      settled = done;
      schema = get_or-map (λ (t : Kept). t.schema) ts table no_kept no_schema low;
      parts = get_or-map (λ (t : Kept). t.parts) ts table no_kept [] low ∙ kept.parts;
      rows = ap (λ (t : StoredTable). t.rows) (get_or-map stored ts table no_kept no_table low) ∙ ap (λ (w : List Row). fold (put t.schema.time_col t.schema.keys) (joined t.schema.cols t.slots) w) done;
    }

-- the law of the source
pub source_law : (schemas : List Schema) (ts : List Kept) → AreTables schemas ts → All IsSettled ts → IsSource (source_of ts)
source_law schemas ts are settled = record {
  schemas = subst Rattle.qd_base.specs.Lawful.AreSchemas are.same are.lawful;
  parts = λ table lt. let one = is_one ts table are.each settled lt in
      subst (λ (s : Schema). AreParts s (parts_at (source_of ts) table)) (sym one.schema) (subst (AreParts (get_or ts table no_kept).schema) (sym one.parts) (parts_are (get_or ts table no_kept).schema (get_or ts table no_kept).slots one.kept.slots one.kept.few));
  told = record {
    schemas = schemas_stored ts;
    rows = λ table lt. let one = is_one ts table are.each settled lt in
        let t : Kept = get_or ts table no_kept in
        ap₂ (λ (c : ℕ) (ps : List Part). flat_map (rows_in_part c (rows_at (database_of ts) table)) ps) (ap (λ (s : Schema). s.time_col) one.schema) one.parts
        ∙ ap (λ (rows : List Row). flat_map (rows_in_part t.schema.time_col rows) (map (λ (x : Slot). x.part) t.slots)) one.rows
        ∙ all_told t.schema t.slots one.kept.slots
        ∙ sym one.rows;
  };
}

-- the block of a part
pub block_given : (schemas : List Schema) (ts : List Kept) (table i : ℕ) (t : Kept) (x : Slot) (b : Block) → AreTables schemas ts → All IsSettled ts → table < length (schemas_in ts) → t ≡ get_or ts table t → i < length t.slots → x ≡ get_or t.slots i x → b ≡ x.block
    → IsBlockOf (schema_at (source_of ts) table) (part_at (source_of ts) table i) b × HasRowsOf (source_of ts) table i b
block_given schemas ts table i t x b are settled lt here low there is =
    let one = is_one ts table are.each settled lt in
    let same : get_or ts table no_kept ≡ t = get_or_default ts table no_kept t (omega (arith, lt, length-map ts (λ (t : Kept). t.schema))) ∙ sym here in
    let kept : IsKept t = subst IsKept same one.kept in
    let schema : schema_at (source_of ts) table ≡ t.schema = one.schema ∙ ap (λ (t : Kept). t.schema) same in
    let parts : parts_at (source_of ts) table ≡ map (λ (x : Slot). x.part) t.slots = one.parts ∙ ap (λ (t : Kept). map (λ (x : Slot). x.part) t.slots) same in
    let rows : rows_at (database_of ts) table ≡ joined t.schema.cols t.slots = one.rows ∙ ap (λ (t : Kept). joined t.schema.cols t.slots) same in
    let part : part_at (source_of ts) table i ≡ x.part = ap (λ (ps : List Part). get_or ps i no_part) parts ∙ get_or-map (λ (x : Slot). x.part) t.slots i x no_part low ∙ ap (λ (x : Slot). x.part) (sym there) in
    let slot : IsSlot t.schema x = subst (IsSlot t.schema) (sym there) (All-from_recursion (IsSlot t.schema) t.slots kept.slots.each i x low) in (
      subst (λ (y : Block). IsBlockOf (schema_at (source_of ts) table) (part_at (source_of ts) table i) y) (sym is) (subst (λ (s : Schema). IsBlockOf s (part_at (source_of ts) table i) x.block) (sym schema) (subst (λ (p : Part). IsBlockOf t.schema p x.block) (sym part) slot.block)),
      ap₂ (λ (s : Schema) (y : Block). table_rows s.cols y) schema is
          ∙ sym (own_rows t.schema t.slots i x kept.slots low there)
          ∙ sym (ap₂ (λ (s : Schema) (p : Part). rows_in_part s.time_col (rows_at (database_of ts) table) p) schema part ∙ ap (λ (rows : List Row). rows_in_part t.schema.time_col rows x.part) rows),
    )

abbrev no_slot : Slot
no_slot = record { start = 0; part = no_part; block = record { kinds = []; time_col = 0; rows = [] } }

pub part_given : (ts : List Kept) (table i : ℕ) (b : Block) → AreTables (schemas_in ts) ts → All IsSettled ts → table < length (schemas_in ts) → i < length (parts_at (source_of ts) table)
    → ((t : Kept) (x : Slot) → t ≡ get_or ts table t → x ≡ get_or t.slots i x → b ≡ x.block)
    → IsBlockOf (schema_at (source_of ts) table) (part_at (source_of ts) table i) b × HasRowsOf (source_of ts) table i b
part_given ts table i b are settled lt low given =
    let t : Kept = get_or ts table no_kept in
    let x : Slot = get_or t.slots i no_slot in
    let one = is_one ts table are.each settled lt in
    let here : get_or ts table no_kept ≡ get_or ts table (get_or ts table no_kept) = get_or_default ts table no_kept t (omega (arith, lt, length-map ts (λ (t : Kept). t.schema))) in
    let low' : i < length (get_or ts table no_kept).slots = omega (arith, low, ap length one.parts, length-map (get_or ts table no_kept).slots (λ (x : Slot). x.part)) in
    let there = get_or_default t.slots i no_slot x low' in
    block_given (schemas_in ts) ts table i t x b are settled lt here low' there (given t x here there)

parts_rise : (s : Schema) (xs : List Slot) → AllByRecursion (IsSlot s) xs → AreAscending xs → (i j : ℕ) → i < j → j < length (map (λ (x : Slot). x.part) xs)
    → start_of (unit_of s.unit) (get_or (map (λ (x : Slot). x.part) xs) i no_part).lo < start_of (unit_of s.unit) (get_or (map (λ (x : Slot). x.part) xs) j no_part).lo
parts_rise s [] each up i j lt high = absurd (omega arith)
parts_rise s (x ∷ xs) each up i zero lt high = absurd (omega arith)
parts_rise s (x ∷ xs) each up zero (suc j) lt high = behind xs each.1 up.0 j (omega arith)
  where
    behind : (ys : List Slot) → AllByRecursion (IsSlot s) ys → AllByRecursion (λ (y : Slot). x.start < y.start) ys → (j : ℕ) → j < length (map (λ (x : Slot). x.part) ys) → start_of (unit_of s.unit) x.part.lo < start_of (unit_of s.unit) (get_or (map (λ (x : Slot). x.part) ys) j no_part).lo
    behind [] h less j low = absurd (omega arith)
    behind (y ∷ ys) h less zero low =
        let one : IsSlot s x = each.0 in
        let two : IsSlot s y = h.0 in
        let a = one.start in
        let b = two.start in
        let c = less.0 in
        omega (arith, a, b, c)
    behind (y ∷ ys) h less (suc j) low = behind ys h.1 less.1 j (omega arith)
parts_rise s (x ∷ xs) each up (suc i) (suc j) lt high = parts_rise s xs each.1 up.1 i j (omega arith) (omega arith)

pub by_partition : (schemas : List Schema) (ts : List Kept) → AreTables schemas ts → All IsSettled ts → LiesByPartition (source_of ts)
by_partition schemas ts are settled table i j lt less high =
    let one = is_one ts table are.each settled lt in
    let t : Kept = get_or ts table no_kept in
    let rise = parts_rise t.schema t.slots one.kept.slots.each one.kept.slots.apart i j less (subst (λ (ps : List Part). j < length ps) one.parts high) in
    subst (λ (s : Schema). start_of (unit_of s.unit) (part_at (source_of ts) table i).lo < start_of (unit_of s.unit) (part_at (source_of ts) table j).lo) (sym one.schema)
    (subst (λ (ps : List Part). start_of (unit_of t.schema.unit) (get_or ps i no_part).lo < start_of (unit_of t.schema.unit) (get_or ps j no_part).lo) (sym one.parts) rise)
