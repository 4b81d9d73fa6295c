-- Pieces of a table: what their rows are, and a new one of merged rows.
use Rattle.std.proofs.Common.{◌≡◌, ℕ, zero, suc, ◌-◌, ◌<◌, ◌≤◌, List, [], ◌∷◌, ◌++◌, Some, length, map, take, drop, get_or, refl, sym, ap, ap₂, ◌∙◌, arith, All, subst, append-nil, inl, inr, ⊎_elim, slice_get}
use Rattle.std.specs.Prelude.{IsSomeAnd}
use Rattle.std.specs.List.{AllByRecursion, fold}
use Rattle.std.proofs.lemmas.List.{length-map, take_all}
use Rattle.std.proofs.lemmas.List.Elements.{All-from_recursion, recursion_from_All}
use Rattle.qd_base.specs.declared.cell.Cell.{Cell}
use Rattle.qd_base.specs.declared.cell.Cell.TheVariants as cell
use Rattle.qd_base.specs.declared.limits.TheConstants.{MAX_TIME}
use Rattle.qd_base.specs.declared.schema.Col.{Col}
use Rattle.qd_base.specs.declared.schema.ColType.{ColType}
use Rattle.qd_base.specs.declared.schema.ColType.TheVariants as kind
use Rattle.qd_base.specs.declared.schema.Schema.{Schema}
use Rattle.qd_base.specs.Database.{missing}
use Rattle.qd_base.specs.Lawful.{HasKinds, IsRowOf, IsSchema, Takes}
use Rattle.qd_base.specs.Laws.{IsInOrder}
use Rattle.qd_base.specs.Rows.{Row, put, time_in, time_of}
use Rattle.qd_base.proofs.Lawful.{HasKinds-length}
use Rattle.qd_base.proofs.Order.{in_order-fold}
use Rattle.qd_time.specs.Units.{start_of, unit_of}
use Rattle.qd_block.specs.Blocks.{Block, kinds_in, IsTimed, IsWhole}
use Rattle.qd_merge.specs.Laws.{AreKeys}
use Rattle.qd_merge.specs.Merged.{block_in, merged, rows_from, with_missing}
use Rattle.qd_merge.proofs.Wide.{map-all}
use Rattle.qd_rows.specs.Sets.{absent}
use Rattle.qd_scan.specs.Sources.{table_rows, IsBlockOf}
use Rattle.qd_scan.proofs.RowLemmas.{between_ends, table_each, table_fits, table_in_order, times_rise}
use Rattle.qd_apply.specs.Next.{new_piece, Piece}
use Rattle.qd_apply.proofs.EachLemmas.{each_fold, each_then, some_fold}
use Rattle.qd_apply.proofs.CutLemmas.{Before, From}
use Rattle.qd_apply.proofs.EdgeLemmas.{start_between}

-- a part of a table, with its block; how many rows it may have is left open
pub record IsPiece (s : Schema) (x : Piece) : Type 0 where
  pub whole : IsWhole x.block
  pub block : IsBlockOf s x.part x.block
  pub some : 1 ≤ x.part.rows
  pub timed : s.time_col < x.part.cols
  pub columns : x.part.cols ≤ length s.cols
  pub in_order : x.part.lo ≤ x.part.hi
  pub timely : x.part.hi ≤ MAX_TIME
  pub together : start_of (unit_of s.unit) x.part.lo ≡ start_of (unit_of s.unit) x.part.hi

-- its rows, as the table's
abbrev pub rows_of : Schema → Piece → List Row
rows_of s x = table_rows s.cols x.block

-- a row of a table that lies in the partition that starts at a moment
abbrev pub Lies : Schema → ℕ → Row → Type 0
Lies s start r = IsRowOf s r × (start_of (unit_of s.unit) (time_of s.time_col r) ≡ start)

-- ---- what a schema says

pub keys_are : (s : Schema) → IsSchema s → AreKeys s.time_col s.keys
keys_are s schema = ⊎_elim (λ none. inl none) (λ some. inr some.2) schema.keys

kind_at : (cols : List Col) (i : ℕ) → IsSomeAnd (slice_get cols i) (λ c. c.kind ≡ kind.Time) → slice_get (kinds_in cols) i ≡ Some kind.Time
kind_at [] i h = absurd (omega arith)
kind_at (c ∷ cs) zero h = ap Some h
kind_at (c ∷ cs) (suc i) h = kind_at cs i h

pub timed_at : (s : Schema) → IsSchema s → slice_get (kinds_in s.cols) s.time_col ≡ Some kind.Time
timed_at s schema = kind_at s.cols s.time_col schema.designated

below_cols : (cols : List Col) (i : ℕ) → IsSomeAnd (slice_get cols i) (λ c. c.kind ≡ kind.Time) → i < length cols
below_cols [] i h = absurd (omega arith)
below_cols (c ∷ cs) zero h = omega arith
below_cols (c ∷ cs) (suc i) h = let lt = below_cols cs i h in omega (arith, lt)

kinds_count : (s : Schema) → length (kinds_in s.cols) ≡ length s.cols
kinds_count s = length-map s.cols (λ (c : Col). c.kind)

-- the moment of a row is in its range
time_within : (cols : List Col) (r : Row) (col : ℕ) → HasKinds cols r → slice_get (kinds_in cols) col ≡ Some kind.Time → time_of col r ≤ MAX_TIME
time_within [] [] col h at = omega arith
time_within [] (x ∷ r) col h at = absurd h
time_within (c ∷ cs) [] col h at = absurd h
time_within (c ∷ cs) (x ∷ r) zero h at = let is : c.kind ≡ kind.Time = cc in taken x (subst (λ (k : ColType). Takes k x) is h.0)
  where
    taken : (x : Cell) → Takes kind.Time x → time_in x ≤ MAX_TIME
    taken cell.Null h = omega arith
    taken (cell.Long y) h = absurd h
    taken (cell.Bool y) h = absurd h
    taken (cell.Text y) h = absurd h
    taken (cell.Time y) h = h
time_within (c ∷ cs) (x ∷ r) (suc col) h at = time_within cs r col h.1 cc

pub row_timely : (s : Schema) → IsSchema s → (r : Row) → IsRowOf s r → time_of s.time_col r ≤ MAX_TIME
row_timely s schema r row = time_within s.cols r s.time_col row.kinds (timed_at s schema)

-- ---- the rows of a piece

pub piece_each : (s : Schema) (x : Piece) → IsPiece s x → AllByRecursion (λ r. IsRowOf s r × (x.part.lo ≤ time_of s.time_col r) × (time_of s.time_col r ≤ x.part.hi)) (rows_of s x)
piece_each s x is =
    let b : Block = x.block in
    let col : b.time_col ≡ s.time_col = is.block.time_col in
    let fit : All (HasKinds (take (length b.kinds) s.cols)) b.rows = subst (λ (n : ℕ). All (HasKinds (take n s.cols)) b.rows) (sym is.block.columns) is.block.fit in
    let fits : All (IsRowOf s) (rows_of s x) = table_fits s b is.whole col fit in
    let last : time_of s.time_col (get_or b.rows (length b.rows - 1) []) ≡ x.part.hi = ap (λ (n : ℕ). time_of s.time_col (get_or b.rows (n - 1) [])) is.block.rows ∙ is.block.last in
    let first' : time_of b.time_col (get_or b.rows 0 []) ≡ x.part.lo = subst (λ (c : ℕ). time_of c (get_or b.rows 0 []) ≡ x.part.lo) (sym col) is.block.first in
    let last' : time_of b.time_col (get_or b.rows (length b.rows - 1) []) ≡ x.part.hi = subst (λ (c : ℕ). time_of c (get_or b.rows (length b.rows - 1) []) ≡ x.part.hi) (sym col) last in
    let ends = between_ends b.time_col x.part.lo x.part.hi b.rows is.whole.order first' last' in
    let low : All (λ (r : Row). x.part.lo ≤ time_of b.time_col r) (rows_of s x) = table_each (λ (t : ℕ). x.part.lo ≤ t) s.cols b is.whole (λ k d lt. (ends k d lt).0) in
    let high : All (λ (r : Row). time_of b.time_col r ≤ x.part.hi) (rows_of s x) = table_each (λ (t : ℕ). t ≤ x.part.hi) s.cols b is.whole (λ k d lt. (ends k d lt).1) in
    recursion_from_All (λ r. IsRowOf s r × (x.part.lo ≤ time_of s.time_col r) × (time_of s.time_col r ≤ x.part.hi)) (rows_of s x)
    (λ k d lt. (fits k d lt, subst (λ (c : ℕ). x.part.lo ≤ time_of c (get_or (rows_of s x) k d)) col (low k d lt), subst (λ (c : ℕ). time_of c (get_or (rows_of s x) k d) ≤ x.part.hi) col (high k d lt)))

pub piece_order : (s : Schema) (x : Piece) → IsPiece s x → IsInOrder s.time_col (rows_of s x)
piece_order s x is = subst (λ (c : ℕ). IsInOrder c (rows_of s x)) is.block.time_col (table_in_order s.cols x.block is.whole)

pub piece_lies : (s : Schema) (x : Piece) → IsPiece s x → AllByRecursion (Lies s (start_of (unit_of s.unit) x.part.lo)) (rows_of s x)
piece_lies s x is =
    each_then (λ r. IsRowOf s r × (x.part.lo ≤ time_of s.time_col r) × (time_of s.time_col r ≤ x.part.hi)) (Lies s (start_of (unit_of s.unit) x.part.lo))
    (λ r h. (h.0, start_between (unit_of s.unit) x.part.lo x.part.hi (time_of s.time_col r) is.together h.1 h.2)) (rows_of s x) (piece_each s x is)

-- ---- a block with all columns

drop_all : {X : Type 0} (n : ℕ) (xs : List X) → length xs ≤ n → drop n xs ≡ []
drop_all zero [] h = refl
drop_all zero (x ∷ xs) h = absurd (omega arith)
drop_all (suc n) [] h = refl
drop_all (suc n) (x ∷ xs) h = drop_all n xs (omega arith)

nothing_more : (rows : List Row) → map (λ (r : Row). r ++ []) rows ≡ rows
nothing_more [] = refl
nothing_more (r ∷ rows) = ap₂ (λ (a : Row) (l : List Row). a ∷ l) (append-nil r) (nothing_more rows)

-- it has the table's rows
pub full_rows : (cols : List Col) (b : Block) → b.kinds ≡ kinds_in cols → table_rows cols b ≡ b.rows
full_rows cols b kinds =
    let count : length b.kinds ≡ length cols = ap length kinds ∙ length-map cols (λ (c : Col). c.kind) in
    ap (λ (m : List Col). map (λ (r : Row). r ++ absent m) b.rows) (drop_all (length b.kinds) cols (omega (arith, count))) ∙ nothing_more b.rows

pub missing_cells : (n : ℕ) (cols : List Col) → map missing (drop n (kinds_in cols)) ≡ absent (drop n cols)
missing_cells zero [] = refl
missing_cells zero (c ∷ cs) = ap (λ (r : Row). missing c.kind ∷ r) (missing_cells zero cs)
missing_cells (suc n) [] = refl
missing_cells (suc n) (c ∷ cs) = missing_cells n cs

-- the rows of an old block, made as wide as the table
old_rows : (cols : List Col) (old : Block) → IsWhole old → rows_from (kinds_in cols) 0 old ≡ table_rows cols old
old_rows cols old whole =
    map-all (λ (r : Row). length r ≡ length old.kinds) (with_missing (kinds_in cols)) (λ (r : Row). r ++ absent (drop (length old.kinds) cols))
    (λ r size. ap (λ (n : ℕ). r ++ map missing (drop n (kinds_in cols))) size ∙ ap (λ (m : Row). r ++ m) (missing_cells (length old.kinds) cols))
    old.rows whole.cells

-- ---- merged rows

abbrev pub grown : Schema → Block → List Row → Block
grown s old new = merged s.keys old 0 (block_in s new)

grown_rows : (s : Schema) (old : Block) (new : List Row) → IsWhole old → (grown s old new).rows ≡ fold (put s.time_col s.keys) (table_rows s.cols old) new
grown_rows s old new whole = ap (λ (rows : List Row). fold (put s.time_col s.keys) rows new) (old_rows s.cols old whole)

pub piece_rows : (s : Schema) (number : ℕ) (old : Block) (new : List Row) → IsWhole old → rows_of s (new_piece s number (grown s old new)) ≡ fold (put s.time_col s.keys) (table_rows s.cols old) new
piece_rows s number old new whole = full_rows s.cols (grown s old new) refl ∙ grown_rows s old new whole

grown_lies : (s : Schema) (start : ℕ) (old : Block) (new : List Row) → IsWhole old → AllByRecursion (Lies s start) (table_rows s.cols old) → AllByRecursion (Lies s start) new → AllByRecursion (Lies s start) (grown s old new).rows
grown_lies s start old new whole old_lies new_lies =
    subst (AllByRecursion (Lies s start)) (sym (grown_rows s old new whole)) (each_fold s.time_col (Lies s start) s.keys (table_rows s.cols old) new old_lies new_lies)

grown_whole : (s : Schema) (start : ℕ) (old : Block) (new : List Row) → IsSchema s → IsWhole old → AllByRecursion (Lies s start) (grown s old new).rows → IsInOrder s.time_col (table_rows s.cols old) → IsWhole (grown s old new)
grown_whole s start old new schema whole lies order =
    let b = grown s old new in
    record {
      few = omega (arith, schema.few, kinds_count s);
      designated = timed_at s schema;
      cells = All-from_recursion (λ (r : Row). length r ≡ length b.kinds) b.rows (each_then (Lies s start) (λ (r : Row). length r ≡ length b.kinds) (λ r h. sym (kinds_count s ∙ HasKinds-length s.cols r h.0.kinds)) b.rows lies);
      order = subst (IsInOrder s.time_col) (sym (grown_rows s old new whole)) (in_order-fold s.time_col s.keys (table_rows s.cols old) new order);
      timed = each_then (Lies s start) (IsTimed s.time_col) (λ r h. h.0.timed) b.rows lies;
    }

pub piece_made : (s : Schema) (start number : ℕ) (old : Block) (new : List Row) → IsSchema s → IsWhole old → AllByRecursion (Lies s start) (table_rows s.cols old) → IsInOrder s.time_col (table_rows s.cols old)
    → AllByRecursion (Lies s start) new → 0 < length new → IsPiece s (new_piece s number (grown s old new))
piece_made s start number old new schema whole old_lies order new_lies some =
    let u = unit_of s.unit in
    let b = grown s old new in
    let lies = grown_lies s start old new whole old_lies new_lies in
    let is_whole = grown_whole s start old new schema whole lies order in
    let all : All (Lies s start) b.rows = All-from_recursion (Lies s start) b.rows lies in
    let there : 0 < length b.rows = subst (λ (l : List Row). 0 < length l) (sym (grown_rows s old new whole)) (some_fold s.time_col s.keys (table_rows s.cols old) new some) in
    let last : length b.rows - 1 < length b.rows = omega (arith, there) in
    let rise = times_rise s.time_col b.rows is_whole.order 0 (length b.rows - 1) (omega arith) last in
    let end = all (length b.rows - 1) [] last in
    let low = row_timely s schema (get_or b.rows (length b.rows - 1) []) end.0 in
    let count = kinds_count s in
    let at = below_cols s.cols s.time_col schema.designated in
    record {
      whole = is_whole;
      block = record {
        rows = refl;
        columns = refl;
        kinds = sym (take_all (length b.kinds) (kinds_in s.cols) (omega arith));
        time_col = refl;
        fit = subst (λ (cs : List Col). All (HasKinds cs) b.rows) (sym (take_all (length b.kinds) s.cols (omega (arith, count)))) (λ k d lt. (all k d lt).0.kinds);
        first = refl;
        last = refl;
      };
      some = omega (arith, there);
      timed = omega (arith, at, count);
      columns = omega (arith, count);
      in_order = rise;
      timely = low;
      together = (all 0 [] there).1 ∙ sym end.1;
    }

-- its times lie where those of its rows do
pub made_within : (s : Schema) (number from to : ℕ) (b : Block) → 0 < length b.rows → AllByRecursion (From s.time_col from) b.rows → AllByRecursion (Before s.time_col to) b.rows → (from ≤ (new_piece s number b).part.lo) × ((new_piece s number b).part.hi < to)
made_within s number from to b some low high =
    (All-from_recursion (From s.time_col from) b.rows low 0 [] some, All-from_recursion (Before s.time_col to) b.rows high (length b.rows - 1) [] (omega (arith, some)))

pub grown_from : (s : Schema) (from : ℕ) (old : Block) (new : List Row) → IsWhole old → AllByRecursion (From s.time_col from) (table_rows s.cols old) → AllByRecursion (From s.time_col from) new → AllByRecursion (From s.time_col from) (grown s old new).rows
grown_from s from old new whole a b = subst (AllByRecursion (From s.time_col from)) (sym (grown_rows s old new whole)) (each_fold s.time_col (From s.time_col from) s.keys (table_rows s.cols old) new a b)

pub grown_before : (s : Schema) (to : ℕ) (old : Block) (new : List Row) → IsWhole old → AllByRecursion (Before s.time_col to) (table_rows s.cols old) → AllByRecursion (Before s.time_col to) new → AllByRecursion (Before s.time_col to) (grown s old new).rows
grown_before s to old new whole a b = subst (AllByRecursion (Before s.time_col to)) (sym (grown_rows s old new whole)) (each_fold s.time_col (Before s.time_col to) s.keys (table_rows s.cols old) new a b)

pub grown_some : (s : Schema) (old : Block) (new : List Row) → IsWhole old → 0 < length new → 0 < length (grown s old new).rows
grown_some s old new whole some = subst (λ (l : List Row). 0 < length l) (sym (grown_rows s old new whole)) (some_fold s.time_col s.keys (table_rows s.cols old) new some)

-- a block without rows
pub none_whole : (s : Schema) → IsSchema s → IsWhole (block_in s [])
none_whole s schema = record {
  few = omega (arith, schema.few, kinds_count s);
  designated = timed_at s schema;
  cells = λ k d lt. absurd (omega arith);
  order = tt;
  timed = tt;
}
