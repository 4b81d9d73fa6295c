-- A sample with a row for each bucket and key.
use Rattle.std.proofs.Common.{◌≡◌, ℕ, zero, suc, ◌+◌, ◌*◌, ◌<◌, cond, eqb, List, [], ◌∷◌, ◌++◌, length, map, filter, fold, drop, get_or, set, refl, sym, ap, ◌∙◌, arith, inl, inr}
use Rattle.std.specs.List.{range_with_len, zip}
use Rattle.std.proofs.lemmas.Bool.{cases_eq, eq-eqb, ne_eqb}
use Rattle.std.proofs.lemmas.List.{append-nil, append_assoc, drop_all, drop_more, ext_get_or, get_or-map, get_or-set_other, get_or-set_same, length-append, length-map, length-set}
use Rattle.std.proofs.lemmas.List.FromFn.{get_or-map-range_with_len, length-map-range_with_len}
use Rattle.std.proofs.lemmas.Slice.Zip.{get_or-zip, length-zip}
use Rattle.qd_base.specs.declared.cell.Cell.{Cell}
use Rattle.qd_base.specs.Rows.{Row}
use Rattle.qd_group.specs.Grouping.{answers_of}
use Rattle.qd_meaning.specs.declared.parts.Agg.{Agg}
use Rattle.qd_meaning.specs.declared.parts.Fill.{Fill}
use Rattle.qd_meaning.specs.declared.parts.SampleSpec.{SampleSpec}
use Rattle.qd_meaning.specs.Grouped.{aggregates, key_of, keys_of, rows_of}
use Rattle.qd_meaning.specs.Sampled.{each_fill, filled, filled_from, in_bucket, sample_row}
use Rattle.qd_rows.specs.Sets.{ResultRows, rows_in}
use Rattle.qd_time.specs.declared.buckets.Align.{Align}
use Rattle.qd_sample.specs.Cells.{answers_at, filled_by, key_row, key_rows as rows_of_keys, next_cells, placed, with_bucket}
use Rattle.qd_sample.proofs.Agrees.{group_is, is_of, key_at, key_is, keys_are, pair_is, rows_here, Setting}
use Rattle.qd_sample.proofs.Lists.{filter-filter}
use Rattle.qd_sample.proofs.Pairs.{picked}
use Rattle.qd_sample.proofs.Unfilled.{answers_are}

-- ---- the cells of a bucket

pub placed_length : (columns : List (List Cell)) (keys : List ℕ) (cells : List Row) (groups : List ℕ) → length (fold (placed columns keys) cells groups) ≡ length cells
placed_length columns keys cells [] = refl
placed_length columns keys cells (g ∷ gs) = placed_length columns keys (placed columns keys cells g) gs ∙ length-set cells (get_or keys g 0) (answers_at columns g)

-- a key without a group keeps its cells
placed_none : (columns : List (List Cell)) (keys : List ℕ) (k : ℕ) (groups : List ℕ) (cells : List Row) → filter (λ g. eqb (get_or keys g 0) k) groups ≡ [] → get_or (fold (placed columns keys) cells groups) k [] ≡ get_or cells k []
placed_none columns keys k [] cells none = refl
placed_none columns keys k (g ∷ gs) cells none = elim (cases_eq (get_or keys g 0) k) [
  | inl here ↦ absurd (omega (arith, ap length (sym (ap (λ b. cond b (g ∷ filter (λ x. eqb (get_or keys x 0) k) gs) (filter (λ x. eqb (get_or keys x 0) k) gs)) (eq-eqb _ k here)) ∙ none)))
  | inr other ↦
      (placed_none columns keys k gs (placed columns keys cells g) (sym (ap (λ b. cond b (g ∷ filter (λ x. eqb (get_or keys x 0) k) gs) (filter (λ x. eqb (get_or keys x 0) k) gs)) (ne_eqb _ k other)) ∙ none)
      ∙ get_or-set_other cells (get_or keys g 0) k (answers_at columns g) [] (λ e. other (sym e)))
]

-- a key with a group gets its answers
placed_one : (columns : List (List Cell)) (keys : List ℕ) (k h : ℕ) (groups : List ℕ) (cells : List Row) → k < length cells → filter (λ g. eqb (get_or keys g 0) k) groups ≡ h ∷ [] → get_or (fold (placed columns keys) cells groups) k [] ≡ answers_at columns h
placed_one columns keys k h [] cells low one = absurd (omega (arith, ap length one))
placed_one columns keys k h (g ∷ gs) cells low one = elim (cases_eq (get_or keys g 0) k) [
  | inl here ↦
      (let whole = sym (ap (λ b. cond b (g ∷ filter (λ x. eqb (get_or keys x 0) k) gs) (filter (λ x. eqb (get_or keys x 0) k) gs)) (eq-eqb _ k here)) ∙ one in
      placed_none columns keys k gs (placed columns keys cells g) (ap (drop 1) whole)
      ∙ ap (λ m. get_or (set cells m (answers_at columns g)) k []) here
      ∙ get_or-set_same cells k (answers_at columns g) [] low
      ∙ ap (answers_at columns) (ap (λ l. get_or l 0 0) whole))
  | inr other ↦ placed_one columns keys k h gs (placed columns keys cells g) (omega (arith, low, length-set cells (get_or keys g 0) (answers_at columns g))) (sym (ap (λ b. cond b (g ∷ filter (λ x. eqb (get_or keys x 0) k) gs) (filter (λ x. eqb (get_or keys x 0) k) gs)) (ne_eqb _ k other)) ∙ one)
]

pub next_length : (columns : List (List Cell)) (keys : List ℕ) (fills : List Fill) (before : List Row) (groups : List ℕ) → length (next_cells columns keys fills before groups) ≡ length before
next_length columns keys fills before groups = placed_length columns keys (map (filled_by fills) before) groups ∙ length-map before (filled_by fills)

filled_some : (aggs : List Agg) (fills : List Fill) (before : Row) (rows : List Row) → 0 < length rows → filled aggs fills before rows ≡ aggregates aggs rows
filled_some aggs fills before [] some = absurd (omega arith)
filled_some aggs fills before (r ∷ rs) some = refl

zip_at : {X Y Z : Type 0} (f : X × Y → Z) (xs : List X) (ys : List Y) (k : ℕ) (d : X) (e : Y) (z : Z) → k < length xs → k < length ys → get_or (map f (zip xs ys)) k z ≡ f (get_or xs k d, get_or ys k e)
zip_at f xs ys k d e z low there = get_or-map f (zip xs ys) k (d, e) z (omega (arith, length-zip xs ys, low, there)) ∙ ap f (get_or-zip xs ys k (d, e) low there)

-- the cells that the meaning gives each key in a bucket
abbrev pub cells_of : SampleSpec → Align → ℕ → List Row → List Row → List Row → ℕ → List Row
cells_of spec align time_col keys befores rows start =
    let here = in_bucket spec.stride align time_col start rows in
    map (λ k. filled spec.group.aggs (each_fill spec.fills spec.group.aggs) k.1 (rows_of spec.group.keys k.0 here)) (zip keys befores)

abbrev pub deals_of : List ℕ → ℕ → ℕ → List (List ℕ)
deals_of of_bucket groups buckets = map (λ b. filter (λ g. eqb (get_or of_bucket g 0) b) (range_with_len 0 groups)) (range_with_len 0 buckets)

module _ (s : ResultRows) (spec : SampleSpec) (align : Align) (time_col : ℕ) (starts bn kn kfs ns fs : List ℕ) (set : Setting s spec.group.keys spec.stride align time_col starts bn kn kfs ns fs)
    (columns : List (List Cell)) (shown : columns ≡ map (answers_of ns (length fs) (rows_in s)) spec.group.aggs) (fills : List Fill) (fills_are : fills ≡ each_fill spec.fills spec.group.aggs) where
  abbrev of_bucket : List ℕ
  of_bucket = map (λ f. get_or bn f 0) fs

  abbrev of_key : List ℕ
  of_key = map (λ f. get_or kn f 0) fs

  abbrev lists : List (List ℕ)
  lists = deals_of (map (λ f. get_or bn f 0) fs) (length fs) (length starts)

  abbrev keys : List Row
  keys = keys_of spec.group.keys (rows_in s)

  keys_length : length (keys_of spec.group.keys (rows_in s)) ≡ length kfs
  keys_length = ap length (keys_are s spec.group.keys spec.stride align time_col starts bn kn kfs ns fs set) ∙ length-map kfs (λ f. get_or (map (key_of spec.group.keys) (rows_in s)) f [])

  key_here : (k : ℕ) → k < length kfs → get_or (keys_of spec.group.keys (rows_in s)) k [] ≡ key_at s spec.group.keys kfs k
  key_here k low =
      ap (λ (l : List Row). get_or l k []) (keys_are s spec.group.keys spec.stride align time_col starts bn kn kfs ns fs set)
      ∙ get_or-map (λ f. get_or (map (key_of spec.group.keys) (rows_in s)) f []) kfs k 0 [] low
      ∙ key_is s spec.group.keys spec.stride align time_col starts bn kn kfs ns fs set k low

  -- a key's cells in a bucket
  cell_is : (b k : ℕ) → b < length starts → k < length kfs → (befores : List Row) → length befores ≡ length kfs
      → get_or (next_cells columns of_key fills befores (get_or lists b [])) k []
      ≡ filled spec.group.aggs (each_fill spec.fills spec.group.aggs) (get_or befores k []) (rows_of spec.group.keys (key_at s spec.group.keys kfs k) (in_bucket spec.stride align time_col (get_or starts b 0) (rows_in s)))
  cell_is b k b_low k_low befores size = elim (pair_is s spec.group.keys spec.stride align time_col starts bn kn kfs ns fs set b k b_low k_low) [
    | inr empty ↦
        (placed_none columns of_key k (get_or lists b []) (map (filled_by fills) befores) (chosen ∙ empty.none)
        ∙ get_or-map (filled_by fills) befores k [] [] (omega (arith, size))
        ∙ ap (λ (f : List Fill). filled_by f (get_or befores k [])) fills_are
        ∙ sym (ap (filled spec.group.aggs (each_fill spec.fills spec.group.aggs) (get_or befores k [])) (rows_here spec.group.keys spec.stride align time_col (get_or starts b 0) (key_at s spec.group.keys kfs k) (rows_in s) ∙ empty.empty)))
    | inl (g, only) ↦
        (placed_one columns of_key k g (get_or lists b []) (map (filled_by fills) befores) (omega (arith, size, length-map befores (filled_by fills))) (chosen ∙ only.only)
        ∙ answers_are s spec align time_col starts bn kn kfs ns fs set columns shown g only.low
        ∙ ap (aggregates spec.group.aggs) (group_is s spec.group.keys spec.stride align time_col starts bn kn kfs ns fs set b k g only)
        ∙ sym (filled_some spec.group.aggs (each_fill spec.fills spec.group.aggs) (get_or befores k []) (filter (is_of spec.group.keys spec.stride align time_col (get_or starts b 0) (key_at s spec.group.keys kfs k)) (rows_in s)) only.some)
        ∙ sym (ap (filled spec.group.aggs (each_fill spec.fills spec.group.aggs) (get_or befores k [])) (rows_here spec.group.keys spec.stride align time_col (get_or starts b 0) (key_at s spec.group.keys kfs k) (rows_in s))))
  ]
    where
      chosen : filter (λ g. eqb (get_or of_key g 0) k) (get_or lists b []) ≡ picked of_bucket of_key (length fs) b k
      chosen =
          ap (filter (λ g. eqb (get_or of_key g 0) k)) (get_or-map-range_with_len (λ x. filter (λ g. eqb (get_or of_bucket g 0) x) (range_with_len 0 (length fs))) 0 (length starts) b b [] b_low (omega arith))
          ∙ filter-filter (λ g. eqb (get_or of_key g 0) k) (λ g. eqb (get_or of_bucket g 0) b) (range_with_len 0 (length fs))

  abbrev make : ℕ → Row × Row → Row
  make b k = filled spec.group.aggs (each_fill spec.fills spec.group.aggs) k.1 (rows_of spec.group.keys k.0 (in_bucket spec.stride align time_col (get_or starts b 0) (rows_in s)))

  -- the cells of all keys
  cells_are : (b : ℕ) → b < length starts → (befores : List Row) → length befores ≡ length kfs → next_cells columns of_key fills befores (get_or lists b []) ≡ cells_of spec align time_col keys befores (rows_in s) (get_or starts b 0)
  cells_are b low befores size =
      ext_get_or [] (next_cells columns of_key fills befores (get_or lists b [])) (cells_of spec align time_col keys befores (rows_in s) (get_or starts b 0)) (omega (arith, next_length columns of_key fills befores (get_or lists b []), size, whole))
      (λ k there.
      let k_low : k < length kfs = omega (arith, there, next_length columns of_key fills befores (get_or lists b []), size) in
      cell_is b k low k_low befores size
      ∙ sym (zip_at (make b) keys befores k [] [] [] (omega (arith, k_low, keys_length)) (omega (arith, k_low, size))
      ∙ ap (λ (key : Row). (make b) (key, get_or befores k [])) (key_here k k_low)))
    where
      whole : length (cells_of spec align time_col keys befores (rows_in s) (get_or starts b 0)) ≡ length kfs
      whole = length-map (zip keys befores) (make b) ∙ omega (arith, length-zip keys befores, keys_length, size)

  -- the rows of a bucket
  rows_are : (start : ℕ) (cells : List Row) → length cells ≡ length kfs → rows_of_keys s spec.group.keys kfs cells start ≡ map (λ (k : Row × Row). sample_row start k.0 k.1) (zip keys cells)
  rows_are start cells size =
      ext_get_or [] (rows_of_keys s spec.group.keys kfs cells start) (map (λ (k : Row × Row). sample_row start k.0 k.1) (zip keys cells))
      (omega (arith, length-map-range_with_len (key_row s spec.group.keys kfs cells start) 0 (length cells), length-map (zip keys cells) (λ (k : Row × Row). sample_row start k.0 k.1), length-zip keys cells, keys_length, size))
      (λ k there.
      let low : k < length cells = omega (arith, there, length-map-range_with_len (key_row s spec.group.keys kfs cells start) 0 (length cells)) in
      get_or-map-range_with_len (key_row s spec.group.keys kfs cells start) 0 (length cells) k k [] low (omega arith)
      ∙ ap (λ (key : Row). sample_row start key (get_or cells k [])) (sym (key_here k (omega (arith, low, size))))
      ∙ sym (zip_at (λ (k : Row × Row). sample_row start k.0 k.1) keys cells k [] [] [] (omega (arith, low, size, keys_length)) low))

  -- bucket after bucket
  walk_is : (m b : ℕ) (made : List Row) (befores : List Row) → b + m ≡ length starts → length befores ≡ length kfs
      → (fold (with_bucket s spec.group.keys kfs columns of_key fills starts lists) (made, befores) (range_with_len b m)).0 ≡ made ++ filled_from spec align time_col keys (drop b starts) befores (rows_in s)
  walk_is zero b made befores all size =
      sym (ap (λ (l : List ℕ). made ++ filled_from spec align time_col keys l befores (rows_in s)) (drop_all b starts (omega arith)) ∙ append-nil made)
  walk_is (suc m) b made befores all size =
      let low : b < length starts = omega arith in
      let start = get_or starts b 0 in
      let now = next_cells columns of_key fills befores (get_or lists b []) in
      let now_size = next_length columns of_key fills befores (get_or lists b []) ∙ size in
      walk_is m (b + 1) (made ++ rows_of_keys s spec.group.keys kfs now start) now (omega arith) now_size
      ∙ append_assoc made (rows_of_keys s spec.group.keys kfs now start) (filled_from spec align time_col keys (drop (b + 1) starts) now (rows_in s))
      ∙ ap (λ (l : List Row). made ++ (l ++ filled_from spec align time_col keys (drop (b + 1) starts) now (rows_in s))) (rows_are start now now_size)
      ∙ ap (λ (cells : List Row). made ++ (map (λ (k : Row × Row). sample_row start k.0 k.1) (zip keys cells) ++ filled_from spec align time_col keys (drop (b + 1) starts) cells (rows_in s))) (cells_are b low befores size)
      ∙ sym (ap (λ (l : List ℕ). made ++ filled_from spec align time_col keys l befores (rows_in s)) (drop_more starts b 0 low))

  pub filled_is : (befores : List Row) → length befores ≡ length kfs → (fold (with_bucket s spec.group.keys kfs columns of_key fills starts lists) ([], befores) (range_with_len 0 (length starts))).0 ≡ filled_from spec align time_col keys starts befores (rows_in s)
  filled_is befores size = walk_is (length starts) 0 [] befores (omega arith) size

-- how many rows there are, whatever the rows are made of
pub filled_length : (spec : SampleSpec) (align : Align) (time_col : ℕ) (keys : List Row) (starts : List ℕ) (befores rows : List Row) → length befores ≡ length keys → length (filled_from spec align time_col keys starts befores rows) ≡ length starts * length keys
filled_length spec align time_col keys [] befores rows size = omega arith
filled_length spec align time_col keys (start ∷ more) befores rows size =
    let now = cells_of spec align time_col keys befores rows start in
    let now_size : length (cells_of spec align time_col keys befores rows start) ≡ length keys = length-map (zip keys befores) _ ∙ omega (arith, length-zip keys befores, size) in
    let here : length (map (λ (k : Row × Row). sample_row start k.0 k.1) (zip keys now)) ≡ length keys = length-map (zip keys now) (λ (k : Row × Row). sample_row start k.0 k.1) ∙ omega (arith, length-zip keys now, now_size) in
    let next : (length more + 1) * length keys ≡ length more * length keys + length keys = omega arith in
    omega (arith, length-append (map (λ (k : Row × Row). sample_row start k.0 k.1) (zip keys now)) (filled_from spec align time_col keys more now rows), here, filled_length spec align time_col keys more now rows now_size, next)
