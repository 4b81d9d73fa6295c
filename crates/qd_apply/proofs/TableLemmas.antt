-- One table of the next version.
use Rattle.std.proofs.Common.{◌≡◌, ℕ, zero, suc, ◌+◌, ◌-◌, ◌^◌, ◌<◌, ◌≤◌, List, [], ◌∷◌, ◌++◌, length, map, take, drop, get_or, refl, sym, ap, ap₂, ◌∙◌, arith, All, subst, append-nil, append_assoc, length-append}
use Rattle.std.specs.List.{AllByRecursion, fold}
use Rattle.std.proofs.lemmas.List.{drop-append-le, get_or-map, length-map, map-append, take-append-le}
use Rattle.std.proofs.lemmas.List.Elements.{All-from_recursion, recursion_from_All}
use Rattle.std.proofs.lemmas.List.Sums.{sum_by-cons}
use Rattle.std.proofs.Math.Seq.{drop-append_seam}
use Rattle.qd_base.specs.declared.limits.TheConstants.{MAX_TIME}
use Rattle.qd_base.specs.declared.part.Part.{Part}
use Rattle.qd_base.specs.declared.schema.Col.{Col}
use Rattle.qd_base.specs.declared.schema.Schema.{Schema}
use Rattle.qd_base.specs.Database.{missing, StoredTable}
use Rattle.qd_base.specs.Lawful.{HasKinds, IsRowOf, IsSchema}
use Rattle.qd_base.specs.Laws.{IsInOrder}
use Rattle.qd_base.specs.Rows.{Row, put, time_of}
use Rattle.qd_base.specs.Schemas.{with_column, with_keys}
use Rattle.qd_base.proofs.Order.{in_order-append}
use Rattle.qd_block.specs.Blocks.{Block, in_time_order, kinds_in, IsWhole}
use Rattle.qd_manifest.specs.Spelling.{no_part, rows_shown, AreParts, IsPart}
use Rattle.qd_merge.specs.declared.plan.Act.{Act}
use Rattle.qd_merge.specs.Batch.{last_of_equals}
use Rattle.qd_merge.specs.Owners.{AreInOrder}
use Rattle.qd_merge.proofs.Batches.{batch_is_batch, each-lasts, one_by_one}
use Rattle.qd_rows.specs.Sets.{absent}
use Rattle.qd_scan.specs.Sources.{table_rows, IsBlockOf}
use Rattle.qd_apply.specs.Arrivals.{wide}
use Rattle.qd_apply.specs.Next.{acts_of, batch_of, no_piece, pieces_after, pieces_in, rules_of, table_after, times_in, Piece}
use Rattle.qd_apply.specs.Stands.{rows_in_parts}
use Rattle.qd_apply.proofs.EachLemmas.{each_fold, each_then}
use Rattle.qd_apply.proofs.LeaveLemmas.{acts_leave, joined, moments, rising, IsBatchOf, Leaves, Within}
use Rattle.qd_apply.proofs.PieceLemmas.{keys_are, piece_each, piece_order, rows_of, IsPiece}
use Rattle.qd_apply.proofs.RangeLemmas.{none_before, since}
use Rattle.qd_apply.proofs.ShareLemmas.{acts_walked, ascending_order, walked_acts, AreAscending}
use Rattle.qd_apply.proofs.WideLemmas.{absent_all}

-- ---- a schema that has got columns, and maybe other keys

pub record Grows (old new : Schema) : Type 0 where
  pub more : List Col
  pub keys : List ℕ
  pub is : new ≡ record old { cols = old.cols ++ more; keys = keys }

pub grows_none : (s : Schema) → Grows s s
grows_none s = record { more = []; keys = s.keys; is = ap (λ (cs : List Col). let x : Schema = record s { cols = cs } in x) (sym (append-nil s.cols)) }

pub grows_one : (old new : Schema) (c : Col) → Grows old new → Grows old (with_column c new)
grows_one old new c g = record {
  more = g.more ++ c ∷ [];
  keys = g.keys;
  is = ap (with_column c) g.is ∙ ap (λ (cs : List Col). let x : Schema = record old { cols = cs; keys = g.keys } in x) (append_assoc old.cols g.more (c ∷ []));
}

pub grows_keys : (old new : Schema) (keys : List ℕ) → Grows old new → Grows old (with_keys keys new)
grows_keys old new keys g = record { more = g.more; keys = keys; is = ap (with_keys keys) g.is }

piece_wider : (s : Schema) (more : List Col) (keys : List ℕ) (x : Piece) → IsPiece s x → IsPiece (record s { cols = s.cols ++ more; keys = keys }) x
piece_wider s more keys x is =
    let n = x.part.cols in
    let few : n ≤ length s.cols = is.columns in
    record {
      whole = is.whole;
      block = record {
        rows = is.block.rows;
        columns = is.block.columns;
        kinds = is.block.kinds ∙ sym (ap (take n) (map-append (λ (c : Col). c.kind) s.cols more) ∙ take-append-le n (kinds_in s.cols) (kinds_in more) (omega (arith, few, length-map s.cols (λ (c : Col). c.kind))));
        time_col = is.block.time_col;
        fit = subst (λ (cs : List Col). All (HasKinds cs) x.block.rows) (sym (take-append-le n s.cols more few)) is.block.fit;
        first = is.block.first;
        last = is.block.last;
      };
      some = is.some;
      timed = is.timed;
      columns = omega (arith, few, length-append s.cols more);
      in_order = is.in_order;
      timely = is.timely;
      together = is.together;
    }

pub pieces_grow : (old new : Schema) (xs : List Piece) → Grows old new → AllByRecursion (IsPiece old) xs → AllByRecursion (IsPiece new) xs
pieces_grow old new xs g each = subst (λ (s : Schema). AllByRecursion (IsPiece s) xs) (sym g.is) (each_then (IsPiece old) (IsPiece (record old { cols = old.cols ++ g.more; keys = g.keys })) (piece_wider old g.more g.keys) xs each)

-- its rows so far are wider
wide_row : (cols more : List Col) (n : ℕ) (r : Row) → length r ≡ n → n ≤ length cols → wide (cols ++ more) (r ++ absent (drop n cols)) ≡ r ++ absent (drop n (cols ++ more))
wide_row cols more n r size few =
    let here : Row = absent (drop n cols) in
    let count : length (r ++ here) ≡ length cols = (let e = absent_all n cols few in omega (arith, e, size, length-append r here)) in
    ap (λ (m : ℕ). (r ++ here) ++ absent (drop m (cols ++ more))) count
    ∙ ap (λ (l : List Col). (r ++ here) ++ absent l) (drop-append_seam cols more)
    ∙ append_assoc r here (absent more)
    ∙ ap (λ (l : Row). r ++ l) (sym (map-append (λ (c : Col). missing c.kind) (drop n cols) more))
    ∙ ap (λ (l : List Col). r ++ absent l) (sym (drop-append-le n cols more few))

wide_rows : (cols more : List Col) (n : ℕ) (rows : List Row) → AllByRecursion (λ (r : Row). length r ≡ n) rows → n ≤ length cols → map (wide (cols ++ more)) (map (λ (r : Row). r ++ absent (drop n cols)) rows) ≡ map (λ (r : Row). r ++ absent (drop n (cols ++ more))) rows
wide_rows cols more n [] sizes few = refl
wide_rows cols more n (r ∷ rows) sizes few = ap₂ (λ (a : Row) (l : List Row). a ∷ l) (wide_row cols more n r sizes.0 few) (wide_rows cols more n rows sizes.1 few)

joined_wide : (s : Schema) (more : List Col) (xs : List Piece) → AllByRecursion (IsPiece s) xs → map (wide (s.cols ++ more)) (joined s xs) ≡ joined (record s { cols = s.cols ++ more }) xs
joined_wide s more [] each = refl
joined_wide s more (x ∷ xs) each =
    let is : IsPiece s x = each.0 in
    let b : Block = x.block in
    let columns = is.columns in
    let count = is.block.columns in
    map-append (wide (s.cols ++ more)) (rows_of s x) (joined s xs)
    ∙ ap₂ (λ (a l : List Row). a ++ l)
    (wide_rows s.cols more (length b.kinds) b.rows (recursion_from_All (λ (r : Row). length r ≡ length b.kinds) b.rows is.whole.cells) (omega (arith, columns, count)))
    (joined_wide s more xs each.1)

pub joined_grown : (old new : Schema) (xs : List Piece) → Grows old new → AllByRecursion (IsPiece old) xs → map (wide new.cols) (joined old xs) ≡ joined new xs
joined_grown old new xs g each =
    ap (λ (s : Schema). map (wide s.cols) (joined old xs)) g.is
    ∙ joined_wide old g.more xs each
    ∙ ap (λ (s : Schema). joined s xs) (sym g.is)

-- ---- parts and their pieces

pub parts_of_pieces : (blocks : ℕ → Block) (ps : List Part) → map (λ (x : Piece). x.part) (pieces_in blocks ps) ≡ ps
parts_of_pieces blocks [] = refl
parts_of_pieces blocks (p ∷ ps) = ap (λ (l : List Part). p ∷ l) (parts_of_pieces blocks ps)

pub rows_of_pieces : (s : Schema) (blocks : ℕ → Block) (ps : List Part) → joined s (pieces_in blocks ps) ≡ rows_in_parts s.cols blocks ps
rows_of_pieces s blocks [] = refl
rows_of_pieces s blocks (p ∷ ps) = ap (λ (l : List Row). table_rows s.cols (blocks p.block) ++ l) (rows_of_pieces s blocks ps)

-- parts apart, and pieces in order
tail_apart : (p : Part) (ps : List Part) → ((i : ℕ) → i + 1 < length (p ∷ ps) → (get_or (p ∷ ps) i no_part).hi < (get_or (p ∷ ps) (i + 1) no_part).lo) → (i : ℕ) → i + 1 < length ps → (get_or ps i no_part).hi < (get_or ps (i + 1) no_part).lo
tail_apart p ps apart i lt =
    let e : suc i + 1 ≡ suc (i + 1) = omega arith in
    subst (λ (n : ℕ). (get_or ps i no_part).hi < (get_or (p ∷ ps) n no_part).lo) e (apart (suc i) (omega (arith, lt)))

pub ascend : (blocks : ℕ → Block) (ps : List Part) → AllByRecursion (λ (p : Part). p.lo ≤ p.hi) ps → ((i : ℕ) → i + 1 < length ps → (get_or ps i no_part).hi < (get_or ps (i + 1) no_part).lo) → AreAscending (pieces_in blocks ps)
ascend blocks [] each apart = tt
ascend blocks (p ∷ []) each apart = (tt, tt)
ascend blocks (p ∷ (q ∷ ps)) each apart =
    let rest = ascend blocks (q ∷ ps) each.1 (tail_apart p (q ∷ ps) apart) in
    let first : p.hi < q.lo = apart 0 (omega arith) in
    let there : q.lo ≤ q.hi = each.1.0 in
    ((first, each_then (λ (x : Piece). q.hi < x.part.lo) (λ (x : Piece). p.hi < x.part.lo) (λ x lt. omega (arith, lt, first, there)) (pieces_in blocks ps) rest.0), rest)

parts_apart : (xs : List Piece) → AreAscending xs → (i : ℕ) → i + 1 < length (map (λ (x : Piece). x.part) xs) → (get_or (map (λ (x : Piece). x.part) xs) i no_part).hi < (get_or (map (λ (x : Piece). x.part) xs) (i + 1) no_part).lo
parts_apart [] up i lt = absurd (omega arith)
parts_apart (x ∷ []) up i lt = absurd (omega arith)
parts_apart (x ∷ (y ∷ xs)) up zero lt = up.0.0
parts_apart (x ∷ (y ∷ xs)) up (suc i) lt =
    let ps = map (λ (z : Piece). z.part) (y ∷ xs) in
    let e : suc (i + 1) ≡ suc i + 1 = omega arith in
    subst (λ (n : ℕ). (get_or ps i no_part).hi < (get_or (x.part ∷ ps) n no_part).lo) e (parts_apart (y ∷ xs) up.1 i (omega (arith, lt)))

-- no more parts than rows, and no part with more rows
piece_count : (s : Schema) (x : Piece) → IsPiece s x → x.part.rows ≡ length (rows_of s x)
piece_count s x is = sym is.block.rows ∙ sym (length-map x.block.rows (λ (r : Row). r ++ absent (drop (length x.block.kinds) s.cols)))

-- a piece of one row has one time
piece_one : (s : Schema) (x : Piece) → IsPiece s x → x.part.rows ≡ 1 → x.part.lo ≡ x.part.hi
piece_one s x is one =
    let last : 0 ≡ x.part.rows - 1 = omega (arith, one) in
    sym is.block.first ∙ ap (λ (i : ℕ). time_of s.time_col (get_or x.block.rows i [])) last ∙ is.block.last

-- parts show the rows of their pieces
pub shown_joined : (s : Schema) (xs : List Piece) → AllByRecursion (IsPiece s) xs → rows_shown (map (λ (x : Piece). x.part) xs) ≡ length (joined s xs)
shown_joined s [] each = refl
shown_joined s (x ∷ xs) each =
    let here = piece_count s x each.0 in
    let later = shown_joined s xs each.1 in
    omega (arith, sum_by-cons (λ (p : Part). p.rows) x.part (map (λ (y : Piece). y.part) xs), here, later, length-append (rows_of s x) (joined s xs))

parts_few : (s : Schema) (xs : List Piece) → AllByRecursion (IsPiece s) xs → length xs ≤ length (joined s xs)
parts_few s [] each = omega arith
parts_few s (x ∷ xs) each =
    let count = piece_count s x each.0 in
    let some = each.0.some in
    let rest = parts_few s xs each.1 in
    omega (arith, count, some, rest, length-append (rows_of s x) (joined s xs))

rows_few : (s : Schema) (most : ℕ) (xs : List Piece) → AllByRecursion (IsPiece s) xs → length (joined s xs) < most → AllByRecursion (λ (x : Piece). x.part.rows < most) xs
rows_few s most [] each few = tt
rows_few s most (x ∷ xs) each few =
    let count = piece_count s x each.0 in
    (omega (arith, count, few, length-append (rows_of s x) (joined s xs)), rows_few s most xs each.1 (omega (arith, few, length-append (rows_of s x) (joined s xs))))

-- ---- a table that stands for rows

pub record TableStands (blocks : ℕ → Block) (s : Schema) (ps : List Part) (rows : List Row) : Type 0 where
  pub parts : AreParts s ps
  pub whole : All (λ (p : Part). IsWhole (blocks p.block)) ps
  pub fit : All (λ (p : Part). IsBlockOf s p (blocks p.block)) ps
  pub rows_are : rows_in_parts s.cols blocks ps ≡ rows
  pub shown : rows_shown ps ≡ length rows

all_parts : (P : Part → Type 0) (xs : List Piece) → AllByRecursion (λ (x : Piece). P x.part) xs → All P (map (λ (x : Piece). x.part) xs)
all_parts P xs h = All-from_recursion P (map (λ (x : Piece). x.part) xs) (Rattle.qd_apply.proofs.EachLemmas.each_map P (λ (x : Piece). x.part) xs h)

rows_by_number : (s : Schema) (blocks : ℕ → Block) (xs : List Piece) → AllByRecursion (λ (x : Piece). blocks x.part.block ≡ x.block) xs → rows_in_parts s.cols blocks (map (λ (x : Piece). x.part) xs) ≡ joined s xs
rows_by_number s blocks [] h = refl
rows_by_number s blocks (x ∷ xs) h = ap₂ (λ (b : Block) (l : List Row). table_rows s.cols b ++ l) h.0 (rows_by_number s blocks xs h.1)

pub table_stands : (s : Schema) (blocks : ℕ → Block) (xs : List Piece) (to : ℕ) (rows : List Row) → Leaves s 0 to rows xs → AllByRecursion (λ (x : Piece). blocks x.part.block ≡ x.block) xs → length rows < 2 ^ 64 → TableStands blocks s (map (λ (x : Piece). x.part) xs) rows
table_stands s blocks xs to rows leaves named few =
    let each : AllByRecursion (IsPiece s) xs = each_then (Within s 0 to) (IsPiece s) (λ x is. is.0) xs leaves.each in
    let count : length (joined s xs) < 2 ^ 64 = subst (λ (l : List Row). length l < 2 ^ 64) (sym leaves.rows_are) few in
    let both = Rattle.qd_apply.proofs.EachLemmas.each_both (IsPiece s) (λ (x : Piece). blocks x.part.block ≡ x.block) xs each named in
    let counted = Rattle.qd_apply.proofs.EachLemmas.each_both (IsPiece s) (λ (x : Piece). x.part.rows < 2 ^ 64) xs each (rows_few s (2 ^ 64) xs each count) in
    record {
      parts = record {
        each = all_parts (IsPart s) xs
            (each_then (λ (x : Piece). IsPiece s x × (x.part.rows < 2 ^ 64)) (λ (x : Piece). IsPart s x.part)
            (λ x h. record { some = h.0.some; few = h.1; timed = h.0.timed; columns = h.0.columns; in_order = h.0.in_order; timely = h.0.timely; together = h.0.together; one_time = piece_one s x h.0 }) xs counted);
        apart = parts_apart xs leaves.apart;
        few = (let all = parts_few s xs each in omega (arith, all, count, length-map xs (λ (x : Piece). x.part)));
      };
      whole = all_parts (λ (p : Part). IsWhole (blocks p.block)) xs (each_then (λ (x : Piece). IsPiece s x × (blocks x.part.block ≡ x.block)) (λ (x : Piece). IsWhole (blocks x.part.block)) (λ x h. subst IsWhole (sym h.1) h.0.whole) xs both);
      fit = all_parts (λ (p : Part). IsBlockOf s p (blocks p.block)) xs (each_then (λ (x : Piece). IsPiece s x × (blocks x.part.block ≡ x.block)) (λ (x : Piece). IsBlockOf s x.part (blocks x.part.block)) (λ x h. subst (IsBlockOf s x.part) (sym h.1) h.0.block) xs both);
      rows_are = rows_by_number s blocks xs named ∙ leaves.rows_are;
      shown = shown_joined s xs each ∙ ap length leaves.rows_are;
    }

-- ---- what the acts of its batch leave

last_each : (s : Schema) (keys : List ℕ) (rows : List Row) → AllByRecursion (IsRowOf s) rows → AllByRecursion (IsRowOf s) (last_of_equals keys rows)
last_each s [] rows h = h
last_each s (k ∷ ks) rows h = each-lasts (k ∷ ks) (IsRowOf s) rows h

pub batch_is : (t : StoredTable) → IsSchema t.schema → AllByRecursion (IsRowOf t.schema) t.rows → IsBatchOf t.schema (batch_of t)
batch_is t schema fit =
    let s : Schema = t.schema in
    let is = batch_is_batch s.time_col s.keys t.rows in
    record {
      schema = schema;
      order = is.in_order;
      fit = last_each s s.keys (in_time_order s.time_col t.rows) (each_fold s.time_col (IsRowOf s) [] [] t.rows tt fit);
      distinct = is.distinct;
    }

-- the times of the rows of a part's block
abbrev pub olds_of : Schema → (ℕ → Block) → List Part → ℕ → List ℕ
olds_of s blocks ps n = times_in s (blocks (get_or ps n no_part).block).rows

pub olds_are : (s : Schema) (blocks : ℕ → Block) (ps : List Part) (n : ℕ) → n < length (pieces_in blocks ps) → olds_of s blocks ps n ≡ times_in s (get_or (pieces_in blocks ps) n no_piece).block.rows
olds_are s blocks ps n lt =
    let f : Part → Piece = λ p. record { part = p; block = blocks p.block } in
    sym (ap (λ (x : Piece). times_in s x.block.rows) (get_or-map f ps n no_part no_piece (omega (arith, lt, length-map ps f))))

-- what becomes of a table's parts, by where they begin and end
pub acts_are : (blocks : ℕ → Block) (counts : List ℕ) (split : ℕ) (ps : List Part) (t : StoredTable) → IsBatchOf t.schema (batch_of t) → AllByRecursion (IsPiece t.schema) (pieces_in blocks ps) → AreAscending (pieces_in blocks ps)
    → acts_of blocks counts split ps t ≡ walked_acts (rules_of split t.schema) counts (olds_of t.schema blocks ps) (times_in t.schema (batch_of t)) 0 0 ps
acts_are blocks counts split ps t batch each up =
    let s : Schema = t.schema in
    let old = pieces_in blocks ps in
    let rows = batch_of t in
    let begin : AllByRecursion (λ (x : Piece). x.part.lo ≤ MAX_TIME) old = each_then (IsPiece s) (λ (x : Piece). x.part.lo ≤ MAX_TIME) (λ x is. let a = is.in_order in let b = is.timely in omega (arith, a, b)) old each in
    let ordered = subst AreInOrder (parts_of_pieces blocks ps) (ascending_order old (each_then (IsPiece s) (λ (x : Piece). x.part.lo ≤ x.part.hi) (λ x is. is.in_order) old each) up) in
    let begins = subst (All (λ (p : Part). p.lo ≤ MAX_TIME)) (parts_of_pieces blocks ps) (all_parts (λ (p : Part). p.lo ≤ MAX_TIME) old begin) in
    acts_walked (rules_of split s) counts (olds_of s blocks ps) (times_in s rows) ps ordered begins (rising s old rows batch) (moments s old rows batch)

joined_order : (s : Schema) (xs : List Piece) → AllByRecursion (IsPiece s) xs → AreAscending xs → IsInOrder s.time_col (joined s xs)
joined_order s [] each up = tt
joined_order s (x ∷ xs) each up =
    in_order-append s.time_col (rows_of s x) (joined s xs) (piece_order s x each.0) (joined_order s xs each.1 up.1)
    (each_then (λ r. IsRowOf s r × (x.part.lo ≤ time_of s.time_col r) × (time_of s.time_col r ≤ x.part.hi)) (λ r. AllByRecursion (λ (y : Row). time_of s.time_col r ≤ time_of s.time_col y) (joined s xs))
    (λ r h. let high = h.2 in each_then (λ (y : Row). x.part.hi < time_of s.time_col y) (λ (y : Row). time_of s.time_col r ≤ time_of s.time_col y) (λ y lt. omega (arith, lt, high)) (joined s xs) (behind xs each.1 up.0))
    (rows_of s x) (piece_each s x each.0))
  where
    behind : (ys : List Piece) → AllByRecursion (IsPiece s) ys → AllByRecursion (λ (y : Piece). x.part.hi < y.part.lo) ys → AllByRecursion (λ (r : Row). x.part.hi < time_of s.time_col r) (joined s ys)
    behind [] each low = tt
    behind (y ∷ ys) each low =
        Rattle.qd_apply.proofs.EachLemmas.each_append (λ (r : Row). x.part.hi < time_of s.time_col r) (rows_of s y) (joined s ys)
        (each_then (λ r. IsRowOf s r × (y.part.lo ≤ time_of s.time_col r) × (time_of s.time_col r ≤ y.part.hi)) (λ r. x.part.hi < time_of s.time_col r) (λ r h. let a = h.1 in let b = low.0 in omega (arith, a, b)) (rows_of s y) (piece_each s y each.0))
        (behind ys each.1 low.1)

all_from_none : (s : Schema) (xs : List Piece) → AllByRecursion (λ (x : Piece). 0 ≤ x.part.lo) xs
all_from_none s [] = tt
all_from_none s (x ∷ xs) = (omega arith, all_from_none s xs)

rows_from_none : (col : ℕ) (rows : List Row) → AllByRecursion (Rattle.qd_apply.proofs.CutLemmas.From col 0) rows
rows_from_none col [] = tt
rows_from_none col (r ∷ rows) = (omega arith, rows_from_none col rows)

pub table_leaves : (blocks : ℕ → Block) (next : ℕ) (counts : List ℕ) (split : ℕ) (ps : List Part) (t : StoredTable) → IsSchema t.schema → AllByRecursion (IsRowOf t.schema) t.rows → AllByRecursion (IsPiece t.schema) (pieces_in blocks ps) → AreAscending (pieces_in blocks ps)
    → Leaves t.schema 0 (MAX_TIME + 1) (fold (put t.schema.time_col t.schema.keys) (rows_in_parts t.schema.cols blocks ps) t.rows) (table_after blocks next counts split ps t)
table_leaves blocks next counts split ps t schema fit each up =
    let s : Schema = t.schema in
    let old = pieces_in blocks ps in
    let rows = batch_of t in
    let batch = batch_is t schema fit in
    let f = put s.time_col s.keys in
    let r = rules_of split s in
    let olds = olds_of s blocks ps in
    let times = times_in s rows in
    let done = acts_leave s old rows batch split counts olds (olds_are s blocks ps) old [] 0 0 next refl refl each up (all_from_none s old) (omega arith) (λ t few ge free. omega arith) in
    let whole : since s.time_col 0 rows ≡ rows = ap (λ (n : ℕ). drop n rows) (none_before s.time_col 0 rows (rows_from_none s.time_col rows)) in
    let rows_are : fold f (joined s old) (since s.time_col 0 rows) ≡ fold f (rows_in_parts s.cols blocks ps) t.rows =
    ap (fold f (joined s old)) whole
    ∙ one_by_one s.time_col s.keys (joined s old) t.rows (keys_are s schema) (joined_order s old each up)
    ∙ ap (λ (l : List Row). fold f l t.rows) (rows_of_pieces s blocks ps) in
    subst (λ (l : List Act). Leaves s 0 (MAX_TIME + 1) (fold f (rows_in_parts s.cols blocks ps) t.rows) (pieces_after s old rows next l)) (sym (acts_are blocks counts split ps t batch each up))
    (subst (λ (l : List Part). Leaves s 0 (MAX_TIME + 1) (fold f (rows_in_parts s.cols blocks ps) t.rows) (pieces_after s old rows next (walked_acts r counts olds times 0 0 l))) (parts_of_pieces blocks ps)
    (subst (λ (l : List Row). Leaves s 0 (MAX_TIME + 1) l (pieces_after s old rows next (walked_acts r counts olds times 0 0 (map (λ (x : Piece). x.part) old)))) rows_are done))
