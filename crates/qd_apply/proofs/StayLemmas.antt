-- Old pieces that stay: with their first rows alone, and with rows behind.
use Rattle.std.proofs.Common.{◌≡◌, ℕ, zero, suc, ◌+◌, ◌-◌, ◌<◌, ◌≤◌, Bool, false, not, List, [], ◌∷◌, ◌++◌, length, map, take, drop, get_or, refl, sym, ap, ap₂, ◌∙◌, arith, All, subst, append-nil, append_assoc, inl, inr, ◌⊎◌, ⊎_elim, slice_range, length-append, length-drop}
use Rattle.std.specs.List.{AllByRecursion, IsDistinct, filter, fold}
use Rattle.std.proofs.lemmas.List.{drop-map, get_or-drop, get_or-take, get_or_append_left, get_or-append_right, length-map, length-take-le, take-map, take_all}
use Rattle.std.proofs.lemmas.List.Elements.{All-from_recursion, recursion_from_All}
use Rattle.qd_base.specs.declared.schema.Col.{Col}
use Rattle.qd_base.specs.declared.schema.Schema.{Schema}
use Rattle.qd_base.specs.Lawful.{HasKinds, IsRowOf, IsSchema}
use Rattle.qd_base.specs.Laws.{IsInOrder}
use Rattle.qd_base.specs.Rows.{Row, in_time, put, same_on, time_of}
use Rattle.qd_base.proofs.Lawful.{HasKinds-length}
use Rattle.qd_base.proofs.Order.{in_order-append}
use Rattle.qd_time.specs.Units.{start_of, unit_of}
use Rattle.qd_block.specs.Blocks.{Block, kinds_in, IsTimed, IsWhole}
use Rattle.qd_merge.specs.Laws.{AreKeys}
use Rattle.qd_merge.proofs.Puts.{put_last}
use Rattle.qd_rows.specs.Sets.{absent}
use Rattle.qd_scan.specs.Sources.{table_rows}
use Rattle.qd_scan.proofs.RowLemmas.{long_enough, time_stays, times_rise}
use Rattle.qd_apply.specs.Next.{Piece}
use Rattle.qd_apply.proofs.CutLemmas.{fold_cut, Before, From}
use Rattle.qd_apply.proofs.EachLemmas.{each_append, each_back, each_then}
use Rattle.qd_apply.proofs.EdgeLemmas.{start_between}
use Rattle.qd_apply.proofs.PieceLemmas.{full_rows, piece_each, row_timely, rows_of, IsPiece, Lies}
use Rattle.qd_apply.proofs.RangeLemmas.{each_drop, each_take}

-- ---- rows in order

module _ (col : ℕ) where
  pub in_order_take : (n : ℕ) (rows : List Row) → IsInOrder col rows → IsInOrder col (take n rows)
  in_order_take zero rows h = tt
  in_order_take (suc n) [] h = tt
  in_order_take (suc n) (r ∷ rows) h = (each_take (λ x. time_of col r ≤ time_of col x) n rows h.0, in_order_take n rows h.1)

  pub in_order_drop : (n : ℕ) (rows : List Row) → IsInOrder col rows → IsInOrder col (drop n rows)
  in_order_drop zero rows h = h
  in_order_drop (suc n) [] h = tt
  in_order_drop (suc n) (r ∷ rows) h = in_order_drop n rows h.1

  in_order_back : (xs ys : List Row) → IsInOrder col (xs ++ ys) → IsInOrder col ys
  in_order_back [] ys h = h
  in_order_back (x ∷ xs) ys h = in_order_back xs ys h.1

  -- a row in the middle is no earlier than those in front
  order_across : (rows : List Row) (row : Row) (new : List Row) → IsInOrder col (rows ++ row ∷ new) → AllByRecursion (λ x. time_of col x ≤ time_of col row) rows
  order_across [] row new h = tt
  order_across (x ∷ rows) row new h = ((each_back (λ y. time_of col x ≤ time_of col y) rows (row ∷ new) h.0).0, order_across rows row new h.1)

  -- the first row's time is the least
  pub all_from_first : (rows : List Row) → IsInOrder col rows → 0 < length rows → AllByRecursion (λ r. time_of col (get_or rows 0 []) ≤ time_of col r) rows
  all_from_first [] h some = absurd (omega arith)
  all_from_first (r ∷ rows) h some = (omega arith, h.0)

  -- ---- rows put behind all others

  distinct_row : (e : Row → Row → Bool) (rows : List Row) (row : Row) (new : List Row) → IsDistinct e (rows ++ row ∷ new) → AllByRecursion (λ x. e x row ≡ false) rows
  unfolding IsDistinct
  distinct_row e [] row new d = tt
  distinct_row e (x ∷ rows) row new d = ((each_back (λ y. e x y ≡ false) rows (row ∷ new) d.0).0, distinct_row e rows row new d.1)

  all_pass : (p : Row → Bool) (rows : List Row) → AllByRecursion (λ x. p x ≡ false) rows → filter (λ x. not (p x)) rows ≡ rows
  all_pass p [] h = refl
  all_pass p (r ∷ rows) h = rw h.0 (ap (λ l. r ∷ l) (all_pass p rows h.1))

  put_behind : (keys : List ℕ) (rows : List Row) (row : Row) → AllByRecursion (λ x. time_of col x ≤ time_of col row) rows → (keys ≡ []) ⊎ AllByRecursion (λ x. same_on keys x row ≡ false) rows → put col keys rows row ≡ rows ++ row ∷ []
  put_behind [] rows row upto differ = put_last col rows row upto
  put_behind (k ∷ ks) rows row upto differ =
      ⊎_elim (λ none. absurd (cc (none))) (λ h. ap (λ l. in_time col l row) (all_pass (λ x. same_on (k ∷ ks) x row) rows h) ∙ put_last col rows row upto) differ

  pub fold_behind : (keys : List ℕ) (rows new : List Row) → IsInOrder col (rows ++ new) → (keys ≡ []) ⊎ IsDistinct (same_on keys) (rows ++ new) → fold (put col keys) rows new ≡ rows ++ new
  fold_behind keys rows [] order apart = sym (append-nil rows)
  fold_behind keys rows (row ∷ new) order apart =
      let e : (rows ++ row ∷ []) ++ new ≡ rows ++ (row ∷ new) = append_assoc rows (row ∷ []) new in
      let differ : (keys ≡ []) ⊎ AllByRecursion (λ x. same_on keys x row ≡ false) rows = ⊎_elim (λ none. inl none) (λ d. inr (distinct_row (same_on keys) rows row new d)) apart in
      let apart' : (keys ≡ []) ⊎ IsDistinct (same_on keys) ((rows ++ row ∷ []) ++ new) = ⊎_elim (λ none. inl none) (λ d. inr (subst (IsDistinct (same_on keys)) (sym e) d)) apart in
      ap (λ l. fold (put col keys) l new) (put_behind keys rows row (order_across rows row new order) differ)
      ∙ fold_behind keys (rows ++ row ∷ []) new (subst (IsInOrder col) (sym e) order) apart'
      ∙ e

  -- a batch of rows that are no earlier, and with keys later
  pub rows_behind : (keys : List ℕ) (old new : List Row) (c : ℕ) → AreKeys col keys → IsInOrder col (old ++ new) → (keys ≡ []) ⊎ IsDistinct (same_on keys) new
      → (keys ≡ []) ⊎ (AllByRecursion (Before col c) old × AllByRecursion (From col c) new) → fold (put col keys) old new ≡ old ++ new
  rows_behind [] old new c are order distinct apart = fold_behind [] old new order (inl refl)
  rows_behind (k ∷ ks) old new c are order distinct apart =
      ⊎_elim (λ none. absurd (cc (none)))
      (λ d. ⊎_elim (λ none. absurd (cc (none)))
      (λ h.
      ap (λ l. fold (put col (k ∷ ks)) l new) (sym (append-nil old))
      ∙ fold_cut col (k ∷ ks) c old [] [] new are h.0 tt tt h.1
      ∙ ap (λ l. old ++ l) (fold_behind (k ∷ ks) [] new (in_order_back old new order) (inr d))) apart) distinct

-- ---- a block's first rows, and those behind

abbrev pub front : ℕ → Block → Block
front n b = record b { rows = take n b.rows }

abbrev pub back : ℕ → Block → Block
back n b = record b { rows = drop n b.rows }

pub front_whole : (n : ℕ) (b : Block) → IsWhole b → IsWhole (front n b)
front_whole n b is =
    let P : Row → Type 0 = λ r. length r ≡ length b.kinds in
    record {
      few = is.few;
      designated = is.designated;
      cells = All-from_recursion P (take n b.rows) (each_take P n b.rows (recursion_from_All P b.rows is.cells));
      order = in_order_take b.time_col n b.rows is.order;
      timed = each_take (IsTimed b.time_col) n b.rows is.timed;
    }

pub back_whole : (n : ℕ) (b : Block) → IsWhole b → IsWhole (back n b)
back_whole n b is =
    let P : Row → Type 0 = λ r. length r ≡ length b.kinds in
    record {
      few = is.few;
      designated = is.designated;
      cells = All-from_recursion P (drop n b.rows) (each_drop P n b.rows (recursion_from_All P b.rows is.cells));
      order = in_order_drop b.time_col n b.rows is.order;
      timed = each_drop (IsTimed b.time_col) n b.rows is.timed;
    }

pub front_rows : (cols : List Col) (n : ℕ) (b : Block) → table_rows cols (front n b) ≡ take n (table_rows cols b)
front_rows cols n b = sym (take-map (λ (r : Row). r ++ absent (drop (length b.kinds) cols)) n b.rows)

pub back_rows : (cols : List Col) (n : ℕ) (b : Block) → table_rows cols (back n b) ≡ drop n (table_rows cols b)
back_rows cols n b = sym (drop-map (λ (r : Row). r ++ absent (drop (length b.kinds) cols)) n b.rows)

-- wider rows have the same times
wide_times : (col : ℕ) (more : Row) (rows : List Row) → AllByRecursion (λ r. col < length r) rows → map (time_of col) (map (λ (r : Row). r ++ more) rows) ≡ map (time_of col) rows
wide_times col more [] long = refl
wide_times col more (r ∷ rows) long = ap₂ (λ (t : ℕ) (l : List ℕ). t ∷ l) (time_stays col r more long.0) (wide_times col more rows long.1)

pub piece_times : (s : Schema) (x : Piece) → IsPiece s x → map (time_of s.time_col) (rows_of s x) ≡ map (time_of s.time_col) x.block.rows
piece_times s x is =
    let b : Block = x.block in
    let long : All (λ (r : Row). s.time_col < length r) b.rows = subst (λ (c : ℕ). All (λ (r : Row). c < length r) b.rows) is.block.time_col (long_enough b is.whole) in
    wide_times s.time_col (absent (drop (length b.kinds) s.cols)) b.rows (recursion_from_All (λ (r : Row). s.time_col < length r) b.rows long)

-- ---- a piece with its first rows alone

abbrev pub shorter : Schema → Piece → ℕ → Piece
shorter s x k = record {
  part = record x.part { rows = k; hi = time_of s.time_col (get_or x.block.rows (k - 1) []) };
  block = front k x.block;
}

last_time : (s : Schema) (x : Piece) → IsPiece s x → time_of s.time_col (get_or x.block.rows (length x.block.rows - 1) []) ≡ x.part.hi
last_time s x is = ap (λ (n : ℕ). time_of s.time_col (get_or x.block.rows (n - 1) [])) is.block.rows ∙ is.block.last

pub shorter_piece : (s : Schema) (x : Piece) (k : ℕ) → IsPiece s x → 0 < k → k ≤ length x.block.rows → IsPiece s (shorter s x k)
shorter_piece s x k is some few =
    let b : Block = x.block in
    let at : k - 1 < length b.rows = omega (arith, some, few) in
    let inside : k - 1 < k = omega (arith, some) in
    let order : IsInOrder s.time_col b.rows = subst (λ (c : ℕ). IsInOrder c b.rows) is.block.time_col is.whole.order in
    let t = time_of s.time_col (get_or b.rows (k - 1) []) in
    let low = times_rise s.time_col b.rows order 0 (k - 1) (omega arith) at in
    let high = times_rise s.time_col b.rows order (k - 1) (length b.rows - 1) (omega (arith, few)) (omega (arith, some, few)) in
    let first = is.block.first in
    let last = last_time s x is in
    let from : x.part.lo ≤ time_of s.time_col (get_or b.rows (k - 1) []) = omega (arith, low, first) in
    let upto : time_of s.time_col (get_or b.rows (k - 1) []) ≤ x.part.hi = omega (arith, high, last) in
    let P : Row → Type 0 = HasKinds (take x.part.cols s.cols) in
    record {
      whole = front_whole k b is.whole;
      block = record {
        rows = length-take-le k b.rows few;
        columns = is.block.columns;
        kinds = is.block.kinds;
        time_col = is.block.time_col;
        fit = All-from_recursion P (take k b.rows) (each_take P k b.rows (recursion_from_All P b.rows is.block.fit));
        first = ap (time_of s.time_col) (get_or-take k b.rows 0 [] some) ∙ first;
        last = ap (time_of s.time_col) (get_or-take k b.rows (k - 1) [] inside);
      };
      some = omega (arith, some);
      timed = is.timed;
      columns = is.columns;
      in_order = from;
      timely = (let m = is.timely in omega (arith, upto, m));
      together = sym (start_between (unit_of s.unit) x.part.lo x.part.hi t is.together from upto);
    }

-- with all of them it is as it was
pub all_stay : (s : Schema) (x : Piece) (k : ℕ) → IsPiece s x → k ≡ length x.block.rows → shorter s x k ≡ x
all_stay s x k is all =
    ap (shorter s x) all
    ∙ ap₂ (λ (n h : ℕ). let y : Piece = record { part = record x.part { rows = n; hi = h }; block = front (length x.block.rows) x.block } in y) is.block.rows (last_time s x is)
    ∙ ap (λ (l : List Row). let y : Piece = record { part = x.part; block = record x.block { rows = l } } in y) (take_all (length x.block.rows) x.block.rows (omega arith))

-- ---- a piece with rows behind

abbrev pub longer : Schema → Piece → List Row → ℕ → ℕ → Piece
longer s x rows from to = record {
  part = record x.part { rows = x.part.rows + (to - from); hi = time_of s.time_col (get_or rows (to - 1) []) };
  block = record x.block { rows = x.block.rows ++ slice_range rows from to };
}

pub slice_count : {X : Type 0} (xs : List X) (i j : ℕ) → j ≤ length xs → length (slice_range xs i j) ≡ j - i
slice_count xs i j le = length-take-le (j - i) (drop i xs) (omega (arith, length-drop i xs, le))

pub slice_got : {X : Type 0} (xs : List X) (i j k : ℕ) (d : X) → k < j - i → get_or (slice_range xs i j) k d ≡ get_or xs (i + k) d
slice_got xs i j k d lt = get_or-take (j - i) (drop i xs) k d lt ∙ get_or-drop i xs k d

-- ones of all columns have rows as the table's
pub full_kinds : (s : Schema) (x : Piece) → IsPiece s x → x.part.cols ≡ length s.cols → x.block.kinds ≡ kinds_in s.cols
full_kinds s x is full = is.block.kinds ∙ take_all x.part.cols (kinds_in s.cols) (omega (arith, full, length-map s.cols (λ (c : Col). c.kind)))

-- what an appended piece rests on
pub record GoesBehind (s : Schema) (x : Piece) (rows : List Row) (i j : ℕ) : Type 0 where
  pub full : x.part.cols ≡ length s.cols
  pub some : i < j
  pub within : j ≤ length rows
  pub lies : AllByRecursion (Lies s (start_of (unit_of s.unit) x.part.lo)) (slice_range rows i j)
  pub order : IsInOrder s.time_col (slice_range rows i j)
  pub behind : x.part.hi ≤ time_of s.time_col (get_or rows i [])

module _ (s : Schema) (x : Piece) (rows : List Row) (i j : ℕ) (schema : IsSchema s) (is : IsPiece s x) (goes : GoesBehind s x rows i j) where
  abbrev new : List Row
  new = slice_range rows i j

  count : length new ≡ j - i
  count = slice_count rows i j goes.within

  first_new : get_or new 0 [] ≡ get_or rows i []
  first_new = let lt : 0 < j - i = (let l = goes.some in omega arith) in let e : i + 0 ≡ i = omega arith in slice_got rows i j 0 [] lt ∙ ap (λ (n : ℕ). get_or rows n []) e

  last_new : get_or new ((j - i) - 1) [] ≡ get_or rows (j - 1) []
  last_new =
      let l = goes.some in
      let lt : (j - i) - 1 < j - i = omega (arith, l) in
      let e : i + ((j - i) - 1) ≡ j - 1 = omega (arith, l) in
      slice_got rows i j ((j - i) - 1) [] lt ∙ ap (λ (n : ℕ). get_or rows n []) e

  kinds : x.block.kinds ≡ kinds_in s.cols
  kinds = full_kinds s x is goes.full

  pub own_rows : rows_of s x ≡ x.block.rows
  own_rows = full_rows s.cols x.block kinds

  -- rows in front are no later
  pub own_upto : AllByRecursion (λ r. time_of s.time_col r ≤ x.part.hi) x.block.rows
  own_upto = subst (AllByRecursion (λ r. time_of s.time_col r ≤ x.part.hi)) own_rows
      (each_then (λ r. IsRowOf s r × (x.part.lo ≤ time_of s.time_col r) × (time_of s.time_col r ≤ x.part.hi)) (λ r. time_of s.time_col r ≤ x.part.hi) (λ r h. h.2) (rows_of s x) (piece_each s x is))

  pub new_from : AllByRecursion (λ r. time_of s.time_col (get_or rows i []) ≤ time_of s.time_col r) new
  new_from =
      let l = goes.some in
      subst (λ (r : Row). AllByRecursion (λ y. time_of s.time_col r ≤ time_of s.time_col y) new) first_new
      (all_from_first s.time_col new goes.order (omega (arith, count, l)))

  pub order_both : IsInOrder s.time_col (x.block.rows ++ new)
  order_both =
      let between = goes.behind in
      in_order-append s.time_col x.block.rows new (subst (λ (c : ℕ). IsInOrder c x.block.rows) is.block.time_col is.whole.order) goes.order
      (each_then (λ r. time_of s.time_col r ≤ x.part.hi) (λ r. AllByRecursion (λ y. time_of s.time_col r ≤ time_of s.time_col y) new)
      (λ r low. each_then (λ y. time_of s.time_col (get_or rows i []) ≤ time_of s.time_col y) (λ y. time_of s.time_col r ≤ time_of s.time_col y) (λ y high. omega (arith, low, between, high)) new new_from)
      x.block.rows own_upto)

  pub longer_rows : rows_of s (longer s x rows i j) ≡ rows_of s x ++ new
  longer_rows = full_rows s.cols (longer s x rows i j).block kinds ∙ ap (λ (l : List Row). l ++ new) (sym own_rows)

  pub longer_piece : IsPiece s (longer s x rows i j)
  longer_piece =
      let b : Block = x.block in
      let all : List Row = b.rows ++ new in
      let l = goes.some in
      let w = goes.within in
      let own = is.block.rows in
      let had = is.some in
      let size : length all ≡ x.part.rows + (j - i) = omega (arith, length-append b.rows new, count, own) in
      let t = time_of s.time_col (get_or rows (j - 1) []) in
      let last_in : j - 1 < length rows = omega (arith, l, w) in
      let end : Lies s (start_of (unit_of s.unit) x.part.lo) (get_or new ((j - i) - 1) []) = All-from_recursion (Lies s (start_of (unit_of s.unit) x.part.lo)) new goes.lies ((j - i) - 1) [] (omega (arith, count, l)) in
      let end' : Lies s (start_of (unit_of s.unit) x.part.lo) (get_or rows (j - 1) []) = subst (Lies s (start_of (unit_of s.unit) x.part.lo)) last_new end in
      let late : time_of s.time_col (get_or rows i []) ≤ time_of s.time_col (get_or rows (j - 1) []) =
      subst (λ (r : Row). time_of s.time_col (get_or rows i []) ≤ time_of s.time_col r) last_new
      (All-from_recursion (λ r. time_of s.time_col (get_or rows i []) ≤ time_of s.time_col r) new new_from ((j - i) - 1) [] (omega (arith, count, l))) in
      let P : Row → Type 0 = λ r. length r ≡ length b.kinds in
      let Q : Row → Type 0 = HasKinds (take x.part.cols s.cols) in
      let full : take x.part.cols s.cols ≡ s.cols = (let f = goes.full in take_all x.part.cols s.cols (omega (arith, f))) in
      let width : length b.kinds ≡ length s.cols = ap length kinds ∙ length-map s.cols (λ (c : Col). c.kind) in
      let u = unit_of s.unit in
      record {
        whole = record {
          few = is.whole.few;
          designated = is.whole.designated;
          cells = All-from_recursion P all (each_append P b.rows new (recursion_from_All P b.rows is.whole.cells)
              (each_then (Lies s (start_of u x.part.lo)) P (λ r h. sym (width ∙ HasKinds-length s.cols r h.0.kinds)) new goes.lies));
          order = subst (λ (c : ℕ). IsInOrder c all) (sym is.block.time_col) order_both;
          timed = each_append (IsTimed b.time_col) b.rows new is.whole.timed
              (subst (λ (c : ℕ). AllByRecursion (IsTimed c) new) (sym is.block.time_col) (each_then (Lies s (start_of u x.part.lo)) (IsTimed s.time_col) (λ r h. h.0.timed) new goes.lies));
        };
        block = record {
          rows = size;
          columns = is.block.columns;
          kinds = is.block.kinds;
          time_col = is.block.time_col;
          fit = All-from_recursion Q all (each_append Q b.rows new (recursion_from_All Q b.rows is.block.fit)
              (each_then (Lies s (start_of u x.part.lo)) Q (λ r h. subst (λ (cs : List Col). HasKinds cs r) (sym full) h.0.kinds) new goes.lies));
          first = ap (time_of s.time_col) (get_or_append_left b.rows new [] 0 (omega (arith, own, had))) ∙ is.block.first;
          last = (let e : (x.part.rows + (j - i)) - 1 ≡ length b.rows + ((j - i) - 1) = omega (arith, own, l) in
              ap (λ (n : ℕ). time_of s.time_col (get_or all n [])) e
              ∙ ap (time_of s.time_col) (Rattle.std.proofs.lemmas.List.get_or-append-add b.rows new ((j - i) - 1) [] ∙ last_new));
        };
        some = omega (arith, had);
        timed = is.timed;
        columns = is.columns;
        in_order = (let a = is.in_order in let c = goes.behind in omega (arith, a, c, late));
        timely = row_timely s schema (get_or rows (j - 1) []) end'.0;
        together = sym end'.1;
      }

  -- the rows are put behind
  pub longer_put : AreKeys s.time_col s.keys → (s.keys ≡ []) ⊎ IsDistinct (same_on s.keys) new → (s.keys ≡ []) ⊎ (x.part.hi < time_of s.time_col (get_or rows i [])) → fold (put s.time_col s.keys) (rows_of s x) new ≡ rows_of s x ++ new
  longer_put are distinct later =
      let c = time_of s.time_col (get_or rows i []) in
      let apart : (s.keys ≡ []) ⊎ (AllByRecursion (Before s.time_col c) x.block.rows × AllByRecursion (From s.time_col c) new) =
      ⊎_elim (λ none. inl none) (λ lt. inr (each_then (λ r. time_of s.time_col r ≤ x.part.hi) (Before s.time_col c) (λ r le. omega (arith, le, lt)) x.block.rows own_upto, new_from)) later in
      subst (λ (l : List Row). fold (put s.time_col s.keys) l new ≡ l ++ new) (sym own_rows) (rows_behind s.time_col s.keys x.block.rows new c are order_both distinct apart)
