-- What the acts of a batch leave of a table's pieces: in order of time, the rows put one by one.
use Rattle.std.proofs.Common.{◌≡◌, ℕ, zero, suc, ◌+◌, ◌-◌, ◌<◌, ◌≤◌, min, max, Bool, true, false, leb, ltb, List, [], ◌∷◌, ◌++◌, Some, length, map, take, drop, get_or, refl, sym, ap, ap₂, ◌∙◌, arith, All, subst, append-nil, append_assoc, inl, inr, ◌⊎◌, ⊎_elim, slice_range, length-append, length-drop}
use Rattle.std.specs.List.{AllByRecursion, IsDistinct, filter, flat_map, fold}
use Rattle.std.specs.List.Sorted.{IsNonDecreasing}
use Rattle.std.proofs.lemmas.Bool.{cases_lt, leb-true, lt-ltb, ltb-true}
use Rattle.std.proofs.lemmas.Grind.{flat_map-append}
use Rattle.std.proofs.lemmas.List.{get_or-map, length-map, length-take-le}
use Rattle.std.proofs.lemmas.List.Elements.{All-from_recursion}
use Rattle.qd_base.specs.declared.limits.TheConstants.{MAX_TIME}
use Rattle.qd_base.specs.declared.schema.Schema.{Schema}
use Rattle.qd_base.specs.declared.unit.TimeUnit.{TimeUnit}
use Rattle.qd_base.specs.Lawful.{IsRowOf, IsSchema}
use Rattle.qd_base.specs.Laws.{IsInOrder}
use Rattle.qd_base.specs.Rows.{Row, put, same_on, time_of}
use Rattle.qd_time.specs.Units.{start_of, unit_of}
use Rattle.qd_time.proofs.UnitLemmas.{in_unit}
use Rattle.qd_block.specs.Blocks.{Block}
use Rattle.qd_merge.specs.declared.plan.Act.{Act}
use Rattle.qd_merge.specs.declared.plan.Act.TheVariants as act
use Rattle.qd_merge.specs.declared.shares.Rules.{Rules}
use Rattle.qd_merge.specs.Acts.{between, new_part, part_end, partition_end, partitions}
use Rattle.qd_merge.specs.Merged.{block_in}
use Rattle.qd_merge.proofs.Plans.{before_splits, between_slice, last_between, partition_next, place_passed, start_fixed}
use Rattle.qd_merge.proofs.Times.{times_rise}
use Rattle.qd_apply.specs.Next.{blocks_made, new_piece, no_piece, pieces_after, rules_of, times_in, Piece}
use Rattle.qd_apply.proofs.EachLemmas.{each_append, each_both, each_then}
use Rattle.qd_apply.proofs.CutLemmas.{fold_cut, Before, From}
use Rattle.qd_apply.proofs.EdgeLemmas.{ends_before, end_few, lies_in, same_end, starts_behind, within_end}
use Rattle.qd_apply.proofs.PieceLemmas.{grown_before, grown_from, grown_some, keys_are, made_within, none_whole, piece_each, piece_lies, piece_made, piece_order, piece_rows, row_timely, rows_of, IsPiece, Lies}
use Rattle.qd_apply.proofs.GivenLists.{distinct_drop, distinct_take}
use Rattle.qd_apply.proofs.RangeLemmas.{before_mono, before_within, each_drop, each_take, range, range_before, range_from, range_joined, rows_before, rows_split, since, since_from, since_joined}
use Rattle.qd_apply.proofs.ShareLemmas.{acts_last, acts_more, here_acts, on_share, walked_acts, AreAscending, IsAppend}
use Rattle.qd_apply.proofs.StayLemmas.{all_stay, back, back_rows, back_whole, front_rows, longer, longer_piece, longer_put, longer_rows, piece_times, shorter, shorter_piece, GoesBehind}

-- ---- pieces in order of time

abbrev pub joined : Schema → List Piece → List Row
joined s xs = flat_map (rows_of s) xs

-- a piece with times from one moment up to another
abbrev pub Within : Schema → ℕ → ℕ → Piece → Type 0
Within s from to x = IsPiece s x × (from ≤ x.part.lo) × (x.part.hi < to)

-- pieces from one moment up to another, in order, with these rows
pub record Leaves (s : Schema) (from to : ℕ) (rows : List Row) (xs : List Piece) : Type 0 where
  pub each : AllByRecursion (Within s from to) xs
  pub apart : AreAscending xs
  pub rows_are : joined s xs ≡ rows

pub leaves_none : (s : Schema) (from to : ℕ) → Leaves s from to [] []
leaves_none s from to = record { each = tt; apart = tt; rows_are = refl }

pub leaves_one : (s : Schema) (from to : ℕ) (rows : List Row) (x : Piece) → Within s from to x → rows_of s x ≡ rows → Leaves s from to rows (x ∷ [])
leaves_one s from to rows x is same = record { each = (is, tt); apart = (tt, tt); rows_are = append-nil (rows_of s x) ∙ same }

wider : (s : Schema) (from to from' to' : ℕ) (xs : List Piece) → from' ≤ from → to ≤ to' → AllByRecursion (Within s from to) xs → AllByRecursion (Within s from' to') xs
wider s from to from' to' xs low high h = each_then (Within s from to) (Within s from' to') (λ x is. (is.0, omega (arith, is.1, low), omega (arith, is.2, high))) xs h

ascending_append : (xs ys : List Piece) (c : ℕ) → AreAscending xs → AreAscending ys → AllByRecursion (λ x. x.part.hi < c) xs → AllByRecursion (λ y. c ≤ y.part.lo) ys → AreAscending (xs ++ ys)
ascending_append [] ys c h k low high = k
ascending_append (x ∷ xs) ys c h k low high = (
  each_append (λ y. x.part.hi < y.part.lo) xs ys h.0 (each_then (λ y. c ≤ y.part.lo) (λ y. x.part.hi < y.part.lo) (λ y le. let lt = low.0 in omega (arith, le, lt)) ys high),
  ascending_append xs ys c h.1 k low.1 high,
)

pub leaves_append : (s : Schema) (a b c : ℕ) (rows more : List Row) (xs ys : List Piece) → a ≤ b → b ≤ c → Leaves s a b rows xs → Leaves s b c more ys → Leaves s a c (rows ++ more) (xs ++ ys)
leaves_append s a b c rows more xs ys low high first second = record {
  each = each_append (Within s a c) xs ys (wider s a b a c xs (omega arith) high first.each) (wider s b c a c ys low (omega arith) second.each);
  apart = ascending_append xs ys b first.apart second.apart (each_then (Within s a b) (λ x. x.part.hi < b) (λ x is. is.2) xs first.each) (each_then (Within s b c) (λ y. b ≤ y.part.lo) (λ y is. is.1) ys second.each);
  rows_are = flat_map-append (rows_of s) xs ys ∙ ap₂ (λ (u v : List Row). u ++ v) first.rows_are second.rows_are;
}

-- ---- what acts leave, one act after another

pub pieces_append : (s : Schema) (old : List Piece) (rows : List Row) (next : ℕ) (xs ys : List Act) → pieces_after s old rows next (xs ++ ys) ≡ pieces_after s old rows next xs ++ pieces_after s old rows (next + length (blocks_made s old rows xs)) ys
pieces_append s old rows next [] ys = let e : next ≡ next + 0 = omega arith in ap (λ (n : ℕ). pieces_after s old rows n ys) e
pieces_append s old rows next (act.Keep part ∷ xs) ys = ap (λ (l : List Piece). get_or old part no_piece ∷ l) (pieces_append s old rows next xs ys)
pieces_append s old rows next (act.Append part from to ∷ xs) ys = ap₂ (λ (x : Piece) (l : List Piece). x ∷ l) refl (pieces_append s old rows next xs ys)
pieces_append s old rows next (act.Shorten part count ∷ xs) ys = ap₂ (λ (x : Piece) (l : List Piece). x ∷ l) refl (pieces_append s old rows next xs ys)
pieces_append s old rows next (act.Write part skip from to ∷ xs) ys =
    let n = length (blocks_made s old rows xs) in
    let e : suc next + n ≡ next + suc n = omega arith in
    ap₂ (λ (x : Piece) (l : List Piece). x ∷ l) refl (pieces_append s old rows (suc next) xs ys ∙ ap (λ (m : ℕ). pieces_after s old rows (suc next) xs ++ pieces_after s old rows m ys) e)

-- a batch of a table
pub record IsBatchOf (s : Schema) (rows : List Row) : Type 0 where
  pub schema : IsSchema s
  pub order : IsInOrder s.time_col rows
  pub fit : AllByRecursion (IsRowOf s) rows
  pub distinct : (s.keys ≡ []) ⊎ IsDistinct (same_on s.keys) rows

no_slice : {X : Type 0} (xs : List X) (i j : ℕ) → j ≤ i → slice_range xs i j ≡ []
no_slice xs i j le = let e : j - i ≡ 0 = omega arith in ap (λ (n : ℕ). take n (drop i xs)) e

some_slice : {X : Type 0} (xs : List X) (i j : ℕ) → i < j → j ≤ length xs → 0 < length (slice_range xs i j)
some_slice xs i j lt le = omega (arith, length-take-le (j - i) (drop i xs) (omega (arith, length-drop i xs)), lt)

each_slice : {X : Type 0} (P : X → Type 0) (xs : List X) (i j : ℕ) → AllByRecursion P xs → AllByRecursion P (slice_range xs i j)
each_slice P xs i j h = each_take P (j - i) (drop i xs) (each_drop P i xs h)

-- where the rows of an old piece end: behind its own, and no later than its partition or the next piece
abbrev pub FreeBefore : TimeUnit → List Piece → ℕ → Type 0
FreeBefore u [] t = Unit {0}
FreeBefore u (x ∷ xs) t = t < start_of u x.part.lo

pub record IsEnd (u : TimeUnit) (x : Piece) (xs : List Piece) (to : ℕ) : Type 0 where
  pub past : x.part.hi < to
  pub few : to ≤ MAX_TIME + 1
  pub within : to ≤ partition_end u x.part.lo
  pub later : AllByRecursion (λ y. to ≤ y.part.lo) xs
  pub edge : (t : ℕ) → t ≤ MAX_TIME → to ≤ t → FreeBefore u xs t → to ≤ start_of u t

pub end_is : (s : Schema) (x : Piece) (xs : List Piece) → IsPiece s x → AllByRecursion (λ y. x.part.hi < y.part.lo) xs → AllByRecursion (IsPiece s) xs → AreAscending xs
    → IsEnd (unit_of s.unit) x xs (part_end (unit_of s.unit) x.part (map (λ (y : Piece). y.part) xs))
end_is s x [] is apart each up =
    let u = unit_of s.unit in
    record {
      past = within_end u x.part.lo x.part.hi is.together is.timely;
      few = end_few u x.part.lo;
      within = omega arith;
      later = tt;
      edge = λ t few ge free. starts_behind u x.part.lo t ge few;
    }
end_is s x (y ∷ ys) is apart each up =
    let u = unit_of s.unit in
    let end = partition_end u x.part.lo in
    let past = within_end u x.part.lo x.part.hi is.together is.timely in
    let few = end_few u x.part.lo in
    let next : x.part.hi < y.part.lo = apart.0 in
    let there : y.part.lo ≤ y.part.hi = each.0.in_order in
    record {
      past = omega (arith, past, next);
      few = omega (arith, few);
      within = omega arith;
      later = (omega arith, each_then (λ (z : Piece). y.part.hi < z.part.lo) (λ (z : Piece). min y.part.lo end ≤ z.part.lo) (λ z lt. omega (arith, lt, there)) ys up.0);
      edge = λ t few_t ge free. elim (cases_lt y.part.lo end) [
        | inl lt ↦ absurd (let iy = in_unit u y.part.lo in let first = iy.0 in omega (arith, first, free, ge, lt))
        | inr le ↦ (let behind = starts_behind u x.part.lo t (omega (arith, ge, le)) few_t in omega (arith, behind, le))
      ];
    }

-- rows of later pieces
joined_from : (s : Schema) (c : ℕ) (xs : List Piece) → AllByRecursion (IsPiece s) xs → AllByRecursion (λ x. c ≤ x.part.lo) xs → AllByRecursion (From s.time_col c) (joined s xs)
joined_from s c [] each low = tt
joined_from s c (x ∷ xs) each low =
    let first : c ≤ x.part.lo = low.0 in
    each_append (From s.time_col c) (rows_of s x) (joined s xs)
    (each_then (λ r. IsRowOf s r × (x.part.lo ≤ time_of s.time_col r) × (time_of s.time_col r ≤ x.part.hi)) (From s.time_col c) (λ r h. let le = h.1 in omega (arith, le, first)) (rows_of s x) (piece_each s x each.0))
    (joined_from s c xs each.1 low.1)

got_behind : (front : List Piece) (x d : Piece) (xs : List Piece) → get_or (front ++ x ∷ xs) (length front) d ≡ x
got_behind [] x d xs = refl
got_behind (y ∷ front) x d xs = got_behind front x d xs

no_rows : (col c d : ℕ) (rows : List Row) → AllByRecursion (From col c) rows → AllByRecursion (λ r. time_of col r ≤ d) rows → d < c → rows ≡ []
no_rows col c d [] low high lt = refl
no_rows col c d (r ∷ rows) low high lt = absurd (let a = low.0 in let b = high.0 in omega (arith, a, b, lt))

module _ (s : Schema) (old : List Piece) (rows : List Row) (batch : IsBatchOf s rows) where
  abbrev u : TimeUnit
  u = unit_of s.unit

  abbrev col : ℕ
  col = s.time_col

  abbrev times : List ℕ
  times = map (time_of s.time_col) rows

  abbrev f : List Row → Row → List Row
  f = put s.time_col s.keys

  pub rising : IsNonDecreasing times
  rising = times_rise col rows batch.order

  pub moments : All (λ t. t ≤ MAX_TIME) times
  moments k d lt =
      let lt' : k < length rows = omega (arith, lt, length-map rows (time_of col)) in
      let fits = All-from_recursion (IsRowOf s) rows batch.fit k [] lt' in
      let is : get_or times k d ≡ time_of col (get_or rows k []) = get_or-map (time_of col) rows k [] d lt' in
      let few = row_timely s batch.schema (get_or rows k []) fits in
      omega (arith, is, few)

  -- rows of the partition of a moment
  range_lies : (at a b : ℕ) → start_of u at ≤ a → a ≤ b → b ≤ partition_end u at → AllByRecursion (Lies s (start_of u at)) (range col a b rows)
  range_lies at a b low le high =
      each_then (λ r. IsRowOf s r × ((a ≤ time_of col r) × (time_of col r < b))) (Lies s (start_of u at))
      (λ r h. (h.0, lies_in u at (time_of col r) (let ge = h.1.0 in omega (arith, low, ge)) (let lt = h.1.1 in omega (arith, lt, high))))
      (range col a b rows)
      (each_both (IsRowOf s) (λ r. (a ≤ time_of col r) × (time_of col r < b)) (range col a b rows)
      (each_slice (IsRowOf s) rows (rows_before col a rows) (rows_before col b rows) batch.fit)
      (each_both (From col a) (Before col b) (range col a b rows) (range_from col a b rows batch.order) (range_before col a b rows le batch.order)))

  -- new partitions
  abbrev IsGap : ℕ → ℕ → Type 0
  IsGap a b = (t : ℕ) → t ≤ MAX_TIME → a ≤ t → t < b → (a ≤ start_of u t) × (partition_end u (start_of u t) ≤ b)

  abbrev new_pieces : ℕ → ℕ → ℕ → List Piece
  new_pieces next i j = pieces_after s old rows next (map (new_part u times) (partitions u (slice_range times i j)))

  new_nothing : (a b next : ℕ) → rows_before col b rows ≤ rows_before col a rows → Leaves s a b (fold f [] (range col a b rows)) (new_pieces next (rows_before col a rows) (rows_before col b rows))
  new_nothing a b next none =
      let i = rows_before col a rows in
      let j = rows_before col b rows in
      subst (λ (l : List ℕ). Leaves s a b (fold f [] (range col a b rows)) (pieces_after s old rows next (map (new_part u times) (partitions u l)))) (sym (no_slice times i j none))
      (subst (λ (l : List Row). Leaves s a b (fold f [] l) []) (sym (no_slice rows i j none)) (leaves_none s a b))

  -- the piece of the first of them
  one_new : (start end next : ℕ) → start_of u start ≡ start → start ≤ end → end ≤ partition_end u start → rows_before col start rows < rows_before col end rows
      → Leaves s start end (fold f [] (range col start end rows)) (new_piece s next (Rattle.qd_merge.specs.Merged.merged s.keys (block_in s []) 0 (block_in s (range col start end rows))) ∷ [])
  one_new start end next fixed le high some =
      let part : List Row = range col start end rows in
      let within : rows_before col end rows ≤ length rows = omega (arith, before_within end times, length-map rows (time_of col)) in
      let there : 0 < length part = some_slice rows (rows_before col start rows) (rows_before col end rows) some within in
      let whole = none_whole s batch.schema in
      let b : Block = Rattle.qd_merge.specs.Merged.merged s.keys (block_in s []) 0 (block_in s part) in
      let ends = made_within s next start end b (grown_some s (block_in s []) part whole there)
      (grown_from s start (block_in s []) part whole tt (range_from col start end rows batch.order))
      (grown_before s end (block_in s []) part whole tt (range_before col start end rows le batch.order)) in
      leaves_one s start end (fold f [] part) (new_piece s next b)
      (piece_made s (start_of u start) next (block_in s []) part batch.schema whole tt tt (range_lies start start end (omega (arith, fixed)) le high) there, ends.0, ends.1)
      (piece_rows s next (block_in s []) part whole)

  pub new_leave : (fuel a b next : ℕ) → rows_before col b rows ≤ fuel + rows_before col a rows → a ≤ b → IsGap a b → Leaves s a b (fold f [] (range col a b rows)) (new_pieces next (rows_before col a rows) (rows_before col b rows))
  new_leave zero a b next low le gap = new_nothing a b next (omega (arith, low))
  new_leave (suc fuel) a b next low le gap =
      let i = rows_before col a rows in
      let j = rows_before col b rows in
      elim (cases_lt i j) [
        | inr none ↦ new_nothing a b next none
        | inl some ↦ (
            let at_a = before_splits a times rising in
            let at_b = before_splits b times rising in
            let t : ℕ = get_or times i 0 in
            let there : i < length times = omega (arith, some, at_b.within) in
            let few : t ≤ MAX_TIME = moments i 0 there in
            let behind : a ≤ t = at_a.others i 0 (omega arith) there in
            let front : t < b = at_b.earlier i 0 some in
            let inside = gap t few behind front in
            let start = start_of u t in
            let end = partition_end u start in
            let fixed : start_of u start ≡ start = start_fixed u t in
            let it = in_unit u t in
            let low_start : a ≤ start = inside.0 in
            let high_end : end ≤ b = inside.1 in
            let past : t < end = same_end u t few in
            let at_start = before_splits start times rising in
            let upto : rows_before col start rows ≤ i = elim (cases_lt i (rows_before col start rows)) [ inl lt ↦ absurd (let early = at_start.earlier i 0 lt in omega (arith, early, it.0)) | inr ge ↦ ge ] in
            let place : rows_before col start rows ≡ i = (let mono = before_mono a start times low_start in omega (arith, mono, upto)) in
            let next_place : i < rows_before col end rows = place_passed u times i rising moments there in
            let k = rows_before col end rows in
            let split : partitions u (slice_range times i j) ≡ start ∷ partitions u (slice_range times k j) = partition_next u times i rising moments j some (omega (arith, before_within b times)) in
            let gap' : IsGap end b = λ t' few' ge lt. (starts_behind u start t' ge few', (gap t' few' (omega (arith, low_start, past, it.0, ge)) lt).1) in
            let more = new_leave fuel end b (suc next) (omega (arith, low, next_place)) high_end gap' in
            let one = one_new start end next fixed (omega (arith, past, it.0)) (omega arith) (omega (arith, place, next_place)) in
            let all = leaves_append s start end b (fold f [] (range col start end rows)) (fold f [] (range col end b rows)) (new_piece s next (Rattle.qd_merge.specs.Merged.merged s.keys (block_in s []) 0 (block_in s (range col start end rows))) ∷ []) (new_pieces (suc next) k j) (omega (arith, past, it.0)) high_end one more in
            let rows_are : fold f [] (range col start end rows) ++ fold f [] (range col end b rows) ≡ fold f [] (range col a b rows) =
            sym (fold_cut col s.keys end [] [] (range col start end rows) (range col end b rows) (keys_are s batch.schema) tt tt (range_before col start end rows (omega (arith, past, it.0)) batch.order) (range_from col end b rows batch.order))
            ∙ ap (fold f []) (sym (range_joined col start end b rows (omega (arith, past, it.0)) high_end))
            ∙ ap (λ (n : ℕ). fold f [] (slice_range rows n j)) place in
            let made : new_pieces next i j ≡ new_piece s next (Rattle.qd_merge.specs.Merged.merged s.keys (block_in s []) 0 (block_in s (range col start end rows))) ∷ new_pieces (suc next) k j =
            ap (λ (l : List ℕ). pieces_after s old rows next (map (new_part u times) l)) split in
            subst (λ (xs : List Piece). Leaves s a b (fold f [] (range col a b rows)) xs) (sym made)
            (record { each = wider s start b a b (new_piece s next (Rattle.qd_merge.specs.Merged.merged s.keys (block_in s []) 0 (block_in s (range col start end rows))) ∷ new_pieces (suc next) k j) low_start (omega arith) all.each; apart = all.apart; rows_are = all.rows_are ∙ rows_are }))
      ]

  -- an old piece: kept, appended to, shortened and split, or written anew
  module _ (split : ℕ) (counts : List ℕ) (olds : ℕ → List ℕ) (olds_are : (n : ℕ) → n < length old → olds n ≡ times_in s (get_or old n no_piece).block.rows) where
    abbrev r : Rules
    r = rules_of split s

    module _ (x : Piece) (from to number next : ℕ) (known : number < length old) (there : get_or old number no_piece ≡ x) (is : IsPiece s x) (low : from ≤ x.part.lo) (start : start_of u x.part.lo ≤ from) (past : x.part.hi < to) (inside : to ≤ partition_end u x.part.lo) where
      abbrev i : ℕ
      i = rows_before col from rows

      abbrev j : ℕ
      j = rows_before col to rows

      abbrev new : List Row
      new = range col from to rows

      -- the time of the first row of the batch
      abbrev c : ℕ
      c = get_or times (rows_before col from rows) 0

      le : from ≤ to
      le = omega (arith, low, is.in_order, past)

      within : j ≤ length rows
      within = omega (arith, before_within to times, length-map rows (time_of col))

      mine_from : AllByRecursion (From col from) (rows_of s x)
      mine_from = each_then (λ r. IsRowOf s r × (x.part.lo ≤ time_of s.time_col r) × (time_of s.time_col r ≤ x.part.hi)) (From col from) (λ r h. let a = h.1 in omega (arith, a, low)) (rows_of s x) (piece_each s x is)

      mine_before : AllByRecursion (Before col to) (rows_of s x)
      mine_before = each_then (λ r. IsRowOf s r × (x.part.lo ≤ time_of s.time_col r) × (time_of s.time_col r ≤ x.part.hi)) (Before col to) (λ r h. let a = h.2 in omega (arith, a, past)) (rows_of s x) (piece_each s x is)

      lies : AllByRecursion (Lies s (start_of u x.part.lo)) new
      lies = range_lies x.part.lo from to start le inside

      order : IsInOrder col new
      order = Rattle.qd_apply.proofs.StayLemmas.in_order_take col (j - i) (since col from rows) (Rattle.qd_apply.proofs.StayLemmas.in_order_drop col i rows batch.order)

      distinct : (s.keys ≡ []) ⊎ IsDistinct (same_on s.keys) new
      distinct = ⊎_elim (λ none. inl none) (λ d. inr (distinct_take (same_on s.keys) (j - i) (since col from rows) (distinct_drop (same_on s.keys) i rows d))) batch.distinct

      first_time : i < j → c ≡ time_of col (get_or rows i [])
      first_time some = get_or-map (time_of col) rows i [] 0 (omega (arith, some, within))

      abbrev Left : List Act → Type 0
      Left acts = Leaves s from to (fold f (rows_of s x) new) (pieces_after s old rows next acts)

      kept : j ≤ i → Leaves s from to (fold f (rows_of s x) new) (get_or old number no_piece ∷ [])
      kept none =
          let nothing : new ≡ [] = no_slice rows i j none in
          subst (λ (y : Piece). Leaves s from to (fold f (rows_of s x) new) (y ∷ [])) (sym there)
          (leaves_one s from to (fold f (rows_of s x) new) x (is, low, past) (ap (λ (l : List Row). fold f (rows_of s x) l) (sym nothing)))

      appended_to : i < j → IsAppend (rules_of split s) x.part (get_or counts number 0) c → Leaves s from to (fold f (rows_of s x) new) (longer s (get_or old number no_piece) rows i j ∷ [])
      appended_to some app =
          let at = first_time some in
          let goes : GoesBehind s x rows i j = record {
            full = app.full;
            some = some;
            within = within;
            lies = lies;
            order = order;
            behind = (let h = upto (ltb 0 (length s.keys)) app.behind in omega (arith, h, at));
          } in
          let piece = longer_piece s x rows i j batch.schema is goes in
          let apart : (s.keys ≡ []) ⊎ (x.part.hi < time_of col (get_or rows i [])) = ⊎_elim (λ none. inl none) (λ lt. inr (subst (λ (t : ℕ). x.part.hi < t) at lt)) (behind_keys s.keys app.behind) in
          let last_in : AllByRecursion (Before col to) new = range_before col from to rows le batch.order in
          let count : length new ≡ j - i = Rattle.qd_apply.proofs.StayLemmas.slice_count rows i j within in
          let last_is : get_or new ((j - i) - 1) [] ≡ get_or rows (j - 1) [] =
          (let e : i + ((j - i) - 1) ≡ j - 1 = omega (arith, some) in Rattle.qd_apply.proofs.StayLemmas.slice_got rows i j ((j - i) - 1) [] (omega (arith, some)) ∙ ap (λ (n : ℕ). get_or rows n []) e) in
          let high : time_of col (get_or rows (j - 1) []) < to = subst (λ (row : Row). time_of col row < to) last_is (All-from_recursion (Before col to) new last_in ((j - i) - 1) [] (omega (arith, count, some))) in
          subst (λ (y : Piece). Leaves s from to (fold f (rows_of s x) new) (longer s y rows i j ∷ [])) (sym there)
          (leaves_one s from to (fold f (rows_of s x) new) (longer s x rows i j) (piece, low, high)
          (longer_rows s x rows i j batch.schema is goes ∙ sym (longer_put s x rows i j batch.schema is goes (keys_are s batch.schema) distinct apart)))
        where
          upto : (b : Bool) → Rattle.qd_merge.specs.Shares.is_behind b x.part c ≡ true → x.part.hi ≤ c
          upto true e = let lt = ltb-true x.part.hi c e in omega (arith, lt)
          upto false e = leb-true x.part.hi c e

          behind_keys : (keys : List ℕ) → Rattle.qd_merge.specs.Shares.is_behind (ltb 0 (length keys)) x.part c ≡ true → (keys ≡ []) ⊎ (x.part.hi < c)
          behind_keys [] e = inl refl
          behind_keys (k ∷ ks) e = inr (ltb-true x.part.hi c (subst (λ (b : Bool). Rattle.qd_merge.specs.Shares.is_behind b x.part c ≡ true) (lt-ltb 0 (suc (length ks)) (omega arith)) e))

      -- the rows before the batch's first stay, and those behind are written with it
      stays : i < j → 0 < rows_before col c x.block.rows
          → Leaves s from to (fold f (rows_of s x) new) (shorter s (get_or old number no_piece) (rows_before col c x.block.rows) ∷ new_piece s next (Rattle.qd_apply.specs.Next.written s old rows (Some number) (rows_before col c x.block.rows) i j) ∷ [])
      stays some front_some =
          let b : Block = x.block in
          let k = rows_before col c b.rows in
          let all : List Row = rows_of s x in
          let at = first_time some in
          let count : length new ≡ j - i = Rattle.qd_apply.proofs.StayLemmas.slice_count rows i j within in
          let some_rows : 0 < length new = omega (arith, count, some) in
          let few : k ≤ length b.rows = omega (arith, before_within c (map (time_of col) b.rows), length-map b.rows (time_of col)) in
          let same : rows_before col c all ≡ k = ap (Rattle.qd_merge.specs.Acts.before c) (piece_times s x is) in
          let cut = rows_split col c all (piece_order s x is) in
          let front_low : AllByRecursion (Before col c) (take k all) = subst (λ (n : ℕ). AllByRecursion (Before col c) (take n all)) same cut.0 in
          let back_high : AllByRecursion (From col c) (drop k all) = subst (λ (n : ℕ). AllByRecursion (From col c) (drop n all)) same cut.1 in
          let first_is : get_or new 0 [] ≡ get_or rows i [] = (let e : i + 0 ≡ i = omega arith in Rattle.qd_apply.proofs.StayLemmas.slice_got rows i j 0 [] (omega (arith, some)) ∙ ap (λ (n : ℕ). get_or rows n []) e) in
          let first_of : time_of col (get_or new 0 []) ≡ c = ap (time_of col) first_is ∙ sym at in
          let new_high : AllByRecursion (From col c) new = subst (λ (t : ℕ). AllByRecursion (λ y. t ≤ time_of col y) new) first_of (Rattle.qd_apply.proofs.StayLemmas.all_from_first col new order some_rows) in
          let new_low : AllByRecursion (Before col to) new = range_before col from to rows le batch.order in
          let c_low : from ≤ c = subst (λ (t : ℕ). from ≤ t) first_of (All-from_recursion (From col from) new (range_from col from to rows batch.order) 0 [] some_rows) in
          let c_high : c < to = subst (λ (t : ℕ). t < to) first_of (All-from_recursion (Before col to) new new_low 0 [] some_rows) in
          let piece = shorter_piece s x k is front_some few in
          let front_is = front_rows s.cols k b in
          let ends : (shorter s x k).part.hi < c =
          (let sizes : length (take k all) ≡ k = Rattle.std.proofs.lemmas.List.length-take-le k all (omega (arith, few, length-map b.rows (λ (row : Row). row ++ Rattle.qd_rows.specs.Sets.absent (drop (length b.kinds) s.cols)))) in
          let times_are : map (time_of col) (rows_of s (shorter s x k)) ≡ map (time_of col) (take k b.rows) = piece_times s (shorter s x k) piece in
          let front_low' : AllByRecursion (Before col c) (rows_of s (shorter s x k)) = subst (AllByRecursion (Before col c)) (sym front_is) front_low in
          let h = piece_each s (shorter s x k) piece in
          last_before (rows_of s (shorter s x k)) (take k b.rows) times_are front_low' (k - 1) (omega (arith, front_some, Rattle.std.proofs.lemmas.List.length-take-le k b.rows few))
          (ap (time_of col) (Rattle.std.proofs.lemmas.List.get_or-take k b.rows (k - 1) [] (omega (arith, front_some))))) in
          let one : Leaves s from c (take k all) (shorter s x k ∷ []) = leaves_one s from c (take k all) (shorter s x k) (piece, low, ends) front_is in
          let rest : Block = back k b in
          let rest_is = back_rows s.cols k b in
          let rest_whole = back_whole k b is.whole in
          let rest_lies : AllByRecursion (Lies s (start_of u x.part.lo)) (Rattle.qd_scan.specs.Sources.table_rows s.cols rest) = subst (AllByRecursion (Lies s (start_of u x.part.lo))) (sym rest_is) (each_drop (Lies s (start_of u x.part.lo)) k all (piece_lies s x is)) in
          let rest_order : IsInOrder col (Rattle.qd_scan.specs.Sources.table_rows s.cols rest) = subst (IsInOrder col) (sym rest_is) (Rattle.qd_apply.proofs.StayLemmas.in_order_drop col k all (piece_order s x is)) in
          let rest_from : AllByRecursion (From col c) (Rattle.qd_scan.specs.Sources.table_rows s.cols rest) = subst (AllByRecursion (From col c)) (sym rest_is) back_high in
          let rest_before : AllByRecursion (Before col to) (Rattle.qd_scan.specs.Sources.table_rows s.cols rest) = subst (AllByRecursion (Before col to)) (sym rest_is) (each_drop (Before col to) k all mine_before) in
          let w : Block = Rattle.qd_apply.proofs.PieceLemmas.grown s rest new in
          let reach = made_within s next c to w (grown_some s rest new rest_whole some_rows) (grown_from s c rest new rest_whole rest_from new_high) (grown_before s to rest new rest_whole rest_before new_low) in
          let two : Leaves s c to (fold f (drop k all) new) (new_piece s next w ∷ []) =
          leaves_one s c to (fold f (drop k all) new) (new_piece s next w)
          (piece_made s (start_of u x.part.lo) next rest new batch.schema rest_whole rest_lies rest_order lies some_rows, reach.0, reach.1)
          (piece_rows s next rest new rest_whole ∙ ap (λ (l : List Row). fold f l new) rest_is) in
          let both = leaves_append s from c to (take k all) (fold f (drop k all) new) (shorter s x k ∷ []) (new_piece s next w ∷ []) c_low (omega (arith, c_high)) one two in
          let rows_are : take k all ++ fold f (drop k all) new ≡ fold f all new =
          sym (fold_cut col s.keys c (take k all) (drop k all) [] new (keys_are s batch.schema) front_low back_high tt new_high)
          ∙ ap (λ (l : List Row). fold f l new) (Rattle.std.proofs.lemmas.List.take-append-drop k all) in
          subst (λ (y : Piece). Leaves s from to (fold f all new) (shorter s y k ∷ new_piece s next (Rattle.qd_merge.specs.Merged.merged s.keys y.block k (block_in s new)) ∷ [])) (sym there)
          (subst (λ (l : List Row). Leaves s from to l (shorter s x k ∷ new_piece s next w ∷ [])) rows_are both)
        where
          last_before : (wide narrow : List Row) → map (time_of col) wide ≡ map (time_of col) narrow → AllByRecursion (Before col c) wide → (n : ℕ) {t : ℕ} → n < length narrow → time_of col (get_or narrow n []) ≡ t → t < c
          last_before wide narrow e below n {t} lt is_t =
              let sizes : length wide ≡ length narrow = sym (length-map wide (time_of col)) ∙ ap length e ∙ length-map narrow (time_of col) in
              let here : time_of col (get_or wide n []) < c = All-from_recursion (Before col c) wide below n [] (omega (arith, lt, sizes)) in
              let same : time_of col (get_or wide n []) ≡ time_of col (get_or narrow n []) =
              sym (get_or-map (time_of col) wide n [] 0 (omega (arith, lt, sizes))) ∙ ap (λ (l : List ℕ). get_or l n 0) e ∙ get_or-map (time_of col) narrow n [] 0 lt in
              omega (arith, here, same, is_t)

      grown : i < j → Leaves s from to (fold f (rows_of s x) new) (new_piece s next (Rattle.qd_apply.specs.Next.written s old rows (Some number) 0 i j) ∷ [])
      grown some =
          let some_rows : 0 < length new = some_slice rows i j some within in
          let b : Block = Rattle.qd_apply.proofs.PieceLemmas.grown s x.block new in
          let ends = made_within s next from to b (grown_some s x.block new is.whole some_rows)
          (grown_from s from x.block new is.whole mine_from (range_from col from to rows batch.order))
          (grown_before s to x.block new is.whole mine_before (range_before col from to rows le batch.order)) in
          subst (λ (y : Piece). Leaves s from to (fold f (rows_of s x) new) (new_piece s next (Rattle.qd_apply.proofs.PieceLemmas.grown s y.block new) ∷ [])) (sym there)
          (leaves_one s from to (fold f (rows_of s x) new) (new_piece s next b)
          (piece_made s (start_of u x.part.lo) next x.block new batch.schema is.whole (piece_lies s x is) (piece_order s x is) lies some_rows, ends.0, ends.1)
          (piece_rows s next x.block new is.whole))

      -- the times of its own rows
      olds_there : olds number ≡ map (time_of col) x.block.rows
      olds_there = olds_are number known ∙ ap (λ (y : Piece). times_in s y.block.rows) there

      count_is : Rattle.qd_merge.specs.Acts.before c (olds number) ≡ rows_before col c x.block.rows
      count_is = ap (Rattle.qd_merge.specs.Acts.before c) olds_there

      here_leaves : Left (here_acts (rules_of split s) counts olds times number x.part i j)
      here_leaves =
          on_share (rules_of split s) olds times number x.part (get_or counts number 0) i j Left
          kept
          appended_to
          (λ some front_some all.
          let k = Rattle.qd_merge.specs.Acts.before c (olds number) in
          let h : Left (act.Shorten number (rows_before col c x.block.rows) ∷ act.Write (Some number) (rows_before col c x.block.rows) i j ∷ []) = stays some (omega (arith, front_some, count_is)) in
          let full : rows_before col c x.block.rows ≡ length x.block.rows = omega (arith, count_is, all, ap length olds_there, length-map x.block.rows (time_of col)) in
          let stay : shorter s (get_or old number no_piece) (rows_before col c x.block.rows) ≡ get_or old number no_piece =
          subst (λ (y : Piece). shorter s y (rows_before col c x.block.rows) ≡ y) (sym there) (all_stay s x (rows_before col c x.block.rows) is full) in
          subst (λ (n : ℕ). Left (act.Keep number ∷ act.Write (Some number) n i j ∷ [])) (sym count_is)
          (subst (λ (y : Piece). Leaves s from to (fold f (rows_of s x) new) (y ∷ new_piece s next (Rattle.qd_apply.specs.Next.written s old rows (Some number) (rows_before col c x.block.rows) i j) ∷ [])) stay h))
          (λ some front_some. subst (λ (n : ℕ). Left (act.Shorten number n ∷ act.Write (Some number) n i j ∷ [])) (sym count_is) (stays some (omega (arith, front_some, count_is))))
          grown

      middle : (later : List Act) (more : List Row) → to ≤ MAX_TIME + 1 → ((n : ℕ) → Leaves s to (MAX_TIME + 1) more (pieces_after s old rows n later))
          → Leaves s from (MAX_TIME + 1) (fold f (rows_of s x) new ++ more) (pieces_after s old rows next (here_acts (rules_of split s) counts olds times number x.part i j ++ later))
      middle later more few then =
          let here = here_acts (rules_of split s) counts olds times number x.part i j in
          let n = next + length (blocks_made s old rows here) in
          subst (Leaves s from (MAX_TIME + 1) (fold f (rows_of s x) new ++ more)) (sym (pieces_append s old rows next here later))
          (leaves_append s from to (MAX_TIME + 1) (fold f (rows_of s x) new) more (pieces_after s old rows next here) (pieces_after s old rows n later) le few here_leaves (then n))

    pub acts_leave : (xs front : List Piece) (done number next : ℕ) → old ≡ front ++ xs → number ≡ length front → AllByRecursion (IsPiece s) xs → AreAscending xs → AllByRecursion (λ x. done ≤ x.part.lo) xs → done ≤ MAX_TIME + 1
        → ((t : ℕ) → t ≤ MAX_TIME → done ≤ t → FreeBefore u xs t → done ≤ start_of u t)
        → Leaves s done (MAX_TIME + 1) (fold f (joined s xs) (since col done rows)) (pieces_after s old rows next (walked_acts (rules_of split s) counts olds times done number (map (λ (x : Piece). x.part) xs)))
    acts_leave [] front done number next all at each up low few edge =
        let last = MAX_TIME + 1 in
        let new = new_leave (rows_before col last rows) done last next (omega arith) few (λ t few_t ge lt. (edge t few_t ge tt, end_few u (start_of u t))) in
        let acts_are : slice_range times (rows_before col done rows) (rows_before col last rows) ≡ filter (λ t. leb done t) times = sym (between_slice done last times rising) ∙ last_between done times moments in
        let none : since col last rows ≡ [] = no_rows col last MAX_TIME (since col last rows) (since_from col last rows batch.order)
        (each_drop (λ r. time_of col r ≤ MAX_TIME) (rows_before col last rows) rows (each_then (IsRowOf s) (λ r. time_of col r ≤ MAX_TIME) (λ r h. row_timely s batch.schema r h) rows batch.fit)) (omega arith) in
        let rows_are : range col done last rows ≡ since col done rows = sym (since_joined col done last rows few ∙ ap (λ (l : List Row). range col done last rows ++ l) none ∙ append-nil (range col done last rows)) in
        subst (λ (l : List Act). Leaves s done last (fold f [] (since col done rows)) (pieces_after s old rows next l)) (sym (acts_last (rules_of split s) counts olds times done number))
        (subst (λ (l : List ℕ). Leaves s done last (fold f [] (since col done rows)) (pieces_after s old rows next (map (new_part u times) (partitions u l)))) acts_are
        (subst (λ (l : List Row). Leaves s done last (fold f [] l) (new_pieces next (rows_before col done rows) (rows_before col last rows))) rows_are new))
    acts_leave (x ∷ xs) front done number next all at each up low few edge =
        let last = MAX_TIME + 1 in
        let lo = x.part.lo in
        let from = max done (start_of u lo) in
        let to = part_end u x.part (map (λ (y : Piece). y.part) xs) in
        let is : IsPiece s x = each.0 in
        let end = end_is s x xs is up.0 each.1 up.1 in
        let il = in_unit u lo in
        let first : done ≤ lo = low.0 in
        let lo_few : lo ≤ MAX_TIME = omega (arith, is.in_order, is.timely) in
        let below : from ≤ lo = omega (arith, first, il.0) in
        let le : from ≤ to = omega (arith, below, is.in_order, end.past) in
        let later = walked_acts (rules_of split s) counts olds times to (suc number) (map (λ (y : Piece). y.part) xs) in
        let gap = map (new_part u times) (partitions u (between done from times)) in
        let here = here_acts (rules_of split s) counts olds times number x.part (rows_before col from rows) (rows_before col to rows) in
        let more = fold f (joined s xs) (since col to rows) in
        let ih : (n : ℕ) → Leaves s to last more (pieces_after s old rows n later) =
        λ n. acts_leave xs (front ++ x ∷ []) to (suc number) n (all ∙ sym (append_assoc front (x ∷ []) xs)) (omega (arith, at, length-append front (x ∷ []))) each.1 up.1 end.later end.few end.edge in
        let there : get_or old number no_piece ≡ x = ap (λ (l : List Piece). get_or l number no_piece) all ∙ ap (λ (n : ℕ). get_or (front ++ x ∷ xs) n no_piece) at ∙ got_behind front x no_piece xs in
        let new = new_leave (rows_before col from rows) done from next (omega arith) (omega arith)
        (λ t few_t ge lt. let low_t : t < start_of u lo = omega (arith, ge, lt) in (edge t few_t ge low_t, (let e = ends_before u t lo lo_few low_t in omega (arith, e)))) in
        let gap_is : new_pieces next (rows_before col done rows) (rows_before col from rows) ≡ pieces_after s old rows next gap = ap (λ (l : List ℕ). pieces_after s old rows next (map (new_part u times) (partitions u l))) (sym (between_slice done from times rising)) in
        let new' : Leaves s done from (fold f [] (range col done from rows)) (pieces_after s old rows next gap) = subst (Leaves s done from (fold f [] (range col done from rows))) gap_is new in
        let n = next + length (blocks_made s old rows gap) in
        let known : number < length old = omega (arith, at, ap length all, length-append front (x ∷ xs)) in
        let mid = middle x from to number n known there is below (omega arith) end.past end.within later more end.few ih in
        let total = leaves_append s done from last (fold f [] (range col done from rows)) (fold f (rows_of s x) (range col from to rows) ++ more) (pieces_after s old rows next gap) (pieces_after s old rows n (here ++ later)) (omega arith) (omega (arith, le, end.few)) new' mid in
        let mine_from : AllByRecursion (From col from) (rows_of s x) = each_then (λ r. IsRowOf s r × (lo ≤ time_of s.time_col r) × (time_of s.time_col r ≤ x.part.hi)) (From col from) (λ r h. let a = h.1 in omega (arith, a, below)) (rows_of s x) (piece_each s x is) in
        let mine_before : AllByRecursion (Before col to) (rows_of s x) = each_then (λ r. IsRowOf s r × (lo ≤ time_of s.time_col r) × (time_of s.time_col r ≤ x.part.hi)) (Before col to) (λ r h. let a = h.2 in let b = end.past in omega (arith, a, b)) (rows_of s x) (piece_each s x is) in
        let rest_from : AllByRecursion (From col to) (joined s xs) = joined_from s to xs each.1 end.later in
        let rest_far : AllByRecursion (From col from) (joined s xs) = each_then (From col to) (From col from) (λ r h. omega (arith, h, le)) (joined s xs) rest_from in
        let since_to = since_from col to rows batch.order in
        let since_far : AllByRecursion (From col from) (since col to rows) = each_then (From col to) (From col from) (λ r h. omega (arith, h, le)) (since col to rows) since_to in
        let more_far : AllByRecursion (From col from) (range col from to rows ++ since col to rows) = each_append (From col from) (range col from to rows) (since col to rows) (range_from col from to rows batch.order) since_far in
        let keys = keys_are s batch.schema in
        let rows_are : fold f [] (range col done from rows) ++ (fold f (rows_of s x) (range col from to rows) ++ more) ≡ fold f (joined s (x ∷ xs)) (since col done rows) =
        ap (λ (l : List Row). fold f [] (range col done from rows) ++ l) (sym (fold_cut col s.keys to (rows_of s x) (joined s xs) (range col from to rows) (since col to rows) keys mine_before rest_from (range_before col from to rows le batch.order) since_to))
        ∙ sym (fold_cut col s.keys from [] (rows_of s x ++ joined s xs) (range col done from rows) (range col from to rows ++ since col to rows) keys tt (each_append (From col from) (rows_of s x) (joined s xs) mine_from rest_far) (range_before col done from rows (omega arith) batch.order) more_far)
        ∙ ap (fold f (rows_of s x ++ joined s xs)) (sym (since_joined col done from rows (omega arith) ∙ ap (λ (l : List Row). range col done from rows ++ l) (since_joined col from to rows le))) in
        subst (λ (l : List Act). Leaves s done last (fold f (joined s (x ∷ xs)) (since col done rows)) (pieces_after s old rows next l)) (sym (acts_more (rules_of split s) counts olds times done number x.part (map (λ (y : Piece). y.part) xs)))
        (subst (λ (xs' : List Piece). Leaves s done last (fold f (joined s (x ∷ xs)) (since col done rows)) xs') (sym (pieces_append s old rows next gap (here ++ later)))
        (subst (λ (l : List Row). Leaves s done last l (pieces_after s old rows next gap ++ pieces_after s old rows n (here ++ later))) rows_are total))
