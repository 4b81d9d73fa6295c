-- Flags of replaced rows, time by time.
use Rattle.std.proofs.Common.{◌≡◌, ◌≢◌, ℕ, zero, suc, ◌+◌, ◌-◌, ◌<◌, ◌≤◌, Bool, true, false, ◌||◌, eqb, List, [], ◌∷◌, ◌++◌, length, map, take, drop, get_or, refl, sym, ap, ap₂, ◌∙◌, arith, All, Contains, subst, slice_range, replicate, length-append, length-drop, inl, inr, ⊎_elim}
use Rattle.std.specs.List.{list_any}
use Rattle.std.specs.List.Sorted.{IsNonDecreasing}
use Rattle.std.proofs.lemmas.Bool.{cases_lt}
use Rattle.std.proofs.lemmas.List.{get_or-map, length-map, ext_get_or, get_or-take, get_or-drop, length-take-le, length-replicate, get_or-replicate, take_all}
use Rattle.std.proofs.lemmas.List.Folds.{list_any-append, list_any_none}
use Rattle.qd_base.specs.declared.schema.ColType.{ColType}
use Rattle.qd_base.specs.Rows.{Row, same_on, time_in, time_of}
use Rattle.qd_merge.specs.Equals.{taken}
use Rattle.qd_merge.specs.Merged.{with_missing}
use Rattle.qd_merge.specs.Replaced.{is_replaced, flags_of, FlagsSoFar}
use Rattle.qd_merge.proofs.Batches.{same_on-time}
use Rattle.qd_merge.proofs.Parts.{part_joined, all-part, whole_part, got_any}
use Rattle.qd_merge.proofs.Orders.{time_at}
use Rattle.qd_merge.specs.Laws.{AreKeys}
use Rattle.qd_merge.proofs.Wide.{wide_cell, map-map, map-all, map-const}
use Rattle.qd_column.proofs.RunLemmas.{map-append}

-- a front with a part behind it is a longer front
front_joined : {T : Type 0} (xs : List T) (a b : ℕ) → a ≤ b → take b xs ≡ take a xs ++ slice_range xs a b
front_joined xs a b h = let none : b - 0 ≡ b = omega arith in let less : a - 0 ≡ a = omega arith in ap (λ n. take n xs) (sym none) ∙ part_joined xs 0 a b (omega arith) h ∙ ap (λ n. take n xs ++ slice_range xs a b) less

module _ (col k : ℕ) (ks : List ℕ) (there : Contains (k ∷ ks) col) (kinds : List ColType) (batch rows : List Row) where
  -- a row differs from rows of other times
  pub none_same : (row : Row) (others : List Row) → All (λ x. time_of col row ≢ time_of col x) others → list_any (same_on (k ∷ ks) row) others ≡ false
  none_same row others apart = list_any_none (same_on (k ∷ ks) row) others (λ j d lt. differ (get_or others j d) (apart j d lt))
    where
      differ : (x : Row) → (time_of col row ≢ time_of col x) → same_on (k ∷ ks) row x ≡ false
      differ x apart = go (same_on (k ∷ ks) row x) refl
        where
          go : (b : Bool) → same_on (k ∷ ks) row x ≡ b → b ≡ false
          go true is = absurd (apart (same_on-time col (k ∷ ks) row x there is))
          go false is = refl

  -- rows whose time the batch doesn't have aren't replaced
  pub padded : (flags : List Bool) (from : ℕ) → flags ≡ map (λ r. is_replaced (k ∷ ks) batch (with_missing kinds r)) (take (length flags) rows) → length flags ≤ from → from ≤ length rows → ((i : ℕ) (d : Row) → length flags ≤ i → i < from → All (λ x. time_of col (with_missing kinds (get_or rows i d)) ≢ time_of col x) batch)
      → flags ++ replicate (from - length flags) false ≡ map (λ r. is_replaced (k ∷ ks) batch (with_missing kinds r)) (take from rows)
  padded flags from so low high apart =
      let n : ℕ = length flags in
      let f : Row → Bool = λ r. is_replaced (k ∷ ks) batch (with_missing kinds r) in
      let part : List Row = slice_range rows n from in
      let size : length part ≡ from - n = length-take-le (from - n) (drop n rows) (omega (arith, length-drop n rows)) in
      let none : map f part ≡ replicate (from - n) false =
      ext_get_or false (map f part) (replicate (from - n) false) (length-map part f ∙ size ∙ sym (length-replicate (from - n) false)) (λ i lt.
      let i_low : i < from - n = omega (arith, length-map part f) in
      let at : get_or part i [] ≡ get_or rows (n + i) [] = get_or-take (from - n) (drop n rows) i [] i_low ∙ get_or-drop n rows i [] in
      get_or-map f part i [] false (omega arith) ∙ ap f at ∙ none_same (with_missing kinds (get_or rows (n + i) [])) batch (apart (n + i) [] (omega arith) (omega arith)) ∙ sym (get_or-replicate (from - n) i false false i_low)) in
      ap₂ (λ a b. a ++ b) so (sym none) ∙ sym (map-append f (take n rows) part) ∙ ap (map f) (sym (front_joined rows n from low))

  -- a row's equals in the batch are among those of its time
  pub among_equals : (row : Row) (start end : ℕ) → start ≤ end → end ≤ length batch → ((m : ℕ) (d : Row) → m < start → time_of col row ≢ time_of col (get_or batch m d)) → ((m : ℕ) (d : Row) → end ≤ m → m < length batch → time_of col row ≢ time_of col (get_or batch m d)) → list_any (same_on (k ∷ ks) row) batch ≡ list_any (same_on (k ∷ ks) row) (slice_range batch start end)
  among_equals row start end low high before behind =
      let p : Row → Bool = same_on (k ∷ ks) row in
      let front : List Row = slice_range batch 0 start in
      let middle : List Row = slice_range batch start end in
      let back : List Row = slice_range batch end (length batch) in
      let whole : batch ≡ front ++ (middle ++ back) =
      sym (whole_part batch 0 (length batch) refl) ∙ part_joined batch 0 start (length batch) (omega arith) (omega arith) ∙ ap (λ l. front ++ l) (part_joined batch start end (length batch) low high) in
      let no_front : list_any p front ≡ false = none_same row front (all-part (λ x. time_of col row ≢ time_of col x) batch 0 start (omega arith) (λ m d a b. before m d b)) in
      let no_back : list_any p back ≡ false = none_same row back (all-part (λ x. time_of col row ≢ time_of col x) batch end (length batch) (omega arith) (λ m d a b. behind m d a b)) in
      ap (list_any p) whole ∙ list_any-append p front (middle ++ back) ∙ ap₂ (λ a b. a || b) no_front (list_any-append p middle back ∙ ap (λ b. list_any p middle || b) no_back ∙ or_false (list_any p middle))
    where
      or_false : (b : Bool) → (b || false) ≡ b
      or_false true = refl
      or_false false = refl

  -- the flags of rows of one time: their equals are among the batch's of that time
  pub group_flags : (from to start end : ℕ) → to ≤ length rows → start ≤ end → end ≤ length batch
      → ((i : ℕ) (d : Row) → from ≤ i → i < to → ((m : ℕ) (e : Row) → m < start → time_of col (with_missing kinds (get_or rows i d)) ≢ time_of col (get_or batch m e)) × ((m : ℕ) (e : Row) → end ≤ m → m < length batch → time_of col (with_missing kinds (get_or rows i d)) ≢ time_of col (get_or batch m e)))
      → taken (k ∷ ks) (map (with_missing kinds) (slice_range rows from to)) (slice_range batch start end) ≡ map (λ r. is_replaced (k ∷ ks) batch (with_missing kinds r)) (slice_range rows from to)
  group_flags from to start end high start_low end_high apart =
      let f : Row → Bool = λ r. list_any (same_on (k ∷ ks) r) (slice_range batch start end) in
      let is : Row → Type 0 = λ r. list_any (same_on (k ∷ ks) (with_missing kinds r)) (slice_range batch start end) ≡ is_replaced (k ∷ ks) batch (with_missing kinds r) in
      map-map f (with_missing kinds) (slice_range rows from to)
      ∙ map-all is (λ r. f (with_missing kinds r)) (λ r. is_replaced (k ∷ ks) batch (with_missing kinds r)) (λ r e. e) (slice_range rows from to) (all-part is rows from to high (λ i d a b.
      let far = apart i d a b in
      sym (among_equals (with_missing kinds (get_or rows i d)) start end start_low end_high far.0 far.1)))

-- the facts of one group: the batch's rows of one time from a place up to an end, and the block's rows before that time
-- and of it
pub record IsGroup (old new : List ℕ) (done place end from to : ℕ) : Type 0 where
  pub there : place < length new
  pub further : place < end
  pub within : end ≤ length new
  pub same : (m : ℕ) → place ≤ m → m < end → get_or new m 0 ≤ get_or new place 0
  pub behind : end < length new → get_or new place 0 < get_or new end 0
  pub low : done ≤ from
  pub from_within : from ≤ length old
  pub earlier : (i : ℕ) → done ≤ i → i < from → get_or old i 0 < get_or new place 0
  pub no_earlier : from < length old → get_or new place 0 ≤ get_or old from 0
  pub high : from ≤ to
  pub to_within : to ≤ length old
  pub upto : (i : ℕ) → from ≤ i → i < to → get_or old i 0 ≤ get_or new place 0
  pub later : to < length old → get_or new place 0 < get_or old to 0

pub group_found : (old new : List ℕ) (done place end from to : ℕ) → place < length new → place ≤ end → end ≤ length new → ((m : ℕ) → place ≤ m → m < end → get_or new m 0 ≤ get_or new place 0) → (end < length new → get_or new place 0 < get_or new end 0)
    → done ≤ from → from ≤ length old → ((i : ℕ) → done ≤ i → i < from → get_or old i 0 < get_or new place 0) → (from < length old → get_or new place 0 ≤ get_or old from 0)
    → from ≤ to → to ≤ length old → ((i : ℕ) → from ≤ i → i < to → get_or old i 0 ≤ get_or new place 0) → (to < length old → get_or new place 0 < get_or old to 0) → IsGroup old new done place end from to
group_found old new done place end from to there after within same behind low from_within earlier no_earlier high to_within upto later =
    record {
      there = there;
      further = elim (cases_lt place end) [ inl lt ↦ lt | inr le ↦ (let at : end ≡ place = omega arith in let less = behind (omega arith) in let one = ap (λ n. get_or new n 0) at in absurd (omega arith)) ];
      within = within;
      same = same;
      behind = behind;
      low = low;
      from_within = from_within;
      earlier = earlier;
      no_earlier = no_earlier;
      high = high;
      to_within = to_within;
      upto = upto;
      later = later;
    }

module _ (col k : ℕ) (ks : List ℕ) (there : Contains (k ∷ ks) col) (kinds : List ColType) (batch rows : List Row) (old new : List ℕ) (old_is : map (time_of col) rows ≡ old) (new_is : map (time_of col) batch ≡ new) (old_rise : IsNonDecreasing old) (new_rise : IsNonDecreasing new) (wide : All (λ r. col < length r) rows) where
  wide_time : (i : ℕ) (d : Row) → i < length old → time_of col (with_missing kinds (get_or rows i d)) ≡ get_or old i 0
  wide_time i d h = ap time_in (wide_cell kinds (get_or rows i d) col (wide i d (omega (arith, ap length old_is, length-map rows (time_of col))))) ∙ time_at col rows old i d old_is h

  module _ (flags : List Bool) (place end from to : ℕ) (so_far : FlagsSoFar col (k ∷ ks) kinds batch rows place flags) (is : IsGroup old new (length flags) place end from to) where
    rows_size : length rows ≡ length old
    rows_size = sym (length-map rows (time_of col)) ∙ ap length old_is

    batch_size : length batch ≡ length new
    batch_size = sym (length-map batch (time_of col)) ∙ ap length new_is

    -- the rows before the group's time aren't replaced
    pub far_flags : flags ++ replicate (from - length flags) false ≡ flags_of (k ∷ ks) kinds batch (take from rows)
    far_flags =
        padded col k ks there kinds batch rows flags from so_far.flags is.low (let w = is.from_within in let s = rows_size in omega arith) (λ i d a b m e lt.
        let s = rows_size in
        let bs = batch_size in
        let w = is.from_within in
        let at : time_of col (with_missing kinds (get_or rows i d)) ≡ get_or old i 0 = wide_time i d (omega arith) in
        let other : time_of col (get_or batch m e) ≡ get_or new m 0 = time_at col batch new m e new_is (omega arith) in
        let less = is.earlier i a b in
        λ equal. elim (cases_lt m place) [
          | inl before ↦
              (let x = time_at col batch new m [] new_is (omega arith) in
              let y = time_at col rows old i [] old_is (omega arith) in
              let past = so_far.later i m a (omega arith) before in absurd (omega arith))
          | inr after ↦ (let le = new_rise place m 0 after (omega arith) in absurd (omega arith))
        ])

    -- the rows of the group's time
    pub near_flags : taken (k ∷ ks) (map (with_missing kinds) (slice_range rows from to)) (slice_range batch place end) ≡ flags_of (k ∷ ks) kinds batch (slice_range rows from to)
    near_flags =
        let s = rows_size in
        let bs = batch_size in
        group_flags col k ks there kinds batch rows from to place end (let w = is.to_within in omega arith) (let f = is.further in omega arith) (let w = is.within in omega arith) (λ i d a b.
        let w = is.to_within in
        let at : time_of col (with_missing kinds (get_or rows i d)) ≡ get_or old i 0 = wide_time i d (omega arith) in
        let most = is.upto i a b in
        let least : get_or new place 0 ≤ get_or old i 0 = (let first = is.no_earlier (omega arith) in let le = old_rise from i 0 a (omega arith) in omega arith) in (
          (λ m e before.
              let o = is.there in
              let low = is.low in
              let other : time_of col (get_or batch m e) ≡ get_or new m 0 = time_at col batch new m e new_is (omega arith) in
              let x = time_at col batch new m [] new_is (omega arith) in
              let y = time_at col rows old i [] old_is (omega arith) in
              let past = so_far.later i m (omega arith) (omega arith) before in
              λ equal. absurd (omega arith)),
          (λ m e after lt.
              let other : time_of col (get_or batch m e) ≡ get_or new m 0 = time_at col batch new m e new_is (omega arith) in
              let next = is.behind (omega arith) in
              let le = new_rise end m 0 after (omega arith) in
              λ equal. absurd (omega arith)),
        ))

    -- what is left is later than the group
    pub group_done : (done : List Bool) → length done ≡ to → done ≡ flags_of (k ∷ ks) kinds batch (take to rows) → FlagsSoFar col (k ∷ ks) kinds batch rows end done
    group_done done size flags_are =
        let s = rows_size in
        let bs = batch_size in
        record {
          few = let w = is.to_within in omega arith;
          flags = flags_are ∙ ap (λ n. flags_of (k ∷ ks) kinds batch (take n rows)) (sym size);
          later = λ i m a b c.
              let w = is.within in
              let o = is.there in
              let x = time_at col batch new m [] new_is (omega arith) in
              let y = time_at col rows old i [] old_is (omega arith) in
              let past = is.later (omega arith) in
              let le = old_rise to i 0 (omega arith) (omega arith) in
              elim (cases_lt m place) [ inl before ↦ (let low = new_rise m place 0 (omega arith) o in omega arith) | inr after ↦ (let low = is.same m after c in omega arith) ];
        }

    pub far_done : from ≡ to → (done : List Bool) → done ≡ flags ++ replicate (from - length flags) false → FlagsSoFar col (k ∷ ks) kinds batch rows end done
    far_done none done added = group_done done (ap length added ∙ far_size ∙ none) (added ∙ far_flags ∙ ap (λ n. flags_of (k ∷ ks) kinds batch (take n rows)) none)
      where
        far_size : length (flags ++ replicate (from - length flags) false) ≡ from
        far_size = let low = is.low in omega (arith, length-append flags (replicate (from - length flags) false), length-replicate (from - length flags) false)

    pub near_done : (done : List Bool) → done ≡ (flags ++ replicate (from - length flags) false) ++ taken (k ∷ ks) (map (with_missing kinds) (slice_range rows from to)) (slice_range batch place end) → FlagsSoFar col (k ∷ ks) kinds batch rows end done
    near_done done added =
        let f : Row → Bool = λ r. is_replaced (k ∷ ks) batch (with_missing kinds r) in
        let all : done ≡ flags_of (k ∷ ks) kinds batch (take to rows) = added ∙ ap₂ (λ a b. a ++ b) far_flags near_flags ∙ sym (map-append f (take from rows) (slice_range rows from to)) ∙ ap (map f) (sym (front_joined rows from to is.high)) in
        group_done done (ap length all ∙ length-map (take to rows) f ∙ length-take-le to rows (let w = is.to_within in let s = rows_size in omega arith)) all

-- Contains of no key
no_key : (col : ℕ) → Contains [] col → ⊥
no_key col there = let lt = there.1 in absurd (omega arith)

-- the same for keys that have the designated column among them
pub far_group : (col : ℕ) (keys : List ℕ) (kinds : List ColType) (batch rows : List Row) (old new : List ℕ) (flags : List Bool) (place end from to : ℕ) (done : List Bool) → Contains keys col → map (time_of col) rows ≡ old → map (time_of col) batch ≡ new → IsNonDecreasing old → IsNonDecreasing new → All (λ r. col < length r) rows → FlagsSoFar col keys kinds batch rows place flags → IsGroup old new (length flags) place end from to → from ≡ to → done ≡ flags ++ replicate (from - length flags) false → FlagsSoFar col keys kinds batch rows end done
far_group col [] kinds batch rows old new flags place end from to done there old_is new_is old_rise new_rise wide so_far is none added = absurd (no_key col there)
far_group col (k ∷ ks) kinds batch rows old new flags place end from to done there old_is new_is old_rise new_rise wide so_far is none added = far_done col k ks there kinds batch rows old new old_is new_is old_rise new_rise wide flags place end from to so_far is none done added

pub near_group : (col : ℕ) (keys : List ℕ) (kinds : List ColType) (batch rows : List Row) (old new : List ℕ) (flags : List Bool) (place end from to : ℕ) (done : List Bool) → Contains keys col → map (time_of col) rows ≡ old → map (time_of col) batch ≡ new → IsNonDecreasing old → IsNonDecreasing new → All (λ r. col < length r) rows → FlagsSoFar col keys kinds batch rows place flags → IsGroup old new (length flags) place end from to → done ≡ (flags ++ replicate (from - length flags) false) ++ taken keys (map (with_missing kinds) (slice_range rows from to)) (slice_range batch place end) → FlagsSoFar col keys kinds batch rows end done
near_group col [] kinds batch rows old new flags place end from to done there old_is new_is old_rise new_rise wide so_far is added = absurd (no_key col there)
near_group col (k ∷ ks) kinds batch rows old new flags place end from to done there old_is new_is old_rise new_rise wide so_far is added = near_done col k ks there kinds batch rows old new old_is new_is old_rise new_rise wide flags place end from to so_far is done added

-- rows that are left behind all groups aren't replaced
pub all_flags : (col : ℕ) (keys : List ℕ) (kinds : List ColType) (batch rows : List Row) (flags done : List Bool) → Contains keys col → All (λ r. col < length r) rows → FlagsSoFar col keys kinds batch rows (length batch) flags → done ≡ flags ++ replicate (length rows - length flags) false → done ≡ flags_of keys kinds batch rows
all_flags col [] kinds batch rows flags done there wide so_far added = absurd (no_key col there)
all_flags col (k ∷ ks) kinds batch rows flags done there wide so_far added =
    added
    ∙ padded col k ks there kinds batch rows flags (length rows) so_far.flags so_far.few (omega arith) (λ i d a b m e lt equal.
    let past = so_far.later i m a b lt in
    let at : time_of col (with_missing kinds (get_or rows i d)) ≡ time_of col (get_or rows i d) = ap time_in (wide_cell kinds (get_or rows i d) col (wide i d b)) in
    let row : time_of col (get_or rows i d) ≡ time_of col (get_or rows i []) = ap (time_of col) (got_any rows i d [] b) in
    let other : time_of col (get_or batch m e) ≡ time_of col (get_or batch m []) = ap (time_of col) (got_any batch m e [] lt) in
    absurd (omega arith))
    ∙ ap (flags_of (k ∷ ks) kinds batch) (take_all (length rows) rows (omega arith))

pub no_flags : (keys : List ℕ) (kinds : List ColType) (batch rows : List Row) (flags : List Bool) → length keys ≡ 0 → flags ≡ replicate (length rows) false → flags ≡ flags_of keys kinds batch rows
no_flags [] kinds batch rows flags none are = are ∙ sym (map-const false rows)
no_flags (k ∷ ks) kinds batch rows flags none are = absurd (omega arith)

-- keys that there are have the designated column among them
pub keys_have : (col : ℕ) (keys : List ℕ) → AreKeys col keys → (length keys ≡ 0 → ⊥) → Contains keys col
keys_have col keys are some = ⊎_elim (λ none. absurd (some (ap length none))) (λ there. there) are

pub no_flags_yet : (col : ℕ) (keys : List ℕ) (kinds : List ColType) (batch rows : List Row) (flags : List Bool) → flags ≡ [] → FlagsSoFar col keys kinds batch rows 0 flags
no_flags_yet col keys kinds batch rows flags none = subst (FlagsSoFar col keys kinds batch rows 0) (sym none) (record { few = omega arith; flags = refl; later = λ k m a b c. absurd (omega arith) })
