-- Lists of the starts of buckets: of those that have a time, and of all between two moments.
use Rattle.std.proofs.Common.{◌≡◌, ℕ, zero, suc, ◌+◌, ◌-◌, ◌<◌, ◌≤◌, true, false, List, [], ◌∷◌, ◌++◌, Option, Some, None, length, refl, sym, ap, ap₂, ◌∙◌, subst, arith, inl, inr, ◌⊎◌}
use Rattle.std.specs.Prelude.{nat_le, slice_index}
use Rattle.std.specs.Option.{SomeIff}
use Rattle.std.proofs.lemmas.Bool.{cases_lt, true≢false}
use Rattle.std.proofs.lemmas.Bool.Decides.{nat_tests}
use Rattle.std.proofs.lemmas.List.{get_or_append_left, get_or_push, length-append}
use Rattle.qd_base.specs.declared.limits.TheConstants.{MAX_TIME}
use Rattle.qd_meaning.specs.Sampled.{iterated, most_starts, starts}
use Rattle.qd_time.specs.declared.buckets.Align.{Align}
use Rattle.qd_time.specs.declared.buckets.Stride.{Stride}
use Rattle.qd_time.specs.Buckets.{bucket_end, bucket_start, period_of, IsReached, IsStart, IsStride}
use Rattle.qd_time.proofs.StartLemmas.{end_by-least, end_by-starts, lt-end_by, period_is, start_by-greatest, start_by-le, start_by-starts}
use Rattle.qd_sample.specs.Starts.{is_past, AreStarts, AreTimes, IsWithin, StartsOfRows}
use Rattle.qd_sample.proofs.StartGaps.{bucket_between, far, grows, reached_later, start_is}
use Rattle.qd_sample.proofs.Walks.{cut, ends, get_or-iterated, goes_on, iterated_more, length-iterated, nth, nth_later, nth_next, nth_rises}

-- ---- starts with a time

-- the newest bucket is that of a time, and where it ends is known; before the first time any one opens a bucket
abbrev pub Opened : Stride → Align → List ℕ → ℕ → List ℕ → Option ℕ → Type 0
Opened stride align times i starts end =
    ((length starts ≡ 0) × (end ≡ Some 0))
    ⊎ ((o : ℕ) × (o < i) × (0 < length starts) × (slice_index starts (length starts - 1) ≡ bucket_start stride align (slice_index times o))
    × SomeIff end (bucket_end stride align (slice_index times o) ≤ MAX_TIME) (bucket_end stride align (slice_index times o)))

-- the starts of the buckets of the first times
pub record SeenTo (stride : Stride) (align : Align) (times : List ℕ) (i : ℕ) (found : List ℕ) (end : Option ℕ) : Type 0 where
  pub rise : (a b : ℕ) → a < b → b < length found → slice_index found a < slice_index found b
  pub each : (k : ℕ) → k < length found → IsStart stride align (slice_index found k)
  pub has : (j : ℕ) → j < i → (k : ℕ) × (k < length found) × (slice_index found k ≡ bucket_start stride align (slice_index times j))
  pub rows : (k : ℕ) → k < length found → (j : ℕ) × (j < i) × (slice_index found k ≡ bucket_start stride align (slice_index times j))
  pub opened : Opened stride align times i found end

pub seen_none : (stride : Stride) (align : Align) (times : List ℕ) → SeenTo stride align times 0 [] (Some 0)
seen_none stride align times = record {
  rise = λ a b less low. absurd (omega arith);
  each = λ k low. absurd (omega arith);
  has = λ j low. absurd (omega arith);
  rows = λ k low. absurd (omega arith);
  opened = inl (refl, refl);
}

module _ (stride : Stride) (align : Align) (times : List ℕ) (strides : IsStride stride) (are : AreTimes align times) where
  -- two times of one bucket
  bucket_same : (s t : ℕ) → IsReached align s → IsReached align t → s ≤ t → t < bucket_end stride align s → bucket_start stride align t ≡ bucket_start stride align s
  bucket_same s t rs rt le high =
      let p = period_of stride in
      let h = period_is stride strides in
      let s_le = start_by-le p align s h rs in
      let t_le = start_by-le p align t h rt in
      let least = start_by-greatest p align t (bucket_start stride align s) h rt (start_by-starts p align s h) (omega arith) in
      elim (cases_lt s (bucket_start stride align t)) [
        | inl past ↦ absurd (omega (arith, end_by-least p align s (bucket_start stride align t) h (start_by-starts p align t h) past))
        | inr early ↦ omega (arith, least, start_by-greatest p align s (bucket_start stride align t) h rs (start_by-starts p align t h) early)
      ]

  module _ (i : ℕ) (found : List ℕ) (end : Option ℕ) (low : i < length times) (seen : SeenTo stride align times i found end) where
    -- a time behind the newest bucket's end opens another one
    pub seen_push : (more : List ℕ) (start : ℕ) (next : Option ℕ) → is_past end (slice_index times i) ≡ true → start ≡ bucket_start stride align (slice_index times i) → more ≡ found ++ start ∷ []
        → SomeIff next (bucket_end stride align (slice_index times i) ≤ MAX_TIME) (bucket_end stride align (slice_index times i)) → SeenTo stride align times (i + 1) more next
    seen_push more start next past is whole ended = record {
      rise = λ a b less there. elim (cases_lt b (length found)) [
        | inl early ↦ omega (arith, old a (omega arith), old b early, seen.rise a b less early)
        | inr late ↦ omega (arith, old a (omega (arith, size)), new b (omega (arith, size)), below end seen.opened past a (omega (arith, size)), is)
      ];
      each = λ k there. elim (cases_lt k (length found)) [
        | inl early ↦ subst (IsStart stride align) (sym (old k early)) (seen.each k early)
        | inr late ↦ subst (IsStart stride align) (sym (new k (omega (arith, size)) ∙ is)) (start_by-starts (period_of stride) align (slice_index times i) (period_is stride strides))
      ];
      has = λ j lt. elim (cases_lt j i) [
        | inl early ↦ (let was = seen.has j early in (was.0, omega (arith, was.1, size), old was.0 was.1 ∙ was.2))
        | inr late ↦ (length found, omega (arith, size), new (length found) refl ∙ is ∙ ap (λ k. bucket_start stride align (slice_index times k)) (omega arith))
      ];
      rows = λ k there. elim (cases_lt k (length found)) [
        | inl early ↦ (let was = seen.rows k early in (was.0, omega (arith, was.1), old k early ∙ was.2))
        | inr late ↦ (i, omega arith, new k (omega (arith, size)) ∙ is)
      ];
      opened = inr (i, omega arith, omega (arith, size), new (length more - 1) (omega (arith, size)) ∙ is, ended);
    }
      where
        size : length more ≡ length found + 1
        size = omega (arith, ap length whole, length-append found (start ∷ []))

        old : (k : ℕ) → k < length found → slice_index more k ≡ slice_index found k
        old k early = ap (λ (l : List ℕ). slice_index l k) whole ∙ get_or_append_left found (start ∷ []) 0 k early

        new : (k : ℕ) → k ≡ length found → slice_index more k ≡ start
        new k same = ap (λ (l : List ℕ). slice_index l k) whole ∙ get_or_push found start 0 k (sym same)

        below : (e : Option ℕ) → Opened stride align times i found e → is_past e (slice_index times i) ≡ true → (a : ℕ) → a < length found → slice_index found a < bucket_start stride align (slice_index times i)
        below e (inl none) behind a there = absurd (omega (arith, none.0))
        below None (inr open_) behind a there = absurd (true≢false (sym behind))
        below (Some s) (inr (o, early, some, newest, (fits, here))) behind a there =
            let p = period_of stride in
            let h = period_is stride strides in
            let t = slice_index times i in
            let reached = are.reached i low in
            let o_reached = are.reached o (omega arith) in
            let ended_before : s ≤ t = grind (arith, nat_tests) in
            let at_end = subst (λ (x : ℕ). IsStart stride align x) (sym here) (end_by-starts p align (slice_index times o) h) in
            let least = start_by-greatest p align t s h reached at_end ended_before in
            let newest_low : slice_index found (length found - 1) < s = omega (arith, newest, here, start_by-le p align (slice_index times o) h o_reached, lt-end_by p align (slice_index times o) h) in
            elim (cases_lt a (length found - 1)) [
              | inl earlier ↦ omega (arith, seen.rise a (length found - 1) earlier (omega arith), newest_low, least)
              | inr last ↦ (let same : a ≡ length found - 1 = omega arith in omega (arith, ap (λ k. slice_index found k) same, newest_low, least))
            ]

    -- a time before it is in the newest bucket
    pub seen_stay : is_past end (slice_index times i) ≡ false → SeenTo stride align times (i + 1) found end
    seen_stay before = record {
      rise = seen.rise;
      each = seen.each;
      has = λ j lt. elim (cases_lt j i) [
        | inl early ↦ seen.has j early
        | inr late ↦ (let same : i ≡ j = omega arith in let here = newest end seen.opened before in (length found - 1, omega (arith, here.0), here.1 ∙ ap (λ k. bucket_start stride align (slice_index times k)) same))
      ];
      rows = λ k there. let was = seen.rows k there in (was.0, omega (arith, was.1), was.2);
      opened = stays end seen.opened before;
    }
      where
        newest : (e : Option ℕ) → Opened stride align times i found e → is_past e (slice_index times i) ≡ false → (0 < length found) × (slice_index found (length found - 1) ≡ bucket_start stride align (slice_index times i))
        newest e (inl none) inside =
            let t = slice_index times i in
            let here : nat_le 0 (slice_index times i) ≡ true = grind (arith, nat_tests) in
            absurd (true≢false (sym here ∙ sym (ap (λ (x : Option ℕ). is_past x t) none.1) ∙ inside))
        newest None (inr (o, early, some, is, unending)) inside =
            let t = slice_index times i in
            (some, is ∙ sym (bucket_same (slice_index times o) t (are.reached o (omega arith)) (are.reached i low) (are.rise o i (omega arith) low) (within (cases_lt t (bucket_end stride align (slice_index times o))))))
          where
            within : (slice_index times i < bucket_end stride align (slice_index times o)) ⊎ (bucket_end stride align (slice_index times o) ≤ slice_index times i) → slice_index times i < bucket_end stride align (slice_index times o)
            within (inl less) = less
            within (inr more) = absurd (unending (omega (arith, are.high i low)))
        newest (Some s) (inr (o, early, some, is, (fits, here))) inside =
            let t = slice_index times i in
            let ahead : t < s = grind (arith, nat_tests) in
            (some, is ∙ sym (bucket_same (slice_index times o) t (are.reached o (omega arith)) (are.reached i low) (are.rise o i (omega arith) low) (omega (arith, here))))

        stays : (e : Option ℕ) → Opened stride align times i found e → is_past e (slice_index times i) ≡ false → Opened stride align times (i + 1) found e
        stays e (inl none) inside = inl none
        stays e (inr (o, early, some, is, rest)) inside = inr (o, omega arith, some, is, rest)

pub seen_all : (stride : Stride) (align : Align) (times : List ℕ) (i : ℕ) (found : List ℕ) (end : Option ℕ) → length times ≡ i → SeenTo stride align times i found end → AreStarts stride align times found × StartsOfRows stride align times found
seen_all stride align times i found end all seen = (
  record { rise = seen.rise; each = seen.each; has = λ j low. seen.has j (omega arith) },
  λ k low. let was = seen.rows k low in (was.0, omega (arith, was.1), was.2),
)

-- ---- all starts between two moments

-- the first starts from a moment on, and the next one if it is no later than the last timestamp
pub record WalkedTo (stride : Stride) (align : Align) (first last k : ℕ) (found : List ℕ) (next : Option ℕ) : Type 0 where
  pub walked : found ≡ iterated (bucket_end stride align) k (bucket_start stride align first)
  pub low : (j : ℕ) → j < k → nth (bucket_end stride align) j (bucket_start stride align first) ≤ last
  pub coming : SomeIff next (nth (bucket_end stride align) k (bucket_start stride align first) ≤ MAX_TIME) (nth (bucket_end stride align) k (bucket_start stride align first))

module _ (stride : Stride) (align : Align) (first last : ℕ) (strides : IsStride stride) (reached : IsReached align first) (order : first ≤ last) (high : last ≤ MAX_TIME) where
  abbrev at : ℕ → ℕ
  at k = nth (bucket_end stride align) k (bucket_start stride align first)

  pub walk_none : (start : ℕ) → start ≡ bucket_start stride align first → WalkedTo stride align first last 0 [] (Some start)
  walk_none start is = record {
    walked = refl;
    low = λ j less. absurd (omega arith);
    coming = (omega (arith, start_by-le (period_of stride) align first (period_is stride strides) reached), is);
  }

  pub walk_more : (k start : ℕ) (found more : List ℕ) (next after : Option ℕ) → WalkedTo stride align first last k found next → IsWithin next last (Some start) → more ≡ found ++ start ∷ []
      → SomeIff after (bucket_end stride align start ≤ MAX_TIME) (bucket_end stride align start) → WalkedTo stride align first last (k + 1) more after
  walk_more k start found more next after walk (there, early) whole ended =
      let is : start ≡ at k = (subst (λ (o : Option ℕ). SomeIff o (at k ≤ MAX_TIME) (at k)) there walk.coming).1 in
      let further : bucket_end stride align start ≡ at (k + 1) = ap (bucket_end stride align) is ∙ sym (nth_next (bucket_end stride align) k (bucket_start stride align first)) in
      record {
        walked = whole ∙ ap₂ (λ l x. l ++ x ∷ []) walk.walked is ∙ sym (iterated_more (bucket_end stride align) k (bucket_start stride align first));
        low = λ j less. elim (cases_lt j k) [ inl before ↦ walk.low j before | inr now ↦ (let same : k ≡ j = omega arith in omega (arith, early, is, ap at same)) ];
        coming = subst (λ (x : ℕ). SomeIff after (x ≤ MAX_TIME) x) further ended;
      }

  past_last : (next : Option ℕ) (x : ℕ) → SomeIff next (x ≤ MAX_TIME) x → IsWithin next last None → last < x
  past_last None x none within = elim (cases_lt last x) [ inl less ↦ less | inr more ↦ absurd (none (omega arith)) ]
  past_last (Some s) x (fits, is) within = omega (arith, is, within s refl)

  pub walk_ends : (k : ℕ) (found : List ℕ) (next : Option ℕ) → WalkedTo stride align first last k found next → IsWithin next last None → found ≡ starts stride align first last
  walk_ends k found next walk none =
      walk.walked ∙ sym (ends (bucket_end stride align) (grows stride align first strides reached) last (most_starts stride first last) (bucket_start stride align first) (far stride align first strides reached last order) k walk.low (past_last next (at k) walk.coming none))

  pub walk_long : (k start : ℕ) (found : List ℕ) (next : Option ℕ) → WalkedTo stride align first last k found next → IsWithin next last (Some start) → k < length (starts stride align first last)
  walk_long k start found next walk (there, early) =
      let is : start ≡ at k = (subst (λ (o : Option ℕ). SomeIff o (at k ≤ MAX_TIME) (at k)) there walk.coming).1 in
      let long = goes_on (bucket_end stride align) (grows stride align first strides reached) last (most_starts stride first last) (bucket_start stride align first) (far stride align first strides reached last order) (k + 1) (λ j less. elim (cases_lt j k) [ inl before ↦ walk.low j before | inr now ↦ (let same : k ≡ j = omega arith in omega (arith, early, is, ap at same)) ]) in
      omega arith

  -- the walk that gives all
  walked_all : (k : ℕ) × (starts stride align first last ≡ iterated (bucket_end stride align) k (bucket_start stride align first)) × ((j : ℕ) → j < k → at j ≤ last) × (last < at k)
  walked_all =
      let passes = far stride align first strides reached last order in
      let found = cut (bucket_end stride align) (grows stride align first strides reached) last (most_starts stride first last) (bucket_start stride align first) passes in
      (found.0, ends (bucket_end stride align) (grows stride align first strides reached) last (most_starts stride first last) (bucket_start stride align first) passes found.0 found.1 found.2, found.1, found.2)

  pub starts_rise : (a b : ℕ) → a < b → b < length (starts stride align first last) → slice_index (starts stride align first last) a < slice_index (starts stride align first last) b
  starts_rise a b less low =
      let all = walked_all in
      let size = ap length all.1 ∙ length-iterated (bucket_end stride align) all.0 (bucket_start stride align first) in
      omega (
        arith,
        size,
        ap (λ (l : List ℕ). slice_index l a) all.1,
        ap (λ (l : List ℕ). slice_index l b) all.1,
        get_or-iterated (bucket_end stride align) all.0 a (bucket_start stride align first) 0 (omega (arith, size)),
        get_or-iterated (bucket_end stride align) all.0 b (bucket_start stride align first) 0 (omega (arith, size)),
        nth_rises (bucket_end stride align) (grows stride align first strides reached) (bucket_start stride align first) a b less,
      )

  pub starts_start : (k : ℕ) → k < length (starts stride align first last) → IsStart stride align (slice_index (starts stride align first last) k)
  starts_start k low =
      let all = walked_all in
      let size = ap length all.1 ∙ length-iterated (bucket_end stride align) all.0 (bucket_start stride align first) in
      subst (IsStart stride align) (sym (ap (λ (l : List ℕ). slice_index l k) all.1 ∙ get_or-iterated (bucket_end stride align) all.0 k (bucket_start stride align first) 0 (omega (arith, size)))) (start_is stride align first strides reached k)

  -- among them is the start of each moment's bucket
  pub starts_have : (t : ℕ) → first ≤ t → t ≤ last → (k : ℕ) × (k < length (starts stride align first last)) × (slice_index (starts stride align first last) k ≡ bucket_start stride align t)
  starts_have t after before =
      let next = bucket_end stride align in
      let s = bucket_start stride align first in
      let rises = grows stride align first strides reached in
      let all = walked_all in
      let size = ap length all.1 ∙ length-iterated next all.0 s in
      let passes = far stride align first strides reached last order in
      let found = cut next rises t (most_starts stride first last) s (omega (arith, passes)) in
      let some = begun found.0 found.2 (omega (arith, start_by-le (period_of stride) align first (period_is stride strides) reached)) in
      let k = found.0 - 1 in
      let here = found.1 k (omega (arith, some)) in
      let there : nth next found.0 s ≡ next (nth next k s) = ap (λ n. nth next n s) (the_next found.0 some) ∙ nth_next next k s in
      let low : k < all.0 = fits found.0 all.0 some found.1 all.2 all.3 in (
        k,
        omega (arith, low, size),
        ap (λ (l : List ℕ). slice_index l k) all.1 ∙ get_or-iterated next all.0 k s 0 low
            ∙ sym (bucket_between stride align first strides reached (nth next k s) t (reached_later align first t after reached) (start_is stride align first strides reached k) here (omega (arith, found.2, there))),
      )
    where
      begun : (k : ℕ) → t < at k → bucket_start stride align first ≤ t → 0 < k
      begun zero past here = absurd (omega arith)
      begun (suc k) past here = omega arith

      the_next : (k : ℕ) → 0 < k → k ≡ k - 1 + 1
      the_next k some = omega arith

      fits : (k n : ℕ) → 0 < k → ((j : ℕ) → j < k → at j ≤ t) → ((j : ℕ) → j < n → at j ≤ last) → last < at n → k - 1 < n
      fits k n some low all past = elim (cases_lt (k - 1) n) [
        | inl less ↦ less
        | inr more ↦ absurd (omega (arith, low (k - 1) (omega arith), nth_later (bucket_end stride align) (grows stride align first strides reached) (bucket_start stride align first) n (k - 1) more))
      ]

  -- all of them are from the first moment's start to the last moment
  pub starts_within : (k : ℕ) → k < length (starts stride align first last) → (bucket_start stride align first ≤ slice_index (starts stride align first last) k) × (slice_index (starts stride align first last) k ≤ last)
  starts_within k low =
      let next = bucket_end stride align in
      let s = bucket_start stride align first in
      let all = walked_all in
      let size = ap length all.1 ∙ length-iterated next all.0 s in
      let there : k < all.0 = omega (arith, size) in
      let here : slice_index (starts stride align first last) k ≡ at k = ap (λ (l : List ℕ). slice_index l k) all.1 ∙ get_or-iterated next all.0 k s 0 there in
      let later : s ≤ at k = nth_later next (grows stride align first strides reached) s 0 k (omega arith) in
      let early : at k ≤ last = all.2 k there in
      (omega (arith, here, later), omega (arith, here, early))

  -- a moment from there on at which a bucket starts is among them
  pub starts_meet : (t : ℕ) → bucket_start stride align first ≤ t → t ≤ last → IsStart stride align t → (k : ℕ) × (k < length (starts stride align first last)) × (slice_index (starts stride align first last) k ≡ t)
  starts_meet t low within is = elim (cases_lt t first) [
    | inl early ↦
        (let found = starts_have first (omega arith) order in
        let least = start_by-greatest (period_of stride) align first t (period_is stride strides) reached is (omega arith) in
        (found.0, found.1, omega (arith, found.2, low, least)))
    | inr late ↦
        (let found = starts_have t late within in
        let there = reached_later align first t late reached in
        let least = start_by-greatest (period_of stride) align t t (period_is stride strides) there is (omega arith) in
        let most = start_by-le (period_of stride) align t (period_is stride strides) there in
        (found.0, found.1, omega (arith, found.2, least, most)))
  ]
