-- What a version that goes changes of the blocks that are kept.
use Rattle.std.proofs.Common.{◌≡◌, ◌≢◌, ℕ, zero, suc, ◌+◌, ◌<◌, ◌≤◌, Bool, true, false, cond, eqb, ◌||◌, ◌&&◌, not, nat_eq, ◌↔◌, List, [], ◌∷◌, ◌++◌, length, get_or, set, Option, Some, None, Contains, refl, sym, ap, subst, ◌∙◌, inl, inr, ◌⊎◌, ⊎_elim, append_assoc, append-nil, arith, true≢false}
use Rattle.std.specs.List.{list_any, IsDistinct, AllByRecursion}
use Rattle.std.specs.Option.{option_map}
use Rattle.std.proofs.lemmas.Bool.{cases_Bool, cases_eq, cond-true, cond-false, or_cases, or_left, or_right, or_parts, or_from, and_left, and_parts, and_from, not-true, not_from_false, both_ways, ne_eqb}
use Rattle.std.proofs.lemmas.List.{set-set, length-set, get_or-set_other}
use Rattle.std.proofs.lemmas.Option.{none-some, same_Some}
use Rattle.std.proofs.lemmas.List.Elements.{Contains-append_left, Contains-append_right, Contains-append_cases}
use Rattle.std.proofs.lemmas.List.Folds.{list_any-append}
use Rattle.qd_base.proofs.Lists.{IsDistinct-append, IsDistinct-cons, IsDistinct-nil}
use Rattle.qd_catalog.specs.declared.blocks.Kept.{Kept}
use Rattle.qd_manifest.specs.Spelling.{blocks_of}
use Rattle.qd_catalog.specs.declared.version.Version.{Version}
use Rattle.qd_catalog.specs.Versions.{lists}
use Rattle.qd_catalog.specs.Tracked.{listed_by, but_row, goes, listing, Tracks, Queues, Unlists}
use Rattle.qd_catalog.proofs.AddLemmas.{listing-same, listing-other}

-- a row that is taken out twice is taken out
but_twice : (o : Option Kept) (row : ℕ) → option_map (but_row row) (option_map (but_row row) o) ≡ option_map (but_row row) o
but_twice None row = refl
but_twice (Some k) row = ap (λ (rows : List Bool). Some (record { written = k.written; rows = rows })) (set-set k.rows row false false)

-- what each element of a list is
pub each_of : {X : Type 0} (P : X → Type 0) (xs : List X) → ((x : X) → Contains xs x → P x) → AllByRecursion P xs
each_of P [] h = tt
each_of P (x ∷ xs) h = (h x (0, omega arith, refl), each_of P xs (λ y c. h y (suc c.0, omega (arith, c.1), c.2)))

get_set_false : (rows : List Bool) (row : ℕ) → get_or (set rows row false) row false ≡ false
get_set_false [] row = refl
get_set_false (r ∷ rows) zero = refl
get_set_false (r ∷ rows) (suc row) = get_set_false rows row

-- a block that its row left doesn't go with it again
goes_once : (o : Option Kept) (row : ℕ) → goes (option_map (but_row row) o) row ≡ false
goes_once None row = refl
goes_once (Some k) row = and_left (listed_by (but_row row k) row) (not (list_any (λ b. b) (but_row row (but_row row k)).rows)) (get_set_false k.rows row)

module _ (old mid new : ℕ → Option Kept) (row : ℕ) (ps qs before between after : List ℕ) (first : Unlists old mid row ps before between) (second : Unlists mid new row qs between after) where
  abbrev p : ℕ → Bool
  p b = list_any (nat_eq b) ps

  abbrev q : ℕ → Bool
  q b = list_any (nat_eq b) qs

  either : (b : ℕ) → list_any (nat_eq b) (ps ++ qs) ≡ (p b || q b)
  either b = list_any-append (nat_eq b) ps qs

  kept_by : (c d : Bool) (o : Option Kept) → cond d (option_map (but_row row) (cond c (option_map (but_row row) o) o)) (cond c (option_map (but_row row) o) o) ≡ cond (c || d) (option_map (but_row row) o) o
  kept_by true true o = but_twice o row
  kept_by true false o = refl
  kept_by false true o = refl
  kept_by false false o = refl

  mid_other : (b : ℕ) → p b ≡ false → mid b ≡ old b
  mid_other b e = first.kept b ∙ cond-false (p b) (option_map (but_row row) (old b)) (old b) e

  mid_here : (b : ℕ) → p b ≡ true → goes (mid b) row ≡ false
  mid_here b e = ap (λ (o : Option Kept). goes o row) (first.kept b ∙ cond-true (p b) (option_map (but_row row) (old b)) (old b) e) ∙ goes_once (old b) row

  -- what went with the second blocks is none of the first
  not_first : (b : ℕ) → Contains second.gone b → p b ≡ false
  not_first b c =
      let h = (second.exactly b).0 c in
      elim (cases_Bool (p b)) [
        | inl holds ↦ absurd (both_ways (goes (mid b) row) (mid_here b holds) h.1)
        | inr none ↦ none
      ]

  apart : (x y : ℕ) → Contains first.gone x → Contains second.gone y → nat_eq x y ≡ false
  apart x y c d = ne_eqb x y (λ same. both_ways (p y) (not_first y d) (subst (λ (b : ℕ). p b ≡ true) same ((first.exactly x).0 c).0))

  gone_means : (b : ℕ) → Contains (first.gone ++ second.gone) b → (list_any (nat_eq b) (ps ++ qs) ≡ true) × (goes (old b) row ≡ true)
  gone_means b c =
      elim (Contains-append_cases first.gone second.gone b c) [
        | inl one ↦ (let h = (first.exactly b).0 one in (either b ∙ or_left (p b) (q b) h.0, h.1))
        | inr two ↦ (let h = (second.exactly b).0 two in (either b ∙ or_right (p b) (q b) h.0, ap (λ (o : Option Kept). goes o row) (sym (mid_other b (not_first b two))) ∙ h.1))
      ]

  means_gone : (b : ℕ) → list_any (nat_eq b) (ps ++ qs) ≡ true → goes (old b) row ≡ true → Contains (first.gone ++ second.gone) b
  means_gone b e g =
      elim (cases_Bool (p b)) [
        | inl holds ↦ Contains-append_left first.gone second.gone b ((first.exactly b).1 (holds, g))
        | inr none ↦ elim (or_cases (p b) (q b) (sym (either b) ∙ e)) [
          | inl holds ↦ absurd (both_ways (p b) none holds)
          | inr two ↦ Contains-append_right first.gone second.gone b ((second.exactly b).1 (two, ap (λ (o : Option Kept). goes o row) (mid_other b none) ∙ g))
        ]
      ]

  pub unlists_more : Unlists old new row (ps ++ qs) before after
  unlists_more = record {
    kept = λ b. second.kept b ∙ ap (λ (o : Option Kept). cond (q b) (option_map (but_row row) o) o) (first.kept b) ∙ kept_by (p b) (q b) (old b) ∙ ap (λ (c : Bool). cond c (option_map (but_row row) (old b)) (old b)) (sym (either b));
    gone = first.gone ++ second.gone;
    queue = second.queue ∙ ap (λ l. l ++ second.gone) first.queue ∙ append_assoc before first.gone second.gone;
    once = IsDistinct-append nat_eq first.gone second.gone first.once second.once (each_of (λ x. AllByRecursion (λ y. nat_eq x y ≡ false) second.gone) first.gone (λ x c. each_of (λ y. nat_eq x y ≡ false) second.gone (λ y d. apart x y c d)));
    exactly = λ b. (gone_means b, λ h. means_gone b h.0 h.1);
  }

pub unlists_none : (old : ℕ → Option Kept) (row : ℕ) (queue : List ℕ) → Unlists old old row [] queue queue
unlists_none old row queue = record {
  kept = λ b. refl;
  gone = [];
  queue = sym (append-nil queue);
  once = IsDistinct-nil nat_eq;
  exactly = λ b. (λ c. absurd (omega (arith, c.1)), λ h. absurd (true≢false (sym h.0)));
}

-- ---- the whole of a version that goes

pub all_false : (bs : List Bool) → list_any (λ b. b) bs ≡ false → (r : ℕ) → get_or bs r false ≡ false
all_false [] e r = refl
all_false (b ∷ bs) e zero = (or_parts b (list_any (λ c. c) bs) e).0
all_false (b ∷ bs) e (suc r) = all_false bs (or_parts b (list_any (λ c. c) bs) e).1 r

pub none_true : (bs : List Bool) → ((r : ℕ) → r < length bs → get_or bs r false ≡ false) → list_any (λ b. b) bs ≡ false
none_true [] h = refl
none_true (b ∷ bs) h = or_from b (list_any (λ c. c) bs) (h 0 (omega arith)) (none_true bs (λ r lt. h (suc r) (omega arith)))

some_kept : (o : Option Kept) (row : ℕ) (k : Kept) → option_map (but_row row) o ≡ Some k → (j : Kept) × (o ≡ Some j) × (but_row row j ≡ k)
some_kept None row k e = absurd (none-some k e)
some_kept (Some j) row k e = (j, refl, same_Some (but_row row j) k e)

none_kept : (o : Option Kept) (row : ℕ) → option_map (but_row row) o ≡ None → o ≡ None
none_kept None row e = refl
none_kept (Some j) row e = absurd (none-some (but_row row j) (sym e))

pub goes_kept : (o : Option Kept) (row : ℕ) → goes o row ≡ true → (k : Kept) × (o ≡ Some k) × (listed_by k row ≡ true) × (list_any (λ b. b) (but_row row k).rows ≡ false)
goes_kept None row e = absurd (true≢false (sym e))
goes_kept (Some k) row e =
    let h = and_parts (listed_by k row) (not (list_any (λ b. b) (but_row row k).rows)) e in
    (k, refl, h.0, not-true (list_any (λ b. b) (but_row row k).rows) h.1)

module _ (old new : ℕ → Option Kept) (versions : List (Option Version)) (row : ℕ) (x : Version) (before after : List ℕ) (size : length versions ≡ 64) (low : row < 64) (live : get_or versions row None ≡ Some x) (unlisted : Unlists old new row (blocks_of x.shape) before after) (tracks : Tracks old (listing versions)) where
  abbrev now : ℕ → ℕ → Bool
  now = listing (set versions row None)

  abbrev here : ℕ → Bool
  here b = list_any (nat_eq b) (blocks_of x.shape)

  at_row : (b : ℕ) → listing versions row b ≡ here b
  at_row b = ap (λ (v : Option Version). lists v b) live

  now_row : (b : ℕ) → now row b ≡ false
  now_row b = listing-same versions row None size low b

  now_other : (r b : ℕ) → r ≢ row → now r b ≡ listing versions r b
  now_other r b other = listing-other versions row None size low r b other

  new_here : (b : ℕ) → here b ≡ true → new b ≡ option_map (but_row row) (old b)
  new_here b e = unlisted.kept b ∙ cond-true (here b) (option_map (but_row row) (old b)) (old b) e

  new_other : (b : ℕ) → here b ≡ false → new b ≡ old b
  new_other b e = unlisted.kept b ∙ cond-false (here b) (option_map (but_row row) (old b)) (old b) e

  was : (b : ℕ) (k : Kept) → here b ≡ true → new b ≡ Some k → (j : Kept) × (old b ≡ Some j) × (but_row row j ≡ k)
  was b k holds e = some_kept (old b) row k (sym (new_here b holds) ∙ e)

  same : (b : ℕ) (o : Option Kept) → here b ≡ false → new b ≡ o → old b ≡ o
  same b o none e = sym (new_other b none) ∙ e

  gone_none : (b : ℕ) → new b ≡ None → old b ≡ None
  gone_none b e =
      elim (cases_Bool (here b)) [
        | inl holds ↦ none_kept (old b) row (sym (new_here b holds) ∙ e)
        | inr none ↦ same b None none e
      ]

  there_new : (b : ℕ) (k : Kept) (r : ℕ) → new b ≡ Some k → r < 64 → listed_by k r ≡ now r b
  there_new b k r e lt =
      elim (cases_Bool (here b)) [
        | inl holds ↦ (let w = was b k holds e in elim (cases_eq r row) [
          | inl at ↦ subst (λ (i : ℕ). listed_by k i ≡ now i b) (sym at) (ap (λ (j : Kept). listed_by j row) (sym w.2) ∙ get_set_false w.0.rows row ∙ sym (now_row b))
          | inr other ↦ ap (λ (j : Kept). listed_by j r) (sym w.2) ∙ get_or-set_other w.0.rows row r false false other ∙ tracks.there b w.0 w.1 r lt ∙ sym (now_other r b other)
        ])
        | inr none ↦ elim (cases_eq r row) [
          | inl at ↦ subst (λ (i : ℕ). listed_by k i ≡ now i b) (sym at) (tracks.there b k (same b (Some k) none e) row low ∙ at_row b ∙ none ∙ sym (now_row b))
          | inr other ↦ tracks.there b k (same b (Some k) none e) r lt ∙ sym (now_other r b other)
        ]
      ]

  now_false : (b : ℕ) → ((r : ℕ) → r < 64 → listing versions r b ≡ false) → (r : ℕ) → r < 64 → now r b ≡ false
  now_false b h r lt =
      elim (cases_eq r row) [
        | inl at ↦ subst (λ (i : ℕ). now i b ≡ false) (sym at) (now_row b)
        | inr other ↦ now_other r b other ∙ h r lt
      ]

  pub tracks_removed : Tracks new now
  tracks_removed = record {
    rows = λ b k e. elim (cases_Bool (here b)) [
      | inl holds ↦ (let w = was b k holds e in subst (λ (j : Kept). length j.rows ≡ 64) w.2 (length-set w.0.rows row false ∙ tracks.rows b w.0 w.1))
      | inr none ↦ tracks.rows b k (same b (Some k) none e)
    ];
    there = λ b k e r lt. there_new b k r e lt;
    absent = λ b e r lt. now_false b (tracks.absent b (gone_none b e)) r lt;
  }

  module _ (queues : Queues old (listing versions) before) where
    -- what went is listed by the row, and by no other
    pub gone_listed : (b : ℕ) → Contains unlisted.gone b → listing versions row b ≡ true
    gone_listed b c =
        let h = (unlisted.exactly b).0 c in
        at_row b ∙ h.0

    pub gone_free : (b : ℕ) → Contains unlisted.gone b → (r : ℕ) → r < 64 → now r b ≡ false
    gone_free b c r lt =
        let h = (unlisted.exactly b).0 c in
        let g = goes_kept (old b) row h.1 in
        elim (cases_eq r row) [
          | inl at ↦ subst (λ (i : ℕ). now i b ≡ false) (sym at) (now_row b)
          | inr other ↦ now_other r b other ∙ sym (tracks.there b g.0 g.1 r lt) ∙ sym (get_or-set_other g.0.rows row r false false other) ∙ all_false (but_row row g.0).rows g.3 r
        ]

    still_there : (b : ℕ) → (old b ≡ None → ⊥) → new b ≡ None → ⊥
    still_there b h e = h (gone_none b e)

    all_queued : (b : ℕ) (k : Kept) → new b ≡ Some k → ((r : ℕ) → r < 64 → now r b ≡ false) → Contains after b
    all_queued b k e h =
        elim (cases_Bool (here b)) [
          | inl holds ↦
              (let w = was b k holds e in
              let none : list_any (λ c. c) (but_row row w.0).rows ≡ false = none_true (but_row row w.0).rows (λ r lt.
              let within : r < 64 = omega (arith, length-set w.0.rows row false, tracks.rows b w.0 w.1) in
              ap (λ (j : Kept). listed_by j r) w.2 ∙ there_new b k r e within ∙ h r within) in
              let left : listed_by w.0 row ≡ true = tracks.there b w.0 w.1 row low ∙ at_row b ∙ holds in
              let g : goes (old b) row ≡ true = ap (λ (o : Option Kept). goes o row) w.1 ∙ and_from (listed_by w.0 row) (not (list_any (λ c. c) (but_row row w.0).rows)) left (not_from_false (list_any (λ c. c) (but_row row w.0).rows) none) in
              subst (λ (l : List ℕ). Contains l b) (sym unlisted.queue) (Contains-append_right before unlisted.gone b ((unlisted.exactly b).1 (holds, g))))
          | inr none ↦
              (let free : (r : ℕ) → r < 64 → listing versions r b ≡ false = λ r lt. elim (cases_eq r row) [
                | inl at ↦ subst (λ (i : ℕ). listing versions i b ≡ false) (sym at) (at_row b ∙ none)
                | inr other ↦ sym (now_other r b other) ∙ h r lt
              ] in
              subst (λ (l : List ℕ). Contains l b) (sym unlisted.queue) (Contains-append_left before unlisted.gone b (queues.all b k (same b (Some k) none e) free)))
        ]

    queued : (P : ℕ → Type 0) → ((b : ℕ) → Contains before b → P b) → ((b : ℕ) → Contains unlisted.gone b → P b) → (b : ℕ) → Contains after b → P b
    queued P f g b c =
        elim (Contains-append_cases before unlisted.gone b (subst (λ (l : List ℕ). Contains l b) unlisted.queue c)) [
          | inl earlier ↦ f b earlier
          | inr went ↦ g b went
        ]

    pub queues_removed : Queues new now after
    queues_removed = record {
      once = subst (IsDistinct nat_eq) (sym unlisted.queue) (IsDistinct-append nat_eq before unlisted.gone queues.once unlisted.once (each_of (λ y. AllByRecursion (λ z. nat_eq y z ≡ false) unlisted.gone) before (λ y c. each_of (λ z. nat_eq y z ≡ false) unlisted.gone (λ z d. ne_eqb y z (λ one. both_ways (listing versions row z) (subst (λ (i : ℕ). listing versions row i ≡ false) one (queues.free y c row low)) (gone_listed z d))))));
      there = queued (λ b. new b ≡ None → ⊥) (λ b c. still_there b (queues.there b c)) (λ b c. still_there b (λ e. (let g = goes_kept (old b) row ((unlisted.exactly b).0 c).1 in none-some g.0 (sym e ∙ g.1))));
      free = queued (λ b. (r : ℕ) → r < 64 → now r b ≡ false) (λ b c. now_false b (queues.free b c)) gone_free;
      all = all_queued;
    }
