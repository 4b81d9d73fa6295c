-- The blocks that wait in the queue, and how many there are.
use Rattle.std.proofs.Common.{◌≡◌, ℕ, zero, suc, ◌+◌, ◌<◌, ◌≤◌, Bool, true, false, cond, eqb, ◌||◌, nat_eq, List, [], ◌∷◌, ◌++◌, length, get_or, set, Option, Some, None, Contains, refl, sym, ap, subst, ◌∙◌, inl, inr, arith}
use Rattle.std.specs.List.{list_any, IsDistinct, AllByRecursion}
use Rattle.std.specs.Map.{lookup}
use Rattle.std.specs.Cmp.{nat_eq_equiv}
use Rattle.std.specs.Option.{IsSome, option_map}
use Rattle.std.proofs.lemmas.Bool.{cases_Bool, cond-true, cond-false, or_parts, or_from, or_cases, both_ways, eqb-true, ne_eqb}
use Rattle.std.proofs.lemmas.Option.{none-some, same_Some}
use Rattle.std.proofs.lemmas.List.Elements.{Contains-append_cases}
use Rattle.std.proofs.lemmas.Map.Steps.{length-le_from_keys}
use Rattle.std.proofs.lemmas.Map.Views.{Contains-from_any}
use Rattle.qd_base.proofs.Lists.{IsDistinct-append, IsDistinct-cons}
use Rattle.qd_catalog.specs.declared.blocks.Kept.{Kept}
use Rattle.qd_catalog.specs.declared.version.Version.{Version}
use Rattle.qd_catalog.specs.Tracked.{listed_by, but_row, goes, listing, Tracks, Queues, Waits, Unlists}
use Rattle.qd_catalog.proofs.RetireLemmas.{each_of, all_false, none_true, goes_kept}

-- a block that a row lists is listed by some row
some_true : (bs : List Bool) (r : ℕ) → get_or bs r false ≡ true → list_any (λ b. b) bs ≡ true
some_true bs r e =
    elim (cases_Bool (list_any (λ b. b) bs)) [
      | inl holds ↦ holds
      | inr none ↦ absurd (both_ways (get_or bs r false) (all_false bs none r) e)
    ]

none_set : (bs : List Bool) (r : ℕ) → list_any (λ b. b) bs ≡ false → list_any (λ b. b) (set bs r false) ≡ false
none_set [] r e = refl
none_set (b ∷ bs) zero e = (or_parts b (list_any (λ c. c) bs) e).1
none_set (b ∷ bs) (suc r) e = (let h = or_parts b (list_any (λ c. c) bs) e in or_from b (list_any (λ c. c) (set bs r false)) h.0 (none_set bs r h.1))

waits_at : (kept : ℕ → Option Kept) (versions : List (Option Version)) (retired : List ℕ) → Tracks kept (listing versions) → Queues kept (listing versions) retired → (b : ℕ) → Contains retired b → (o : Option Kept) → kept b ≡ o → (k : Kept) × (kept b ≡ Some k) × (list_any (λ row. row) k.rows ≡ false)
waits_at kept versions retired tracks queues b c None e = absurd (queues.there b c e)
waits_at kept versions retired tracks queues b c (Some k) e =
    let size = tracks.rows b k e in
    (k, e, none_true k.rows (λ r lt. let low : r < 64 = omega (arith, size) in tracks.there b k e r low ∙ queues.free b c r low))

-- what the queue of a catalogue is
pub waits_of : (kept : ℕ → Option Kept) (versions : List (Option Version)) (retired : List ℕ) → Tracks kept (listing versions) → Queues kept (listing versions) retired → Waits kept retired
waits_of kept versions retired tracks queues = record {
  once = queues.once;
  free = λ b c. waits_at kept versions retired tracks queues b c (kept b) refl;
}

-- a block that is kept and doesn't wait is listed by some row
pub listed_of : (kept : ℕ → Option Kept) (versions : List (Option Version)) (retired : List ℕ) → Tracks kept (listing versions) → Queues kept (listing versions) retired → (b : ℕ) → (Contains retired b → ⊥) → (k : Kept) → kept b ≡ Some k → list_any (λ row. row) k.rows ≡ true
listed_of kept versions retired tracks queues b free k e =
    elim (cases_Bool (list_any (λ row. row) k.rows)) [
      | inl holds ↦ holds
      | inr none ↦ absurd (free (queues.all b k e (λ row lt. sym (tracks.there b k e row lt) ∙ all_false k.rows none row)))
    ]

-- the queue, once blocks are listed no more
module _ (old new : ℕ → Option Kept) (row : ℕ) (blocks before after : List ℕ) (waits : Waits old before) (unlisted : Unlists old new row blocks before after) where
  abbrev here : ℕ → Bool
  here b = list_any (nat_eq b) blocks

  apart : (y z : ℕ) → Contains before y → Contains unlisted.gone z → nat_eq y z ≡ false
  apart y z c d =
      let f = waits.free y c in
      let g = goes_kept (old z) row ((unlisted.exactly z).0 d).1 in
      ne_eqb y z (λ same.
      let one : f.0 ≡ g.0 = same_Some f.0 g.0 (sym f.1 ∙ ap old same ∙ g.1) in
      both_ways (listed_by g.0 row) (subst (λ (k : Kept). listed_by k row ≡ false) one (all_false f.0.rows f.2 row)) g.2)

  still : (b : ℕ) → Contains before b → (k : Kept) × (new b ≡ Some k) × (list_any (λ r. r) k.rows ≡ false)
  still b c =
      let f = waits.free b c in
      elim (cases_Bool (here b)) [
        | inl holds ↦ (but_row row f.0, unlisted.kept b ∙ cond-true (here b) (option_map (but_row row) (old b)) (old b) holds ∙ ap (option_map (but_row row)) f.1, none_set f.0.rows row f.2)
        | inr none ↦ (f.0, unlisted.kept b ∙ cond-false (here b) (option_map (but_row row) (old b)) (old b) none ∙ f.1, f.2)
      ]

  went : (b : ℕ) → Contains unlisted.gone b → (k : Kept) × (new b ≡ Some k) × (list_any (λ r. r) k.rows ≡ false)
  went b c =
      let h = (unlisted.exactly b).0 c in
      let g = goes_kept (old b) row h.1 in
      (but_row row g.0, unlisted.kept b ∙ cond-true (here b) (option_map (but_row row) (old b)) (old b) h.0 ∙ ap (option_map (but_row row)) g.1, g.3)

  pub waits_after : Waits new after
  waits_after = record {
    once = subst (IsDistinct nat_eq) (sym unlisted.queue) (IsDistinct-append nat_eq before unlisted.gone waits.once unlisted.once (each_of (λ y. AllByRecursion (λ z. nat_eq y z ≡ false) unlisted.gone) before (λ y c. each_of (λ z. nat_eq y z ≡ false) unlisted.gone (λ z d. apart y z c d))));
    free = λ b c. elim (Contains-append_cases before unlisted.gone b (subst (λ (l : List ℕ). Contains l b) unlisted.queue c)) [
      | inl earlier ↦ still b earlier
      | inr later ↦ went b later
    ];
  }

some_is : (o : Option Kept) (k : Kept) → o ≡ Some k → IsSome o
some_is None k e = absurd (none-some k e)
some_is (Some j) k e = refl

-- a block that goes with a row isn't in the queue, which has fewer blocks than are kept
pub few_wait : (es : List (ℕ × Kept)) (retired : List ℕ) (b row : ℕ) → Waits (λ q. lookup (nat_eq q) es) retired → goes (lookup (nat_eq b) es) row ≡ true → length retired < length es
few_wait es retired b row waits e =
    let g = goes_kept (lookup (nat_eq b) es) row e in
    let other : (y : ℕ) → Contains retired y → nat_eq b y ≡ false = λ y c. (let f = waits.free y c in ne_eqb b y (λ same.
    let one : g.0 ≡ f.0 = same_Some g.0 f.0 (sym g.1 ∙ ap (λ (q : ℕ). lookup (nat_eq q) es) same ∙ f.1) in
    both_ways (list_any (λ r. r) g.0.rows) (subst (λ (k : Kept). list_any (λ r. r) k.rows ≡ false) (sym one) f.2) (some_true g.0.rows row g.2))) in
    let all : (q : ℕ) → list_any (nat_eq q) (b ∷ retired) ≡ true → IsSome (lookup (nat_eq q) es) = λ q h. elim (or_cases (nat_eq q b) (list_any (nat_eq q) retired) h) [
      | inl same ↦ some_is (lookup (nat_eq q) es) g.0 (ap (λ (x : ℕ). lookup (nat_eq x) es) (eqb-true q b same) ∙ g.1)
      | inr in_queue ↦ (let f = waits.free q (Contains-from_any (λ x y t. eqb-true x y t) q retired in_queue) in some_is (lookup (nat_eq q) es) f.0 f.1)
    ] in
    let most = length-le_from_keys nat_eq_equiv (b ∷ retired) es (IsDistinct-cons nat_eq b retired (each_of (λ y. nat_eq b y ≡ false) retired other) waits.once) all in
    omega arith
