-- One block that a row lists no more.
use Rattle.std.proofs.Common.{◌≡◌, ℕ, zero, suc, ◌+◌, ◌<◌, Bool, true, false, cond, eqb, ◌||◌, ◌&&◌, not, nat_eq, List, [], ◌∷◌, ◌++◌, length, get_or, set, Option, Some, None, Contains, refl, sym, ap, subst, ◌∙◌, inl, inr, append-nil, eq-eqb, arith, true≢false}
use Rattle.std.specs.List.{list_any, IsDistinct}
use Rattle.std.specs.Option.{option_map}
use Rattle.std.proofs.lemmas.Bool.{cases_Bool, or_cases, or_left, and_parts, and_from, not-true, not_from_false, both_ways, eqb-true}
use Rattle.std.proofs.lemmas.List.{get_or-replicate, get_or_past, length-replicate}
use Rattle.qd_base.proofs.Lists.{IsDistinct-cons, IsDistinct-nil}
use Rattle.qd_catalog.specs.declared.blocks.Kept.{Kept}
use Rattle.qd_catalog.specs.Tracked.{listed_by, no_rows, kept_in, but_row, goes, Unlists}
use Rattle.qd_catalog.proofs.RetireLemmas.{goes_kept}

-- no row lists a block that isn't kept
pub listed_is_kept : (o : Option Kept) (row : ℕ) → row < 64 → listed_by (kept_in o) row ≡ true → o ≡ Some (kept_in o)
listed_is_kept None row low e = absurd (both_ways (listed_by no_rows row) (get_or-replicate 64 row false false low) e)
listed_is_kept (Some k) row low e = refl

set_same : (rows : List Bool) (row : ℕ) → get_or rows row false ≡ false → set rows row false ≡ rows
set_same [] row e = refl
set_same (r ∷ rows) zero e = ap (λ (b : Bool). b ∷ rows) (sym e)
set_same (r ∷ rows) (suc row) e = ap (λ (l : List Bool). r ∷ l) (set_same rows row e)

but_same : (o : Option Kept) (row : ℕ) → listed_by (kept_in o) row ≡ false → option_map (but_row row) o ≡ o
but_same None row e = refl
but_same (Some k) row e = ap (λ (rows : List Bool). Some (record { written = k.written; rows = rows })) (set_same k.rows row e)

-- the one block of a list
only : (b block : ℕ) → list_any (nat_eq b) (block ∷ []) ≡ true → b ≡ block
only b block e =
    elim (or_cases (nat_eq b block) false e) [
      | inl same ↦ eqb-true b block same
      | inr never ↦ absurd (true≢false (sym never))
    ]

here_or_not : (c : Bool) (x y : Option Kept) → (c ≡ true → x ≡ y) → cond (c || false) x y ≡ y
here_or_not true x y f = f refl
here_or_not false x y f = refl

-- a block that its row doesn't list stays as it is
pub unlists_unlisted : (old : ℕ → Option Kept) (row block : ℕ) (queue : List ℕ) → listed_by (kept_in (old block)) row ≡ false → Unlists old old row (block ∷ []) queue queue
unlists_unlisted old row block queue e =
    let at : (b : ℕ) → b ≡ block → listed_by (kept_in (old b)) row ≡ false = λ b same. subst (λ (x : ℕ). listed_by (kept_in (old x)) row ≡ false) (sym same) e in
    record {
      kept = λ b. sym (here_or_not (nat_eq b block) (option_map (but_row row) (old b)) (old b) (λ same. but_same (old b) row (at b (eqb-true b block same))));
      gone = [];
      queue = sym (append-nil queue);
      once = IsDistinct-nil nat_eq;
      exactly = λ b. (
        λ c. absurd (omega (arith, c.1)),
        λ h. (let g = goes_kept (old b) row h.1 in
            absurd (both_ways (listed_by g.0 row) (sym (ap (λ (o : Option Kept). listed_by (kept_in o) row) g.1) ∙ at b (only b block h.0)) g.2)),
      );
    }

-- what goes with a row, by whether another row lists it
module _ (old : ℕ → Option Kept) (row block : ℕ) (k : Kept) (is : old block ≡ Some k) (listed : listed_by k row ≡ true) where
  abbrev still : Bool
  still = list_any (λ r. r) (but_row row k).rows

  goes_with : (b : ℕ) (l : Bool) → still ≡ l → Contains (cond l [] (block ∷ [])) b → (list_any (nat_eq b) (block ∷ []) ≡ true) × (goes (old b) row ≡ true)
  goes_with b true e c = absurd (omega (arith, c.1))
  goes_with b false e (zero, lt, at) = (
    or_left (nat_eq b block) false (eq-eqb b block (sym at)),
    ap (λ (x : ℕ). goes (old x) row) (sym at) ∙ ap (λ (o : Option Kept). goes o row) is ∙ and_from (listed_by k row) (not still) listed (not_from_false still e),
  )
  goes_with b false e (suc i, lt, at) = absurd (omega (arith, lt))

  with_goes : (b : ℕ) (l : Bool) → still ≡ l → list_any (nat_eq b) (block ∷ []) ≡ true → goes (old b) row ≡ true → Contains (cond l [] (block ∷ [])) b
  with_goes b true e h g =
      let same = only b block h in
      let one : goes (Some k) row ≡ true = ap (λ (o : Option Kept). goes o row) (sym is) ∙ ap (λ (x : ℕ). goes (old x) row) (sym same) ∙ g in
      absurd (both_ways still (not-true still (and_parts (listed_by k row) (not still) one).1) e)
  with_goes b false e h g = (0, omega arith, sym (only b block h))

  once_at : (l : Bool) → IsDistinct nat_eq (cond l [] (block ∷ []))
  once_at true = IsDistinct-nil nat_eq
  once_at false = IsDistinct-cons nat_eq block [] tt (IsDistinct-nil nat_eq)

  behind : (l : Bool) (queue : List ℕ) → cond l queue (queue ++ block ∷ []) ≡ queue ++ cond l [] (block ∷ [])
  behind true queue = sym (append-nil queue)
  behind false queue = refl

  kept_one : (b : ℕ) (c : Bool) → nat_eq b block ≡ c → cond c (Some (but_row row k)) (old b) ≡ cond (c || false) (option_map (but_row row) (old b)) (old b)
  kept_one b true e = ap (option_map (but_row row)) (sym is ∙ ap old (sym (eqb-true b block e)))
  kept_one b false e = refl

  -- a block that a row listed joins the queue where no other row lists it
  pub unlists_one : (new : ℕ → Option Kept) (before after : List ℕ) → ((b : ℕ) → new b ≡ cond (nat_eq b block) (Some (but_row row k)) (old b)) → after ≡ cond still before (before ++ block ∷ []) → Unlists old new row (block ∷ []) before after
  unlists_one new before after put queued = record {
    kept = λ b. put b ∙ kept_one b (nat_eq b block) refl;
    gone = cond still [] (block ∷ []);
    queue = queued ∙ behind still before;
    once = once_at still;
    exactly = λ b. (goes_with b still refl, λ h. with_goes b still refl h.0 h.1);
  }

-- what a queue with room gets
pub queue_gets : (sent listed : Bool) (new old : List ℕ) (b : ℕ) → new ≡ cond sent (old ++ b ∷ []) old → sent ≡ true → listed ≡ false → new ≡ cond listed old (old ++ b ∷ [])
queue_gets true false new old b e p q = e
queue_gets true true new old b e p q = absurd (true≢false q)
queue_gets false _ new old b e p q = absurd (true≢false (sym p))
