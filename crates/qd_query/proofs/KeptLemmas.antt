-- What WHERE keeps of rows, and of those in an interval that has the times of all that it keeps.
use Rattle.std.proofs.Common.{◌≡◌, ℕ, zero, suc, ◌<◌, ◌≤◌, inl, inr, Bool, true, false, cond, List, [], ◌∷◌, ◌++◌, All, length, map, get_or, Option, Some, None, refl, sym, ap, ap₂, ◌∙◌, arith, true≢false}
use Rattle.std.specs.Prelude.{filter, ◌&&◌}
use Rattle.std.specs.List.{list_all, zip}
use Rattle.std.proofs.lemmas.Bool.{cases_lt, leb-true, ltb-true}
use Rattle.std.proofs.lemmas.List.{get_or_append_left, get_or_past}
use Rattle.std.proofs.lemmas.List.Elements.{All-weaker, filter_passes}
use Rattle.qd_base.specs.declared.cell.Cell.TheVariants as cell
use Rattle.qd_base.specs.declared.limits.TheConstants.{MAX_TIME}
use Rattle.qd_base.specs.Rows.{Row, cell_at, cell_eq, time_in, time_of}
use Rattle.qd_value.specs.declared.bound.Bound.{Bound}
use Rattle.qd_meaning.specs.declared.parts.JoinSpec.{JoinSpec}
use Rattle.qd_meaning.specs.Answer.{kept_rows}
use Rattle.qd_meaning.specs.Joined.{is_early, joined, last_or, may_take}
use Rattle.qd_scan.specs.Sources.{rows_between}
use Rattle.qd_scan.proofs.TimeLemmas.{is_between, is_between_holds, passes_between}
use Rattle.qd_query.specs.Intervals.{is_kept, Catches}

-- ---- what passes a test of some items is what passes it of all, where those left out fail it

left_out : {X : Type 0} (b : Bool) (x : X) (xs : List X) → (b ≡ true → false ≡ true) → xs ≡ cond b (x ∷ xs) xs
left_out true x xs fails = absurd (true≢false (sym (fails refl)))
left_out false x xs fails = refl

module _ {X Y : Type 0} (p : Y → Bool) (q : X → Bool) (f : X → Y) where
  one_image : (b : Bool) (x : X) (kept xs : List X) → (p (f x) ≡ true → b ≡ true) → filter p (map f kept) ≡ filter p (map f xs) → filter p (map f (cond b (x ∷ kept) kept)) ≡ filter p (f x ∷ map f xs)
  one_image true x kept xs h rest = ap (λ l. cond (p (f x)) (f x ∷ l) l) rest
  one_image false x kept xs h rest = rest ∙ left_out (p (f x)) (f x) (filter p (map f xs)) h

  pub filter_image : (xs : List X) → All (λ x. p (f x) ≡ true → q x ≡ true) xs → filter p (map f (filter q xs)) ≡ filter p (map f xs)
  filter_image [] h = refl
  filter_image (x ∷ xs) h = one_image (q x) x (filter q xs) xs (h zero x (omega arith)) (filter_image xs (λ k d lt. h (suc k) d (omega arith)))

module _ {X : Type 0} (p q : X → Bool) where
  one_part : (b : Bool) (x : X) (kept xs : List X) → (p x ≡ true → b ≡ true) → filter p kept ≡ filter p xs → filter p (cond b (x ∷ kept) kept) ≡ filter p (x ∷ xs)
  one_part true x kept xs h rest = ap (λ l. cond (p x) (x ∷ l) l) rest
  one_part false x kept xs h rest = rest ∙ left_out (p x) x (filter p xs) h

  pub filter_twice : (xs : List X) → All (λ x. p x ≡ true → q x ≡ true) xs → filter p (filter q xs) ≡ filter p xs
  filter_twice [] h = refl
  filter_twice (x ∷ xs) h = one_part (q x) x (filter q xs) xs (h zero x (omega arith)) (filter_twice xs (λ k d lt. h (suc k) d (omega arith)))

images_agree : {X Y : Type 0} (f g : X → Y) (xs : List X) → All (λ x. f x ≡ g x) xs → map f xs ≡ map g xs
images_agree f g [] h = refl
images_agree f g (x ∷ xs) h = ap₂ (λ y ys. y ∷ ys) (h zero x (omega arith)) (images_agree f g xs (λ k d lt. h (suc k) d (omega arith)))

-- ---- WHERE

kept_all : (rows : List Row) → rows ≡ filter (is_kept None) rows
kept_all [] = refl
kept_all (r ∷ rs) = ap (λ l. r ∷ l) (kept_all rs)

kept_is : (keep : Option Bound) (rows : List Row) → kept_rows keep rows ≡ filter (is_kept keep) rows
kept_is None rows = kept_all rows
kept_is (Some e) rows = refl

-- of a table
pub kept_between : (keep : Option Bound) (col lo hi : ℕ) (rows : List Row) → Catches (is_kept keep) col lo hi → All (λ r. time_of col r ≤ MAX_TIME) rows → kept_rows keep (rows_between col lo hi rows) ≡ kept_rows keep rows
kept_between keep col lo hi rows catches timely =
    kept_is keep (rows_between col lo hi rows)
    ∙ filter_twice (is_kept keep) (is_between col lo hi) rows (λ k d lt kept. let r = get_or rows k d in passes_between col lo hi r (catches.low r (timely k d lt) kept) (catches.high r (timely k d lt) kept))
    ∙ sym (kept_is keep rows)

-- ---- the right side of a join

early : (strict : Bool) (left right : ℕ) → is_early strict left right ≡ true → right ≤ left
early true left right h = let less = ltb-true right left h in omega arith
early false left right h = leb-true right left h

second : (a b : Bool) → (a && b) ≡ true → b ≡ true
second true b h = h
second false b h = absurd (true≢false (sym h))

-- a left row takes none that is later than itself
taken : (spec : JoinSpec) (left_time right_time hi : ℕ) (l : Row) (rs : List Row) → time_of left_time l ≤ hi → filter (may_take spec left_time right_time l) (rows_between right_time 0 hi rs) ≡ filter (may_take spec left_time right_time l) rs
taken spec left_time right_time hi l rs low =
    filter_twice (may_take spec left_time right_time l) (is_between right_time 0 hi) rs
    (λ k d lt may.
    let r = get_or rs k d in
    let before = early spec.strict (time_of left_time l) (time_of right_time r) (second (list_all (λ k. cell_eq (cell_at l k.0) (cell_at r k.1)) (zip spec.left spec.right)) (is_early spec.strict (time_of left_time l) (time_of right_time r)) may) in
    passes_between right_time 0 hi r (omega arith) (omega (arith, before, low)))

joined_until : (spec : JoinSpec) (left_time right_time hi : ℕ) (missing : Row) (ls rs : List Row) → All (λ l. time_of left_time l ≤ hi) ls → joined spec left_time right_time missing ls (rows_between right_time 0 hi rs) ≡ joined spec left_time right_time missing ls rs
joined_until spec left_time right_time hi missing ls rs low =
    images_agree (λ l. l ++ last_or missing (filter (may_take spec left_time right_time l) (rows_between right_time 0 hi rs))) (λ l. l ++ last_or missing (filter (may_take spec left_time right_time l) rs)) ls
    (λ k d lt. ap (λ xs. get_or ls k d ++ last_or missing xs) (taken spec left_time right_time hi (get_or ls k d) rs (low k d lt)))

-- ---- the left side

-- a row with a time behind moment 0 has a cell for it, and keeps it where others stand behind its cells
time_stays : (col : ℕ) (r more : Row) → 0 < time_of col r → time_of col (r ++ more) ≡ time_of col r
time_stays col r more late = elim (cases_lt col (length r)) [
  | inl low ↦ ap time_in (get_or_append_left r more cell.Null col low)
  | inr high ↦ let none : time_of col r ≡ 0 = ap time_in (get_or_past r col cell.Null high) in absurd (omega arith)
]

-- a left row whose joined one is kept lies in the interval
stands : (keep : Option Bound) (col from lo hi : ℕ) (l more : Row) → Catches (is_kept keep) col lo hi → from ≤ lo → time_of col l ≤ MAX_TIME → (time_of col l ≡ 0 → from ≡ 0) → is_kept keep (l ++ more) ≡ true → is_between col from hi l ≡ true
stands keep col from lo hi l more catches first timely begins kept = elim (cases_lt 0 (time_of col l)) [
  | inl late ↦
      let same : time_of col (l ++ more) ≡ time_of col l = time_stays col l more late in
      let there : time_of col (l ++ more) ≤ MAX_TIME = omega (arith, same, timely) in
      let low = catches.low (l ++ more) there kept in
      let high = catches.high (l ++ more) there kept in
      passes_between col from hi l (omega (arith, same, low, first)) (omega (arith, same, high))
  | inr at_zero ↦ let none : time_of col l ≡ 0 = omega arith in let all : from ≡ 0 = begins none in passes_between col from hi l (omega arith) (omega arith)
]

-- of a join, whose left rows of moment 0 are taken in where there may be some
pub kept_joined : (keep : Option Bound) (spec : JoinSpec) (left_time right_time from lo hi : ℕ) (missing : Row) (ls rs : List Row) → Catches (is_kept keep) left_time lo hi → from ≤ lo
    → All (λ l. time_of left_time l ≤ MAX_TIME) ls → All (λ l. time_of left_time l ≡ 0 → from ≡ 0) ls
    → kept_rows keep (joined spec left_time right_time missing (rows_between left_time from hi ls) (rows_between right_time 0 hi rs)) ≡ kept_rows keep (joined spec left_time right_time missing ls rs)
kept_joined keep spec left_time right_time from lo hi missing ls rs catches first timely begins =
    let some = rows_between left_time from hi ls in
    let beside : Row → Row = λ l. last_or missing (filter (may_take spec left_time right_time l) rs) in
    let low : All (λ l. time_of left_time l ≤ hi) some =
    All-weaker (λ (r : Row). is_between left_time from hi r ≡ true) (λ (r : Row). time_of left_time r ≤ hi) (λ r e. (is_between_holds left_time from hi r e).1) some (filter_passes (is_between left_time from hi) ls) in
    ap (kept_rows keep) (joined_until spec left_time right_time hi missing some rs low)
    ∙ kept_is keep (joined spec left_time right_time missing some rs)
    ∙ filter_image (is_kept keep) (is_between left_time from hi) (λ l. l ++ beside l) ls
    (λ k d lt kept. let l = get_or ls k d in stands keep left_time from lo hi l (beside l) catches first (timely k d lt) (begins k d lt) kept)
    ∙ sym (kept_is keep (joined spec left_time right_time missing ls rs))
