-- What a batch leaves of rows, seen at one time.
use Rattle.std.proofs.Common.{◌≡◌, ℕ, zero, suc, ◌<◌, ◌≤◌, ltb, leb, inl, inr, ⊎_elim, Bool, true, false, not, ◌&&◌, ◌||◌, cond, eqb, List, [], ◌∷◌, ◌++◌, length, get_or, refl, sym, ap, ap₂, ◌∙◌, arith, append-nil, append_assoc, Contains}
use Rattle.std.specs.List.{AllByRecursion, IsDistinct, filter, fold, list_any}
use Rattle.std.specs.List.Sorted.{IsPermutation}
use Rattle.std.specs.Bool.{Decides, nat_eq}
use Rattle.std.specs.Cmp.{unsigned_Decides, signed_Decides, booleans_Decides}
use Rattle.std.specs.Cmp.Lexicographic.{pointwise}
use Rattle.std.proofs.lemmas.Slice.Eq.{slice_eq-Decides}
use Rattle.std.proofs.lemmas.List.Sorted.{IsPermutation-refl, IsPermutation-sym, IsPermutation-cons, IsPermutation-trans, IsPermutation-middle, IsPermutation-append_left, IsPermutation-append_right, IsPermutation-filter_both}
use Rattle.std.proofs.lemmas.Bool.{eqb-true, eq-eqb, false≢true, le-ltb, lt-leb, le-leb, lt-ltb, cases_lt}
use Rattle.std.proofs.lemmas.List.Elements.{filter-append}
use Rattle.std.proofs.lemmas.List.Sums.{fold-append}
use Rattle.qd_base.specs.declared.cell.Cell.{Cell}
use Rattle.qd_base.specs.declared.cell.Cell.TheVariants as cell
use Rattle.qd_base.specs.Rows.{Row, cell_eq, cell_at, time_in, time_of, same_on, in_time, put}
use Rattle.qd_base.specs.Laws.{IsInOrder, at_time}
use Rattle.qd_base.proofs.Lists.{IsDistinct-cons, IsDistinct-nil}
use Rattle.qd_base.proofs.Keys.{same_on-sym}
use Rattle.qd_base.proofs.Order.{in_order-fold, at_time-in_time, at_time-fold}
use Rattle.qd_block.specs.Blocks.{in_time_order}
use Rattle.qd_base.proofs.Sorted.{same_in_order}
use Rattle.qd_merge.specs.Batch.{lasts, batch}
use Rattle.qd_merge.specs.Laws.{AreKeys, IsBatch}
use Rattle.qd_merge.proofs.Filters.{and_parts, filter_both, filter_swap, filter_all, filter_same, none_passes}

-- equal cells are one cell
pub cell_decides : (a b : Cell) → Decides (cell_eq a b) (a ≡ b)
cell_decides cell.Null cell.Null = ((λ e. refl), (λ e. refl))
cell_decides (cell.Long x) (cell.Long y) = let d = signed_Decides x y in ((λ e. ap cell.Long (d.0 e)), (λ e. d.1 (let same : x ≡ y = cc in same)))
cell_decides (cell.Bool x) (cell.Bool y) = let d = booleans_Decides x y in ((λ e. ap cell.Bool (d.0 e)), (λ e. d.1 (let same : x ≡ y = cc in same)))
cell_decides (cell.Text x) (cell.Text y) = let d = slice_eq-Decides unsigned_Decides x y (pointwise nat_eq x y) refl in ((λ e. ap cell.Text (d.0 e)), (λ e. d.1 (let same : x ≡ y = cc in same)))
cell_decides (cell.Time x) (cell.Time y) = let d = unsigned_Decides x y in ((λ e. ap cell.Time (d.0 e)), (λ e. d.1 (let same : x ≡ y = cc in same)))
cell_decides _ _ = ((λ e. cc), (λ e. cc))

pub cell_same : (a b : Cell) → cell_eq a b ≡ true → a ≡ b
cell_same a b e = (cell_decides a b).0 e

-- rows that are equal on the keys are alike to others
pub same_on-alike : (keys : List ℕ) (a b c : Row) → same_on keys a b ≡ true → same_on keys a c ≡ same_on keys b c
same_on-alike [] a b c e = refl
same_on-alike (k ∷ ks) a b c e =
    let parts = and_parts (cell_eq (cell_at a k) (cell_at b k)) (same_on ks a b) e in
    ap₂ (λ x y. x && y) (ap (λ x. cell_eq x (cell_at c k)) (cell_same (cell_at a k) (cell_at b k) parts.0)) (same_on-alike ks a b c parts.1)

pub same_on-alike_right : (keys : List ℕ) (x a b : Row) → same_on keys a b ≡ true → same_on keys x a ≡ same_on keys x b
same_on-alike_right keys x a b e = same_on-sym keys x a ∙ same_on-alike keys a b x e ∙ same_on-sym keys b x

-- and they have one cell in each key
same_on-at : (keys : List ℕ) (a b : Row) (i d : ℕ) → i < length keys → same_on keys a b ≡ true → cell_at a (get_or keys i d) ≡ cell_at b (get_or keys i d)
same_on-at [] a b i d lt e = absurd (omega arith)
same_on-at (k ∷ ks) a b zero d lt e = cell_same (cell_at a k) (cell_at b k) (and_parts (cell_eq (cell_at a k) (cell_at b k)) (same_on ks a b) e).0
same_on-at (k ∷ ks) a b (suc i) d lt e = same_on-at ks a b i d (omega arith) (and_parts (cell_eq (cell_at a k) (cell_at b k)) (same_on ks a b) e).1

pub same_on-time : (col : ℕ) (keys : List ℕ) (a b : Row) → Contains keys col → same_on keys a b ≡ true → time_of col a ≡ time_of col b
same_on-time col keys a b there e = let at = same_on-at keys a b there.0 col there.1 e in rw there.2 at (ap time_in at)

-- a row whose equal stands in a list
or_true : (b : Bool) → (b || true) ≡ true
or_true true = refl
or_true false = refl

found_here : (keys : List ℕ) (q : Row → Bool) → ((a b : Row) → same_on keys a b ≡ true → q a ≡ q b) → (row x : Row) (rest found : Bool) → q row ≡ true → (b : Bool) → same_on keys row x ≡ b → (b || found) ≡ true → (found ≡ true → rest ≡ true) → (q x || rest) ≡ true
found_here keys q alike row x rest found e true is f later = rw (sym (alike row x is), e) refl
found_here keys q alike row x rest found e false is f later = rw (later f) (or_true (q x))

any_alike : (keys : List ℕ) (q : Row → Bool) → ((a b : Row) → same_on keys a b ≡ true → q a ≡ q b) → (row : Row) (rows : List Row) → list_any (same_on keys row) rows ≡ true → q row ≡ true → list_any q rows ≡ true
any_alike keys q alike row [] found e = cc
any_alike keys q alike row (x ∷ xs) found e = found_here keys q alike row x (list_any q xs) (list_any (same_on keys row) xs) e (same_on keys row x) refl found (λ f. any_alike keys q alike row xs f e)

-- what a test finds among rows, it finds among those that stay
stays_found : (q : Row → Bool) (row : Row) (left rows : List Row) → list_any q left ≡ list_any q rows → (m : Bool) → (m ≡ true → q row ≡ true → list_any q rows ≡ true) → (b : Bool) → q row ≡ b → list_any q (cond m left (row ∷ left)) ≡ (q row || list_any q rows)
stays_found q row left rows rest true behind true is = rest ∙ behind refl is ∙ rw is refl
stays_found q row left rows rest true behind false is = rest ∙ rw is refl
stays_found q row left rows rest false behind b is = ap (λ x. q row || x) rest

pub any-lasts : (keys : List ℕ) (q : Row → Bool) → ((a b : Row) → same_on keys a b ≡ true → q a ≡ q b) → (rows : List Row) → list_any q (lasts keys rows) ≡ list_any q rows
any-lasts keys q alike [] = refl
any-lasts keys q alike (row ∷ rows) = stays_found q row (lasts keys rows) rows (any-lasts keys q alike rows) (list_any (same_on keys row) rows) (λ found is. any_alike keys q alike row rows found is) (q row) refl

-- the rows that stay are those that stay of them
stay_again : (keys : List ℕ) (row : Row) (left : List Row) → lasts keys left ≡ left → (m : Bool) → (m ≡ false → list_any (same_on keys row) left ≡ false) → lasts keys (cond m left (row ∷ left)) ≡ cond m left (row ∷ left)
stay_again keys row left rest true alone = rest
stay_again keys row left rest false alone = ap (λ b. cond b (lasts keys left) (row ∷ lasts keys left)) (alone refl) ∙ ap (λ l. row ∷ l) rest

alone_left : (keys : List ℕ) (row : Row) (rows : List Row) → list_any (same_on keys row) rows ≡ false → list_any (same_on keys row) (lasts keys rows) ≡ false
alone_left keys row rows none = any-lasts keys (same_on keys row) (same_on-alike_right keys row) rows ∙ none

pub lasts-lasts : (keys : List ℕ) (rows : List Row) → lasts keys (lasts keys rows) ≡ lasts keys rows
lasts-lasts keys [] = refl
lasts-lasts keys (row ∷ rows) = stay_again keys row (lasts keys rows) (lasts-lasts keys rows) (list_any (same_on keys row) rows) (alone_left keys row rows)

stay_each : (P : Row → Type 0) (row : Row) (left : List Row) → P row → AllByRecursion P left → (m : Bool) → AllByRecursion P (cond m left (row ∷ left))
stay_each P row left h rest true = rest
stay_each P row left h rest false = (h, rest)

pub each-lasts : (keys : List ℕ) (P : Row → Type 0) (rows : List Row) → AllByRecursion P rows → AllByRecursion P (lasts keys rows)
each-lasts keys P [] h = tt
each-lasts keys P (row ∷ rows) h = stay_each P row (lasts keys rows) h.0 (each-lasts keys P rows h.1) (list_any (same_on keys row) rows)

stay_ordered : (col : ℕ) (row : Row) (left : List Row) → AllByRecursion (λ x. time_of col row ≤ time_of col x) left → IsInOrder col left → (m : Bool) → IsInOrder col (cond m left (row ∷ left))
stay_ordered col row left h rest true = rest
stay_ordered col row left h rest false = (h, rest)

pub in_order-lasts : (col : ℕ) (keys : List ℕ) (rows : List Row) → IsInOrder col rows → IsInOrder col (lasts keys rows)
in_order-lasts col keys [] o = tt
in_order-lasts col keys (row ∷ rows) o = stay_ordered col row (lasts keys rows) (each-lasts keys (λ x. time_of col row ≤ time_of col x) rows o.0) (in_order-lasts col keys rows o.1) (list_any (same_on keys row) rows)

stay_distinct : (keys : List ℕ) (row : Row) (left : List Row) → IsDistinct (same_on keys) left → (m : Bool) → (m ≡ false → list_any (same_on keys row) left ≡ false) → IsDistinct (same_on keys) (cond m left (row ∷ left))
stay_distinct keys row left rest true alone = rest
stay_distinct keys row left rest false alone = IsDistinct-cons (same_on keys) row left (none_passes (same_on keys row) left (alone refl)) rest

pub IsDistinct-lasts : (keys : List ℕ) (rows : List Row) → IsDistinct (same_on keys) (lasts keys rows)
IsDistinct-lasts keys [] = IsDistinct-nil (same_on keys)
IsDistinct-lasts keys (row ∷ rows) = stay_distinct keys row (lasts keys rows) (IsDistinct-lasts keys rows) (list_any (same_on keys row) rows) (alone_left keys row rows)

-- the rows that none of others equals
abbrev pub is_left : List ℕ → List Row → Row → Bool
is_left keys new row = not (list_any (same_on keys row) new)

not_or : (a b : Bool) → not (a || b) ≡ (not a && not b)
not_or true b = refl
not_or false b = refl

-- What putting rows leaves of those of one time: of the rows that were there, those that no new row equals, and
-- behind them the new ones behind which no equal stands.
module _ (col k : ℕ) (ks : List ℕ) where
  last_shown : (t : ℕ) (row : Row) (rows : List Row) (m e : Bool) → list_any (same_on (k ∷ ks) row) rows ≡ m → filter (is_left (k ∷ ks) rows) (cond e (row ∷ []) []) ++ at_time col t (lasts (k ∷ ks) rows) ≡ cond m (at_time col t (lasts (k ∷ ks) rows)) (cond e (row ∷ at_time col t (lasts (k ∷ ks) rows)) (at_time col t (lasts (k ∷ ks) rows)))
  last_shown t row rows true true found = rw found refl
  last_shown t row rows false true found = rw found refl
  last_shown t row rows true false found = refl
  last_shown t row rows false false found = refl

  taken : (t : ℕ) (row : Row) (m : Bool) (rest : List Row) → cond m (at_time col t rest) (at_time col t (row ∷ rest)) ≡ at_time col t (cond m rest (row ∷ rest))
  taken t row true rest = refl
  taken t row false rest = refl

  pub fold_shown : (t : ℕ) (rows new : List Row) → at_time col t (fold (put col (k ∷ ks)) rows new) ≡ filter (is_left (k ∷ ks) new) (at_time col t rows) ++ at_time col t (lasts (k ∷ ks) new)
  fold_shown t rows [] = sym (append-nil (filter (is_left (k ∷ ks) []) (at_time col t rows)) ∙ filter_all (is_left (k ∷ ks) []) (λ x. refl) (at_time col t rows))
  fold_shown t rows (row ∷ new) =
      let keys : List ℕ = k ∷ ks in
      let here : Row → Bool = λ x. eqb (time_of col x) t in
      let apart : Row → Bool = λ x. not (same_on keys x row) in
      let left : Row → Bool = is_left keys new in
      let first : filter left (at_time col t (filter apart rows)) ≡ filter (is_left keys (row ∷ new)) (at_time col t rows) =
      ap (filter left) (filter_swap here apart rows) ∙ filter_both left apart (is_left keys (row ∷ new)) (λ x. not_or (same_on keys x row) (list_any (same_on keys x) new)) (at_time col t rows) in
      let found : Bool = list_any (same_on keys row) new in
      let second : filter left (at_time col t (row ∷ [])) ++ at_time col t (lasts keys new) ≡ at_time col t (lasts keys (row ∷ new)) = last_shown t row new found (here row) refl ∙ taken t row found (lasts keys new) in
      fold_shown t (put col keys rows row) new
      ∙ ap (λ l. filter left l ++ at_time col t (lasts keys new)) (at_time-in_time col t (filter apart rows) row)
      ∙ ap (λ l. l ++ at_time col t (lasts keys new)) (filter-append left (at_time col t (filter apart rows)) (at_time col t (row ∷ [])))
      ∙ append_assoc (filter left (at_time col t (filter apart rows))) (filter left (at_time col t (row ∷ []))) (at_time col t (lasts keys new))
      ∙ ap₂ (λ u v. u ++ v) first second

-- With the designated column among the keys, equal rows are of one time.
module _ (col k : ℕ) (ks : List ℕ) (there : Contains (k ∷ ks) col) where
  differs : (t : ℕ) (row x : Row) → time_of col row ≡ t → eqb (time_of col x) t ≡ false → same_on (k ∷ ks) row x ≡ false
  differs t row x at other = go (same_on (k ∷ ks) row x) refl
    where
      go : (b : Bool) → same_on (k ∷ ks) row x ≡ b → b ≡ false
      go true is = let e = same_on-time col (k ∷ ks) row x there is in absurd (false≢true (sym other ∙ eq-eqb (time_of col x) t (sym e ∙ at)))
      go false is = refl

  -- a row's equals are among those of its time
  any_step : (row x : Row) (near rows : List Row) → list_any (same_on (k ∷ ks) row) near ≡ list_any (same_on (k ∷ ks) row) rows → (e : Bool) → (e ≡ false → same_on (k ∷ ks) row x ≡ false) → list_any (same_on (k ∷ ks) row) (cond e (x ∷ near) near) ≡ (same_on (k ∷ ks) row x || list_any (same_on (k ∷ ks) row) rows)
  any_step row x near rows rest true apart = ap (λ b. same_on (k ∷ ks) row x || b) rest
  any_step row x near rows rest false apart = rest ∙ rw (apart refl) refl

  pub any-at_time : (t : ℕ) (row : Row) (rows : List Row) → time_of col row ≡ t → list_any (same_on (k ∷ ks) row) (at_time col t rows) ≡ list_any (same_on (k ∷ ks) row) rows
  any-at_time t row [] at = refl
  any-at_time t row (x ∷ xs) at = any_step row x (at_time col t xs) xs (any-at_time t row xs at) (eqb (time_of col x) t) (λ other. differs t row x at other)

  lasts_step : (t : ℕ) (row : Row) (rows : List Row) → at_time col t (lasts (k ∷ ks) rows) ≡ lasts (k ∷ ks) (at_time col t rows) → (e : Bool) → eqb (time_of col row) t ≡ e → (m : Bool) → list_any (same_on (k ∷ ks) row) rows ≡ m → at_time col t (cond m (lasts (k ∷ ks) rows) (row ∷ lasts (k ∷ ks) rows)) ≡ lasts (k ∷ ks) (cond e (row ∷ at_time col t rows) (at_time col t rows))
  lasts_step t row rows rest true is true found = rest ∙ rw (any-at_time t row rows (eqb-true (time_of col row) t is), found) refl
  lasts_step t row rows rest true is false found = rw (is, any-at_time t row rows (eqb-true (time_of col row) t is), found) (ap (λ l. row ∷ l) rest)
  lasts_step t row rows rest false is true found = rest
  lasts_step t row rows rest false is false found = rw is rest

  pub lasts-at_time : (t : ℕ) (rows : List Row) → at_time col t (lasts (k ∷ ks) rows) ≡ lasts (k ∷ ks) (at_time col t rows)
  lasts-at_time t [] = refl
  lasts-at_time t (row ∷ rows) = lasts_step t row rows (lasts-at_time t rows) (eqb (time_of col row) t) refl (list_any (same_on (k ∷ ks) row) rows) refl

  sorted_at : (t : ℕ) (new : List Row) → at_time col t (in_time_order col new) ≡ at_time col t new
  sorted_at t new = at_time-fold col t [] new

  -- a batch has an equal of a row where its rows have one
  any-batch : (row : Row) (new : List Row) → list_any (same_on (k ∷ ks) row) (batch col (k ∷ ks) new) ≡ list_any (same_on (k ∷ ks) row) new
  any-batch row new =
      let t : ℕ = time_of col row in
      any-lasts (k ∷ ks) (same_on (k ∷ ks) row) (same_on-alike_right (k ∷ ks) row) (in_time_order col new) ∙ sym (any-at_time t row (in_time_order col new) refl) ∙ ap (list_any (same_on (k ∷ ks) row)) (sorted_at t new) ∙ any-at_time t row new refl

  batch_at : (t : ℕ) (new : List Row) → at_time col t (lasts (k ∷ ks) (batch col (k ∷ ks) new)) ≡ at_time col t (lasts (k ∷ ks) new)
  batch_at t new = ap (at_time col t) (lasts-lasts (k ∷ ks) (in_time_order col new)) ∙ lasts-at_time t (in_time_order col new) ∙ ap (lasts (k ∷ ks)) (sorted_at t new) ∙ sym (lasts-at_time t new)

  pub one_by_one_with : (rows new : List Row) → IsInOrder col rows → fold (put col (k ∷ ks)) rows (batch col (k ∷ ks) new) ≡ fold (put col (k ∷ ks)) rows new
  one_by_one_with rows new o =
      let keys : List ℕ = k ∷ ks in
      let b : List Row = batch col keys new in
      same_in_order col (fold (put col keys) rows b) (fold (put col keys) rows new) (in_order-fold col keys rows b o) (in_order-fold col keys rows new o) (λ t.
      fold_shown col k ks t rows b ∙ ap (λ l. l ++ at_time col t (lasts keys b)) (filter_same (is_left keys b) (is_left keys new) (λ x. ap not (any-batch x new)) (at_time col t rows)) ∙ ap (λ l. filter (is_left keys new) (at_time col t rows) ++ l) (batch_at t new) ∙ sym (fold_shown col k ks t rows new))

one_by_one_without : (col : ℕ) (rows new : List Row) → IsInOrder col rows → fold (put col []) rows (batch col [] new) ≡ fold (put col []) rows new
one_by_one_without col rows new o =
    let b : List Row = in_time_order col new in
    same_in_order col (fold (put col []) rows b) (fold (put col []) rows new) (in_order-fold col [] rows b o) (in_order-fold col [] rows new o) (λ t. at_time-fold col t rows b ∙ ap (λ l. at_time col t rows ++ l) (at_time-fold col t [] new) ∙ sym (at_time-fold col t rows new))

pub one_by_one : (col : ℕ) (keys : List ℕ) (rows new : List Row) → AreKeys col keys → IsInOrder col rows → fold (put col keys) rows (batch col keys new) ≡ fold (put col keys) rows new
one_by_one col [] rows new are o = one_by_one_without col rows new o
one_by_one col (k ∷ ks) rows new are o = ⊎_elim (λ none. cc) (λ there. one_by_one_with col k ks there rows new o) are

pub batches_join : (col : ℕ) (keys : List ℕ) (rows first second : List Row) → AreKeys col keys → IsInOrder col rows → fold (put col keys) (fold (put col keys) rows (batch col keys first)) (batch col keys second) ≡ fold (put col keys) rows (batch col keys (first ++ second))
batches_join col keys rows first second are o =
    let done = in_order-fold col keys rows first o in
    ap (λ r. fold (put col keys) r (batch col keys second)) (one_by_one col keys rows first are o) ∙ one_by_one col keys (fold (put col keys) rows first) second are done ∙ sym (fold-append (put col keys) rows first second) ∙ sym (one_by_one col keys rows (first ++ second) are o)

-- putting rows only moves them
later_is_not_upto : (a b : ℕ) → ltb b a ≡ not (leb a b)
later_is_not_upto a b = elim (cases_lt b a) [ inl late ↦ rw (lt-ltb b a late, lt-leb a b late) refl | inr upto ↦ rw (le-ltb b a upto, le-leb a b upto) refl ]

in_time-moves : (col : ℕ) (rows : List Row) (row : Row) → IsPermutation (row ∷ rows) (in_time col rows row)
in_time-moves col rows row =
    let T : ℕ = time_of col row in
    let upto : Row → Bool = λ x. leb (time_of col x) T in
    let past : Row → Bool = λ x. ltb T (time_of col x) in
    let split : IsPermutation rows (filter upto rows ++ filter past rows) = IsPermutation-filter_both upto past (λ x. later_is_not_upto (time_of col x) T) rows in
    IsPermutation-trans (row ∷ rows) (row ∷ (filter upto rows ++ filter past rows)) (in_time col rows row) (IsPermutation-cons row rows (filter upto rows ++ filter past rows) split) (IsPermutation-sym (in_time col rows row) (row ∷ (filter upto rows ++ filter past rows)) (IsPermutation-middle (filter upto rows) row (filter past rows)))

pub put-moves : (col : ℕ) (rows new : List Row) → IsPermutation (rows ++ new) (fold (put col []) rows new)
put-moves col rows [] = rw (append-nil rows) (IsPermutation-refl rows)
put-moves col rows (row ∷ new) =
    let done : List Row = in_time col rows row in
    let moved : IsPermutation ((row ∷ rows) ++ new) (done ++ new) = IsPermutation-append_left new (row ∷ rows) done (in_time-moves col rows row) in
    IsPermutation-trans (rows ++ row ∷ new) (row ∷ (rows ++ new)) (fold (put col []) done new) (IsPermutation-middle rows row new)
    (IsPermutation-trans (row ∷ (rows ++ new)) (done ++ new) (fold (put col []) done new) moved (put-moves col done new))

pub keeps_every_row : (col : ℕ) (rows new : List Row) → IsPermutation (rows ++ new) (fold (put col []) rows (batch col [] new))
keeps_every_row col rows new =
    let b : List Row = in_time_order col new in
    IsPermutation-trans (rows ++ new) (rows ++ b) (fold (put col []) rows b) (IsPermutation-append_right rows new b (put-moves col [] new)) (put-moves col rows b)

pub batch_is_batch : (col : ℕ) (keys : List ℕ) (rows : List Row) → IsBatch col keys (batch col keys rows)
batch_is_batch col [] rows = record { in_order = in_order-fold col [] [] rows tt; distinct = inl refl }
batch_is_batch col (k ∷ ks) rows = record { in_order = in_order-lasts col (k ∷ ks) (in_time_order col rows) (in_order-fold col [] [] rows tt); distinct = inr (IsDistinct-lasts (k ∷ ks) (in_time_order col rows)) }
