-- With keys, rows are put as without keys into the rows that none of them replaces.
use Rattle.std.proofs.Common.{◌≡◌, ℕ, ◌⊎◌, ⊎_elim, Bool, true, false, not, cond, eqb, List, [], ◌∷◌, ◌++◌, map, refl, sym, ap, ap₂, ◌∙◌}
use Rattle.std.specs.List.{AllByRecursion, IsDistinct, filter, fold, list_any}
use Rattle.qd_base.specs.Rows.{Row, time_of, same_on, put}
use Rattle.qd_base.specs.Laws.{IsInOrder, at_time}
use Rattle.qd_base.proofs.Order.{in_order-fold, in_order-filter, at_time-fold}
use Rattle.qd_base.proofs.Sorted.{same_in_order}
use Rattle.qd_merge.specs.Batch.{lasts}
use Rattle.qd_merge.specs.Classes.{kept}
use Rattle.qd_merge.specs.Replaced.{is_replaced}
use Rattle.qd_merge.proofs.Filters.{filter_swap}
use Rattle.qd_merge.proofs.Batches.{is_left, fold_shown}

-- what is kept by the flags of a test
pub kept-map : {T : Type 0} (gone : T → Bool) (xs : List T) → kept (map gone xs) xs ≡ filter (λ x. not (gone x)) xs
kept-map gone [] = refl
kept-map gone (x ∷ xs) = go (gone x) (kept-map gone xs)
  where
    go : (b : Bool) → kept (map gone xs) xs ≡ filter (λ x. not (gone x)) xs → cond b (kept (map gone xs) xs) (x ∷ kept (map gone xs) xs) ≡ cond (not b) (x ∷ filter (λ x. not (gone x)) xs) (filter (λ x. not (gone x)) xs)
    go true rest = rest
    go false rest = ap (λ l. x ∷ l) rest

pub kept-none : {T : Type 0} (xs : List T) → kept (map (λ x. false) xs) xs ≡ xs
kept-none [] = refl
kept-none (x ∷ xs) = ap (λ l. x ∷ l) (kept-none xs)

-- rows of which no two are equal are the last of equals
all_differ : (p : Row → Bool) (xs : List Row) → AllByRecursion (λ x. p x ≡ false) xs → list_any p xs ≡ false
all_differ p [] h = refl
all_differ p (x ∷ xs) h = rw h.0 (all_differ p xs h.1)

pub lasts-distinct : (keys : List ℕ) (rows : List Row) → IsDistinct (same_on keys) rows → lasts keys rows ≡ rows
unfolding IsDistinct
lasts-distinct keys [] d = refl
lasts-distinct keys (row ∷ rows) d = rw (all_differ (same_on keys row) rows d.0) (ap (λ l. row ∷ l) (lasts-distinct keys rows d.1))

pub put_kept : (col : ℕ) (keys : List ℕ) (rows batch : List Row) → IsInOrder col rows → (keys ≡ []) ⊎ IsDistinct (same_on keys) batch → fold (put col keys) rows batch ≡ fold (put col []) (kept (map (is_replaced keys batch) rows) rows) batch
put_kept col [] rows batch order are = ap (λ l. fold (put col []) l batch) (sym (kept-none rows))
put_kept col (k ∷ ks) rows batch order are = ⊎_elim (λ none. cc) (λ distinct. go distinct) are
  where
    go : IsDistinct (same_on (k ∷ ks)) batch → fold (put col (k ∷ ks)) rows batch ≡ fold (put col []) (kept (map (is_replaced (k ∷ ks) batch) rows) rows) batch
    go distinct =
        let keys : List ℕ = k ∷ ks in
        let left : List Row = filter (is_left keys batch) rows in
        let is : kept (map (is_replaced keys batch) rows) rows ≡ left = kept-map (is_replaced keys batch) rows in
        let same : fold (put col keys) rows batch ≡ fold (put col []) left batch =
        same_in_order col (fold (put col keys) rows batch) (fold (put col []) left batch) (in_order-fold col keys rows batch order) (in_order-fold col [] left batch (in_order-filter col (is_left keys batch) rows order)) (λ t.
        fold_shown col k ks t rows batch ∙ ap₂ (λ u v. u ++ v) (filter_swap (is_left keys batch) (λ x. eqb (time_of col x) t) rows) (ap (at_time col t) (lasts-distinct keys batch distinct)) ∙ sym (at_time-fold col t left batch)) in
        same ∙ ap (λ l. fold (put col []) l batch) (sym is)
