-- Rows with one cell more are put as those without it are.
use Rattle.std.proofs.Common.{◌≡◌, ℕ, zero, suc, ◌+◌, ◌<◌, ◌≤◌, Bool, true, false, not, ltb, leb, cond, ◌&&◌, List, [], ◌∷◌, ◌++◌, length, map, drop, get_or, refl, sym, ap, ap₂, ◌∙◌, arith, append-nil, append_assoc}
use Rattle.std.specs.List.{AllByRecursion, filter, fold}
use Rattle.std.proofs.lemmas.List.{map-append, drop-append-le}
use Rattle.qd_base.specs.declared.cell.Cell.{Cell}
use Rattle.qd_base.specs.declared.schema.Col.{Col}
use Rattle.qd_base.specs.Database.{StoredTable, missing, widened}
use Rattle.qd_base.specs.Rows.{Row, cell_eq, time_in, time_of, same_on, without_equals, in_time, put}
use Rattle.qd_base.proofs.Lawful.{cell_at-longer}
use Rattle.qd_base.proofs.Order.{time-longer}
use Rattle.qd_base.proofs.Tables.{missing-time}
use Rattle.qd_rows.specs.Sets.{absent}
use Rattle.qd_apply.specs.Arrivals.{settled, wide}
use Rattle.qd_apply.proofs.EachLemmas.{each_put, each_then, each_map}

-- a test of images, and the same test before
pub filter_images : {X Y : Type 0} (p : X → Bool) (q : Y → Bool) (f : X → Y) (xs : List X) → AllByRecursion (λ x. q (f x) ≡ p x) xs → filter q (map f xs) ≡ map f (filter p xs)
filter_images p q f [] h = refl
filter_images p q f (x ∷ xs) h = ap (λ b. cond b (f x ∷ filter q (map f xs)) (filter q (map f xs))) h.0 ∙ step (p x) (filter_images p q f xs h.1)
  where
    step : (b : Bool) → filter q (map f xs) ≡ map f (filter p xs) → cond b (f x ∷ filter q (map f xs)) (filter q (map f xs)) ≡ map f (cond b (x ∷ filter p xs) (filter p xs))
    step true e = ap (λ l. f x ∷ l) e
    step false e = e

same_longer : (keys : List ℕ) (n : ℕ) (x : Cell) (a b : Row) → AllByRecursion (λ k. k < n) keys → n ≡ length a → n ≡ length b → same_on keys (a ++ x ∷ []) (b ++ x ∷ []) ≡ same_on keys a b
same_longer [] n x a b h p q = refl
same_longer (k ∷ ks) n x a b h p q =
    let lt : k < n = h.0 in
    ap₂ (λ s t. s && t)
    (ap₂ cell_eq (cell_at-longer a x k (omega (arith, lt, p))) (cell_at-longer b x k (omega (arith, lt, q))))
    (same_longer ks n x a b h.1 p q)

module _ (col : ℕ) (n : ℕ) (x : Cell) (no_time : time_in x ≡ 0) where
  abbrev longer : Row → Row
  longer r = r ++ x ∷ []

  without_longer : (keys : List ℕ) (rows : List Row) (row : Row) → AllByRecursion (λ k. k < n) keys → AllByRecursion (λ r. n ≡ length r) rows → n ≡ length row
      → without_equals keys (map longer rows) (longer row) ≡ map longer (without_equals keys rows row)
  without_longer [] rows row keys_in all one = refl
  without_longer (k ∷ ks) rows row keys_in all one =
      filter_images (λ r. not (same_on (k ∷ ks) r row)) (λ r. not (same_on (k ∷ ks) r (longer row))) longer rows
      (each_then (λ r. n ≡ length r) (λ r. not (same_on (k ∷ ks) (longer r) (longer row)) ≡ not (same_on (k ∷ ks) r row)) (λ r e. ap not (same_longer (k ∷ ks) n x r row keys_in e one)) rows all)

  time_same : (r : Row) → time_of col (longer r) ≡ time_of col r
  time_same r = time-longer col x no_time r col

  every : (P : Row → Type 0) → ((r : Row) → P r) → (rows : List Row) → AllByRecursion P rows
  every P f [] = tt
  every P f (r ∷ rows) = (f r, every P f rows)

  in_time_longer : (rows : List Row) (row : Row) → in_time col (map longer rows) (longer row) ≡ map longer (in_time col rows row)
  in_time_longer rows row =
      let T = time_of col row in
      let T' = time_of col (longer row) in
      let front : filter (λ r. leb (time_of col r) T') (map longer rows) ≡ map longer (filter (λ r. leb (time_of col r) T) rows) =
      filter_images (λ r. leb (time_of col r) T) (λ r. leb (time_of col r) T') longer rows (every (λ r. leb (time_of col (longer r)) T' ≡ leb (time_of col r) T) (λ r. ap₂ leb (time_same r) (time_same row)) rows) in
      let back : filter (λ r. ltb T' (time_of col r)) (map longer rows) ≡ map longer (filter (λ r. ltb T (time_of col r)) rows) =
      filter_images (λ r. ltb T (time_of col r)) (λ r. ltb T' (time_of col r)) longer rows (every (λ r. ltb T' (time_of col (longer r)) ≡ ltb T (time_of col r)) (λ r. ap₂ ltb (time_same row) (time_same r)) rows) in
      ap₂ (λ u v. u ++ longer row ∷ v) front back ∙ sym (map-append longer (filter (λ r. leb (time_of col r) T) rows) (row ∷ filter (λ r. ltb T (time_of col r)) rows))

  put_longer : (keys : List ℕ) (rows : List Row) (row : Row) → AllByRecursion (λ k. k < n) keys → AllByRecursion (λ r. n ≡ length r) rows → n ≡ length row
      → put col keys (map longer rows) (longer row) ≡ map longer (put col keys rows row)
  put_longer keys rows row keys_in all one = ap (λ l. in_time col l (longer row)) (without_longer keys rows row keys_in all one) ∙ in_time_longer (without_equals keys rows row) row

  pub fold_longer : (keys : List ℕ) (rows new : List Row) → AllByRecursion (λ k. k < n) keys → AllByRecursion (λ r. n ≡ length r) rows → AllByRecursion (λ r. n ≡ length r) new
      → fold (put col keys) (map longer rows) (map longer new) ≡ map longer (fold (put col keys) rows new)
  fold_longer keys rows [] keys_in all new_all = refl
  fold_longer keys rows (row ∷ new) keys_in all new_all =
      ap (λ l. fold (put col keys) l (map longer new)) (put_longer keys rows row keys_in all new_all.0)
      ∙ fold_longer keys (put col keys rows row) new keys_in (each_put col (λ r. n ≡ length r) keys rows row all new_all.0) new_all.1

-- ---- rows made as wide as a table

pub absent_one : (cols : List Col) (c : Col) (r : Row) → length r ≤ length cols → wide (cols ++ c ∷ []) r ≡ wide cols r ++ missing c.kind ∷ []
absent_one cols c r few =
    ap (λ (m : List Col). r ++ absent m) (drop-append-le (length r) cols (c ∷ []) few)
    ∙ ap (λ (m : Row). r ++ m) (map-append (λ (d : Col). missing d.kind) (drop (length r) cols) (c ∷ []))
    ∙ sym (append_assoc r (absent (drop (length r) cols)) (missing c.kind ∷ []))

pub wide_one : (cols : List Col) (c : Col) (rows : List Row) → AllByRecursion (λ r. length r ≤ length cols) rows → map (wide (cols ++ c ∷ [])) rows ≡ map (λ r. r ++ missing c.kind ∷ []) (map (wide cols) rows)
wide_one cols c [] few = refl
wide_one cols c (r ∷ rows) few = ap₂ (λ (a : Row) (l : List Row). a ∷ l) (absent_one cols c r few.0) (wide_one cols c rows few.1)

pub absent_all : (n : ℕ) (cols : List Col) → n ≤ length cols → n + length (absent (drop n cols)) ≡ length cols
absent_all zero [] few = omega arith
absent_all zero (c ∷ cols) few = let e = absent_all zero cols (omega arith) in omega (arith, e)
absent_all (suc n) [] few = absurd (omega arith)
absent_all (suc n) (c ∷ cols) few = let e = absent_all n cols (omega arith) in omega (arith, e)

pub wide_length : (cols : List Col) (r : Row) → length r ≤ length cols → length cols ≡ length (wide cols r)
wide_length cols r few = let e = absent_all (length r) cols few in omega (arith, e, Rattle.std.proofs.Common.length-append r (absent (drop (length r) cols)))

pub wide_lengths : (cols : List Col) (rows : List Row) → AllByRecursion (λ r. length r ≤ length cols) rows → AllByRecursion (λ r. length cols ≡ length r) (map (wide cols) rows)
wide_lengths cols rows few = each_map (λ r. length cols ≡ length r) (wide cols) rows (each_then (λ r. length r ≤ length cols) (λ r. length cols ≡ length (wide cols r)) (wide_length cols) rows few)

no_more : (n : ℕ) (cols : List Col) → length cols ≡ n → drop n cols ≡ []
no_more zero [] e = refl
no_more zero (c ∷ cols) e = absurd (omega arith)
no_more (suc n) [] e = refl
no_more (suc n) (c ∷ cols) e = no_more n cols (omega arith)

pub wide_same : (cols : List Col) (rows : List Row) → AllByRecursion (λ r. length cols ≡ length r) rows → map (wide cols) rows ≡ rows
wide_same cols [] all = refl
wide_same cols (r ∷ rows) all = ap₂ (λ (a : Row) (l : List Row). a ∷ l) (ap (λ (m : List Col). r ++ absent m) (no_more (length r) cols all.0) ∙ append-nil r) (wide_same cols rows all.1)

-- a table with one column more
pub settled_wider : (rows : List Row) (t : StoredTable) (c : Col) → AllByRecursion (λ k. k < length t.schema.cols) t.schema.keys → AllByRecursion (λ r. length r ≤ length t.schema.cols) rows → AllByRecursion (λ r. length t.schema.cols ≡ length r) t.rows
    → settled rows (widened c t) ≡ widened c (settled rows t)
settled_wider rows t c keys old new =
    let f = put t.schema.time_col t.schema.keys in
    ap (λ (l : List Row). let x : StoredTable = record { schema = (widened c t).schema; rows = l } in x)
    (ap (λ (l : List Row). fold f l (map (λ r. r ++ missing c.kind ∷ []) t.rows)) (wide_one t.schema.cols c rows old)
    ∙ fold_longer t.schema.time_col (length t.schema.cols) (missing c.kind) (missing-time c.kind) t.schema.keys (map (wide t.schema.cols) rows) t.rows keys (wide_lengths t.schema.cols rows old) new)
