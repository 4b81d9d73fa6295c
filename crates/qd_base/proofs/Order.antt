-- Rows in order of time, and what `put` does to those of one time.
use Rattle.std.proofs.Common.{◌≡◌, ℕ, zero, suc, ◌≤◌, Bool, true, false, cond, eqb, ltb, leb, List, [], ◌∷◌, ◌++◌, map, get_or, refl, sym, ap, ◌∙◌, append_assoc, append-nil, arith, ⊎_elim}
use Rattle.std.specs.List.{AllByRecursion, filter, fold}
use Rattle.std.proofs.lemmas.Bool.{ltb-true, leb-true, eqb-true, le-leb, lt-leb, le-ltb, lt-ltb, ne_eqb, cases_lt}
use Rattle.std.proofs.lemmas.List.Elements.{filter-append}
use Rattle.qd_base.specs.declared.cell.Cell.{Cell}
use Rattle.qd_base.specs.declared.cell.Cell.TheVariants as cell
use Rattle.qd_base.specs.Rows.{Row, time_in, time_of, without_equals, in_time, put}
use Rattle.qd_base.specs.Laws.{IsInOrder, at_time}
use Rattle.qd_base.proofs.Lists.{each-filter, each-append, each-weaker, each-passes, filter_within, filter_apart}

module _ (col : ℕ) where
  one : (b : Bool) (x : Row) (us : List Row) → AllByRecursion (λ y. time_of col x ≤ time_of col y) us → IsInOrder col us → IsInOrder col (cond b (x ∷ us) us)
  one true x us h o = (h, o)
  one false x us h o = o

  pub in_order-filter : (p : Row → Bool) (rows : List Row) → IsInOrder col rows → IsInOrder col (filter p rows)
  in_order-filter p [] o = tt
  in_order-filter p (x ∷ xs) o = one (p x) x (filter p xs) (each-filter (λ y. time_of col x ≤ time_of col y) p xs o.0) (in_order-filter p xs o.1)

  pub in_order-append : (xs ys : List Row) → IsInOrder col xs → IsInOrder col ys → AllByRecursion (λ x. AllByRecursion (λ y. time_of col x ≤ time_of col y) ys) xs → IsInOrder col (xs ++ ys)
  in_order-append [] ys o q h = q
  in_order-append (x ∷ xs) ys o q h = (each-append (λ y. time_of col x ≤ time_of col y) xs ys o.0 h.0, in_order-append xs ys o.1 q h.1)

  pub in_order-without : (keys : List ℕ) (rows : List Row) (row : Row) → IsInOrder col rows → IsInOrder col (without_equals keys rows row)
  in_order-without [] rows row o = o
  in_order-without (k ∷ ks) rows row o = in_order-filter _ rows o

  behind : (x row : Row) (ys : List Row) → time_of col x ≤ time_of col row → AllByRecursion (λ y. time_of col row ≤ time_of col y) ys → AllByRecursion (λ y. time_of col x ≤ time_of col y) (row ∷ ys)
  behind x row ys le h = (le, each-weaker (λ y. time_of col row ≤ time_of col y) (λ y. time_of col x ≤ time_of col y) (λ y g. omega arith) ys h)

  pub in_order-in_time : (rows : List Row) (row : Row) → IsInOrder col rows → IsInOrder col (in_time col rows row)
  in_order-in_time rows row o =
      let before : List Row = filter (λ x. leb (time_of col x) (time_of col row)) rows in
      let later : List Row = filter (λ x. ltb (time_of col row) (time_of col x)) rows in
      let late : AllByRecursion (λ y. time_of col row ≤ time_of col y) later =
      each-weaker (λ y. ltb (time_of col row) (time_of col y) ≡ true) (λ y. time_of col row ≤ time_of col y) (λ y e. let lt = ltb-true (time_of col row) (time_of col y) e in omega arith) later (each-passes (λ x. ltb (time_of col row) (time_of col x)) rows) in
      in_order-append before (row ∷ later) (in_order-filter (λ x. leb (time_of col x) (time_of col row)) rows o) (late, in_order-filter (λ x. ltb (time_of col row) (time_of col x)) rows o)
      (each-weaker (λ x. leb (time_of col x) (time_of col row) ≡ true) (λ x. AllByRecursion (λ y. time_of col x ≤ time_of col y) (row ∷ later)) (λ x e. behind x row later (leb-true (time_of col x) (time_of col row) e) late) before (each-passes (λ x. leb (time_of col x) (time_of col row)) rows))

  pub in_order-put : (keys : List ℕ) (rows : List Row) (row : Row) → IsInOrder col rows → IsInOrder col (put col keys rows row)
  in_order-put keys rows row o = in_order-in_time (without_equals keys rows row) row (in_order-without keys rows row o)

  pub in_order-fold : (keys : List ℕ) (rows new : List Row) → IsInOrder col rows → IsInOrder col (fold (put col keys) rows new)
  in_order-fold keys rows [] o = o
  in_order-fold keys rows (row ∷ new) o = in_order-fold keys (put col keys rows row) new (in_order-put keys rows row o)

  -- a cell that holds no time, behind a row, leaves the row's time
  pub time-longer : (c : Cell) → time_in c ≡ 0 → (row : Row) (n : ℕ) → time_in (get_or (row ++ c ∷ []) n cell.Null) ≡ time_in (get_or row n cell.Null)
  time-longer c e [] zero = e
  time-longer c e [] (suc n) = refl
  time-longer c e (x ∷ xs) zero = refl
  time-longer c e (x ∷ xs) (suc n) = time-longer c e xs n

  longer_each : (c : Cell) → time_in c ≡ 0 → (row : Row) (rows : List Row) → AllByRecursion (λ y. time_of col row ≤ time_of col y) rows → AllByRecursion (λ y. time_of col (row ++ c ∷ []) ≤ time_of col y) (map (λ r. r ++ c ∷ []) rows)
  longer_each c e row [] h = tt
  longer_each c e row (y ∷ ys) h = (rw (time-longer c e row col, time-longer c e y col) h.0, longer_each c e row ys h.1)

  pub in_order-longer : (c : Cell) → time_in c ≡ 0 → (rows : List Row) → IsInOrder col rows → IsInOrder col (map (λ r. r ++ c ∷ []) rows)
  in_order-longer c e [] o = tt
  in_order-longer c e (x ∷ xs) o = (longer_each c e x xs o.0, in_order-longer c e xs o.1)

  -- What `in_time` does to the rows of one time: the row goes behind them, where it is of that time.
  pub at_time-in_time : (t : ℕ) (rows : List Row) (row : Row) → at_time col t (in_time col rows row) ≡ at_time col t rows ++ at_time col t (row ∷ [])
  at_time-in_time t rows row =
      let T : ℕ = time_of col row in
      let p : Row → Bool = λ x. eqb (time_of col x) t in
      let upto : Row → Bool = λ x. leb (time_of col x) T in
      let past : Row → Bool = λ x. ltb T (time_of col x) in
      filter-append p (filter upto rows) (row ∷ filter past rows)
      ∙ ⊎_elim
      (λ lt. let a : filter p (filter upto rows) ≡ [] = filter_apart p upto (λ x e. lt-leb (time_of col x) T (let g = eqb-true (time_of col x) t e in omega arith)) rows in
      let b : filter p (filter past rows) ≡ filter p rows = filter_within p past (λ x e. lt-ltb T (time_of col x) (let g = eqb-true (time_of col x) t e in omega arith)) rows in
      let c : p row ≡ false = ne_eqb T t (λ q. omega arith) in
      rw (a, b, c) (sym (append-nil (filter p rows))))
      (λ le. let a : filter p (filter upto rows) ≡ filter p rows = filter_within p upto (λ x e. le-leb (time_of col x) T (let g = eqb-true (time_of col x) t e in omega arith)) rows in
      let b : filter p (filter past rows) ≡ [] = filter_apart p past (λ x e. le-ltb T (time_of col x) (let g = eqb-true (time_of col x) t e in omega arith)) rows in
      rw (a, b) refl)
      (cases_lt T t)

  pub at_time-fold : (t : ℕ) (rows new : List Row) → at_time col t (fold (put col []) rows new) ≡ at_time col t rows ++ at_time col t new
  at_time-fold t rows [] = sym (append-nil (at_time col t rows))
  at_time-fold t rows (row ∷ new) =
      at_time-fold t (put col [] rows row) new
      ∙ ap (λ l. l ++ at_time col t new) (at_time-in_time t rows row)
      ∙ append_assoc (at_time col t rows) (at_time col t (row ∷ [])) (at_time col t new)
      ∙ ap (λ l. at_time col t rows ++ l) (sym (filter-append (λ x. eqb (time_of col x) t) (row ∷ []) new))
