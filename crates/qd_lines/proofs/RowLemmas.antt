-- The row that a line without a code gives fits its table.
use Rattle.std.proofs.Common.{◌≡◌, ℕ, zero, suc, ◌≤◌, Bool, true, false, not, cond, leb, List, [], ◌∷◌, ◌++◌, Option, Some, None, IsSomeAnd, length, map, refl, sym, ap, ◌∙◌, subst, arith, true≢false, slice_get}
use Rattle.std.specs.Prelude.{codes}
use Rattle.std.specs.List.{AllByRecursion, IsDistinct, find}
use Rattle.std.proofs.lemmas.Bool.{leb-true, ltb-false, not-false}
use Rattle.std.proofs.lemmas.Option.{same_Some}
use Rattle.qd_base.specs.declared.limits.TheConstants.{MAX_TEXT_BYTES, MAX_TIME}
use Rattle.qd_base.specs.declared.cell.Cell.{Cell}
use Rattle.qd_base.specs.declared.cell.Cell.TheVariants as cell
use Rattle.qd_base.specs.declared.schema.ColType.{ColType}
use Rattle.qd_base.specs.declared.schema.ColType.TheVariants as kind
use Rattle.qd_base.specs.declared.schema.Col.{Col}
use Rattle.qd_base.specs.declared.schema.Schema.{Schema}
use Rattle.qd_base.specs.Database.{missing}
use Rattle.qd_base.specs.Rows.{cell_at}
use Rattle.qd_base.specs.Schemas.{same_name}
use Rattle.qd_base.specs.Lawful.{HasKinds, IsRowOf, IsSchema, Takes}
use Rattle.qd_base.proofs.Alike.{joins, names_equal, turned}
use Rattle.qd_base.proofs.Lawful.{missing-taken}
use Rattle.qd_base.proofs.Lists.{each-append, each-both, each-weaker, get-last, IsDistinct-nil}
use Rattle.qd_ilp.specs.Value.{Value, Tag, Text, Long, Huge, Truth, Other, Moment, At, Outside}
use Rattle.qd_ilp.specs.Line.{Item, Row}
use Rattle.qd_ilp.specs.Transaction.{cell_in, cell_of, clashes, created, designated, found_or, is_float, is_long_text, kind_of, micros_of, misfits, moment_of, name_at, stamp_column, suits, with_items}
use Rattle.qd_lines.specs.Drafts.{column_made}
use Rattle.qd_lines.specs.Laws.{IsReadable, IsStamped}
use Rattle.qd_lines.proofs.ColumnLemmas.{each-with_items}
use Rattle.qd_lines.proofs.SchemaLemmas.{found-is}

-- ---- distinct elements

-- the first that passes a test that no other passes
abbrev Own : {X : Type 0} → (X → X → Bool) → List X → X → Type 0
Own {X} e xs x = (p : X → Bool) → p x ≡ true → ((y : X) → e y x ≡ false → p y ≡ false) → find p xs ≡ Some x

own : {X : Type 0} (e : X → X → Bool) (xs : List X) → IsDistinct e xs → AllByRecursion (Own e xs) xs
unfolding IsDistinct
own e [] d = tt
own {X} e (x ∷ xs) d = (λ p h g. rw h refl, each-weaker (λ z. (e x z ≡ false) × Own e xs z) (Own e (x ∷ xs)) later xs (each-both (λ z. e x z ≡ false) (Own e xs) xs d.0 (own e xs d.1)))
  where
    later : (z : X) → (e x z ≡ false) × Own e xs z → Own e (x ∷ xs) z
    later z h p is g = rw (g x h.0) (h.1 p is g)

-- ---- the cell of a value

-- a value without a fault
pub record IsFair (v : Value) : Type 0 where
  pub whole : is_float v ≡ false
  pub short : is_long_text v ≡ false
  pub readable : IsReadable v

made-suits : (v : Value) → is_float v ≡ false → suits (kind_of v) v ≡ true
made-suits (Tag text) h = refl
made-suits (Text text) h = refl
made-suits (Long n) h = refl
made-suits Huge h = refl
made-suits (Truth t) h = refl
made-suits Other h = absurd (true≢false h)

suits-taken : (k : ColType) (v : Value) → suits k v ≡ true → IsFair v → Takes k (cell_of v)
suits-taken kind.Symbol (Tag text) e f = record { short = ltb-false MAX_TEXT_BYTES (length text) f.short; bytes = f.readable }
suits-taken kind.Symbol (Text text) e f = record { short = ltb-false MAX_TEXT_BYTES (length text) f.short; bytes = f.readable }
suits-taken kind.Varchar (Tag text) e f = record { short = ltb-false MAX_TEXT_BYTES (length text) f.short; bytes = f.readable }
suits-taken kind.Varchar (Text text) e f = record { short = ltb-false MAX_TEXT_BYTES (length text) f.short; bytes = f.readable }
suits-taken kind.Long (Long n) e f = f.readable
suits-taken kind.Long Huge e f = tt
suits-taken kind.Bool (Truth t) e f = tt
suits-taken k v e f = absurd (true≢false (sym e))

-- ---- the cells of a row

fitted : (cs : List Col) (f : Col → Cell) → AllByRecursion (λ (c : Col). Takes c.kind (f c)) cs → HasKinds cs (map f cs)
fitted [] f h = tt
fitted (c ∷ cs) f h = (h.0, fitted cs f h.1)

cell_at-map : (cs : List Col) (f : Col → Cell) (k : ℕ) (d : Col) → slice_get cs k ≡ Some d → cell_at (map f cs) k ≡ f d
cell_at-map [] f k d e = absurd cc
cell_at-map (c ∷ cs) f zero d e = ap f (same_Some c d e)
cell_at-map (c ∷ cs) f (suc k) d e = cell_at-map cs f k d e

at-get : {X : Type 0} (P : X → Type 0) (xs : List X) (k : ℕ) (x : X) → AllByRecursion P xs → slice_get xs k ≡ Some x → P x
at-get P [] k x h e = absurd cc
at-get P (y ∷ ys) zero x h e = subst P (same_Some y x e) h.0
at-get P (y ∷ ys) (suc k) x h e = at-get P ys k x h.1 e

get-left : {X : Type 0} (xs ys : List X) (k : ℕ) (x : X) → slice_get xs k ≡ Some x → slice_get (xs ++ ys) k ≡ Some x
get-left [] ys k x e = absurd cc
get-left (y ∷ xs) ys zero x e = e
get-left (y ∷ xs) ys (suc k) x e = get-left xs ys k x e

-- the moment of a row is a timestamp
pub timely : (now : ℕ) (o : Option Moment) → IsStamped o → micros_of (moment_of now o) ≤ MAX_TIME
timely now None h = go (leb now MAX_TIME) refl
  where
    go : (b : Bool) → leb now MAX_TIME ≡ b → micros_of (cond b (At now) Outside) ≤ MAX_TIME
    go true e = leb-true now MAX_TIME e
    go false e = omega arith
timely now (Some (At micros)) h = h
timely now (Some Outside) h = omega arith

-- A row of a line: where its time goes, and its items, none of which names that column.
module _ (time : List ℕ) (row : Row) (micros : ℕ) (bound : micros ≤ MAX_TIME) (distinct : IsDistinct (λ (i j : Item). same_name i.name j.name) row.items) (fair : AllByRecursion (λ (i : Item). IsFair i.value) row.items) (others : AllByRecursion (λ (i : Item). same_name time i.name ≡ false) row.items) where
  abbrev pub cell_for : Col → Cell
  cell_for c = cell_in time row micros c

  timed-cell : (c : Col) → same_name time c.name ≡ true → c.kind ≡ kind.Time → Takes c.kind (cell_for c)
  timed-cell c e is = rw (e, is) bound

  -- a column that an item makes takes its value
  made-cells : AllByRecursion (λ (i : Item). Takes (kind_of i.value) (cell_for (column_made i))) row.items
  made-cells = each-weaker (λ (i : Item). (IsFair i.value × (same_name time i.name ≡ false)) × Own (λ (a b : Item). same_name a.name b.name) row.items i) (λ (i : Item). Takes (kind_of i.value) (cell_for (column_made i))) one row.items
      (each-both (λ (i : Item). IsFair i.value × (same_name time i.name ≡ false)) (Own (λ (a b : Item). same_name a.name b.name) row.items) row.items (each-both (λ (i : Item). IsFair i.value) (λ (i : Item). same_name time i.name ≡ false) row.items fair others) (own (λ (a b : Item). same_name a.name b.name) row.items distinct))
    where
      one : (i : Item) → (IsFair i.value × (same_name time i.name ≡ false)) × Own (λ (a b : Item). same_name a.name b.name) row.items i → Takes (kind_of i.value) (cell_for (column_made i))
      one i h =
          let found : find (λ (j : Item). same_name i.name j.name) row.items ≡ Some i = h.1 (λ (j : Item). same_name i.name j.name) (names_equal.refl i.name) (λ y e. turned y.name i.name false e) in
          rw (h.0.1, found) (suits-taken (kind_of i.value) i.value (made-suits i.value h.0.0.whole) h.0.0)

  module _ (cols : List Col) (apart : IsDistinct (λ (a : Col) (b : Col). same_name a.name b.name) cols) (timed : AllByRecursion (λ (c : Col). same_name time c.name ≡ true → c.kind ≡ kind.Time) cols) (fits : AllByRecursion (λ (i : Item). misfits (find (λ (c : Col). same_name c.name i.name) cols) i.value ≡ false) row.items) where
    -- a column that is there takes the value of the item of its name
    there-cells : AllByRecursion (λ (c : Col). Takes c.kind (cell_for c)) cols
    there-cells = each-weaker (λ (c : Col). (same_name time c.name ≡ true → c.kind ≡ kind.Time) × Own (λ (a b : Col). same_name a.name b.name) cols c) (λ (c : Col). Takes c.kind (cell_for c)) one cols
        (each-both (λ (c : Col). same_name time c.name ≡ true → c.kind ≡ kind.Time) (Own (λ (a b : Col). same_name a.name b.name) cols) cols timed (own (λ (a b : Col). same_name a.name b.name) cols apart))
      where
        value : (c : Col) → Own (λ (a b : Col). same_name a.name b.name) cols c → (o : Option Item) → find (λ (i : Item). same_name c.name i.name) row.items ≡ o → Takes c.kind (found_or (missing c.kind) o)
        value c is None e = missing-taken c.kind
        value c is (Some i) e =
            let h = found-is (λ (j : Item). IsFair j.value × (misfits (find (λ (x : Col). same_name x.name j.name) cols) j.value ≡ false)) (λ (j : Item). same_name c.name j.name) row.items i
            (each-both (λ (j : Item). IsFair j.value) (λ (j : Item). misfits (find (λ (x : Col). same_name x.name j.name) cols) j.value ≡ false) row.items fair fits) e in
            let found : find (λ (x : Col). same_name x.name i.name) cols ≡ Some c = is (λ (x : Col). same_name x.name i.name) h.1 (λ y f. turned i.name y.name false (joins c.name i.name y.name false h.1 (turned y.name c.name false f))) in
            let no : not (suits c.kind i.value) ≡ false = ap (λ (o : Option Col). misfits o i.value) (sym found) ∙ h.0.1 in
            suits-taken c.kind i.value (not-false (suits c.kind i.value) no) h.0.0

        one : (c : Col) → (same_name time c.name ≡ true → c.kind ≡ kind.Time) × Own (λ (a b : Col). same_name a.name b.name) cols c → Takes c.kind (cell_for c)
        one c h = go (same_name time c.name) refl
          where
            go : (b : Bool) → same_name time c.name ≡ b → Takes c.kind (cell_for c)
            go true e = timed-cell c e (h.0 e)
            go false e = rw e (value c h.1 (find (λ (i : Item). same_name c.name i.name) row.items) refl)

    pub row-cells : AllByRecursion (λ (c : Col). Takes c.kind (cell_for c)) (with_items cols row.items)
    row-cells = each-with_items (λ (c : Col). Takes c.kind (cell_for c)) cols row.items there-cells made-cells

-- the designated column alone has its name
timed-cols : (cols : List Col) (k : ℕ) (d : Col) → IsDistinct (λ (a : Col) (b : Col). same_name a.name b.name) cols → slice_get cols k ≡ Some d → d.kind ≡ kind.Time → AllByRecursion (λ (c : Col). same_name d.name c.name ≡ true → c.kind ≡ kind.Time) cols
timed-cols cols k d apart at is = each-weaker (Own (λ (a b : Col). same_name a.name b.name) cols) (λ (c : Col). same_name d.name c.name ≡ true → c.kind ≡ kind.Time) one cols all
  where
    all : AllByRecursion (Own (λ (a b : Col). same_name a.name b.name) cols) cols
    all = own (λ (a b : Col). same_name a.name b.name) cols apart

    one : (c : Col) → Own (λ (a b : Col). same_name a.name b.name) cols c → same_name d.name c.name ≡ true → c.kind ≡ kind.Time
    one c h e =
        let p : Col → Bool = λ (x : Col). same_name x.name c.name in
        let first : find p cols ≡ Some d = at-get (Own (λ (a b : Col). same_name a.name b.name) cols) cols k d all at p e (λ y f. turned c.name y.name false (joins d.name c.name y.name false e (turned y.name d.name false f))) in
        let same : find p cols ≡ Some c = h p (names_equal.refl c.name) (λ y f. f) in
        ap (λ (x : Col). x.kind) (sym (same_Some d c (sym first ∙ same))) ∙ is

-- the row of a line whose table is there
pub row-there : (s : Schema) (row : Row) (micros : ℕ) → micros ≤ MAX_TIME → IsSchema s → IsDistinct (λ (i j : Item). same_name i.name j.name) row.items → AllByRecursion (λ (i : Item). IsFair i.value) row.items
    → AllByRecursion (λ (i : Item). same_name (designated (Some s)) i.name ≡ false) row.items → AllByRecursion (λ (i : Item). clashes (Some s) i ≡ false) row.items
    → (cols : List Col) → with_items s.cols row.items ≡ cols → (more : List Col) → cols ≡ s.cols ++ more → IsRowOf (record s { cols = cols }) (map (cell_in (name_at s.cols s.time_col) row micros) cols)
row-there s row micros bound is distinct fair others fits cols whole more longer = go (slice_get s.cols s.time_col) refl is.designated
  where
    go : (o : Option Col) → slice_get s.cols s.time_col ≡ o → IsSomeAnd o (λ c. c.kind ≡ kind.Time) → IsRowOf (record s { cols = cols }) (map (cell_in (name_at s.cols s.time_col) row micros) cols)
    go None at h = absurd h
    go (Some d) at h =
        let time : List ℕ = d.name in
        let named : name_at s.cols s.time_col ≡ d.name = rw at refl in
        let others' : AllByRecursion (λ (i : Item). same_name d.name i.name ≡ false) row.items = subst (λ (n : List ℕ). AllByRecursion (λ (i : Item). same_name n i.name ≡ false) row.items) named others in
        let fits' : AllByRecursion (λ (i : Item). misfits (find (λ (c : Col). same_name c.name i.name) s.cols) i.value ≡ false) row.items =
        each-weaker (λ (i : Item). (same_name (designated (Some s)) i.name ≡ false) × (clashes (Some s) i ≡ false)) (λ (i : Item). misfits (find (λ (c : Col). same_name c.name i.name) s.cols) i.value ≡ false) (λ i f. rw f.0 at f.1) row.items
        (each-both (λ (i : Item). same_name (designated (Some s)) i.name ≡ false) (λ (i : Item). clashes (Some s) i ≡ false) row.items others fits) in
        let each = row-cells d.name row micros bound distinct fair others' s.cols is.distinct (timed-cols s.cols s.time_col d is.distinct at h) fits' in
        let here : cell_at (map (cell_in d.name row micros) cols) s.time_col ≡ cell.Time micros =
        cell_at-map cols (cell_in d.name row micros) s.time_col d (ap (λ (cs : List Col). slice_get cs s.time_col) longer ∙ get-left s.cols more s.time_col d at) ∙ rw (names_equal.refl d.name) refl in
        subst (λ (n : List ℕ). IsRowOf (record s { cols = cols }) (map (cell_in n row micros) cols)) (sym named)
        (record {
          kinds = fitted cols (cell_in d.name row micros) (subst (λ (cs : List Col). AllByRecursion (λ (c : Col). Takes c.kind (cell_in d.name row micros c)) cs) whole each);
          timed = λ e. no_time (sym here ∙ e);
        })
      where
        no_time : cell.Time micros ≡ cell.Null → ⊥
        no_time e = cc

-- the row of a line that makes its table
pub row-made : (row : Row) (micros : ℕ) → micros ≤ MAX_TIME → IsDistinct (λ (i j : Item). same_name i.name j.name) row.items → AllByRecursion (λ (i : Item). IsFair i.value) row.items
    → AllByRecursion (λ (i : Item). same_name (codes "timestamp") i.name ≡ false) row.items → IsRowOf (created row) (map (cell_in (codes "timestamp") row micros) (created row).cols)
row-made row micros bound distinct fair others =
    let f : Col → Cell = cell_in (codes "timestamp") row micros in
    let each = row-cells (codes "timestamp") row micros bound distinct fair others [] (IsDistinct-nil (λ (a : Col) (b : Col). same_name a.name b.name)) tt (none row.items) in
    let here : f stamp_column ≡ cell.Time micros = refl in
    record {
      kinds = fitted (created row).cols f (each-append (λ (c : Col). Takes c.kind (f c)) (with_items [] row.items) (stamp_column ∷ []) each (bound, tt));
      timed = λ e. no_time (sym here ∙ sym (cell_at-map (created row).cols f (length (with_items [] row.items)) stamp_column (get-last (with_items [] row.items) stamp_column)) ∙ e);
    }
  where
    none : (is : List Item) → AllByRecursion (λ (i : Item). misfits (find (λ (c : Col). same_name c.name i.name) []) i.value ≡ false) is
    none [] = tt
    none (i ∷ is) = (refl, none is)

    no_time : cell.Time micros ≡ cell.Null → ⊥
    no_time e = cc
