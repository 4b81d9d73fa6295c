-- A block for any part whose designated times are known, and its last rows: in each row before these, the time, and what a row lacks.
use Rattle.std.proofs.Common.{◌≡◌, inl, inr, ℕ, suc, ◌+◌, ◌-◌, ◌<◌, ◌≤◌, Bool, true, List, [], ◌∷◌, ◌++◌, Some, IsSomeAnd, All, length, map, take, drop, get_or, slice_get, refl, sym, ap, ap₂, ◌∙◌, arith, subst, eq-eqb}
use Rattle.std.specs.List.{AllByRecursion}
use Rattle.std.specs.List.Sorted.{IsNonDecreasing}
use Rattle.std.proofs.lemmas.Bool.{cases_lt}
use Rattle.std.proofs.lemmas.Bool.Decides.{eqb_tells}
use Rattle.std.proofs.lemmas.List.{drop_at, get_or-map, length-map, length-take-le, map-append, take-append-drop}
use Rattle.std.proofs.lemmas.List.Elements.{All-append, All-take, recursion_from_All}
use Rattle.std.proofs.lemmas.List.Sorted.{IsNonDecreasingBy-from_all_adjacent}
use Rattle.qd_base.specs.declared.cell.Cell.{Cell}
use Rattle.qd_base.specs.declared.cell.Cell.TheVariants as cell
use Rattle.qd_base.specs.declared.limits.TheConstants.{NULL_TIME}
use Rattle.qd_base.specs.declared.part.Part.{Part}
use Rattle.qd_base.specs.declared.schema.Col.{Col}
use Rattle.qd_base.specs.declared.schema.ColType.{ColType}
use Rattle.qd_base.specs.declared.schema.ColType.TheVariants as kind
use Rattle.qd_base.specs.declared.schema.Schema.{Schema}
use Rattle.qd_base.specs.Laws.{IsInOrder}
use Rattle.qd_base.specs.Lawful.{HasKinds, IsSchema, Takes}
use Rattle.qd_base.specs.Rows.{Row, cell_at, time_in, time_of}
use Rattle.qd_base.proofs.Lawful.{HasKinds-length}
use Rattle.qd_block.specs.Blocks.{Block, IsTimed, column_in, kinds_in}
use Rattle.qd_column.specs.Cells.{CellsOf, time_cell}
use Rattle.qd_column_files.specs.Columns.{AreTimely, HasEnds, is_designated, kind_of, time_at}
use Rattle.qd_column_files.specs.Reading.{IsFitColumn}
use Rattle.qd_column_files.specs.Rests.{IsRestOf, rest_of}
use Rattle.qd_column_files.proofs.ColumnLemmas.{designated_is}
use Rattle.qd_manifest.specs.Spelling.{IsPart}
use Rattle.qd_merge.proofs.Wide.{map-map}
use Rattle.qd_store.proofs.Fillers.{Fits, IsTime, first_there, kind_there, row_fits, row_has, row_with}

-- ---- times in order

module _ (cells : List Cell) (timely : AreTimely true cells) where
  pub one_there : (i : ℕ) → i < length cells → get_or cells i cell.Null ≡ cell.Null → ⊥
  one_there i lt null = timely i lt (inr (inl null))

  pub one_rises : (i : ℕ) → i + 1 < length cells → time_at cells i ≤ time_at cells (i + 1)
  one_rises i lt =
      let place : i + 1 - 1 ≡ i = omega arith in
      elim (cases_lt (time_at cells (i + 1)) (time_at cells i)) [
        | inl falls ↦ absurd (timely (i + 1) lt (inr (inr (omega arith, subst (λ (k : ℕ). time_at cells (i + 1) < time_at cells k) (sym place) falls))))
        | inr most ↦ most
      ]

  -- they are the moments of the cells
  pub moments_rise : IsNonDecreasing (map time_in cells)
  moments_rise =
      IsNonDecreasingBy-from_all_adjacent (λ (x : ℕ). x) (map time_in cells)
      (λ k d lt.
      let size = length-map cells time_in in
      let low = get_or-map time_in cells k cell.Null d (omega (arith, size, lt)) in
      let high = get_or-map time_in cells (k + 1) cell.Null d (omega (arith, size, lt)) in
      let up = one_rises k (omega (arith, size, lt)) in
      omega (arith, low, high, up))

-- numbers that stand for times
moment : (t : ℕ) → (time_cell t ≡ cell.Null → ⊥) → time_in (time_cell t) ≡ t
moment t some = elim (eqb_tells t NULL_TIME) [ inl null ↦ absurd (some (rw null.0 refl)) | inr time ↦ rw time.0 refl ]

moments_of : (ts : List ℕ) → ((i : ℕ) → i < length (map time_cell ts) → get_or (map time_cell ts) i cell.Null ≡ cell.Null → ⊥) → map time_in (map time_cell ts) ≡ ts
moments_of [] some = refl
moments_of (t ∷ ts) some = ap₂ (λ (x : ℕ) (l : List ℕ). x ∷ l) (moment t (some 0 (omega arith))) (moments_of ts (λ i lt. some (suc i) (omega (arith, lt))))

pub moments_are : (ts : List ℕ) (cells : List Cell) → AreTimely true cells → cells ≡ map time_cell ts → map time_in cells ≡ ts
moments_are ts cells timely is =
    ap (map time_in) is
    ∙ moments_of ts (subst (λ (cs : List Cell). (i : ℕ) → i < length cs → get_or cs i cell.Null ≡ cell.Null → ⊥) is (one_there cells timely))

-- ---- rows by their times

abbrev pub cells_at : ℕ → List Row → List Cell
cells_at col rows = map (λ (r : Row). cell_at r col) rows

rise_next : (col : ℕ) (r : Row) (rs : List Row) → ((i : ℕ) → i + 1 < length (r ∷ rs) → time_of col (get_or (r ∷ rs) i []) ≤ time_of col (get_or (r ∷ rs) (i + 1) []))
    → (i : ℕ) → i + 1 < length rs → time_of col (get_or rs i []) ≤ time_of col (get_or rs (i + 1) [])
rise_next col r rs rise i lt =
    let e : suc i + 1 ≡ suc (i + 1) = omega arith in
    let up = rise (suc i) (omega (arith, lt)) in
    subst (λ (k : ℕ). time_of col (get_or rs i []) ≤ time_of col (get_or (r ∷ rs) k [])) e up

above : (col low : ℕ) (rows : List Row) → (0 < length rows → low ≤ time_of col (get_or rows 0 [])) → ((i : ℕ) → i + 1 < length rows → time_of col (get_or rows i []) ≤ time_of col (get_or rows (i + 1) []))
    → AllByRecursion (λ (r : Row). low ≤ time_of col r) rows
above col low [] least rise = tt
above col low (r ∷ rs) least rise =
    let here = least (omega arith) in (
      here,
      above col low rs (λ some. let up = rise 0 (omega (arith, some)) in omega (arith, here, up)) (λ i lt. rise_next col r rs rise i lt),
    )

in_order : (col : ℕ) (rows : List Row) → ((i : ℕ) → i + 1 < length rows → time_of col (get_or rows i []) ≤ time_of col (get_or rows (i + 1) [])) → IsInOrder col rows
in_order col [] rise = tt
in_order col (r ∷ rs) rise = (
  above col (time_of col r) rs (λ some. rise 0 (omega (arith, some))) (rise_next col r rs rise),
  in_order col rs (rise_next col r rs rise),
)

-- ---- a block that has the times of a part

module _ (s : Schema) (p : Part) (schema : IsSchema s) (part : IsPart s p) (times : CellsOf) (fit : IsFitColumn s p s.time_col times) where
  here : is_designated s s.time_col ≡ true
  here = eq-eqb s.time_col s.time_col refl

  pub timely : AreTimely true times.cells
  timely = subst (λ (d : Bool). AreTimely d times.cells) here fit.is.timely

  ends : HasEnds true p times.cells
  ends = subst (λ (d : Bool). HasEnds d p times.cells) here fit.is.ends

  module _ (b : Block) (kinds : b.kinds ≡ take p.cols (kinds_in s.cols)) (time_col : b.time_col ≡ s.time_col) (fits : All (HasKinds (take p.cols s.cols)) b.rows) (timed : column_in b s.time_col ≡ times) where
    cells_are : cells_at s.time_col b.rows ≡ times.cells
    cells_are = ap (λ (c : CellsOf). c.cells) timed

    count : length b.rows ≡ p.rows
    count = sym (length-map b.rows (λ (r : Row). cell_at r s.time_col)) ∙ ap length cells_are ∙ fit.is.rows

    cell_is : (i : ℕ) (d : Row) → i < length b.rows → cell_at (get_or b.rows i d) s.time_col ≡ get_or times.cells i cell.Null
    cell_is i d lt = sym (get_or-map (λ (r : Row). cell_at r s.time_col) b.rows i d cell.Null lt) ∙ ap (λ (cs : List Cell). get_or cs i cell.Null) cells_are

    time_is : (i : ℕ) → i < length b.rows → time_of s.time_col (get_or b.rows i []) ≡ time_at times.cells i
    time_is i lt = ap time_in (cell_is i [] lt)

    rows_rise : (i : ℕ) → i + 1 < length b.rows → time_of s.time_col (get_or b.rows i []) ≤ time_of s.time_col (get_or b.rows (i + 1) [])
    rows_rise i lt =
        let up = one_rises times.cells timely i (let size = fit.is.rows in omega (arith, lt, count, size)) in
        omega (arith, time_is i (omega (arith, lt)), time_is (i + 1) lt, up)

    rows_timed : All (IsTimed s.time_col) b.rows
    rows_timed i d lt null = one_there times.cells timely i (let size = fit.is.rows in omega (arith, lt, count, size)) (sym (cell_is i d lt) ∙ null)

    pub timed_fits : Fits s p b
    timed_fits =
        let size : length (take p.cols s.cols) ≡ p.cols = length-take-le p.cols s.cols part.columns in
        let kinds_size : length (take p.cols (kinds_in s.cols)) ≡ p.cols = length-take-le p.cols (kinds_in s.cols) (let e = length-map s.cols (λ (c : Col). c.kind) in let few = part.columns in omega (arith, e, few)) in
        let wide : length b.kinds ≡ p.cols = ap length kinds ∙ kinds_size in
        let some = part.some in
        record {
          of = record {
            rows = count;
            columns = wide;
            kinds = kinds;
            time_col = time_col;
            fit = fits;
            first = time_is 0 (omega (arith, some, count)) ∙ ends.0;
            last = time_is (p.rows - 1) (omega (arith, some, count)) ∙ ends.1;
          };
          whole = record {
            few = (let a = part.columns in let c = schema.few in omega (arith, a, c, wide));
            designated = subst (λ (ks : List ColType). slice_get ks b.time_col ≡ Some kind.Time) (sym kinds)
                (subst (λ (n : ℕ). slice_get (take p.cols (kinds_in s.cols)) n ≡ Some kind.Time) (sym time_col) (kind_there s.cols p.cols s.time_col part.timed schema.designated));
            cells = λ i d lt. sym (HasKinds-length (take p.cols s.cols) (get_or b.rows i d) (fits i d lt)) ∙ size ∙ sym wide;
            order = subst (λ (n : ℕ). IsInOrder n b.rows) (sym time_col) (in_order s.time_col b.rows rows_rise);
            timed = subst (λ (n : ℕ). AllByRecursion (IsTimed n) b.rows) (sym time_col) (recursion_from_All (IsTimed s.time_col) b.rows rows_timed);
          };
        }

    -- its rows have these moments
    pub rows_moments : map (time_of b.time_col) b.rows ≡ map time_in times.cells
    rows_moments =
        ap (λ (n : ℕ). map (time_of n) b.rows) time_col
        ∙ sym (map-map time_in (λ (r : Row). cell_at r s.time_col) b.rows)
        ∙ ap (map time_in) cells_are

  -- ---- rows from one on, and rows before them

  module _ (skip : ℕ) (within : skip ≤ p.rows) (rest : Block) (is : IsRestOf s p times skip rest) where
    abbrev cols : List Col
    cols = take p.cols s.cols

    there : IsSomeAnd (slice_get cols s.time_col) IsTime
    there = first_there s.cols p.cols s.time_col part.timed schema.designated

    abbrev before : List Cell
    before = take skip times.cells

    abbrev front : List Row
    front = map (row_with cols s.time_col) before

    abbrev pub refilled : Block
    refilled = record rest { rows = front ++ rest.rows }

    front_long : length front ≡ skip
    front_long = length-map before (row_with cols s.time_col) ∙ length-take-le skip times.cells (let size = fit.is.rows in omega (arith, size, within))

    front_fits : All (HasKinds cols) front
    front_fits i d lt =
        let size = length-map before (row_with cols s.time_col) in
        let low : i < length before = omega (arith, size, lt) in
        let takes : Takes kind.Time (get_or before i cell.Null) = subst (λ (k : ColType). Takes k (get_or before i cell.Null)) (designated_is s schema).1
        (All-take (Takes (kind_of s s.time_col)) skip times.cells fit.takes i cell.Null low) in
        subst (HasKinds cols) (sym (get_or-map (row_with cols s.time_col) before i cell.Null d low)) (row_fits cols s.time_col (get_or before i cell.Null) there takes)

    front_at : (cells : List Cell) → cells_at s.time_col (map (row_with cols s.time_col) cells) ≡ cells
    front_at [] = refl
    front_at (x ∷ xs) = ap₂ (λ (c : Cell) (l : List Cell). c ∷ l) (row_has cols s.time_col x there) (front_at xs)

    column_is : column_in refilled s.time_col ≡ times
    column_is =
        let last : cells_at s.time_col rest.rows ≡ drop skip times.cells = ap (λ (c : CellsOf). c.cells) is.timed in
        let all : cells_at s.time_col (front ++ rest.rows) ≡ times.cells =
        map-append (λ (r : Row). cell_at r s.time_col) front rest.rows ∙ ap₂ (λ (a c : List Cell). a ++ c) (front_at before) last ∙ take-append-drop skip times.cells in
        ap (λ (k : ColType). record { kind = k; cells = cells_at s.time_col (front ++ rest.rows) }) (ap (λ (c : CellsOf). c.kind) is.timed)
        ∙ ap (λ (cs : List Cell). record { kind = times.kind; cells = cs }) all

    pub refilled_fits : Fits s p refilled
    refilled_fits = timed_fits refilled is.kinds is.time_col (All-append (HasKinds cols) front rest.rows front_fits is.fit) column_is

    pub refilled_moments : map (time_of refilled.time_col) refilled.rows ≡ map time_in times.cells
    refilled_moments = rows_moments refilled is.kinds is.time_col (All-append (HasKinds cols) front rest.rows front_fits is.fit) column_is

    pub refilled_rest : rest_of skip refilled ≡ rest
    refilled_rest = ap (λ (rs : List Row). let b : Block = record rest { rows = rs } in b) (drop_at front rest.rows skip front_long)
