-- A block for any part: its first row has the part's first time, each other row its last one, and the other cells are what
-- a row lacks.
use Rattle.std.proofs.Common.{◌≡◌, ℕ, zero, suc, ◌-◌, ◌<◌, ◌≤◌, List, [], ◌∷◌, Some, IsSomeAnd, length, take, get_or, slice_get, replicate, refl, sym, ap, ◌∙◌, arith, subst}
use Rattle.std.specs.List.{AllByRecursion}
use Rattle.std.proofs.lemmas.List.{get_or-replicate, length-map, length-replicate, length-take-le}
use Rattle.std.proofs.lemmas.List.Elements.{All-from_recursion}
use Rattle.qd_base.specs.declared.cell.Cell.{Cell}
use Rattle.qd_base.specs.declared.cell.Cell.TheVariants as cell
use Rattle.qd_base.specs.declared.part.Part.{Part}
use Rattle.qd_base.specs.declared.schema.Col.{Col}
use Rattle.qd_base.specs.declared.schema.ColType.{ColType}
use Rattle.qd_base.specs.declared.schema.ColType.TheVariants as kind
use Rattle.qd_base.specs.declared.schema.Schema.{Schema}
use Rattle.qd_base.specs.Database.{missing}
use Rattle.qd_base.specs.Laws.{IsInOrder}
use Rattle.qd_base.specs.Lawful.{HasKinds, IsSchema, Takes}
use Rattle.qd_base.specs.Rows.{Row, cell_at, time_in, time_of}
use Rattle.qd_base.proofs.Lawful.{HasKinds-length, missing-taken}
use Rattle.qd_block.specs.Blocks.{Block, IsTimed, IsWhole, kinds_in}
use Rattle.qd_manifest.specs.Spelling.{IsPart}
use Rattle.qd_rows.specs.Sets.{absent}
use Rattle.qd_scan.specs.Sources.{IsBlockOf}

-- ---- a row

-- a cell in one column, and in each other one what a row lacks
abbrev pub row_with : List Col → ℕ → Cell → Row
row_with [] col x = []
row_with (c ∷ cols) zero x = x ∷ absent cols
row_with (c ∷ cols) (suc col) x = missing c.kind ∷ row_with cols col x

abbrev pub row_of : List Col → ℕ → ℕ → Row
row_of cols col time = row_with cols col (cell.Time time)

abbrev pub IsTime : Col → Type 0
IsTime c = c.kind ≡ kind.Time

absent_fits : (cols : List Col) → HasKinds cols (absent cols)
absent_fits [] = tt
absent_fits (c ∷ cols) = (missing-taken c.kind, absent_fits cols)

pub row_fits : (cols : List Col) (col : ℕ) (x : Cell) → IsSomeAnd (slice_get cols col) IsTime → Takes kind.Time x → HasKinds cols (row_with cols col x)
row_fits [] col x there takes = absurd there
row_fits (c ∷ cols) zero x there takes = (subst (λ (k : ColType). Takes k x) (sym there) takes, absent_fits cols)
row_fits (c ∷ cols) (suc col) x there takes = (missing-taken c.kind, row_fits cols col x there takes)

pub row_has : (cols : List Col) (col : ℕ) (x : Cell) → IsSomeAnd (slice_get cols col) IsTime → cell_at (row_with cols col x) col ≡ x
row_has [] col x there = absurd there
row_has (c ∷ cols) zero x there = refl
row_has (c ∷ cols) (suc col) x there = row_has cols col x there

is_timed : (row : Row) (col time : ℕ) → cell_at row col ≡ cell.Time time → IsTimed col row
is_timed row col time at null = let other : cell.Time time ≡ cell.Null = sym at ∙ null in cc

-- ---- the first columns

pub first_there : (cols : List Col) (n col : ℕ) → col < n → IsSomeAnd (slice_get cols col) IsTime → IsSomeAnd (slice_get (take n cols) col) IsTime
first_there cols zero col lt there = absurd (omega arith)
first_there [] (suc n) col lt there = absurd there
first_there (c ∷ cols) (suc n) zero lt there = there
first_there (c ∷ cols) (suc n) (suc col) lt there = first_there cols n col (omega arith) there

pub kind_there : (cols : List Col) (n col : ℕ) → col < n → IsSomeAnd (slice_get cols col) IsTime → slice_get (take n (kinds_in cols)) col ≡ Some kind.Time
kind_there cols zero col lt there = absurd (omega arith)
kind_there [] (suc n) col lt there = absurd there
kind_there (c ∷ cols) (suc n) zero lt there = ap Some there
kind_there (c ∷ cols) (suc n) (suc col) lt there = kind_there cols n col (omega arith) there

-- ---- rows

-- so many rows, the first of them another one
abbrev pub rows_like : Row → Row → ℕ → List Row
rows_like first other zero = []
rows_like first other (suc n) = first ∷ replicate n other

count_is : (first other : Row) (n : ℕ) → length (rows_like first other n) ≡ n
count_is first other zero = refl
count_is first other (suc n) = ap suc (length-replicate n other)

module _ (P : Row → Type 0) where
  each_copy : (n : ℕ) (row : Row) → P row → AllByRecursion P (replicate n row)
  each_copy zero row is = tt
  each_copy (suc n) row is = (is, each_copy n row is)

  each_like : (first other : Row) (n : ℕ) → P first → P other → AllByRecursion P (rows_like first other n)
  each_like first other zero is also = tt
  each_like first other (suc n) is also = (is, each_copy n other also)

copies_in_order : (col n : ℕ) (row : Row) → IsInOrder col (replicate n row)
copies_in_order col zero row = tt
copies_in_order col (suc n) row = (each_copy (λ x. time_of col row ≤ time_of col x) n row (omega arith), copies_in_order col n row)

like_in_order : (col : ℕ) (first other : Row) (n : ℕ) → time_of col first ≤ time_of col other → IsInOrder col (rows_like first other n)
like_in_order col first other zero le = tt
like_in_order col first other (suc n) le = (each_copy (λ x. time_of col first ≤ time_of col x) n other le, copies_in_order col n other)

first_like : (first other : Row) (n : ℕ) → 1 ≤ n → get_or (rows_like first other n) 0 [] ≡ first
first_like first other zero some = absurd (omega arith)
first_like first other (suc n) some = refl

last_at : (col hi : ℕ) (first other : Row) (n : ℕ) → time_of col other ≡ hi → (n ≡ 0 → time_of col first ≡ hi)
    → time_of col (get_or (first ∷ replicate n other) n []) ≡ hi
last_at col hi first other zero at one = one refl
last_at col hi first other (suc n) at one = ap (time_of col) (get_or-replicate (suc n) n other [] (omega arith)) ∙ at

last_like : (col hi : ℕ) (first other : Row) (n : ℕ) → 1 ≤ n → time_of col other ≡ hi → (n ≡ 1 → time_of col first ≡ hi)
    → time_of col (get_or (rows_like first other n) (n - 1) []) ≡ hi
last_like col hi first other zero some at one = absurd (omega arith)
last_like col hi first other (suc n) some at one =
    let e : suc n - 1 ≡ n = omega arith in
    ap (λ (i : ℕ). time_of col (get_or (first ∷ replicate n other) i [])) e
    ∙ last_at col hi first other n at (λ none. one (omega (arith, none)))

-- ---- a block

-- a block fits a part
pub record Fits (s : Schema) (p : Part) (b : Block) : Type 0 where
  pub of : IsBlockOf s p b
  pub whole : IsWhole b

abbrev pub filler : Schema → Part → Block
filler s p = record {
  kinds = take p.cols (kinds_in s.cols);
  time_col = s.time_col;
  rows = rows_like (row_of (take p.cols s.cols) s.time_col p.lo) (row_of (take p.cols s.cols) s.time_col p.hi) p.rows;
}

pub filler_fits : (s : Schema) (p : Part) → IsSchema s → IsPart s p → (p.rows ≡ 1 → p.lo ≡ p.hi) → Fits s p (filler s p)
filler_fits s p schema is one =
    let cols : List Col = take p.cols s.cols in
    let col : ℕ = s.time_col in
    let low : Row = row_of cols col p.lo in
    let high : Row = row_of cols col p.hi in
    let rows : List Row = rows_like low high p.rows in
    let there = first_there s.cols p.cols col is.timed schema.designated in
    let size : length cols ≡ p.cols = length-take-le p.cols s.cols is.columns in
    let kinds_size : length (take p.cols (kinds_in s.cols)) ≡ p.cols = length-take-le p.cols (kinds_in s.cols) (let e = length-map s.cols (λ (c : Col). c.kind) in let few = is.columns in omega (arith, e, few)) in
    let low_fits = row_fits cols col (cell.Time p.lo) there (let a = is.in_order in let b = is.timely in omega (arith, a, b)) in
    let high_fits = row_fits cols col (cell.Time p.hi) there is.timely in
    let low_at = row_has cols col (cell.Time p.lo) there in
    let high_at = row_has cols col (cell.Time p.hi) there in
    let low_time : time_of col low ≡ p.lo = ap time_in low_at in
    let high_time : time_of col high ≡ p.hi = ap time_in high_at in
    let wide : (time : ℕ) → HasKinds cols (row_of cols col time) → length (row_of cols col time) ≡ length (take p.cols (kinds_in s.cols)) =
    λ time fits. sym (HasKinds-length cols (row_of cols col time) fits) ∙ size ∙ sym kinds_size in
    let Wide : Row → Type 0 = λ r. length r ≡ length (take p.cols (kinds_in s.cols)) in
    record {
      of = record {
        rows = count_is low high p.rows;
        columns = kinds_size;
        kinds = refl;
        time_col = refl;
        fit = All-from_recursion (HasKinds cols) rows (each_like (HasKinds cols) low high p.rows low_fits high_fits);
        first = ap (time_of col) (first_like low high p.rows is.some) ∙ low_time;
        last = last_like col p.hi low high p.rows is.some high_time (λ e. low_time ∙ one e);
      };
      whole = record {
        few = (let a = is.columns in let b = schema.few in omega (arith, a, b, kinds_size));
        designated = kind_there s.cols p.cols col is.timed schema.designated;
        cells = All-from_recursion Wide rows (each_like Wide low high p.rows (wide p.lo low_fits) (wide p.hi high_fits));
        order = like_in_order col low high p.rows (let a = is.in_order in omega (arith, a, low_time, high_time));
        timed = each_like (IsTimed col) low high p.rows (is_timed low col p.lo low_at) (is_timed high col p.hi high_at);
      };
    }
