-- The columns of a part's block are as the part asks.
use Rattle.std.proofs.Common.{◌≡◌, inl, inr, ℕ, zero, suc, ◌-◌, ◌<◌, ◌≤◌, Bool, true, false, List, [], ◌∷◌, Option, Some, None, length, take, get_or, slice_get, refl, sym, ◌∙◌, ap, subst, arith}
use Rattle.std.specs.Prelude.{IsSomeAnd}
use Rattle.std.proofs.lemmas.Bool.{eqb-true}
use Rattle.std.proofs.lemmas.List.{get_or-map, get_or-take, length-map}
use Rattle.std.proofs.lemmas.List.Elements.{All-from_recursion}
use Rattle.qd_base.specs.declared.cell.Cell.{Cell}
use Rattle.qd_base.specs.declared.cell.Cell.TheVariants as cell
use Rattle.qd_base.specs.declared.limits.TheConstants.{MAX_TIME}
use Rattle.qd_base.specs.declared.part.Part.{Part}
use Rattle.qd_base.specs.declared.schema.Col.{Col}
use Rattle.qd_base.specs.declared.schema.ColType.{ColType}
use Rattle.qd_base.specs.declared.schema.ColType.TheVariants as kind
use Rattle.qd_base.specs.declared.schema.Schema.{Schema}
use Rattle.qd_base.specs.Lawful.{HasKinds, IsSchema, Takes}
use Rattle.qd_base.specs.Rows.{Row, cell_at, time_in, time_of}
use Rattle.qd_block.specs.Blocks.{Block, IsTimed, IsWhole, column_in, kinds_in}
use Rattle.qd_column.proofs.ListLemmas.{got}
use Rattle.qd_block.proofs.RowLemmas.{got_there}
use Rattle.qd_manifest.specs.Spelling.{IsPart}
use Rattle.qd_scan.specs.Sources.{IsBlockOf}
use Rattle.qd_scan.proofs.RowLemmas.{times_rise}
use Rattle.qd_column_format.specs.Unsorted.{IsUnsortedAt}
use Rattle.qd_column_files.specs.Columns.{AreTimely, HasEnds, IsColumnOf, is_designated, kind_of, time_at}

-- a time that a column takes
takes_low : (k : ColType) (c : Cell) → Takes k c → time_in c ≤ MAX_TIME
takes_low k cell.Null h = omega arith
takes_low k (cell.Long x) h = omega arith
takes_low k (cell.Bool b) h = omega arith
takes_low k (cell.Text t) h = omega arith
takes_low kind.Long (cell.Time t) h = absurd h
takes_low kind.Bool (cell.Time t) h = absurd h
takes_low kind.Symbol (cell.Time t) h = absurd h
takes_low kind.Varchar (cell.Time t) h = absurd h
takes_low kind.Time (cell.Time t) h = h

fits_low : (cols : List Col) (row : Row) (col : ℕ) → HasKinds cols row → time_in (cell_at row col) ≤ MAX_TIME
fits_low [] [] col h = omega arith
fits_low [] (x ∷ xs) col h = absurd h
fits_low (c ∷ cs) [] col h = absurd h
fits_low (c ∷ cs) (x ∷ xs) zero h = takes_low c.kind x h.0
fits_low (c ∷ cs) (x ∷ xs) (suc col) h = fits_low cs xs col h.1

-- the designated column is one of times
some_there : (cols : List Col) (i : ℕ) → IsSomeAnd (slice_get cols i) (λ c. c.kind ≡ kind.Time) → (i < length cols) × (get_or (kinds_in cols) i kind.Time ≡ kind.Time)
some_there cols i h = by (slice_get cols i) refl h
  where
    by : (o : Option Col) → slice_get cols i ≡ o → IsSomeAnd o (λ c. c.kind ≡ kind.Time) → (i < length cols) × (get_or (kinds_in cols) i kind.Time ≡ kind.Time)
    by None e h = absurd h
    by (Some c) e h =
        let low : i < length cols = got_there cols i c e in
        (low, get_or-map (λ (x : Col). x.kind) cols i c kind.Time low ∙ ap (λ (x : Col). x.kind) (got cols i c c low e) ∙ h)

pub designated_is : (s : Schema) → IsSchema s → (s.time_col < length s.cols) × (kind_of s s.time_col ≡ kind.Time)
designated_is s is = some_there s.cols s.time_col is.designated

module _ (s : Schema) (p : Part) (b : Block) (col : ℕ) (is : IsBlockOf s p b) (low : col < p.cols) where
  abbrev cells : List Cell
  cells = (column_in b col).cells

  size : length cells ≡ p.rows
  size = length-map b.rows (λ (r : Row). cell_at r col) ∙ is.rows

  cell_is : (i : ℕ) → i < p.rows → get_or cells i cell.Null ≡ cell_at (get_or b.rows i []) col
  cell_is i lt = get_or-map (λ (r : Row). cell_at r col) b.rows i [] cell.Null (omega (arith, is.rows, lt))

  time_is : (i : ℕ) → i < p.rows → time_at cells i ≡ time_of col (get_or b.rows i [])
  time_is i lt = ap time_in (cell_is i lt)

  early : (i : ℕ) → i < p.rows → time_at cells i ≤ MAX_TIME
  early i lt =
      let fits = fits_low (take p.cols s.cols) (get_or b.rows i []) col (is.fit i [] (omega (arith, is.rows, lt))) in
      omega (arith, fits, time_is i lt)

  kind_is : (column_in b col).kind ≡ kind_of s col
  kind_is = ap (λ (ks : List ColType). get_or ks col kind.Time) is.kinds ∙ get_or-take p.cols (kinds_in s.cols) col kind.Time low

  -- one that isn't the designated timestamp
  pub other_column : is_designated s col ≡ false → IsColumnOf s p col (column_in b col)
  other_column other = record {
    kind = kind_is;
    rows = size;
    timely = subst (λ (d : Bool). AreTimely d cells) (sym other) (λ row there h. absurd (omega (arith, early row (omega (arith, size, there)), h)));
    ends = subst (λ (d : Bool). HasEnds d p cells) (sym other) tt;
  }

  module _ (whole : IsWhole b) where
    sorted : b.time_col ≡ col → (i : ℕ) → i < p.rows → IsUnsortedAt cells i → ⊥
    sorted at i lt (inl null) =
        let timed : IsTimed b.time_col (get_or b.rows i []) = All-from_recursion (IsTimed b.time_col) b.rows whole.timed i [] (omega (arith, is.rows, lt)) in
        timed (ap (cell_at (get_or b.rows i [])) at ∙ sym (cell_is i lt) ∙ null)
    sorted at i lt (inr falls) =
        let rise = times_rise b.time_col b.rows whole.order (i - 1) i (omega arith) (omega (arith, is.rows, lt)) in
        let here : time_of b.time_col (get_or b.rows i []) ≡ time_at cells i = ap (λ n. time_of n (get_or b.rows i [])) at ∙ sym (time_is i lt) in
        let before : time_of b.time_col (get_or b.rows (i - 1) []) ≡ time_at cells (i - 1) = ap (λ n. time_of n (get_or b.rows (i - 1) [])) at ∙ sym (time_is (i - 1) (omega (arith, lt))) in
        absurd (omega (arith, rise, here, before, falls.1))

    timely_by : (designated : Bool) → is_designated s col ≡ designated → AreTimely designated cells
    timely_by true e row there (inl h) = absurd (omega (arith, early row (omega (arith, size, there)), h))
    timely_by true e row there (inr h) = sorted (is.time_col ∙ sym (eqb-true col s.time_col e)) row (omega (arith, size, there)) h
    timely_by false e row there h = absurd (omega (arith, early row (omega (arith, size, there)), h))

    ends_by : 1 ≤ p.rows → (designated : Bool) → is_designated s col ≡ designated → HasEnds designated p cells
    ends_by some true e =
        let at : s.time_col ≡ col = sym (eqb-true col s.time_col e) in (
          time_is 0 (omega (arith, some)) ∙ ap (λ n. time_of n (get_or b.rows 0 [])) (sym at) ∙ is.first,
          time_is (p.rows - 1) (omega (arith, some)) ∙ ap (λ n. time_of n (get_or b.rows (p.rows - 1) [])) (sym at) ∙ is.last,
        )
    ends_by some false e = tt

    pub block_column : IsPart s p → IsColumnOf s p col (column_in b col)
    block_column part = record {
      kind = kind_is;
      rows = size;
      timely = timely_by (is_designated s col) refl;
      ends = ends_by part.some (is_designated s col) refl;
    }
