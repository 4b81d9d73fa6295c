-- What rows have in an output column.
use Rattle.std.proofs.Common.{◌≡◌, ℕ, zero, suc, ◌+◌, ◌≤◌, ◌<◌, ◌⊎◌, inl, inr, Bool, List, [], ◌∷◌, ◌++◌, Some, length, map, get_or, take, refl, sym, ap, ap₂, ◌∙◌, arith}
use Rattle.std.specs.Prelude.{slice_get}
use Rattle.std.proofs.lemmas.List.{get_or-map, get_or_past, length-map, map_more, map_push}
use Rattle.std.proofs.lemmas.Option.{get_or_from_slice_get}
use Rattle.qd_base.specs.declared.schema.Col.{Col}
use Rattle.qd_base.specs.declared.cell.Cell.{Cell}
use Rattle.qd_base.specs.declared.cell.Cell.TheVariants as cell
use Rattle.qd_base.specs.Rows.{Row, cell_at}
use Rattle.qd_value.specs.declared.bound.Bound.{Bound}
use Rattle.qd_value.specs.Value.{value}
use Rattle.qd_rows.specs.Sets.{ResultRows, row_of_place, rows_in}
use Rattle.qd_meaning.specs.Answer.{output_row}
use Rattle.qd_meaning.specs.Grouped.{key_of}
use Rattle.qd_meaning.specs.Outputs.{shown_as}
use Rattle.qd_order.specs.declared.columns.KeyColumn.{KeyColumn}
use Rattle.qd_order.specs.declared.keys.Key.{Key}
use Rattle.qd_order.specs.Keys.{lent}
use Rattle.qd_order.specs.Orders.{Keyed, keyed}
use Rattle.qd_order.specs.Seen.{seen}

pub shown_at : (picks : List ℕ) (out : List Col) (row : Row) (at p : ℕ) (c : Col) → slice_get picks at ≡ Some p → slice_get out at ≡ Some c → cell_at (output_row picks out row) at ≡ shown_as c.kind (cell_at row p)
shown_at [] out row at p c hp hc = absurd cc
shown_at (q ∷ qs) [] row at p c hp hc = absurd cc
shown_at (q ∷ qs) (d ∷ ds) row zero p c hp hc = let same_p : q ≡ p = cc in let same_c : d ≡ c = cc in ap (λ (k : Col). shown_as k.kind (cell_at row q)) same_c ∙ ap (λ n. shown_as c.kind (cell_at row n)) same_p
shown_at (q ∷ qs) (d ∷ ds) row (suc at) p c hp hc = shown_at qs ds row at p c hp hc

pub shown_past : (picks : List ℕ) (out : List Col) (row : Row) (at : ℕ) → (length picks ≤ at) ⊎ (length out ≤ at) → cell_at (output_row picks out row) at ≡ cell.Null
shown_past [] out row at h = refl
shown_past (q ∷ qs) [] row at h = refl
shown_past (q ∷ qs) (d ∷ ds) row zero h = elim h [ inl low ↦ absurd (omega arith) | inr low ↦ absurd (omega arith) ]
shown_past (q ∷ qs) (d ∷ ds) row (suc at) h = shown_past qs ds row at (elim h [ inl low ↦ inl (omega arith) | inr low ↦ inr (omega arith) ])

-- ---- values

pub cell_there : (row : Row) (at : ℕ) (c : Cell) → slice_get row at ≡ Some c → c ≡ cell_at row at
cell_there row at c is = sym (get_or_from_slice_get row at c cell.Null is)

pub cell_past : (row : Row) (at : ℕ) → length row ≤ at → cell.Null ≡ cell_at row at
cell_past row at high = sym (get_or_past row at cell.Null high)

pub value_there : (exprs : List Bound) (row : Row) (at : ℕ) (e : Bound) → at < length exprs → e ≡ get_or exprs at e → value e row ≡ cell_at (key_of exprs row) at
value_there exprs row at e low is = ap (λ x. value x row) is ∙ sym (get_or-map (λ x. value x row) exprs at e cell.Null low)

pub value_past : (exprs : List Bound) (row : Row) (at : ℕ) → length exprs ≤ at → cell.Null ≡ cell_at (key_of exprs row) at
value_past exprs row at high = cell_past (key_of exprs row) at (omega (arith, length-map exprs (λ x. value x row)))

-- ---- one more

pub keys_more : (f : Row → Cell) (rows : List Row) (i : ℕ) (keys more : List Key) (k : Key) (row : Row) → i < length rows → row ≡ get_or rows i [] → map lent keys ≡ map f (take i rows) → lent k ≡ f row → more ≡ keys ++ k ∷ []
    → map lent more ≡ map f (take (i + 1) rows)
keys_more f rows i keys more k row low at before is whole =
    ap (map lent) whole ∙ map_push lent keys k ∙ ap₂ (λ (l : List Cell) (c : Cell). l ++ c ∷ []) before (is ∙ ap f at) ∙ sym (map_more f rows i [] low)

pub columns_more : (outs : List Row) (keys : List (ℕ × Bool)) (i : ℕ) (d : ℕ × Bool) (columns more : List KeyColumn) (column : KeyColumn) → i < length keys → map seen columns ≡ map (keyed outs) (take i keys)
    → map lent column.values.items ≡ map (λ r. cell_at r (get_or keys i d).0) outs → column.descending ≡ (get_or keys i d).1 → more ≡ columns ++ column ∷ [] → map seen more ≡ map (keyed outs) (take (i + 1) keys)
columns_more outs keys i d columns more column low before values way whole =
    ap (map seen) whole
    ∙ map_push seen columns column
    ∙ ap₂ (λ (l : List Keyed) (x : Keyed). l ++ x ∷ []) before (ap₂ (λ (a : List Cell) (b : Bool). (a, b)) values way)
    ∙ sym (map_more (keyed outs) keys i d low)

pub length_rows : (s : ResultRows) → length (rows_in s) ≡ length s.places
length_rows s = length-map s.places (row_of_place s)
