-- Cells and rows that are added to columns.
use Rattle.std.proofs.Common.{◌≡◌, ◌≢◌, ℕ, zero, suc, ◌+◌, ◌<◌, inl, inr, List, [], ◌∷◌, ◌++◌, Some, length, map, take, get_or, set, refl, sym, ap, ◌∙◌, arith, slice_get, subst, length-append}
use Rattle.std.specs.List.{AllByRecursion}
use Rattle.std.proofs.lemmas.Bool.Decides.{eqb_tells}
use Rattle.std.proofs.lemmas.List.{get_or-map, length-map, get_or-set_same, get_or-set_other, get_or_append_left, get_or_push, take_more, take_all, length-take-le}
use Rattle.std.proofs.Math.Seq.{map-set_same}
use Rattle.qd_base.specs.declared.cell.Cell.{Cell}
use Rattle.qd_base.specs.declared.cell.Cell.TheVariants as cell
use Rattle.qd_base.specs.declared.schema.ColType.{ColType}
use Rattle.qd_base.specs.Rows.{Row, cell_at}
use Rattle.qd_base.proofs.Lists.{each-append}
use Rattle.qd_column.specs.Cells.{CellsOf, cell_of_row, with_cell}
use Rattle.qd_block.specs.Blocks.{Building, building_of, with_open, row_at, rows_of, kinds_of, IsTimed, IsBuilding}
use Rattle.qd_block.proofs.RowLemmas.{rows_same, rows_more, cell_at-row_at, got_there}

-- the column that the next cell goes into
pub next_col : (n filled time_col : ℕ) (columns : List CellsOf) → IsBuilding n filled time_col columns → length (take filled (row_at columns n)) ≡ filled
next_col n filled time_col columns b = length-take-le filled (row_at columns n) (omega (arith, length-map columns (λ (c : CellsOf). cell_of_row c n), b.within))

pub next_there : (n filled time_col : ℕ) (columns : List CellsOf) (b : Building) (k : ColType) → building_of n filled time_col columns ≡ b → IsBuilding n filled time_col columns → slice_get b.kinds (length b.open_row) ≡ Some k → filled < length columns
next_there n filled time_col columns b k view is got =
    let next : length b.open_row ≡ filled = ap (λ (x : Building). length x.open_row) (sym view) ∙ next_col n filled time_col columns is in
    let there : length b.open_row < length b.kinds = got_there b.kinds (length b.open_row) k got in
    let size : length b.kinds ≡ length columns = ap (λ (x : Building). length x.kinds) (sym view) ∙ length-map columns (λ (c : CellsOf). c.kind) in
    omega arith

-- rows before a cell that is added are as they were
cell_before : (c : CellsOf) (x : Cell) (i : ℕ) → i < length c.cells → cell_of_row (with_cell c x) i ≡ cell_of_row c i
cell_before c x i h = get_or_append_left c.cells (x ∷ []) cell.Null i h

take_kept : (f : CellsOf → Cell) (k : ℕ) (columns : List CellsOf) (c : CellsOf) → take k (map f (set columns k c)) ≡ take k (map f columns)
take_kept f zero columns c = refl
take_kept f (suc k) [] c = refl
take_kept f (suc k) (x ∷ xs) c = ap (λ (r : Row). f x ∷ r) (take_kept f k xs c)

length-set : (columns : List CellsOf) (k : ℕ) (c : CellsOf) → length (set columns k c) ≡ length columns
length-set [] k c = refl
length-set (x ∷ xs) zero c = refl
length-set (x ∷ xs) (suc k) c = ap suc (length-set xs k c)

module _ (n filled time_col : ℕ) (columns : List CellsOf) (c : CellsOf) (x : Cell) (d : CellsOf) (is : IsBuilding n filled time_col columns) (there : filled < length columns) (added : c ≡ with_cell (get_or columns filled d) x) where
  size_before : length (get_or columns filled d).cells ≡ n
  size_before = is.others filled d (omega arith) there

  row_kept : (i : ℕ) → i < n → row_at (set columns filled c) i ≡ row_at columns i
  row_kept i h = map-set_same (λ (c : CellsOf). cell_of_row c i) columns filled c d (ap (λ (c : CellsOf). cell_of_row c i) added ∙ cell_before (get_or columns filled d) x i (omega (arith, size_before)))

  rows_kept : rows_of n (set columns filled c) ≡ rows_of n columns
  rows_kept = rows_same n (set columns filled c) columns row_kept

  kinds_same : kinds_of (set columns filled c) ≡ kinds_of columns
  kinds_same = map-set_same (λ (c : CellsOf). c.kind) columns filled c d (ap (λ (c : CellsOf). c.kind) added)

  new_cell : cell_of_row (get_or (set columns filled c) filled d) n ≡ x
  new_cell = ap (λ (c : CellsOf). cell_of_row c n) (get_or-set_same columns filled c d there ∙ added) ∙ get_or_push (get_or columns filled d).cells x cell.Null n size_before

  open_more : take (filled + 1) (row_at (set columns filled c) n) ≡ take filled (row_at columns n) ++ x ∷ []
  open_more =
      let f : CellsOf → Cell = λ c. cell_of_row c n in
      let more : filled < length (set columns filled c) = omega (arith, length-set columns filled c) in
      take_more (row_at (set columns filled c) n) filled cell.Null (omega (arith, length-map (set columns filled c) f))
      ∙ ap (λ (r : Row). r ++ get_or (row_at (set columns filled c) n) filled cell.Null ∷ []) (take_kept f filled columns c)
      ∙ ap (λ (y : Cell). take filled (row_at columns n) ++ y ∷ []) (get_or-map f (set columns filled c) filled d cell.Null more ∙ new_cell)

  pub cell_added : building_of n (filled + 1) time_col (set columns filled c) ≡ with_open (building_of n filled time_col columns) x
  cell_added =
      ap (λ (ks : List ColType). record { kinds = ks; time_col = time_col; rows = rows_of n (set columns filled c); open_row = take (filled + 1) (row_at (set columns filled c) n) }) kinds_same
      ∙ ap (λ (rs : List Row). record { kinds = kinds_of columns; time_col = time_col; rows = rs; open_row = take (filled + 1) (row_at (set columns filled c) n) }) rows_kept
      ∙ ap (λ (r : Row). record { kinds = kinds_of columns; time_col = time_col; rows = rows_of n columns; open_row = r }) open_more

  timed_still : (filled ≡ time_col → x ≢ cell.Null) → time_col < filled + 1 → IsTimed time_col (row_at (set columns filled c) n)
  timed_still some low =
      let designated : time_col < length columns = omega arith in
      let more : time_col < length (set columns filled c) = omega (arith, length-set columns filled c) in
      let at : cell_at (row_at (set columns filled c) n) time_col ≡ cell_of_row (get_or (set columns filled c) time_col d) n = cell_at-row_at (set columns filled c) n time_col d more in
      elim (eqb_tells filled time_col) [
        | inl same ↦
            (λ null. some same.1 (sym (ap (λ (k : ℕ). cell_of_row (get_or (set columns filled c) k d) n) (sym same.1) ∙ new_cell) ∙ sym at ∙ null))
        | inr other ↦
            (λ null. is.open_timed (let apart : filled ≢ time_col = other.1 in omega arith) (cell_at-row_at columns n time_col d designated ∙ ap (λ (c : CellsOf). cell_of_row c n) (sym (get_or-set_other columns filled time_col c d (λ e. other.1 (sym e)))) ∙ sym at ∙ null))
      ]

  pub building_still : (filled ≡ time_col → x ≢ cell.Null) → IsBuilding n (filled + 1) time_col (set columns filled c)
  building_still some = record {
    begun = λ k e h. elim (eqb_tells k filled) [
      | inl same ↦ (let at : get_or (set columns filled c) k e ≡ c = ap (λ (j : ℕ). get_or (set columns filled c) j e) same.1 ∙ get_or-set_same columns filled c e there in ap (λ (c : CellsOf). length c.cells) (at ∙ added) ∙ omega (arith, length-append (get_or columns filled d).cells (x ∷ []), size_before))
      | inr other ↦ (let low : k < filled = (let apart : k ≢ filled = other.1 in omega arith) in ap (λ (c : CellsOf). length c.cells) (get_or-set_other columns filled k c e other.1) ∙ is.begun k e low)
    ];
    others = λ k e low h. ap (λ (c : CellsOf). length c.cells) (get_or-set_other columns filled k c e (λ same. absurd (omega arith))) ∙ is.others k e (omega arith) (omega (arith, length-set columns filled c));
    within = omega (arith, length-set columns filled c);
    few = omega (arith, length-set columns filled c, is.few);
    designated = ap (λ (ks : List ColType). slice_get ks time_col) kinds_same ∙ is.designated;
    timed = subst (λ (rs : List Row). AllByRecursion (IsTimed time_col) rs) (sym rows_kept) is.timed;
    open_timed = timed_still some;
  }

-- a whole row is ended
pub row_ended : (n m filled time_col : ℕ) (columns : List CellsOf) (b : Building) → IsBuilding n filled time_col columns → building_of n filled time_col columns ≡ b → length b.open_row ≡ length b.kinds → m ≡ n + 1 → IsBuilding m 0 time_col columns × (building_of m 0 time_col columns ≡ record b { rows = b.rows ++ b.open_row ∷ []; open_row = [] })
row_ended n m filled time_col columns b is view whole next =
    let full : filled ≡ length columns = sym (next_col n filled time_col columns is) ∙ ap (λ (x : Building). length x.open_row) view ∙ whole ∙ ap (λ (x : Building). length x.kinds) (sym view) ∙ length-map columns (λ (c : CellsOf). c.kind) in
    let size : length (row_at columns n) ≡ length columns = length-map columns (λ (c : CellsOf). cell_of_row c n) in
    let row : take filled (row_at columns n) ≡ row_at columns n = take_all filled (row_at columns n) (omega arith) in
    let rows : rows_of m columns ≡ rows_of n columns ++ take filled (row_at columns n) ∷ [] = ap (λ (k : ℕ). rows_of k columns) next ∙ rows_more n columns ∙ ap (λ (r : Row). rows_of n columns ++ r ∷ []) (sym row) in
    let there : time_col < length columns = omega (arith, got_there (kinds_of columns) time_col _ is.designated, length-map columns (λ (c : CellsOf). c.kind)) in
    let timed : IsTimed time_col (take filled (row_at columns n)) = subst (IsTimed time_col) (sym row) (is.open_timed (omega arith)) in (
      record {
        begun = λ k d h. absurd (omega arith);
        others = λ k d low h. is.begun k d (omega arith) ∙ sym next;
        within = omega arith;
        few = is.few;
        designated = is.designated;
        timed = subst (λ (rs : List Row). AllByRecursion (IsTimed time_col) rs) (sym rows) (each-append (IsTimed time_col) (rows_of n columns) (take filled (row_at columns n) ∷ []) is.timed (timed, tt));
        open_timed = λ h. absurd (omega arith);
      },
      ap (λ (rs : List Row). record { kinds = kinds_of columns; time_col = time_col; rows = rs; open_row = [] }) rows ∙ ap (λ (x : Building). record x { rows = x.rows ++ x.open_row ∷ []; open_row = [] }) view,
    )
