-- Neighbouring rows of a set, and the cells that they hold in a column of symbols.
use Rattle.std.proofs.Common.{◌≡◌, ℕ, zero, suc, ◌+◌, ◌-◌, ◌<◌, ◌≤◌, true, eqb, List, [], ◌∷◌, Some, None, length, map, drop, take, get_or, slice_get, refl, sym, ap, ◌∙◌, arith, subst, All, inl, inr, true≢false}
use Rattle.std.specs.List.{slice_range}
use Rattle.std.proofs.lemmas.Bool.{cases_eq, cases_lt, cond-false, ne_eqb}
use Rattle.std.proofs.lemmas.List.{get_or-drop, get_or-map, get_or-take, get_or_past, length-drop, length-map, length-take}
use Rattle.std.proofs.lemmas.List.Elements.{All-append}
use Rattle.std.proofs.lemmas.Option.{get_or_from_slice_get, slice_get-get_or}
use Rattle.qd_base.specs.declared.cell.Cell.{Cell}
use Rattle.qd_base.specs.declared.cell.Cell.TheVariants as cell
use Rattle.qd_base.specs.declared.limits.TheConstants.{NULL_ID}
use Rattle.qd_base.specs.declared.schema.Col.{Col}
use Rattle.qd_base.specs.declared.schema.ColType.{ColType}
use Rattle.qd_base.specs.declared.schema.ColType.TheVariants as kind
use Rattle.qd_base.specs.Database.{missing}
use Rattle.qd_base.specs.Rows.{Row, cell_at}
use Rattle.qd_block.specs.Blocks.{column_in, kinds_in, IsWhole}
use Rattle.qd_block.proofs.RowLemmas.{got_there}
use Rattle.qd_column.specs.Cells.{CellsOf}
use Rattle.qd_column.specs.Symbols.{symbol_cell, IsIdOf}
use Rattle.qd_column.proofs.SymbolLemmas.{null_cell}
use Rattle.qd_column.proofs.RunLemmas.{map-append}
use Rattle.qd_expr.proofs.CellLemmas.{cell_absent, cell_left, cell_there, few_kinds, length-side, row_found, run_placed}
use Rattle.qd_keys.specs.Symbols.{is_symbol, IsSymbols}
use Rattle.qd_rows.specs.declared.runs.Run.{Run}
use Rattle.qd_rows.specs.Runs.{Spot, no_run, places_of_run, places_of_runs, run_at, AreRuns}
use Rattle.qd_rows.specs.Sets.{Joined, ResultRows, absent, alone, block_at, row_of_place, rows_in, side_row, IsPlaced, IsRunOf}
use Rattle.qd_rows.proofs.RunLemmas.{length-runs, place_in, run_within, HasPlace}
use Rattle.qd_rows.proofs.SetLemmas.{run_places}
use Rattle.qd_latest.specs.Chains.{block_of_row, cells_of, no_place, IsPart, LieInOneBlock}
use Rattle.qd_latest.specs.Walks.{cell_in, AreOfTexts, IsLastNull}
use Rattle.qd_latest.proofs.WalkLemmas.{text_some}

-- ---- where rows lie

abbrev single : Spot → Joined
single p = (p, None)

pub all_placed : (s : ResultRows) (runs : List Run) → s.right ≡ None → s.places ≡ alone (places_of_runs runs) → All (IsRunOf s) runs → All (IsPlaced s) s.places
all_placed s runs none places each = subst (All (IsPlaced s)) (sym places) (go runs each)
  where
    go : (runs : List Run) → All (IsRunOf s) runs → All (IsPlaced s) (alone (places_of_runs runs))
    go [] each = λ k d low. absurd (omega (arith, low))
    go (r ∷ rs) each =
        subst (All (IsPlaced s)) (sym (map-append (λ p. (p, None)) (places_of_run r) (places_of_runs rs)))
        (All-append (IsPlaced s) (alone (places_of_run r)) (alone (places_of_runs rs)) (run_places s.left s.right s.blocks r none (each 0 no_run (omega arith))) (go rs (λ k d low. each (suc k) d (omega (arith, low)))))

-- a part of a run
module _ (s : ResultRows) (runs : List Run) (places : s.places ≡ alone (places_of_runs runs)) (are : AreRuns 0 runs (length s.places)) (each : All (IsRunOf s) runs) (kr : ℕ) (there : kr < length runs) where
  pub part_of_run : (to : ℕ) (r : Run) → r.block ≡ (run_at runs kr).block → (run_at runs kr).before ≤ r.before → r.before < to → to ≤ (run_at runs kr).before + ((run_at runs kr).to - (run_at runs kr).from)
      → r.from ≡ (run_at runs kr).from + (r.before - (run_at runs kr).before) → r.to ≡ r.from + (to - r.before) → IsPart s r
  part_of_run to r block low some high first last = record { run = is_run; places = at }
    where
      is_run : IsRunOf s r
      is_run =
          let whole : IsRunOf s (run_at runs kr) = each kr no_run there in
          record {
            block = subst (λ b. b < length s.blocks) (sym block) whole.block;
            some = omega (arith, some, last);
            within = subst (λ b. r.to ≤ length (block_at s.blocks b).rows) (sym block) (omega (arith, whole.within, first, last, low, some, high, whole.some));
            kinds = subst (λ b. (block_at s.blocks b).kinds ≡ take (length (block_at s.blocks b).kinds) (kinds_in s.left)) (sym block) whole.kinds;
          }

      at : (k : ℕ) → k < r.to - r.from → slice_get s.places (r.before + k) ≡ Some ((r.block, r.from + k), None)
      at k less =
          let run : Run = run_at runs kr in
          let has : HasPlace runs kr (r.before + k) = record { there = there; first = omega (arith, low); last = omega (arith, less, last, high) } in
          let size = length-runs 0 (length s.places) runs are in
          let alike : length s.places ≡ length (places_of_runs runs) = omega (arith, size) in
          let fits : r.before + k < length (places_of_runs runs) = omega (arith, less, last, high, alike, ends) in
          let whole : r.before + k - 0 ≡ r.before + k = omega arith in
          let place : get_or (places_of_runs runs) (r.before + k) (0, 0) ≡ (run.block, run.from + (r.before + k - run.before)) = ap (λ n. get_or (places_of_runs runs) n (0, 0)) (sym whole) ∙ place_in 0 (length s.places) kr (r.before + k) runs (0, 0) are has in
          let row : run.from + (r.before + k - run.before) ≡ r.from + k = omega (arith, first, low) in
          ap (λ l. slice_get l (r.before + k)) places
          ∙ slice_get-get_or (alone (places_of_runs runs)) (r.before + k) no_place (subst (λ n. r.before + k < n) (sym (length-map (places_of_runs runs) single)) fits)
          ∙ ap Some (get_or-map single (places_of_runs runs) (r.before + k) (0, 0) no_place fits ∙ ap single (place ∙ ap (λ b. (b, run.from + (r.before + k - run.before))) (sym block) ∙ ap (λ n. (r.block, n)) row))
        where
          ends : (run_at runs kr).before + ((run_at runs kr).to - (run_at runs kr).from) ≤ length s.places
          ends = run_within 0 (length s.places) kr runs are there

pub part_size : (s : ResultRows) (r : Run) → IsPart s r → r.before + (r.to - r.from) ≤ length s.places
part_size s r part =
    let some : r.from < r.to = part.run.some in
    let last = got_there s.places (r.before + (r.to - r.from - 1)) ((r.block, r.from + (r.to - r.from - 1)), None) (part.places (r.to - r.from - 1) (omega (arith, some))) in
    omega (arith, some, last)

pub part_placed : (s : ResultRows) (r : Run) (k : ℕ) → IsPart s r → k < r.to - r.from → IsPlaced s ((r.block, r.from + k), None)
part_placed s r k part low = run_placed s r (r.from + k) part.run (omega arith) (omega (arith, low))

-- ---- the cell of a row in a column

symbol_is : (k : ColType) → is_symbol k ≡ true → k ≡ kind.Symbol
symbol_is kind.Symbol e = refl
symbol_is kind.Long e = cc
symbol_is kind.Bool e = cc
symbol_is kind.Varchar e = cc
symbol_is kind.Time e = cc

pub symbol_low : (kinds : List ColType) (at : ℕ) → is_symbol (get_or kinds at kind.Time) ≡ true → at < length kinds
symbol_low kinds at e = elim (cases_lt at (length kinds)) [
  | inl less ↦ less
  | inr high ↦ absurd (true≢false (sym e ∙ ap is_symbol (get_or_past kinds at kind.Time high)))
]

module _ (s : ResultRows) (at i : ℕ) (p : Joined) (found : slice_get s.places i ≡ Some p) (there : IsPlaced s p) (whole : IsWhole (block_at s.blocks p.0.0)) where
  cell_seen : cell_in (cells_of s at) i ≡ cell_at (row_of_place s p) at
  cell_seen = get_or-map (λ r. cell_at r at) (rows_in s) i [] cell.Null (omega (arith, got_there s.places i p found, length-map s.places (row_of_place s))) ∙ ap (λ (r : Row). cell_at r at) (row_found s i p found)

  cell_beside : at < length s.left → cell_in (cells_of s at) i ≡ cell_at (side_row s.blocks s.left (Some p.0)) at
  cell_beside low = cell_seen ∙ sym (cell_left s p at (length s.left) (length-side s.blocks s.left p.0 there.left whole) low)

  pub cell_present : at < length (block_at s.blocks p.0.0).kinds → cell_in (cells_of s at) i ≡ cell_in (column_in (block_at s.blocks p.0.0) at).cells p.0.1
  cell_present low =
      let few = few_kinds (block_at s.blocks p.0.0).kinds s.left there.left.kinds in
      cell_beside (omega (arith, low, few)) ∙ sym (cell_there s.blocks s.left p.0 at there.left whole low)

  pub cell_lacking : IsSymbols s.left at → length (block_at s.blocks p.0.0).kinds ≤ at → cell_in (cells_of s at) i ≡ cell.Null
  cell_lacking symbols high =
      cell_beside (let low = symbol_low (kinds_in s.left) at symbols in omega (arith, low, length-map s.left (λ (c : Col). c.kind)))
      ∙ sym (cell_absent s.blocks s.left p.0 at there.left whole high) ∙ absent_is s.left at symbols
    where
      absent_is : (cols : List Col) (k : ℕ) → IsSymbols cols k → cell_at (absent cols) k ≡ cell.Null
      absent_is [] k e = refl
      absent_is (c ∷ cs) zero e = ap missing (symbol_is c.kind e)
      absent_is (c ∷ cs) (suc k) e = absent_is cs k e

pub row_there : (s : ResultRows) (at : ℕ) (p : Joined) → IsPlaced s p → p.0.1 < length (column_in (block_at s.blocks p.0.0) at).cells
row_there s at p there = omega (arith, there.left.row, length-map (block_at s.blocks p.0.0).rows (λ (r : Row). cell_at r at))

-- the kind of a column in a block of which a row is there
pub kind_there : (s : ResultRows) (at b : ℕ) → (block_at s.blocks b).kinds ≡ take (length (block_at s.blocks b).kinds) (kinds_in s.left) → IsSymbols s.left at → at < length (block_at s.blocks b).kinds → (column_in (block_at s.blocks b) at).kind ≡ kind.Symbol
kind_there s at b kinds symbols low =
    symbol_is (get_or (block_at s.blocks b).kinds at kind.Time)
    (ap (λ (ks : List ColType). is_symbol (get_or ks at kind.Time)) kinds ∙ ap is_symbol (get_or-take (length (block_at s.blocks b).kinds) (kinds_in s.left) at kind.Time low) ∙ symbols)

-- the cells of neighbours
module _ (s : ResultRows) (r : Run) (at : ℕ) (part : IsPart s r) (whole : IsWhole (block_at s.blocks r.block)) where
  pub part_present : at < length (block_at s.blocks r.block).kinds → (k : ℕ) → k < r.to - r.from → cell_in (cells_of s at) (r.before + k) ≡ cell_in (column_in (block_at s.blocks r.block) at).cells (r.from + k)
  part_present low k less = cell_present s at (r.before + k) ((r.block, r.from + k), None) (part.places k less) (part_placed s r k part less) whole low

  pub part_lacking : IsSymbols s.left at → length (block_at s.blocks r.block).kinds ≤ at → (k : ℕ) → k < r.to - r.from → cell_in (cells_of s at) (r.before + k) ≡ cell.Null
  part_lacking symbols high k less = cell_lacking s at (r.before + k) ((r.block, r.from + k), None) (part.places k less) (part_placed s r k part less) whole symbols high

pub part_within : (s : ResultRows) (r : Run) (at : ℕ) → IsPart s r → r.to ≤ length (column_in (block_at s.blocks r.block) at).cells
part_within s r at part = omega (arith, part.run.within, length-map (block_at s.blocks r.block).rows (λ (row : Row). cell_at row at))

-- neighbours lie in one block
pub part_lies : (s : ResultRows) (r : Run) (at to : ℕ) → s.right ≡ None → IsPart s r → r.before + (r.to - r.from) ≡ to → IsSymbols s.left at → at < length (block_at s.blocks r.block).kinds → LieInOneBlock s r.before to at
part_lies s r at to none part ends symbols low = record {
  single = none;
  some = omega (arith, part.run.some, ends);
  within = let h = part_size s r part in omega (arith, h, ends);
  block = λ i from less. (let k : i - r.before < r.to - r.from = omega (arith, from, less, ends) in let e : r.before + (i - r.before) ≡ i = omega (arith, from) in sym (ap (block_of_row s) e) ∙ in_block (i - r.before) k) ∙ sym first;
  symbols = ap (λ b. slice_get (block_at s.blocks b).kinds at) first ∙ slice_get-get_or (block_at s.blocks r.block).kinds at kind.Time low ∙ ap Some (kind_there s at r.block part.run.kinds symbols low);
}
  where
    in_block : (k : ℕ) → k < r.to - r.from → block_of_row s (r.before + k) ≡ r.block
    in_block k less = ap (λ (p : Joined). p.0.0) (get_or_from_slice_get s.places (r.before + k) ((r.block, r.from + k), None) no_place (part.places k less))

    first : block_of_row s r.before ≡ r.block
    first = let e : r.before + 0 ≡ r.before = omega arith in sym (ap (block_of_row s) e) ∙ in_block 0 (omega (arith, part.run.some))

pub part_block : (s : ResultRows) (r : Run) (i : ℕ) → IsPart s r → r.before ≤ i → i < r.before + (r.to - r.from) → block_of_row s i ≡ r.block
part_block s r i part low high =
    let k : i - r.before < r.to - r.from = omega (arith, low, high) in
    let e : r.before + (i - r.before) ≡ i = omega (arith, low) in
    sym (ap (block_of_row s) e) ∙ ap (λ (p : Joined). p.0.0) (get_or_from_slice_get s.places (r.before + (i - r.before)) ((r.block, r.from + (i - r.before)), None) no_place (part.places (i - r.before) k))

-- ---- ids and the cells that they stand for

pub ids_hold : (texts : List (List ℕ)) (cells : List Cell) (ids : List ℕ) (from to : ℕ) → cells ≡ map (symbol_cell texts) ids → to ≤ length cells → (k : ℕ) → k < to - from → cell_in cells (from + k) ≡ symbol_cell texts (get_or (slice_range ids from to) k 0)
ids_hold texts cells ids from to is within k low =
    ap (λ (l : List Cell). get_or l (from + k) cell.Null) is
    ∙ get_or-map (symbol_cell texts) ids (from + k) 0 cell.Null (omega (arith, low, within, ap length is, length-map ids (symbol_cell texts)))
    ∙ ap (symbol_cell texts) (sym (get_or-take (to - from) (drop from ids) k 0 low ∙ get_or-drop from ids k 0))

pub of_texts : (texts : List (List ℕ)) (cells : List Cell) (ids : List ℕ) → cells ≡ map (symbol_cell texts) ids → All (IsIdOf texts) ids → AreOfTexts texts cells 0 (length cells)
of_texts texts cells ids is each i low high =
    let there : i < length ids = omega (arith, high, ap length is, length-map ids (symbol_cell texts)) in
    let held : cell_in cells i ≡ symbol_cell texts (get_or ids i 0) = ap (λ (l : List Cell). get_or l i cell.Null) is ∙ get_or-map (symbol_cell texts) ids i 0 cell.Null there in
    elim (cases_eq (get_or ids i 0) NULL_ID) [
      | inl none ↦ inl (held ∙ ap (symbol_cell texts) none ∙ null_cell texts)
      | inr some ↦ elim (each i 0 there) [
        | inl none ↦ absurd (some none)
        | inr fits ↦ inr (get_or ids i 0, fits, held ∙ cond-false (eqb (get_or ids i 0) NULL_ID) cell.Null (cell.Text (get_or texts (get_or ids i 0) [])) (ne_eqb (get_or ids i 0) NULL_ID some))
      ]
    ]

id_cell : (texts : List (List ℕ)) (id : ℕ) → (id ≡ NULL_ID → ⊥) → symbol_cell texts id ≡ cell.Null → ⊥
id_cell texts id some e = text_some (symbol_cell texts id) (get_or texts id []) (cond-false (eqb id NULL_ID) cell.Null (cell.Text (get_or texts id [])) (ne_eqb id NULL_ID some)) e

-- the last NULL of neighbours, by the last id
module _ (cells : List Cell) (texts : List (List ℕ)) (ids : List ℕ) (from to : ℕ) (size : from + length ids ≡ to) (hold : (k : ℕ) → k < length ids → cell_in cells (from + k) ≡ symbol_cell texts (get_or ids k 0)) where
  at_place : (k : ℕ) → from ≤ k → from + (k - from) ≡ k
  at_place k low = omega (arith, low)

  pub no_null : ((k : ℕ) → k < length ids → get_or ids k 0 ≡ NULL_ID → ⊥) → IsLastNull cells from to None
  no_null none = record {
    some = λ i e. cc;
    none = λ e k low high null. let less : k - from < length ids = omega (arith, size, low, high) in id_cell texts (get_or ids (k - from) 0) (none (k - from) less) (sym (hold (k - from) less) ∙ ap (cell_in cells) (at_place k low) ∙ null);
  }

  pub one_null : (p : ℕ) → p < length ids → get_or ids p 0 ≡ NULL_ID → ((k : ℕ) → p < k → k < length ids → get_or ids k 0 ≡ NULL_ID → ⊥) → IsLastNull cells from to (Some (from + p))
  one_null p low is behind = record {
    some = λ i e. let same : from + p ≡ i = cc in subst (λ n. (from ≤ n) × (n < to) × (cell_in cells n ≡ cell.Null) × ((k : ℕ) → n < k → k < to → cell_in cells k ≡ cell.Null → ⊥)) same (
      omega arith,
      omega (arith, size, low),
      hold p low ∙ ap (symbol_cell texts) is ∙ null_cell texts,
      λ k after high null.
          let less : k - from < length ids = omega (arith, size, after, high) in
          id_cell texts (get_or ids (k - from) 0) (behind (k - from) (omega (arith, after)) less) (sym (hold (k - from) less) ∙ ap (cell_in cells) (at_place k (omega (arith, after))) ∙ null),
    );
    none = λ e. cc;
  }

pub all_null : (cells : List Cell) (from n to : ℕ) → from + n ≡ to → 0 < n → ((k : ℕ) → k < n → cell_in cells (from + k) ≡ cell.Null) → IsLastNull cells from to (Some (to - 1))
all_null cells from n to size some hold = record {
  some = λ i e. let same : to - 1 ≡ i = cc in subst (λ m. (from ≤ m) × (m < to) × (cell_in cells m ≡ cell.Null) × ((k : ℕ) → m < k → k < to → cell_in cells k ≡ cell.Null → ⊥)) same
      (omega (arith, size, some), omega (arith, size, some), (let at : from + (n - 1) ≡ to - 1 = omega (arith, size, some) in ap (cell_in cells) (sym at) ∙ hold (n - 1) (omega (arith, some))), λ k after high null. absurd (omega (arith, after, high)));
  none = λ e. cc;
}

-- ---- the rows of a block that are linked

module _ (s : ResultRows) (from to col : ℕ) (lies : LieInOneBlock s from to col) (whole : IsWhole (block_at s.blocks (block_of_row s from))) (column : CellsOf) (is : column ≡ column_in (block_at s.blocks (block_of_row s from)) col) where
  pub col_low : col < length (block_at s.blocks (block_of_row s from)).kinds
  col_low = got_there (block_at s.blocks (block_of_row s from)).kinds col kind.Symbol lies.symbols

  module _ (r : Run) (part : IsPart s r) (end : ℕ) (begins : from ≤ r.before) (ends : r.before + (r.to - r.from) ≡ end) (within : end ≤ to) where
    same_block : r.block ≡ block_of_row s from
    same_block = sym (part_block s r r.before part (omega arith) (omega (arith, part.run.some))) ∙ lies.block r.before begins (omega (arith, part.run.some, ends, within))

    pub rows_within : r.to ≤ length column.cells
    rows_within = subst (λ (c : CellsOf). r.to ≤ length c.cells) (ap (λ b. column_in (block_at s.blocks b) col) same_block ∙ sym is) (part_within s r col part)

    pub rows_hold : (k : ℕ) → k < r.to - r.from → cell_in (slice_range (cells_of s col) from to) (r.before - from + k) ≡ cell_in column.cells (r.from + k)
    rows_hold k low =
        let place : from + (r.before - from + k) ≡ r.before + k = omega (arith, begins) in
        get_or-take (to - from) (drop from (cells_of s col)) (r.before - from + k) cell.Null (omega (arith, low, begins, ends, within)) ∙ get_or-drop from (cells_of s col) (r.before - from + k) cell.Null
        ∙ ap (cell_in (cells_of s col)) place
        ∙ part_present s r col part (subst (λ b. IsWhole (block_at s.blocks b)) (sym same_block) whole) (subst (λ b. col < length (block_at s.blocks b).kinds) (sym same_block) col_low) k low
        ∙ ap (λ b. cell_in (column_in (block_at s.blocks b) col).cells (r.from + k)) same_block ∙ ap (λ (c : CellsOf). cell_in c.cells (r.from + k)) (sym is)

  pub size : length (slice_range (cells_of s col) from to) ≡ to - from
  size = omega (arith, length-take (to - from) (drop from (cells_of s col)), length-drop from (cells_of s col), length-map (rows_in s) (λ r. cell_at r col), length-map s.places (row_of_place s), lies.within)

pub length-cells : (s : ResultRows) (col : ℕ) → length (cells_of s col) ≡ length s.places
length-cells s col = length-map (rows_in s) (λ r. cell_at r col) ∙ length-map s.places (row_of_place s)
