-- The symbols of a set's rows, and where their texts stand among names.
use Rattle.std.proofs.Common.{◌≡◌, ℕ, zero, suc, ◌+◌, ◌-◌, ◌<◌, ◌≤◌, true, false, eqb, List, [], ◌∷◌, ◌++◌, Some, length, map, take, get_or, refl, sym, ap, ap₂, ◌∙◌, arith, subst, inl, inr, length-append, slice_get}
use Rattle.std.specs.List.{flat_map}
use Rattle.std.proofs.lemmas.Bool.{cases_lt, cond-true, cond-false, eq-eqb, ne_eqb, true≢false}
use Rattle.std.proofs.lemmas.List.{get_or_append_left, get_or-append_right, get_or-map, get_or-take, get_or_past, get_or_push, append-nil, append_assoc, length-map, map_more, take_all, take_more}
use Rattle.std.proofs.lemmas.Grind.{flat_map-append}
use Rattle.std.proofs.lemmas.Option.{get_or_from_slice_get}
use Rattle.qd_base.specs.declared.cell.Cell.{Cell}
use Rattle.qd_base.specs.declared.cell.Cell.TheVariants as cell
use Rattle.qd_base.specs.declared.limits.TheConstants.{NULL_ID}
use Rattle.qd_base.specs.declared.schema.Col.{Col}
use Rattle.qd_base.specs.declared.schema.ColType.{ColType}
use Rattle.qd_base.specs.declared.schema.ColType.TheVariants as kind
use Rattle.qd_base.specs.Database.{missing}
use Rattle.qd_base.specs.Rows.{Row, cell_at}
use Rattle.qd_block.specs.Blocks.{Block, column_in, kinds_in, IsWhole}
use Rattle.qd_block.proofs.RowLemmas.{got_there}
use Rattle.qd_column.specs.Cells.{cell_of_row}
use Rattle.qd_column.specs.Symbols.{symbol_cell, texts_in, IsIdOf}
use Rattle.qd_expr.specs.Passing.{row_in}
use Rattle.qd_expr.proofs.CellLemmas.{block_found, cell_absent, cell_left, cell_there, length-side, row_found}
use Rattle.qd_rows.specs.Sets.{Joined, ResultRows, absent, block_at, no_block, side_row, IsPlaced}
use Rattle.qd_group.specs.Grouping.{AreGroups}
use Rattle.qd_keys.specs.Keys.{same_in}
use Rattle.qd_keys.specs.Symbols.{is_symbol, names_at, number_of, texts_at, AreStarts, IsSymbols}
use Rattle.qd_keys.proofs.SymbolLemmas.{name_number}

-- ---- where texts begin

pub starts_none : (blocks : List Block) (at : ℕ) (names : List Cell) → AreStarts 0 blocks at names []
starts_none blocks at names = record { count = refl; within = λ b id low there. absurd (omega arith); text = λ b id low there. absurd (omega arith) }

pub starts_kept : (n : ℕ) (blocks : List Block) (at : ℕ) (names more rest : List Cell) (starts : List ℕ) → more ≡ names ++ rest → AreStarts n blocks at names starts → AreStarts n blocks at more starts
starts_kept n blocks at names more rest starts is are = subst (λ (l : List Cell). AreStarts n blocks at l starts) (sym is) (record {
  count = are.count;
  within = λ b id low there. let h = are.within b id low there in omega (arith, h, length-append names rest);
  text = λ b id low there. get_or_append_left names rest cell.Null (get_or starts b 0 + id) (are.within b id low there) ∙ are.text b id low there;
})

module _ (n : ℕ) (blocks : List Block) (at : ℕ) (names more : List Cell) (starts more_starts : List ℕ) (is : more ≡ names ++ names_at at (block_at blocks n)) (start_is : more_starts ≡ starts ++ length names ∷ [])
    (are : AreStarts n blocks at names starts) where
  old_start : (b : ℕ) → b < n → get_or more_starts b 0 ≡ get_or starts b 0
  old_start b low = ap (λ (l : List ℕ). get_or l b 0) start_is ∙ get_or_append_left starts (length names ∷ []) 0 b (omega (arith, are.count))

  new_start : get_or more_starts n 0 ≡ length names
  new_start = ap (λ (l : List ℕ). get_or l n 0) start_is ∙ get_or_push starts (length names) 0 n are.count

  add_less : (a b : ℕ) → a + b - a ≡ b
  add_less a b = omega arith

  size : length more ≡ length names + length (texts_at at (block_at blocks n))
  size = ap length is ∙ length-append names (names_at at (block_at blocks n)) ∙ ap (λ k. length names + k) (length-map (texts_at at (block_at blocks n)) (λ t. cell.Text t))

  within_more : (b id : ℕ) → b < n + 1 → id < length (texts_at at (block_at blocks b)) → get_or more_starts b 0 + id < length more
  within_more b id low there = elim (cases_lt b n) [
    | inl less ↦ let h = are.within b id less there in let e = old_start b less in omega (arith, h, e, size)
    | inr high ↦
        (let here : b ≡ n = omega arith in
        let low_id : id < length (texts_at at (block_at blocks n)) = subst (λ k. id < length (texts_at at (block_at blocks k))) here there in
        subst (λ k. get_or more_starts k 0 + id < length more) (sym here) (omega (arith, new_start, size, low_id)))
  ]

  new_text : (id : ℕ) → id < length (texts_at at (block_at blocks n)) → get_or more (get_or more_starts n 0 + id) cell.Null ≡ cell.Text (get_or (texts_at at (block_at blocks n)) id [])
  new_text id low =
      ap₂ (λ (l : List Cell) (k : ℕ). get_or l (k + id) cell.Null) is new_start
      ∙ get_or-append_right names (names_at at (block_at blocks n)) (length names) (length names + id) cell.Null refl (omega arith)
      ∙ ap (λ k. get_or (names_at at (block_at blocks n)) k cell.Null) (add_less (length names) id)
      ∙ get_or-map (λ t. cell.Text t) (texts_at at (block_at blocks n)) id [] cell.Null low

  text_more : (b id : ℕ) → b < n + 1 → id < length (texts_at at (block_at blocks b)) → get_or more (get_or more_starts b 0 + id) cell.Null ≡ cell.Text (get_or (texts_at at (block_at blocks b)) id [])
  text_more b id low there = elim (cases_lt b n) [
    | inl less ↦
        ap₂ (λ (l : List Cell) (k : ℕ). get_or l (k + id) cell.Null) is (old_start b less)
        ∙ get_or_append_left names (names_at at (block_at blocks n)) cell.Null (get_or starts b 0 + id) (are.within b id less there)
        ∙ are.text b id less there
    | inr high ↦
        (let here : b ≡ n = omega arith in
        let low_id : id < length (texts_at at (block_at blocks n)) = subst (λ k. id < length (texts_at at (block_at blocks k))) here there in
        subst (λ k. get_or more (get_or more_starts k 0 + id) cell.Null ≡ cell.Text (get_or (texts_at at (block_at blocks k)) id [])) (sym here) (new_text id low_id))
  ]

  pub starts_more : AreStarts (n + 1) blocks at more more_starts
  starts_more = record { count = omega (arith, ap length start_is, length-append starts (length names ∷ []), are.count); within = within_more; text = text_more }

-- ---- the cell of a row

pub symbol_is : (k : ColType) → is_symbol k ≡ true → k ≡ kind.Symbol
symbol_is kind.Symbol e = refl
symbol_is kind.Long e = cc
symbol_is kind.Bool e = cc
symbol_is kind.Varchar e = cc
symbol_is kind.Time e = cc

symbol_low : (kinds : List ColType) (at : ℕ) → is_symbol (get_or kinds at kind.Time) ≡ true → at < length kinds
symbol_low kinds at e = elim (cases_lt at (length kinds)) [
  | inl less ↦ less
  | inr high ↦ absurd (true≢false (sym e ∙ ap is_symbol (get_or_past kinds at kind.Time high)))
]

-- ---- texts one after another

pub texts_begun : (old : List Cell) (texts : List (List ℕ)) → old ≡ old ++ map (λ t. cell.Text t) (take 0 texts)
texts_begun old texts = sym (append-nil old)

pub texts_more : (old cells more : List Cell) (texts : List (List ℕ)) (id : ℕ) (t : List ℕ) → slice_get texts id ≡ Some t → more ≡ cells ++ cell.Text t ∷ [] → cells ≡ old ++ map (λ x. cell.Text x) (take id texts) → more ≡ old ++ map (λ x. cell.Text x) (take (id + 1) texts)
texts_more old cells more texts id t found is are =
    is ∙ ap (λ (l : List Cell). l ++ cell.Text t ∷ []) are ∙ append_assoc old (map (λ x. cell.Text x) (take id texts)) (cell.Text t ∷ [])
    ∙ ap (λ (l : List Cell). old ++ l) (ap (λ (x : List ℕ). map (λ x. cell.Text x) (take id texts) ++ cell.Text x ∷ []) (sym (get_or_from_slice_get texts id t [] found)) ∙ sym (map_more (λ x. cell.Text x) texts id [] (got_there texts id t found)))

pub texts_done : (old cells : List Cell) (texts : List (List ℕ)) (id : ℕ) → length texts ≤ id → cells ≡ old ++ map (λ x. cell.Text x) (take id texts) → cells ≡ old ++ map (λ x. cell.Text x) texts
texts_done old cells texts id done are = are ∙ ap (λ (ts : List (List ℕ)). old ++ map (λ x. cell.Text x) ts) (take_all id texts done)

module _ (at : ℕ) (blocks : List Block) where
  pub names_begun : (old : List Cell) → old ≡ old ++ flat_map (names_at at) (take 0 blocks)
  names_begun old = sym (append-nil old)

  pub names_more : (old cells more : List Cell) (b : ℕ) → b < length blocks → more ≡ cells ++ names_at at (block_at blocks b) → cells ≡ old ++ flat_map (names_at at) (take b blocks) → more ≡ old ++ flat_map (names_at at) (take (b + 1) blocks)
  names_more old cells more b low is are =
      is ∙ ap (λ (l : List Cell). l ++ names_at at (block_at blocks b)) are ∙ append_assoc old (flat_map (names_at at) (take b blocks)) (names_at at (block_at blocks b))
      ∙ ap (λ (l : List Cell). old ++ l) (sym (ap (flat_map (names_at at)) (take_more blocks b no_block low) ∙ flat_map-append (names_at at) (take b blocks) (block_at blocks b ∷ []) ∙ ap (λ (l : List Cell). flat_map (names_at at) (take b blocks) ++ l) (append-nil (names_at at (block_at blocks b)))))

  pub names_done : (old cells : List Cell) (b : ℕ) → length blocks ≤ b → cells ≡ old ++ flat_map (names_at at) (take b blocks) → cells ≡ old ++ flat_map (names_at at) blocks
  names_done old cells b done are = are ∙ ap (λ (bs : List Block). old ++ flat_map (names_at at) bs) (take_all b blocks done)

-- whether a column holds symbols, and what texts a block has in it
pub kind_at : (cols : List Col) (at : ℕ) (d : Col) → at < length cols → is_symbol (get_or cols at d).kind ≡ is_symbol (get_or (kinds_in cols) at kind.Time)
kind_at cols at d low = ap is_symbol (sym (get_or-map (λ (c : Col). c.kind) cols at d kind.Time low))

pub no_kind : (cols : List Col) (at : ℕ) → length cols ≤ at → is_symbol (get_or (kinds_in cols) at kind.Time) ≡ false
no_kind cols at high = ap is_symbol (get_or_past (kinds_in cols) at kind.Time (omega (arith, length-map cols (λ (c : Col). c.kind))))

module _ (at : ℕ) (x : Block) where
  pub symbol_names : is_symbol (column_in x at).kind ≡ true → names_at at x ≡ map (λ t. cell.Text t) (texts_in (column_in x at).cells)
  symbol_names e = ap (map (λ t. cell.Text t)) (cond-true (is_symbol (column_in x at).kind) (texts_in (column_in x at).cells) [] e)

  pub other_names : is_symbol (column_in x at).kind ≡ false → names_at at x ≡ []
  other_names e = ap (map (λ t. cell.Text t)) (cond-false (is_symbol (column_in x at).kind) (texts_in (column_in x at).cells) [] e)

  pub lacking_names : length x.kinds ≤ at → names_at at x ≡ []
  lacking_names high = other_names (ap is_symbol (get_or_past x.kinds at kind.Time high))

pub block_names : (old : List Cell) (at : ℕ) (blocks : List Block) (b : ℕ) (x : Block) (more : List Cell) → slice_get blocks b ≡ Some x → names_at at x ≡ more → old ++ more ≡ old ++ names_at at (block_at blocks b)
block_names old at blocks b x more found is = ap (λ (l : List Cell). old ++ l) (sym (ap (names_at at) (block_found blocks b x found) ∙ is))

pub no_names : (old : List Cell) (at : ℕ) (blocks : List Block) (b : ℕ) (x : Block) → slice_get blocks b ≡ Some x → names_at at x ≡ [] → old ≡ old ++ names_at at (block_at blocks b)
no_names old at blocks b x found is = sym (append-nil old) ∙ block_names old at blocks b x [] found is

module _ (s : ResultRows) (i at : ℕ) (p : Joined) (x : Block) (found : slice_get s.places i ≡ Some p) (there : IsPlaced s p) (is : slice_get s.blocks p.0.0 ≡ Some x) (whole : IsWhole x) (symbols : IsSymbols s.left at) where
  here : block_at s.blocks p.0.0 ≡ x
  here = block_found s.blocks p.0.0 x is

  whole_here : IsWhole (block_at s.blocks p.0.0)
  whole_here = subst IsWhole (sym here) whole

  low_left : at < length s.left
  low_left = let low = symbol_low (kinds_in s.left) at symbols in omega (arith, low, length-map s.left (λ (c : Col). c.kind))

  cell_beside : cell_at (row_in s i) at ≡ cell_at (side_row s.blocks s.left (Some p.0)) at
  cell_beside = ap (λ (r : Row). cell_at r at) (row_found s i p found) ∙ sym (cell_left s p at (length s.left) (length-side s.blocks s.left p.0 there.left whole_here) low_left)

  -- the block has the column
  module _ (low : at < length x.kinds) where
    low_here : at < length (block_at s.blocks p.0.0).kinds
    low_here = subst (λ (b : Block). at < length b.kinds) (sym here) low

    pub cell_present : cell_at (row_in s i) at ≡ cell_of_row (column_in x at) p.0.1
    cell_present = cell_beside ∙ sym (cell_there s.blocks s.left p.0 at there.left whole_here low_here) ∙ ap (λ (b : Block). cell_of_row (column_in b at) p.0.1) here

    pub kind_here : (column_in x at).kind ≡ kind.Symbol
    kind_here =
        symbol_is (get_or x.kinds at kind.Time)
        (ap (λ (b : Block). is_symbol (get_or b.kinds at kind.Time)) (sym here)
        ∙ ap (λ (ks : List ColType). is_symbol (get_or ks at kind.Time)) there.left.kinds
        ∙ ap is_symbol (get_or-take (length (block_at s.blocks p.0.0).kinds) (kinds_in s.left) at kind.Time low_here)
        ∙ symbols)

    pub row_here : p.0.1 < length (column_in x at).cells
    row_here = let h = subst (λ (b : Block). p.0.1 < length b.rows) here there.left.row in omega (arith, h, length-map x.rows (λ (r : Row). cell_at r at))

    texts_here : texts_at at (block_at s.blocks p.0.0) ≡ texts_in (column_in x at).cells
    texts_here = ap (texts_at at) here ∙ cond-true (is_symbol (column_in x at).kind) (texts_in (column_in x at).cells) [] (ap is_symbol kind_here)

    module _ (ids : List ℕ) (id : ℕ) (cells : (column_in x at).cells ≡ map (symbol_cell (texts_in (column_in x at).cells)) ids) (id_is : id ≡ get_or ids p.0.1 0) where
      pub id_low : p.0.1 < length ids
      id_low = let h = row_here in omega (arith, h, ap length cells, length-map ids (symbol_cell (texts_in (column_in x at).cells)))

      cell_is : cell_at (row_in s i) at ≡ symbol_cell (texts_in (column_in x at).cells) id
      cell_is =
          cell_present
          ∙ ap (λ (l : List Cell). get_or l p.0.1 cell.Null) cells
          ∙ get_or-map (symbol_cell (texts_in (column_in x at).cells)) ids p.0.1 0 cell.Null id_low
          ∙ ap (symbol_cell (texts_in (column_in x at).cells)) (sym id_is)

      module _ (names : List Cell) (fs : List ℕ) where
        pub null_number : id ≡ NULL_ID → number_of names fs (cell_at (row_in s i) at) ≡ Some (length fs)
        null_number none = ap (number_of names fs) (cell_is ∙ cond-true (eqb id NULL_ID) cell.Null (cell.Text (get_or (texts_in (column_in x at).cells) id [])) (eq-eqb id NULL_ID none))

        module _ (n : ℕ) (ns starts : List ℕ) (some : id ≡ NULL_ID → ⊥) (known : IsIdOf (texts_in (column_in x at).cells) id) (are : AreStarts (length s.blocks) s.blocks at names starts) (told : AreGroups (same_in names) n ns fs) (count : length names ≡ n) where
          id_here : id < length (texts_at at (block_at s.blocks p.0.0))
          id_here = subst (λ (ts : List (List ℕ)). id < length ts) (sym texts_here) (elim known [ inl none ↦ absurd (some none) | inr low ↦ low ])

          pub name_low : get_or starts p.0.0 0 + id < n
          name_low = let h = are.within p.0.0 id there.left.block id_here in omega (arith, h, count)

          pub text_number : number_of names fs (cell_at (row_in s i) at) ≡ Some (get_or ns (get_or starts p.0.0 0 + id) 0)
          text_number =
              ap (number_of names fs) (cell_is ∙ cond-false (eqb id NULL_ID) cell.Null (cell.Text (get_or (texts_in (column_in x at).cells) id [])) (ne_eqb id NULL_ID some) ∙ ap (λ (ts : List (List ℕ)). cell.Text (get_or ts id [])) (sym texts_here))
              ∙ name_number names fs ns n (get_or starts p.0.0 0 + id) (get_or (texts_at at (block_at s.blocks p.0.0)) id []) told name_low (are.text p.0.0 id there.left.block id_here)

  -- the block lacks the column
  pub lacking_number : (names : List Cell) (fs : List ℕ) → length x.kinds ≤ at → number_of names fs (cell_at (row_in s i) at) ≡ Some (length fs)
  lacking_number names fs high =
      ap (number_of names fs) (cell_beside
      ∙ sym (cell_absent s.blocks s.left p.0 at there.left whole_here (subst (λ (b : Block). length b.kinds ≤ at) (sym here) high))
      ∙ absent_is s.left at symbols)
    where
      absent_is : (cols : List Col) (k : ℕ) → IsSymbols cols k → cell_at (absent cols) k ≡ cell.Null
      absent_is [] k e = refl
      absent_is (c ∷ cs) zero e = ap missing (symbol_is c.kind e)
      absent_is (c ∷ cs) (suc k) e = absent_is cs k e
