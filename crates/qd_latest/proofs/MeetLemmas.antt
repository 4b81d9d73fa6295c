-- What a window adds to what was met, text by text, and when nothing is left to be met.
use Rattle.std.proofs.Common.{◌≡◌, ℕ, ◌+◌, ◌-◌, ◌<◌, ◌≤◌, true, cond, List, [], ◌∷◌, ◌++◌, Option, Some, None, length, drop, get_or, slice_get, sym, ap, ◌∙◌, arith, subst, All, inl, inr, true≢false}
use Rattle.std.specs.List.{slice_range}
use Rattle.std.specs.Option.{is_some, IfNone}
use Rattle.std.proofs.lemmas.Bool.{cases_eq, cases_lt, cond-true}
use Rattle.std.proofs.lemmas.List.{get_or-drop, get_or-take, length-drop, length-take}
use Rattle.std.proofs.lemmas.Option.{slice_get-get_or}
use Rattle.qd_base.specs.declared.cell.Cell.{Cell}
use Rattle.qd_base.specs.declared.cell.Cell.TheVariants as cell
use Rattle.qd_base.specs.declared.schema.ColType.{ColType}
use Rattle.qd_base.specs.declared.schema.ColType.TheVariants as kind
use Rattle.qd_base.specs.Dictionary.{id_for, id_in, with_text}
use Rattle.qd_base.specs.Rows.{cell_eq}
use Rattle.qd_base.proofs.Texts.{id_not_there, id_there, with_text-new, with_text-there}
use Rattle.qd_block.specs.Blocks.{Block, column_in, IsWhole}
use Rattle.qd_column.specs.Cells.{CellsOf}
use Rattle.qd_column.specs.Symbols.{texts_in}
use Rattle.qd_keys.specs.Symbols.{is_symbol, texts_at, IsSymbols}
use Rattle.qd_rows.specs.Sets.{Joined, ResultRows, block_at, IsPlaced}
use Rattle.qd_value.proofs.Orders.{cells-equal}
use Rattle.qd_latest.specs.Chains.{cells_of, no_place}
use Rattle.qd_latest.specs.Walks.{cell_in, AreFirstMet, AreMet, AreOfTexts, Grows, HoldMet}
use Rattle.qd_latest.proofs.ChainLemmas.{IsLastPass}
use Rattle.qd_latest.proofs.PartLemmas.{cell_lacking, cell_present, kind_there}
use Rattle.qd_latest.proofs.TextLemmas.{text_met, text_unmet}
use Rattle.qd_latest.proofs.WalkLemmas.{seen_known, seen_new, seen_without, HasSeen}

cell_of : (cells : List Cell) (from to i : ℕ) → from ≤ i → i < to → cell_in (slice_range cells from to) (i - from) ≡ cell_in cells i
cell_of cells from to i low high =
    let e : from + (i - from) ≡ i = omega (arith, low) in
    get_or-take (to - from) (drop from cells) (i - from) cell.Null (omega (arith, low, high)) ∙ get_or-drop from cells (i - from) cell.Null ∙ ap (cell_in cells) e

-- the next text of a window, by the front of its chain
module _ (cells : List Cell) (from to : ℕ) (texts : List (List ℕ)) (within : to ≤ length cells) (apart : (m n : ℕ) → m < length texts → n < length texts → get_or texts m [] ≡ get_or texts n [] → m ≡ n)
    (met : List (List ℕ)) (kept : List ℕ) (j : ℕ) (fits : j < length texts) (seen : HasSeen cells from to texts j met kept) (front : Option ℕ)
    (is : IsLastPass (cell_eq (cell.Text (get_or texts j []))) 0 (slice_range cells from to) front) where
  size : length (slice_range cells from to) ≡ to - from
  size = omega (arith, length-take (to - from) (drop from cells), length-drop from cells, within)

  passes : (i : ℕ) → from ≤ i → i < to → cell_in cells i ≡ cell.Text (get_or texts j []) → cell_eq (cell.Text (get_or texts j [])) (get_or (slice_range cells from to) (i - from) cell.Null) ≡ true
  passes i low high e = (cells-equal (cell.Text (get_or texts j [])) (get_or (slice_range cells from to) (i - from) cell.Null)).1 (sym (cell_of cells from to i low high ∙ e))

  pub without_front : front ≡ None → HasSeen cells from to texts (j + 1) met kept
  without_front none = seen_without cells from to texts within apart met kept j fits (λ i low high e. true≢false (sym (passes i low high e) ∙ is.none none (i - from) cell.Null (omega (arith, size, low, high)))) seen

  pub with_front : (node : ℕ) → front ≡ Some node → (found : Option ℕ) → id_in met (get_or texts j []) ≡ found → HasSeen cells from to texts (j + 1) (with_text met (get_or texts j [])) (cond (is_some found) kept (kept ++ (from + node) ∷ []))
  with_front node one (Some id) e =
      let at = id_there met (get_or texts j []) id e in
      let low : id_for met (get_or texts j []) < length met = omega (arith, at.0, at.1) in
      subst (λ (l : List (List ℕ)). HasSeen cells from to texts (j + 1) l kept) (sym (with_text-there met (get_or texts j []) low)) (seen_known cells from to texts within apart met kept j fits (text_met met (get_or texts j []) id e) seen)
  with_front node one None e =
      let high : length met ≤ id_for met (get_or texts j []) = (let same = id_not_there met (get_or texts j []) e in omega (arith, same)) in
      subst (λ (l : List (List ℕ)). HasSeen cells from to texts (j + 1) l (kept ++ (from + node) ∷ [])) (sym (with_text-new met (get_or texts j []) high))
      (seen_new cells from to texts within apart met kept j (from + node) fits (omega arith) less holds most (text_unmet met (get_or texts j []) e) seen)
    where
      less : from + node < to
      less = let h = is.high node one in omega (arith, h, size)

      behind : from + node - from ≡ node - 0
      behind = omega arith

      holds : cell_in cells (from + node) ≡ cell.Text (get_or texts j [])
      holds =
          sym (cell_of cells from to (from + node) (omega arith) less) ∙ ap (cell_in (slice_range cells from to)) behind
          ∙ sym ((cells-equal (cell.Text (get_or texts j [])) (get_or (slice_range cells from to) (node - 0) cell.Null)).0 (is.passes node cell.Null one))

      most : (i : ℕ) → from ≤ i → i < to → cell_in cells i ≡ cell.Text (get_or texts j []) → i ≤ from + node
      most i low high same = let h = is.most node (i - from) cell.Null one (omega (arith, size, low, high)) (passes i low high same) in omega (arith, h, low)

-- ---- what is known of blocks

pub none_holds : (o : Option ℕ) (P Q : Type 0) → (P → Q) → IfNone o P → IfNone o Q
none_holds None P Q f p = f p
none_holds (Some n) P Q f p = tt

pub texts_there : (at : ℕ) (x : Block) → (column_in x at).kind ≡ kind.Symbol → texts_at at x ≡ texts_in (column_in x at).cells
texts_there at x e = cond-true (is_symbol (column_in x at).kind) (texts_in (column_in x at).cells) [] (ap is_symbol e)

pub all_texts_hold : (texts : List (List ℕ)) (cells : List Cell) (n : ℕ) (met : List (List ℕ)) → n ≤ length cells → AreOfTexts texts cells 0 (length cells) → AreFirstMet texts (length texts) met → HoldMet cells 0 n met
all_texts_hold texts cells n met within are first i low high = elim (are i low (omega (arith, within, high))) [
  | inl none ↦ inl none
  | inr some ↦ inr (get_or texts some.0 [], first some.0 some.1 some.1, some.2)
]

module _ (blocks : List Block) (at : ℕ) (met : List (List ℕ)) where
  pub met_begun : AreMet blocks at met 0 0
  met_begun = record { whole = λ b low. absurd (omega (arith, low)); before = λ b low e. absurd (omega (arith, low)); here = λ k low there. absurd (omega (arith, low)) }

  pub met_grown : (more : List (List ℕ)) (block id : ℕ) → Grows met more → AreMet blocks at met block id → AreMet blocks at more block id
  met_grown more block id grows are = record {
    whole = are.whole;
    before = λ b low e i from to. elim (are.before b low e i from to) [ inl none ↦ inl none | inr some ↦ inr (some.0, grows some.0 some.1, some.2) ];
    here = λ k low there. grows (get_or (texts_at at (block_at blocks block)) k []) (are.here k low there);
  }

  pub met_on : (block id next : ℕ) → AreFirstMet (texts_at at (block_at blocks block)) next met → AreMet blocks at met block id → AreMet blocks at met block next
  met_on block id next first are = record { whole = are.whole; before = are.before; here = first }

  pub met_block : (block id : ℕ) → IsWhole (block_at blocks block) → ((column_in (block_at blocks block) at).kind ≡ kind.Symbol → HoldMet (column_in (block_at blocks block) at).cells 0 (length (block_at blocks block).rows) met) → AreMet blocks at met block id → AreMet blocks at met (block + 1) 0
  met_block block id whole hold are = record {
    whole = λ b low. elim (cases_eq b block) [ inl same ↦ subst (λ n. IsWhole (block_at blocks n)) (sym same) whole | inr other ↦ are.whole b (omega (arith, low, other)) ];
    before = λ b low. elim (cases_eq b block) [
      | inl same ↦ subst (λ n. (column_in (block_at blocks n) at).kind ≡ kind.Symbol → HoldMet (column_in (block_at blocks n) at).cells 0 (length (block_at blocks n).rows) met) (sym same) hold
      | inr other ↦ are.before b (omega (arith, low, other))
    ];
    here = λ k low there. absurd (omega (arith, low));
  }

-- all rows hold what was met, where all blocks do
pub all_hold : (s : ResultRows) (at : ℕ) (met : List (List ℕ)) (block id end : ℕ) → All (IsPlaced s) s.places → IsSymbols s.left at → end ≤ length s.places → length s.blocks ≤ block → AreMet s.blocks at met block id → HoldMet (cells_of s at) 0 end met
all_hold s at met block id end placed symbols within done are i from high = elim (cases_lt at (length (block_at s.blocks p.0.0).kinds)) [
  | inl low ↦
      (let same : cell_in (cells_of s at) i ≡ cell_in (column_in (block_at s.blocks p.0.0) at).cells p.0.1 = cell_present s at i p found there whole low in
      elim (are.before p.0.0 early (kind_there s at p.0.0 there.left.kinds symbols low) p.0.1 (omega arith) there.left.row) [
        | inl none ↦ inl (same ∙ none)
        | inr some ↦ inr (some.0, some.1, same ∙ some.2)
      ])
  | inr lacks ↦ inl (cell_lacking s at i p found there whole symbols lacks)
]
  where
    p : Joined
    p = get_or s.places i no_place

    found : slice_get s.places i ≡ Some p
    found = slice_get-get_or s.places i no_place (omega (arith, within, high))

    there : IsPlaced s p
    there = placed i no_place (omega (arith, within, high))

    early : p.0.0 < block
    early = omega (arith, there.left.block, done)

    whole : IsWhole (block_at s.blocks p.0.0)
    whole = are.whole p.0.0 early

pub block_texts : (x : Block) (at : ℕ) (column : CellsOf) (k : ColType) (texts : List (List ℕ)) → column ≡ column_in x at → k ≡ column.kind → k ≡ kind.Symbol → texts ≡ texts_in column.cells → texts ≡ texts_at at x
block_texts x at column k texts is kind_is symbol named =
    named ∙ ap (λ (c : CellsOf). texts_in c.cells) is ∙ sym (texts_there at x (ap (λ (c : CellsOf). c.kind) (sym is) ∙ sym kind_is ∙ symbol))
