-- What rows behind those of a stored column go on with, by the bytes of its files.
use Rattle.std.proofs.Common.{◌≡◌, ℕ, suc, ◌+◌, ◌*◌, ◌^◌, ◌<◌, ◌≤◌, List, [], ◌∷◌, ◌++◌, length, length-append, map, take, drop, get_or, sym, ap, ap₂, ◌∙◌, arith, All}
use Rattle.std.specs.List.{flat_map}
use Rattle.std.proofs.lemmas.List.{append_assoc, drop-append-le, length-map, take_all, take_more}
use Rattle.std.proofs.lemmas.List.Sums.{fold-append}
use Rattle.std.proofs.Math.Seq.{drop-cons}
use Rattle.byteorder.specs.Endian.{little_bytes, little_number}
use Rattle.byteorder.specs.Numbers.{little_number-reads_back}
use Rattle.qd_base.specs.declared.cell.Cell.{Cell}
use Rattle.qd_base.specs.declared.schema.ColType.{ColType}
use Rattle.qd_base.specs.declared.schema.ColType.TheVariants as kind
use Rattle.qd_base.proofs.Texts.{none_distinct}
use Rattle.qd_column.specs.Cells.{CellsOf}
use Rattle.qd_column.specs.Symbols.{texts_in}
use Rattle.qd_column_format.specs.declared.fault.LoadFault.TheVariants as load_fault
use Rattle.qd_column_format.specs.Added.{column_of}
use Rattle.qd_column_format.specs.Fields.{id_field, named, named_with}
use Rattle.qd_column_format.specs.Laws.{OneDictionaryIsSpelled}
use Rattle.qd_column_format.specs.Reading.{AreUnspelled}
use Rattle.qd_column_format.specs.Rests.{texts_from}
use Rattle.qd_column_format.specs.Spelling.{stored_text, text_bytes, BeginsWith, SpellsColumn}
use Rattle.qd_column_format.specs.Tails.{behind, texts_end}
use Rattle.qd_column_format.proofs.DamageLemmas.{short_texts}
use Rattle.qd_column_format.proofs.FieldLemmas.{length-words}
use Rattle.qd_column_format.proofs.RestLemmas.{bytes_dropped}
use Rattle.qd_column_format.proofs.SymbolLemmas.{distinct_texts, ids_are_fields}
use Rattle.qd_column_format.proofs.TailLemmas.{tail_of}

-- ---- ids in bytes

-- the number of a row stands at its place
pub word_at : (main ids : List ℕ) (i : ℕ) → i < length ids → All (λ n. n < 256 ^ 8) ids → BeginsWith main (flat_map (little_bytes 8) ids) → little_number 8 (drop (8 * i) main) ≡ get_or ids i 0
word_at main ids i lt fits begins =
    let bytes : List ℕ = flat_map (little_bytes 8) ids in
    let id : ℕ = get_or ids i 0 in
    let more : List ℕ = flat_map (little_bytes 8) (drop (suc i) ids) in
    let place : 8 * i ≡ i * 8 = omega arith in
    let there : drop (8 * i) bytes ≡ little_bytes 8 id ++ more = ap (λ n. drop n bytes) place ∙ bytes_dropped kind.Symbol ids i (omega (arith, lt)) ∙ ap (flat_map (little_bytes 8)) (drop-cons ids i 0 lt) in
    ap (little_number 8) (ap (drop (8 * i)) begins.1 ∙ drop-append-le (8 * i) bytes begins.0 (omega (arith, length-words 8 ids, lt)) ∙ ap (λ l. l ++ begins.0) there ∙ append_assoc (little_bytes 8 id) more begins.0)
    ∙ little_number-reads_back 8 id (more ++ begins.0) (fits i 0 lt)

-- one id more
pub named_one : (ids : List ℕ) (i count id : ℕ) → i < length ids → count ≡ named (take i ids) → id ≡ get_or ids i 0 → named_with count id ≡ named (take (i + 1) ids)
named_one ids i count id lt so is = ap₂ named_with so is ∙ sym (ap named (take_more ids i 0 lt) ∙ fold-append named_with 0 (take i ids) (get_or ids i 0 ∷ []))

-- ---- SYMBOL

module _ (rows : ℕ) (main aux : List ℕ) (cells : List Cell) (size : length cells ≡ rows) (spelled : SpellsColumn main aux (column_of kind.Symbol cells)) where
  abbrev ids : List ℕ
  ids = map (id_field (texts_in cells)) cells

  count : length ids ≡ rows
  count = length-map cells (id_field (texts_in cells)) ∙ size

  pub ids_room : 8 * rows ≤ length main
  ids_room = omega (arith, count, length-words 8 ids, ap length spelled.main_bytes.1, length-append (flat_map (little_bytes 8) ids) spelled.main_bytes.0)

  short : All (λ t. length t ≤ 65535) (texts_in cells)
  short = short_texts [] cells spelled.cells (λ k d lt. absurd (omega (arith, lt)))

  module _ (n : ℕ) (counted : (numbers : List ℕ) → length numbers ≡ rows → All (λ x. x < 256 ^ 8) numbers → BeginsWith main (flat_map (little_bytes 8) numbers) → n ≡ named numbers) where
    named_all : n ≡ length (texts_in cells)
    named_all = counted ids count spelled.fit spelled.main_bytes ∙ (ids_are_fields cells spelled.few).1

    -- a dictionary of so many texts of these bytes has those of the column
    pub texts_go_on : OneDictionaryIsSpelled → (texts : List (List ℕ)) → length texts ≡ n → All (λ t. length t ≤ 65535) texts → BeginsWith aux (flat_map stored_text texts) → tail_of texts 0 ≡ behind (column_of kind.Symbol cells)
    texts_go_on one texts many low begins = ap (λ (ts : List (List ℕ)). tail_of ts 0) (one aux texts (texts_in cells) (many ∙ named_all) low short begins spelled.aux_bytes)

    -- and there is one
    pub texts_there : (at : ℕ) → AreUnspelled n aux (load_fault.Damaged at) → ⊥
    texts_there at unspelled = unspelled (texts_in cells) (sym named_all) (distinct_texts [] cells none_distinct) short spelled.aux_bytes

-- ---- VARCHAR

-- the texts of all rows end where those of the column do
pub ends_behind : (column : CellsOf) → column.kind ≡ kind.Varchar → texts_from (length column.cells) column ≡ length (flat_map text_bytes column.cells)
ends_behind column is = ap (λ (k : ColType). texts_end k (take (length column.cells) column.cells)) is ∙ ap (λ (l : List Cell). length (flat_map text_bytes l)) (take_all (length column.cells) column.cells (omega arith))
