-- Cells and rows: what is read is spelled so, and what is spelled is read.
use Rattle.std.proofs.Common.{◌≡◌, ℕ, ◌+◌, ◌^◌, ◌<◌, ◌≤◌, max, true, false, eqb, ltb, leb, List, [], ◌∷◌, ◌++◌, length, get_or, Ok, Some, ℤ, FitsSigned, refl, sym, ap, subst, ◌∙◌, append-nil, arith}
use Rattle.std.specs.Int.{w32, w64, cast_signed, cast_unsigned}
use Rattle.std.proofs.lemmas.Bool.{and_parts, and_from, eqb-true, leb-true, ltb-true, le-leb, lt-ltb}
use Rattle.std.proofs.lemmas.Int.{of_z-to_z}
use Rattle.std.proofs.Math.Facts.{to_z-of_z, sfits_to_z, Fits-of_z, Fits-of_lt, Fits-lt-pow}
use Rattle.qd_base.specs.declared.cell.Cell.{Cell}
use Rattle.qd_base.specs.declared.cell.Cell.TheVariants as cell
use Rattle.qd_base.specs.Dictionary.{id_for, with_text}
use Rattle.qd_fields.specs.Spelling.{u32_bytes, u64_bytes}
use Rattle.qd_fields.specs.Layout.{kept, coded, items, each, byte_at, number_at}
use Rattle.qd_fields.proofs.Steps.{bind_ok, bind_again, ok_is, kept_ok, kept_again, coded_ok, coded_again, wide32, wide64, number_takes, number_again, byte_takes, find_passes}
use Rattle.qd_wal_entry.specs.declared.pieces.CellTag.{CellTag}
use Rattle.qd_wal_entry.specs.declared.pieces.CellTag.TheVariants as tag
use Rattle.qd_wal_entry.specs.declared.pieces.EntryCell.{EntryCell}
use Rattle.qd_wal_entry.specs.declared.pieces.EntryCell.TheVariants as stored
use Rattle.qd_wal_entry.specs.Spelling.{text_of, texts_of_row, with_texts, cell_bytes, row_bytes, FitsCell, FitsRow}
use Rattle.qd_wal_entry.specs.Cursor.{Cursor, moved}
use Rattle.qd_wal_entry.specs.Layout.{ReadOn, code_of_cell, cell_of_code, may_be_id, used_at, cell_behind, stored_at, cell_of, cell_at, row_at}
use Rattle.qd_wal_entry.proofs.DictionaryLemmas.{Texts, texts_more, texts_then, Joins, joins, id_of_place, next_used}
use Rattle.qd_wal_entry.proofs.Places.{IsPlace, Moves, place_after, moves_none, moves_past, moves_then, GivesSpelled, items_spelled, standing, TakesSpelled, items_taken}

-- ---- what is read is spelled so

-- what stands behind the code of a cell that was read
abbrev Behind : Cursor → CellTag → List ℕ → EntryCell × Cursor → Type 0
Behind at t rest x = (tail : List ℕ) × (cell_bytes at.texts (cell_of at.texts x.0) ≡ code_of_cell t ∷ tail) × Moves (moved at rest) x.1 (text_of (cell_of at.texts x.0)) tail × FitsCell (cell_of at.texts x.0)

long_behind : (at : Cursor) (rest : List ℕ) (x : EntryCell × Cursor) → IsPlace (moved at rest) → cell_behind at tag.Long rest ≡ Ok x → Behind at tag.Long rest x
long_behind at rest x place e =
    let a = bind_ok (number_at w64 rest) (λ n. Ok (stored.Long (cast_signed w64 n.0), moved at n.1)) x e in
    let t = number_takes w64 (2 ^ 64) wide64 rest a.0.0 a.0.1 place.rest_fits a.1 in
    let bits : cast_unsigned w64 (cast_signed w64 a.0.0) ≡ a.0.0 = of_z-to_z w64 a.0.0 t.1 in
    subst (Behind at tag.Long rest) (ok_is (stored.Long (cast_signed w64 a.0.0), moved at a.0.1) x a.2) (u64_bytes a.0.0, ap (λ (n : ℕ). 1 ∷ u64_bytes n) bits, moves_past (moved at rest) (u64_bytes a.0.0) a.0.1 place t.0, sfits_to_z (Fits-of_lt {w = w64} t.1))

time_behind : (at : Cursor) (rest : List ℕ) (x : EntryCell × Cursor) → IsPlace (moved at rest) → cell_behind at tag.Time rest ≡ Ok x → Behind at tag.Time rest x
time_behind at rest x place e =
    let a = bind_ok (number_at w64 rest) (λ n. Ok (stored.Time n.0, moved at n.1)) x e in
    let t = number_takes w64 (2 ^ 64) wide64 rest a.0.0 a.0.1 place.rest_fits a.1 in
    subst (Behind at tag.Time rest) (ok_is (stored.Time a.0.0, moved at a.0.1) x a.2) (u64_bytes a.0.0, refl, moves_past (moved at rest) (u64_bytes a.0.0) a.0.1 place t.0, t.1)

text_behind : (at : Cursor) (rest : List ℕ) (x : EntryCell × Cursor) → IsPlace (moved at rest) → cell_behind at tag.Text rest ≡ Ok x → Behind at tag.Text rest x
text_behind at rest x place e =
    let a = bind_ok (kept (may_be_id at) rest (number_at w32 rest)) (λ id. Ok (stored.Text id.0, used_at at id.0 id.1)) x e in
    let id = a.0.0 in
    let k = kept_ok (may_be_id at) rest (number_at w32 rest) a.0 a.1 in
    let rule = and_parts (leb id at.used) (ltb id (length at.texts)) k.1 in
    let low : id ≤ at.used = leb-true id at.used rule.0 in
    let there : id < length at.texts = ltb-true id (length at.texts) rule.1 in
    let used : at.used ≤ length at.texts = place.within in
    let most : max at.used (id + 1) ≤ length at.texts = omega arith in
    let t = number_takes w32 (2 ^ 32) wide32 rest id a.0.1 place.rest_fits k.0 in
    let moves : Moves (moved at rest) (used_at at id a.0.1) (get_or at.texts id [] ∷ []) (u32_bytes id) = record {
      same = refl;
      named = next_used at.texts at.used id place.distinct low most;
      within = most;
      parts = t.0.parts;
      rest_fits = t.0.rest_fits;
    } in
    subst (Behind at tag.Text rest) (ok_is (stored.Text id, used_at at id a.0.1) x a.2) (u32_bytes id, ap (λ (n : ℕ). 4 ∷ u32_bytes n) (id_of_place at.texts id place.distinct there), moves, place.short id [] there)

behind : (at : Cursor) (t : CellTag) (rest : List ℕ) (x : EntryCell × Cursor) → IsPlace (moved at rest) → cell_behind at t rest ≡ Ok x → Behind at t rest x
behind at tag.Null rest x place e = subst (Behind at tag.Null rest) (ok_is (stored.Null, moved at rest) x e) ([], refl, moves_none (moved at rest) place, tt)
behind at tag.Long rest x place e = long_behind at rest x place e
behind at tag.False rest x place e = subst (Behind at tag.False rest) (ok_is (stored.Bool false, moved at rest) x e) ([], refl, moves_none (moved at rest) place, tt)
behind at tag.True rest x place e = subst (Behind at tag.True rest) (ok_is (stored.Bool true, moved at rest) x e) ([], refl, moves_none (moved at rest) place, tt)
behind at tag.Text rest x place e = text_behind at rest x place e
behind at tag.Time rest x place e = time_behind at rest x place e

cell_code : (code : ℕ) (t : CellTag) → cell_of_code code ≡ Some t → code_of_cell t ≡ code
cell_code code t e = eqb-true (code_of_cell t) code (find_passes (λ j. eqb (code_of_cell j) code) (tag.Null ∷ tag.Long ∷ tag.False ∷ tag.True ∷ tag.Text ∷ tag.Time ∷ []) t e)

stored_spelled : (at : Cursor) (x : EntryCell × Cursor) → IsPlace at → stored_at at ≡ Ok x → Moves at x.1 (text_of (cell_of at.texts x.0)) (cell_bytes at.texts (cell_of at.texts x.0)) × FitsCell (cell_of at.texts x.0)
unfolding stored_at
stored_spelled at x place e =
    let b = bind_ok (coded cell_of_code at.rest (byte_at at.rest)) (λ t. cell_behind at t.0 t.1) x e in
    let code = coded_ok cell_of_code at.rest (byte_at at.rest) b.0 b.1 in
    let first = byte_takes at.rest code.0 b.0.1 place.rest_fits code.1 in
    let front : Moves at (moved at b.0.1) [] (code_of_cell b.0.0 ∷ []) = subst (λ (n : ℕ). Moves at (moved at b.0.1) [] (n ∷ [])) (sym (cell_code code.0 b.0.0 code.2)) (moves_past at (code.0 ∷ []) b.0.1 place first.0) in
    let h = behind at b.0.0 b.0.1 x (place_after at (moved at b.0.1) [] (code_of_cell b.0.0 ∷ []) place front) b.2 in
    let c = cell_of at.texts x.0 in
    let both : Moves at x.1 (text_of c) (code_of_cell b.0.0 ∷ h.0) = moves_then at (moved at b.0.1) x.1 [] (text_of c) (code_of_cell b.0.0 ∷ []) h.0 front h.2 in
    (subst (λ (l : List ℕ). Moves at x.1 (text_of c) l) (sym h.1) both, h.3)

pub cell_spelled : GivesSpelled cell_at text_of cell_bytes FitsCell
unfolding cell_at
cell_spelled at x place e =
    let a = bind_ok (stored_at at) (λ c. Ok (cell_of at.texts c.0, c.1)) x e in
    let s = stored_spelled at a.0 place a.1 in
    subst (λ (y : Cell × Cursor). Moves at y.1 (text_of y.0) (cell_bytes at.texts y.0) × FitsCell y.0) (ok_is (cell_of at.texts a.0.0, a.0.1) x a.2) s

-- reading leaves the texts as they are
same_texts : (at : Cursor) (t : CellTag) (rest : List ℕ) (x : EntryCell × Cursor) → cell_behind at t rest ≡ Ok x → x.1.texts ≡ at.texts
same_texts at tag.Null rest x e = ap (λ (y : EntryCell × Cursor). y.1.texts) (sym (ok_is (stored.Null, moved at rest) x e))
same_texts at tag.Long rest x e =
    let a = bind_ok (number_at w64 rest) (λ n. Ok (stored.Long (cast_signed w64 n.0), moved at n.1)) x e in
    ap (λ (y : EntryCell × Cursor). y.1.texts) (sym (ok_is (stored.Long (cast_signed w64 a.0.0), moved at a.0.1) x a.2))
same_texts at tag.False rest x e = ap (λ (y : EntryCell × Cursor). y.1.texts) (sym (ok_is (stored.Bool false, moved at rest) x e))
same_texts at tag.True rest x e = ap (λ (y : EntryCell × Cursor). y.1.texts) (sym (ok_is (stored.Bool true, moved at rest) x e))
same_texts at tag.Text rest x e =
    let a = bind_ok (kept (may_be_id at) rest (number_at w32 rest)) (λ id. Ok (stored.Text id.0, used_at at id.0 id.1)) x e in
    ap (λ (y : EntryCell × Cursor). y.1.texts) (sym (ok_is (stored.Text a.0.0, used_at at a.0.0 a.0.1) x a.2))
same_texts at tag.Time rest x e =
    let a = bind_ok (number_at w64 rest) (λ n. Ok (stored.Time n.0, moved at n.1)) x e in
    ap (λ (y : EntryCell × Cursor). y.1.texts) (sym (ok_is (stored.Time a.0.0, moved at a.0.1) x a.2))

-- a cell, by the texts of the place behind it
pub cell_read : (at to : Cursor) (s : EntryCell) (c : Cell) → stored_at at ≡ Ok (s, to) → c ≡ cell_of to.texts s → cell_at at ≡ Ok (c, to)
unfolding stored_at cell_at
cell_read at to s c e is =
    let b = bind_ok (coded cell_of_code at.rest (byte_at at.rest)) (λ t. cell_behind at t.0 t.1) (s, to) e in
    let same : to.texts ≡ at.texts = same_texts at b.0.0 b.0.1 (s, to) b.2 in
    let value : c ≡ cell_of at.texts s = is ∙ ap (λ (l : Texts). cell_of l s) same in
    bind_again (stored_at at) (λ r. Ok (cell_of at.texts r.0, r.1)) (s, to) (c, to) e (ap (λ (z : Cell). Ok (z, to)) (sym value))

pub row_spelled : (columns : ℕ) → GivesSpelled (row_at columns) texts_of_row row_bytes (FitsRow columns)
unfolding row_at
row_spelled columns at x place e =
    let r = items_spelled cell_at text_of cell_bytes FitsCell cell_spelled columns at x place e in
    (r.0, record { cells = r.1; width = r.2 })

-- ---- what is spelled is read

code_cell : (t : CellTag) → cell_of_code (code_of_cell t) ≡ Some t
code_cell tag.Null = refl
code_cell tag.Long = refl
code_cell tag.False = refl
code_cell tag.True = refl
code_cell tag.Text = refl
code_cell tag.Time = refl

-- a cell is read where what stands behind its code is
cell_from : (all used : Texts) (t : CellTag) (tail : List ℕ) (y : EntryCell × Cursor) → cell_behind (standing all used (code_of_cell t ∷ tail)) t tail ≡ Ok y → cell_at (standing all used (code_of_cell t ∷ tail)) ≡ Ok (cell_of all y.0, y.1)
unfolding cell_at stored_at
cell_from all used t tail y e =
    let at = standing all used (code_of_cell t ∷ tail) in
    let one : coded cell_of_code at.rest (byte_at at.rest) ≡ Ok (t, tail) = coded_again cell_of_code at.rest (byte_at at.rest) (code_of_cell t) t tail refl (code_cell t) in
    let two : stored_at at ≡ Ok y = bind_again (coded cell_of_code at.rest (byte_at at.rest)) (λ s. cell_behind at s.0 s.1) (t, tail) y one e in
    bind_again (stored_at at) (λ c. Ok (cell_of all c.0, c.1)) y (cell_of all y.0, y.1) two refl

-- a cell without a text leaves the texts that were used as they are
unmoved : (all used : Texts) (rest : List ℕ) (c : Cell) → ◌≡◌ {A = ReadOn Cell} (Ok (c, standing all used rest)) (Ok (c, standing all (used ++ []) rest))
unmoved all used rest c = ap (λ (l : Texts). Ok (c, standing all l rest)) (sym (append-nil used))

text_taken : (all used later : Texts) (t rest : List ℕ) → all ≡ with_texts [] (used ++ (t ∷ later)) → length all < 2 ^ 32 → cell_at (standing all used (4 ∷ (u32_bytes (id_for all t) ++ rest))) ≡ Ok (cell.Text t, standing all (used ++ t ∷ []) rest)
text_taken all used later t rest is few =
    let known = with_texts [] used in
    let more = texts_more (with_text known t) later in
    let split : all ≡ with_text known t ++ more.0 = is ∙ texts_then [] used (t ∷ later) ∙ more.1 in
    let j : Joins known t more.0 = joins known t more.0 in
    let id : id_for all t ≡ id_for known t = ap (λ (l : Texts). id_for l t) split ∙ j.stays in
    let size : length all ≡ length (with_text known t ++ more.0) = ap length split in
    let low : id_for known t ≤ length known = j.low in
    let within : id_for known t < length (with_text known t ++ more.0) = j.within in
    let at = standing all used (4 ∷ (u32_bytes (id_for all t) ++ rest)) in
    let tail = u32_bytes (id_for all t) ++ rest in
    let number : number_at w32 tail ≡ Ok (id_for all t, rest) = number_again w32 (2 ^ 32) wide32 (id_for all t) rest (omega arith) in
    let rule : may_be_id at (id_for all t) ≡ true = and_from (leb (id_for all t) (length known)) (ltb (id_for all t) (length all)) (le-leb (id_for all t) (length known) (omega arith)) (lt-ltb (id_for all t) (length all) (omega arith)) in
    let one = kept_again (may_be_id at) tail (number_at w32 tail) (id_for all t, rest) number rule in
    let two : cell_behind at tag.Text tail ≡ Ok (stored.Text (id_for all t), used_at at (id_for all t) rest) = bind_again (kept (may_be_id at) tail (number_at w32 tail)) (λ n. Ok (stored.Text n.0, used_at at n.0 n.1)) (id_for all t, rest) (stored.Text (id_for all t), used_at at (id_for all t) rest) one refl in
    let text : get_or all (id_for all t) [] ≡ t = ap (λ (n : ℕ). get_or all n []) id ∙ ap (λ (l : Texts). get_or l (id_for known t) []) split ∙ j.text in
    let count : max (length known) (id_for all t + 1) ≡ length (with_texts [] (used ++ t ∷ [])) = ap (λ (n : ℕ). max (length known) (n + 1)) id ∙ j.count ∙ ap length (sym (texts_then [] used (t ∷ []))) in
    cell_from all used tag.Text tail (stored.Text (id_for all t), used_at at (id_for all t) rest) two
    ∙ ap (λ (s : List ℕ). Ok (cell.Text s, used_at at (id_for all t) rest)) text
    ∙ ap (λ (n : ℕ). Ok (cell.Text t, record { texts = all; used = n; rest = rest })) count

long_taken : (all used : Texts) (x : ℤ) (rest : List ℕ) → FitsSigned w64 x → cell_at (standing all used (1 ∷ (u64_bytes (cast_unsigned w64 x) ++ rest))) ≡ Ok (cell.Long x, standing all used rest)
long_taken all used x rest fits =
    let n = cast_unsigned w64 x in
    let tail = u64_bytes n ++ rest in
    let at = standing all used (1 ∷ tail) in
    let one : number_at w64 tail ≡ Ok (n, rest) = number_again w64 (2 ^ 64) wide64 n rest (Fits-lt-pow {w = w64} (Fits-of_z fits)) in
    let two : cell_behind at tag.Long tail ≡ Ok (stored.Long (cast_signed w64 n), moved at rest) = bind_again (number_at w64 tail) (λ m. Ok (stored.Long (cast_signed w64 m.0), moved at m.1)) (n, rest) (stored.Long (cast_signed w64 n), moved at rest) one refl in
    cell_from all used tag.Long tail (stored.Long (cast_signed w64 n), moved at rest) two ∙ ap (λ (z : ℤ). Ok (cell.Long z, standing all used rest)) (to_z-of_z fits)

time_taken : (all used : Texts) (t : ℕ) (rest : List ℕ) → t < 2 ^ 64 → cell_at (standing all used (5 ∷ (u64_bytes t ++ rest))) ≡ Ok (cell.Time t, standing all used rest)
time_taken all used t rest fits =
    let tail = u64_bytes t ++ rest in
    let at = standing all used (5 ∷ tail) in
    let one : number_at w64 tail ≡ Ok (t, rest) = number_again w64 (2 ^ 64) wide64 t rest fits in
    let two : cell_behind at tag.Time tail ≡ Ok (stored.Time t, moved at rest) = bind_again (number_at w64 tail) (λ m. Ok (stored.Time m.0, moved at m.1)) (t, rest) (stored.Time t, moved at rest) one refl in
    cell_from all used tag.Time tail (stored.Time t, moved at rest) two

pub cell_taken : TakesSpelled cell_at text_of cell_bytes FitsCell
cell_taken all used later cell.Null rest fits is few = cell_from all used tag.Null rest (stored.Null, standing all used rest) refl ∙ unmoved all used rest cell.Null
cell_taken all used later (cell.Long x) rest fits is few = long_taken all used x rest fits ∙ unmoved all used rest (cell.Long x)
cell_taken all used later (cell.Bool false) rest fits is few = cell_from all used tag.False rest (stored.Bool false, standing all used rest) refl ∙ unmoved all used rest (cell.Bool false)
cell_taken all used later (cell.Bool true) rest fits is few = cell_from all used tag.True rest (stored.Bool true, standing all used rest) refl ∙ unmoved all used rest (cell.Bool true)
cell_taken all used later (cell.Text t) rest fits is few = text_taken all used later t rest is few
cell_taken all used later (cell.Time t) rest fits is few = time_taken all used t rest fits ∙ unmoved all used rest (cell.Time t)

pub row_taken : (columns : ℕ) → TakesSpelled (row_at columns) texts_of_row row_bytes (FitsRow columns)
unfolding row_at
row_taken columns all used later row rest fits is few =
    let read = items_taken cell_at text_of cell_bytes FitsCell cell_taken all used later row rest fits.cells is few in
    ap (λ (n : ℕ). items (each cell_at) n [] (standing all used (row_bytes all row ++ rest))) (sym fits.width) ∙ read
