-- Changes: what is read is spelled so, and what is spelled is read.
use Rattle.std.proofs.Common.{◌≡◌, ℕ, ◌^◌, ◌<◌, Bool, true, cond, eqb, ltb, List, [], ◌∷◌, ◌++◌, length, All, Ok, Some, inl, inr, refl, sym, ap, subst, ◌∙◌, append_assoc, append-nil, arith}
use Rattle.std.specs.List.{flat_map}
use Rattle.std.specs.Int.{w16, w32}
use Rattle.std.proofs.lemmas.Bool.{eqb-true, eq-eqb, ltb-true, lt-ltb}
use Rattle.std.proofs.lemmas.Bool.Decides.{eqb_tells}
use Rattle.qd_base.specs.declared.op.Op.{Op}
use Rattle.qd_base.specs.declared.op.Op.TheVariants as op
use Rattle.qd_base.specs.declared.schema.Col.{Col}
use Rattle.qd_base.specs.declared.schema.Schema.{Schema}
use Rattle.qd_base.specs.Rows.{Row}
use Rattle.qd_fields.specs.Spelling.{u16_bytes, u32_bytes, name_bytes, column_bytes, keys_bytes, schema_bytes, FitsKeys, FitsSchema}
use Rattle.qd_fields.specs.Layout.{◌>>=◌, kept, coded, each, byte_at, number_at, name_at, column_at, keys_at, schema_at}
use Rattle.qd_fields.proofs.Steps.{bind_ok, bind_again, ok_is, kept_ok, kept_again, coded_ok, coded_again, Takes-then, wide16, wide32, number_takes, number_again, byte_takes, name_takes, name_again, find_passes}
use Rattle.qd_fields.proofs.SchemaLaws.{column_takes, column_again, keys_takes, keys_again, schema_takes, schema_again}
use Rattle.qd_wal_entry.specs.declared.pieces.OpTag.{OpTag}
use Rattle.qd_wal_entry.specs.declared.pieces.OpTag.TheVariants as kind
use Rattle.qd_wal_entry.specs.declared.pieces.OpHead.{OpHead}
use Rattle.qd_wal_entry.specs.declared.pieces.OpHead.TheVariants as head
use Rattle.qd_wal_entry.specs.Spelling.{texts_of_row, texts_of_op, with_texts, width_of, row_bytes, rows_bytes, op_bytes, FitsRow, FitsRows, FitsOp}
use Rattle.qd_wal_entry.specs.Cursor.{Cursor, moved}
use Rattle.qd_wal_entry.specs.Layout.{ReadOn, row_at, rows_at, code_of_op, op_of_code, may_be_rows, create_at, add_at, insert_at, set_keys_at, head_behind, head_at, op_behind, op_at}
use Rattle.qd_wal_entry.proofs.DictionaryLemmas.{Texts}
use Rattle.qd_wal_entry.proofs.Places.{IsPlace, Moves, place_after, moves_past, moves_then, GivesSpelled, items_spelled, standing, TakesSpelled, items_taken}
use Rattle.qd_wal_entry.proofs.Cells.{row_spelled, row_taken}

-- ---- numbers of columns and rows

both_none : (columns rows : ℕ) → may_be_rows columns rows ≡ true → (columns ≡ 0 → rows ≡ 0) × (rows ≡ 0 → columns ≡ 0)
both_none columns rows e =
    elim (eqb_tells columns 0) [
      | inl none ↦ (let same : eqb rows 0 ≡ true = sym (ap (λ (b : Bool). cond b (eqb rows 0) (ltb 0 rows)) none.0) ∙ e in let zero : rows ≡ 0 = eqb-true rows 0 same in ((λ _. zero), (λ _. none.1)))
      | inr some ↦ (let more : ltb 0 rows ≡ true = sym (ap (λ (b : Bool). cond b (eqb rows 0) (ltb 0 rows)) some.0) ∙ e in let lt : 0 < rows = ltb-true 0 rows more in ((λ h. absurd (some.1 h)), (λ h. absurd (omega arith))))
    ]

none_or_some : (columns rows : ℕ) → (columns ≡ 0 → rows ≡ 0) → (rows ≡ 0 → columns ≡ 0) → may_be_rows columns rows ≡ true
none_or_some columns rows f g =
    elim (eqb_tells columns 0) [
      | inl none ↦ ap (λ (b : Bool). cond b (eqb rows 0) (ltb 0 rows)) none.0 ∙ eq-eqb rows 0 (f none.1)
      | inr some ↦ ap (λ (b : Bool). cond b (eqb rows 0) (ltb 0 rows)) some.0 ∙ lt-ltb 0 rows (positive rows (λ h. some.1 (g h)))
    ]
  where
    positive : (n : ℕ) → (n ≡ 0 → ⊥) → 0 < n
    positive n h = elim (eqb_tells n 0) [ inl none ↦ absurd (h none.1) | inr some ↦ (let ne : (n ≡ 0 → ⊥) = some.1 in omega arith) ]

-- the width of rows that were read
width_is : (columns : ℕ) (rows : List Row) → All (FitsRow columns) rows → (length rows ≡ 0 → columns ≡ 0) → width_of rows ≡ columns
width_is columns [] each none = sym (none refl)
width_is columns (row ∷ rows) each none = (let first : FitsRow columns row = each 0 [] (omega arith) in first.width)

-- ---- what is read is spelled so

abbrev Behind : Cursor → OpTag → List ℕ → Op × Cursor → Type 0
Behind at t rest x = (tail : List ℕ) × (op_bytes at.texts x.0 ≡ code_of_op t ∷ tail) × Moves (moved at rest) x.1 (texts_of_op x.0) tail × FitsOp x.0

create_behind : (at : Cursor) (rest : List ℕ) (h : OpHead × Cursor) (x : Op × Cursor) → IsPlace (moved at rest) → create_at at rest ≡ Ok h → op_behind h.0 h.1 ≡ Ok x → Behind at kind.Create rest x
unfolding create_at op_bytes
create_behind at rest h x place e d =
    let a = bind_ok (schema_at rest) (λ s. Ok (head.Create s.0, moved at s.1)) h e in
    let t = schema_takes rest a.0 place.rest_fits a.1 in
    let made : op_behind (head.Create a.0.0) (moved at a.0.1) ≡ Ok x = subst (λ (p : OpHead × Cursor). op_behind p.0 p.1 ≡ Ok x) (sym (ok_is (head.Create a.0.0, moved at a.0.1) h a.2)) d in
    subst (Behind at kind.Create rest) (ok_is (op.Create a.0.0, moved at a.0.1) x made) (schema_bytes a.0.0, refl, moves_past (moved at rest) (schema_bytes a.0.0) a.0.1 place t.1, t.0)

add_behind : (at : Cursor) (rest : List ℕ) (h : OpHead × Cursor) (x : Op × Cursor) → IsPlace (moved at rest) → add_at at rest ≡ Ok h → op_behind h.0 h.1 ≡ Ok x → Behind at kind.AddColumn rest x
unfolding add_at op_bytes
add_behind at rest h x place e d =
    let a = bind_ok (name_at rest) (λ table. column_at table.1 >>= λ col. Ok (head.AddColumn table.0 col.0, moved at col.1)) h e in
    let b = bind_ok (column_at a.0.1) (λ col. Ok (head.AddColumn a.0.0 col.0, moved at col.1)) h a.2 in
    let t0 = name_takes rest a.0.0 a.0.1 place.rest_fits a.1 in
    let t1 = column_takes a.0.1 b.0 t0.0.rest_fits b.1 in
    let both = Takes-then rest (name_bytes a.0.0) a.0.1 (column_bytes b.0.0) b.0.1 t0.0 t1.1 in
    let text = name_bytes a.0.0 ++ column_bytes b.0.0 in
    let made : op_behind (head.AddColumn a.0.0 b.0.0) (moved at b.0.1) ≡ Ok x = subst (λ (p : OpHead × Cursor). op_behind p.0 p.1 ≡ Ok x) (sym (ok_is (head.AddColumn a.0.0 b.0.0, moved at b.0.1) h b.2)) d in
    subst (Behind at kind.AddColumn rest) (ok_is (op.AddColumn a.0.0 b.0.0, moved at b.0.1) x made) (text, refl, moves_past (moved at rest) text b.0.1 place both, (t0.1, t1.0))

insert_behind : (at : Cursor) (rest : List ℕ) (h : OpHead × Cursor) (x : Op × Cursor) → IsPlace (moved at rest) → insert_at at rest ≡ Ok h → op_behind h.0 h.1 ≡ Ok x → Behind at kind.Insert rest x
unfolding insert_at rows_at op_bytes
insert_behind at rest h x place e d =
    let a = bind_ok (name_at rest) (λ table. number_at w16 table.1 >>= λ columns. kept (may_be_rows columns.0) columns.1 (number_at w32 columns.1) >>= λ rows. Ok (head.Insert table.0 columns.0 rows.0, moved at rows.1)) h e in
    let table = a.0 in
    let b = bind_ok (number_at w16 table.1) (λ columns. kept (may_be_rows columns.0) columns.1 (number_at w32 columns.1) >>= λ rows. Ok (head.Insert table.0 columns.0 rows.0, moved at rows.1)) h a.2 in
    let columns = b.0 in
    let c = bind_ok (kept (may_be_rows columns.0) columns.1 (number_at w32 columns.1)) (λ rows. Ok (head.Insert table.0 columns.0 rows.0, moved at rows.1)) h b.2 in
    let count = c.0 in
    let k = kept_ok (may_be_rows columns.0) columns.1 (number_at w32 columns.1) count c.1 in
    let rule = both_none columns.0 count.0 k.1 in
    let t0 = name_takes rest table.0 table.1 place.rest_fits a.1 in
    let t1 = number_takes w16 (2 ^ 16) wide16 table.1 columns.0 columns.1 t0.0.rest_fits b.1 in
    let t2 = number_takes w32 (2 ^ 32) wide32 columns.1 count.0 count.1 t1.0.rest_fits k.0 in
    let e12 = Takes-then table.1 (u16_bytes columns.0) columns.1 (u32_bytes count.0) count.1 t1.0 t2.0 in
    let e02 = Takes-then rest (name_bytes table.0) table.1 (u16_bytes columns.0 ++ u32_bytes count.0) count.1 t0.0 e12 in
    let front = name_bytes table.0 ++ (u16_bytes columns.0 ++ u32_bytes count.0) in
    let m0 = moves_past (moved at rest) front count.1 place e02 in
    let made : op_behind (head.Insert table.0 columns.0 count.0) (moved at count.1) ≡ Ok x = subst (λ (p : OpHead × Cursor). op_behind p.0 p.1 ≡ Ok x) (sym (ok_is (head.Insert table.0 columns.0 count.0, moved at count.1) h c.2)) d in
    let r = bind_ok (rows_at columns.0 count.0 (moved at count.1)) (λ rows. Ok (op.Insert table.0 rows.0, rows.1)) x made in
    let rows = r.0.0 in
    let s = items_spelled (row_at columns.0) texts_of_row row_bytes (FitsRow columns.0) (row_spelled columns.0) count.0 (moved at count.1) r.0 (place_after (moved at rest) (moved at count.1) [] front place m0) r.1 in
    let width : width_of rows ≡ columns.0 = width_is columns.0 rows s.1 (λ none. rule.1 (sym s.2 ∙ none)) in
    let both = moves_then (moved at rest) (moved at count.1) r.0.1 [] (flat_map texts_of_row rows) front (rows_bytes at.texts rows) m0 s.0 in
    let tail = name_bytes table.0 ++ (u16_bytes columns.0 ++ (u32_bytes count.0 ++ rows_bytes at.texts rows)) in
    let grouped : front ++ rows_bytes at.texts rows ≡ tail = append_assoc (name_bytes table.0) (u16_bytes columns.0 ++ u32_bytes count.0) (rows_bytes at.texts rows) ∙ ap (λ (l : List ℕ). name_bytes table.0 ++ l) (append_assoc (u16_bytes columns.0) (u32_bytes count.0) (rows_bytes at.texts rows)) in
    let text : op_bytes at.texts (op.Insert table.0 rows) ≡ 3 ∷ tail = ap (λ (w : ℕ). 3 ∷ (name_bytes table.0 ++ (u16_bytes w ++ (u32_bytes (length rows) ++ rows_bytes at.texts rows)))) width ∙ ap (λ (n : ℕ). 3 ∷ (name_bytes table.0 ++ (u16_bytes columns.0 ++ (u32_bytes n ++ rows_bytes at.texts rows)))) s.2 in
    let fits : FitsRows columns.0 rows = record { each = s.1; few = omega (arith, s.2, t2.1); narrow = t1.1; some = λ none. s.2 ∙ rule.0 none; none = λ none. rule.1 (sym s.2 ∙ none) } in
    subst (Behind at kind.Insert rest) (ok_is (op.Insert table.0 rows, r.0.1) x r.2) (tail, text, subst (λ (l : List ℕ). Moves (moved at rest) r.0.1 (flat_map texts_of_row rows) l) grouped both, (t0.1, subst (λ (w : ℕ). FitsRows w rows) (sym width) fits))

keys_behind : (at : Cursor) (rest : List ℕ) (h : OpHead × Cursor) (x : Op × Cursor) → IsPlace (moved at rest) → set_keys_at at rest ≡ Ok h → op_behind h.0 h.1 ≡ Ok x → Behind at kind.SetKeys rest x
unfolding set_keys_at op_bytes
keys_behind at rest h x place e d =
    let a = bind_ok (name_at rest) (λ table. keys_at table.1 >>= λ keys. Ok (head.SetKeys table.0 keys.0, moved at keys.1)) h e in
    let b = bind_ok (keys_at a.0.1) (λ keys. Ok (head.SetKeys a.0.0 keys.0, moved at keys.1)) h a.2 in
    let t0 = name_takes rest a.0.0 a.0.1 place.rest_fits a.1 in
    let t1 = keys_takes a.0.1 b.0 t0.0.rest_fits b.1 in
    let both = Takes-then rest (name_bytes a.0.0) a.0.1 (keys_bytes b.0.0) b.0.1 t0.0 t1.1 in
    let text = name_bytes a.0.0 ++ keys_bytes b.0.0 in
    let made : op_behind (head.SetKeys a.0.0 b.0.0) (moved at b.0.1) ≡ Ok x = subst (λ (p : OpHead × Cursor). op_behind p.0 p.1 ≡ Ok x) (sym (ok_is (head.SetKeys a.0.0 b.0.0, moved at b.0.1) h b.2)) d in
    subst (Behind at kind.SetKeys rest) (ok_is (op.SetKeys a.0.0 b.0.0, moved at b.0.1) x made) (text, refl, moves_past (moved at rest) text b.0.1 place both, (t0.1, t1.0))

behind : (at : Cursor) (t : OpTag) (rest : List ℕ) (h : OpHead × Cursor) (x : Op × Cursor) → IsPlace (moved at rest) → head_behind at t rest ≡ Ok h → op_behind h.0 h.1 ≡ Ok x → Behind at t rest x
behind at kind.Create rest h x place e d = create_behind at rest h x place e d
behind at kind.AddColumn rest h x place e d = add_behind at rest h x place e d
behind at kind.Insert rest h x place e d = insert_behind at rest h x place e d
behind at kind.SetKeys rest h x place e d = keys_behind at rest h x place e d

op_code : (code : ℕ) (t : OpTag) → op_of_code code ≡ Some t → code_of_op t ≡ code
op_code code t e = eqb-true (code_of_op t) code (find_passes (λ j. eqb (code_of_op j) code) (kind.Create ∷ kind.AddColumn ∷ kind.Insert ∷ kind.SetKeys ∷ []) t e)

pub op_spelled : GivesSpelled op_at texts_of_op op_bytes FitsOp
unfolding op_at head_at
op_spelled at x place e =
    let a = bind_ok (head_at at) (λ h. op_behind h.0 h.1) x e in
    let b = bind_ok (coded op_of_code at.rest (byte_at at.rest)) (λ t. head_behind at t.0 t.1) a.0 a.1 in
    let code = coded_ok op_of_code at.rest (byte_at at.rest) b.0 b.1 in
    let first = byte_takes at.rest code.0 b.0.1 place.rest_fits code.1 in
    let front : Moves at (moved at b.0.1) [] (code_of_op b.0.0 ∷ []) = subst (λ (n : ℕ). Moves at (moved at b.0.1) [] (n ∷ [])) (sym (op_code code.0 b.0.0 code.2)) (moves_past at (code.0 ∷ []) b.0.1 place first.0) in
    let h = behind at b.0.0 b.0.1 a.0 x (place_after at (moved at b.0.1) [] (code_of_op b.0.0 ∷ []) place front) b.2 a.2 in
    let both : Moves at x.1 (texts_of_op x.0) (code_of_op b.0.0 ∷ h.0) = moves_then at (moved at b.0.1) x.1 [] (texts_of_op x.0) (code_of_op b.0.0 ∷ []) h.0 front h.2 in
    (subst (λ (l : List ℕ). Moves at x.1 (texts_of_op x.0) l) (sym h.1) both, h.3)

-- ---- what is spelled is read

code_op : (t : OpTag) → op_of_code (code_of_op t) ≡ Some t
code_op kind.Create = refl
code_op kind.AddColumn = refl
code_op kind.Insert = refl
code_op kind.SetKeys = refl

-- a change is read where what stands behind its code is
op_from : (all used : Texts) (t : OpTag) (tail : List ℕ) (h : OpHead × Cursor) (x : Op × Cursor) → head_behind (standing all used (code_of_op t ∷ tail)) t tail ≡ Ok h → op_behind h.0 h.1 ≡ Ok x → op_at (standing all used (code_of_op t ∷ tail)) ≡ Ok x
unfolding op_at head_at
op_from all used t tail h x e d =
    let at = standing all used (code_of_op t ∷ tail) in
    let one : coded op_of_code at.rest (byte_at at.rest) ≡ Ok (t, tail) = coded_again op_of_code at.rest (byte_at at.rest) (code_of_op t) t tail refl (code_op t) in
    let two : head_at at ≡ Ok h = bind_again (coded op_of_code at.rest (byte_at at.rest)) (λ s. head_behind at s.0 s.1) (t, tail) h one e in
    bind_again (head_at at) (λ s. op_behind s.0 s.1) h x two d

unmoved : (all used : Texts) (rest : List ℕ) (o : Op) → ◌≡◌ {A = ReadOn Op} (Ok (o, standing all used rest)) (Ok (o, standing all (used ++ []) rest))
unmoved all used rest o = ap (λ (l : Texts). Ok (o, standing all l rest)) (sym (append-nil used))

create_taken : (all used : Texts) (s : Schema) (rest : List ℕ) → FitsSchema s → op_at (standing all used (1 ∷ (schema_bytes s ++ rest))) ≡ Ok (op.Create s, standing all used rest)
unfolding create_at
create_taken all used s rest fits =
    let tail = schema_bytes s ++ rest in
    let at = standing all used (1 ∷ tail) in
    let one : create_at at tail ≡ Ok (head.Create s, standing all used rest) = bind_again (schema_at tail) (λ r. Ok (head.Create r.0, moved at r.1)) (s, rest) (head.Create s, standing all used rest) (schema_again s rest fits) refl in
    op_from all used kind.Create tail (head.Create s, standing all used rest) (op.Create s, standing all used rest) one refl

add_taken : (all used : Texts) (table : List ℕ) (c : Col) (rest : List ℕ) → op_at (standing all used (2 ∷ ((name_bytes table ++ column_bytes c) ++ rest))) ≡ Ok (op.AddColumn table c, standing all used rest)
unfolding add_at
add_taken all used table c rest =
    let tail = name_bytes table ++ (column_bytes c ++ rest) in
    let at = standing all used (2 ∷ tail) in
    let one : add_at at tail ≡ Ok (head.AddColumn table c, standing all used rest) = bind_again (name_at tail) (λ t. column_at t.1 >>= λ col. Ok (head.AddColumn t.0 col.0, moved at col.1)) (table, column_bytes c ++ rest) (head.AddColumn table c, standing all used rest) (name_again table (column_bytes c ++ rest)) (bind_again (column_at (column_bytes c ++ rest)) (λ col. Ok (head.AddColumn table col.0, moved at col.1)) (c, rest) (head.AddColumn table c, standing all used rest) (column_again c rest) refl) in
    ap (λ (l : List ℕ). op_at (standing all used (2 ∷ l))) (append_assoc (name_bytes table) (column_bytes c) rest)
    ∙ op_from all used kind.AddColumn tail (head.AddColumn table c, standing all used rest) (op.AddColumn table c, standing all used rest) one refl

keys_taken : (all used : Texts) (table keys : List ℕ) (rest : List ℕ) → FitsKeys keys → op_at (standing all used (4 ∷ ((name_bytes table ++ keys_bytes keys) ++ rest))) ≡ Ok (op.SetKeys table keys, standing all used rest)
unfolding set_keys_at
keys_taken all used table keys rest fits =
    let behind = keys_bytes keys ++ rest in
    let tail = name_bytes table ++ behind in
    let at = standing all used (4 ∷ tail) in
    let made : OpHead × Cursor = (head.SetKeys table keys, standing all used rest) in
    let one : set_keys_at at tail ≡ Ok made =
    bind_again (name_at tail) (λ t. keys_at t.1 >>= λ ks. Ok (head.SetKeys t.0 ks.0, moved at ks.1)) (table, behind) made (name_again table behind)
    (bind_again (keys_at behind) (λ ks. Ok (head.SetKeys table ks.0, moved at ks.1)) (keys, rest) made (keys_again keys rest fits) refl) in
    ap (λ (l : List ℕ). op_at (standing all used (4 ∷ l))) (append_assoc (name_bytes table) (keys_bytes keys) rest)
    ∙ op_from all used kind.SetKeys tail made (op.SetKeys table keys, standing all used rest) one refl

insert_taken : (all used later : Texts) (table : List ℕ) (rows : List Row) (rest : List ℕ) → FitsRows (width_of rows) rows → all ≡ with_texts [] (used ++ (flat_map texts_of_row rows ++ later)) → length all < 2 ^ 32 → op_at (standing all used (3 ∷ ((name_bytes table ++ (u16_bytes (width_of rows) ++ (u32_bytes (length rows) ++ rows_bytes all rows))) ++ rest))) ≡ Ok (op.Insert table rows, standing all (used ++ flat_map texts_of_row rows) rest)
unfolding insert_at rows_at
insert_taken all used later table rows rest fits is few =
    let w = width_of rows in
    let n = length rows in
    let r3 = rows_bytes all rows ++ rest in
    let r2 = u32_bytes n ++ r3 in
    let r1 = u16_bytes w ++ r2 in
    let tail = name_bytes table ++ r1 in
    let grouped : (name_bytes table ++ (u16_bytes w ++ (u32_bytes n ++ rows_bytes all rows))) ++ rest ≡ tail = append_assoc (name_bytes table) (u16_bytes w ++ (u32_bytes n ++ rows_bytes all rows)) rest ∙ ap (λ (l : List ℕ). name_bytes table ++ l) (append_assoc (u16_bytes w) (u32_bytes n ++ rows_bytes all rows) rest ∙ ap (λ (l : List ℕ). u16_bytes w ++ l) (append_assoc (u32_bytes n) (rows_bytes all rows) rest)) in
    let at = standing all used (3 ∷ tail) in
    let made : OpHead × Cursor = (head.Insert table w n, standing all used r3) in
    let rule : may_be_rows w n ≡ true = none_or_some w n fits.some fits.none in
    let three = kept_again (may_be_rows w) r2 (number_at w32 r2) (n, r3) (number_again w32 (2 ^ 32) wide32 n r3 fits.few) rule in
    let two = number_again w16 (2 ^ 16) wide16 w r2 fits.narrow in
    let one : insert_at at tail ≡ Ok made =
    bind_again (name_at tail) (λ t. number_at w16 t.1 >>= λ columns. kept (may_be_rows columns.0) columns.1 (number_at w32 columns.1) >>= λ count. Ok (head.Insert t.0 columns.0 count.0, moved at count.1)) (table, r1) made (name_again table r1)
    (bind_again (number_at w16 r1) (λ columns. kept (may_be_rows columns.0) columns.1 (number_at w32 columns.1) >>= λ count. Ok (head.Insert table columns.0 count.0, moved at count.1)) (w, r2) made two
    (bind_again (kept (may_be_rows w) r2 (number_at w32 r2)) (λ count. Ok (head.Insert table w count.0, moved at count.1)) (n, r3) made three refl)) in
    let read = items_taken (row_at w) texts_of_row row_bytes (FitsRow w) (row_taken w) all used later rows rest fits.each is few in
    let whole : op_behind (head.Insert table w n) (standing all used r3) ≡ Ok (op.Insert table rows, standing all (used ++ flat_map texts_of_row rows) rest) = bind_again (rows_at w n (standing all used r3)) (λ r. Ok (op.Insert table r.0, r.1)) (rows, standing all (used ++ flat_map texts_of_row rows) rest) (op.Insert table rows, standing all (used ++ flat_map texts_of_row rows) rest) read refl in
    ap (λ (l : List ℕ). op_at (standing all used (3 ∷ l))) grouped
    ∙ op_from all used kind.Insert tail made (op.Insert table rows, standing all (used ++ flat_map texts_of_row rows) rest) one whole

pub op_taken : TakesSpelled op_at texts_of_op op_bytes FitsOp
unfolding op_bytes
op_taken all used later (op.Create s) rest fits is few = create_taken all used s rest fits ∙ unmoved all used rest (op.Create s)
op_taken all used later (op.AddColumn table c) rest fits is few = add_taken all used table c rest ∙ unmoved all used rest (op.AddColumn table c)
op_taken all used later (op.Insert table rows) rest fits is few = insert_taken all used later table rows rest fits.1 is few
op_taken all used later (op.SetKeys table keys) rest fits is few = keys_taken all used table keys rest fits.1 ∙ unmoved all used rest (op.SetKeys table keys)
