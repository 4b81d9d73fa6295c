-- Entries: what is read is spelled so, what is spelled is read, and nothing else follows from that.
use Rattle.std.proofs.Common.{◌≡◌, ℕ, ◌-◌, ◌^◌, ◌<◌, ◌≤◌, Bool, true, false, cond, eqb, ltb, zero, suc, inl, inr, List, [], ◌∷◌, ◌++◌, length, take, get_or, All, Result, Ok, Err, Option, Some, None, is_none, refl, sym, ap, subst, ◌∙◌, append_assoc, append-nil, arith}
use Rattle.std.specs.List.{flat_map}
use Rattle.std.specs.Int.{w32}
use Rattle.std.proofs.lemmas.Bool.{ltb-false, le-ltb, eqb-true, cases_lt}
use Rattle.std.proofs.lemmas.List.{nil_from_length, take_all, get_or_at, length-append}
use Rattle.std.proofs.lemmas.List.Concat.{flat_map-cons}
use Rattle.std.proofs.lemmas.List.Elements.{All-push, All-nil, All-append}
use Rattle.qd_base.specs.declared.cell.Cell.{Cell}
use Rattle.qd_base.specs.declared.cell.Cell.TheVariants as cell
use Rattle.qd_base.specs.declared.op.Entry.{Entry}
use Rattle.qd_base.specs.declared.op.Op.{Op}
use Rattle.qd_base.specs.declared.op.Op.TheVariants as op
use Rattle.qd_base.specs.Dictionary.{id_in, id_for, with_text, AreDistinct}
use Rattle.qd_base.proofs.Texts.{none_distinct, id_not_there, with_text-new, distinct-with_text}
use Rattle.qd_fields.specs.Spelling.{u32_bytes, text_bytes}
use Rattle.qd_fields.specs.Layout.{◌>>=◌, items, each, number_at, text_at}
use Rattle.qd_fields.proofs.Steps.{AreBytes, bind_ok, bind_again, ok_is, test_ok, kept_ok, kept_again, Takes, wide32, number_takes, number_again, text_takes, text_again, items_take, items_again, All-amid}
use Rattle.qd_wal_entry.specs.Spelling.{text_of, texts_of_row, texts_of_op, with_texts, dictionary_of, width_of, op_bytes, entry_bytes, FitsCell, FitsRow, FitsOp, IsEntry, SpellsEntry}
use Rattle.qd_wal_entry.specs.Writing.{AreShort}
use Rattle.qd_wal_entry.specs.Cursor.{Cursor}
use Rattle.qd_wal_entry.specs.Layout.{new_text, texts_at, op_at, open_at, unused, closed, entry_from}
use Rattle.qd_wal_entry.specs.Reading.{IsDamagedAt}
use Rattle.qd_wal_entry.proofs.DictionaryLemmas.{Texts, id_for-append, distinct_texts, id_of_place}
use Rattle.qd_wal_entry.proofs.Places.{IsPlace, Moves, items_spelled, standing, items_taken}
use Rattle.qd_wal_entry.proofs.Ops.{op_spelled, op_taken}

-- ---- texts

none_is : {X : Type 0} (o : Option X) → is_none o ≡ true → o ≡ None
none_is None e = refl
none_is (Some x) e = absurd cc

pub record AreTexts (texts : Texts) : Type 0 where
  pub distinct : AreDistinct texts
  pub short : AreShort texts

-- a text that is none of those before joins them
pub pushed : (before : Texts) (t : List ℕ) → id_in before t ≡ None → with_text before t ≡ before ++ t ∷ []
pushed before t new = let place = id_not_there before t new in with_text-new before t (omega arith)

text_takes_new : (before : Texts) (bytes : List ℕ) (x : List ℕ × List ℕ) → AreTexts before → AreBytes bytes → new_text before bytes ≡ Ok x → AreTexts (before ++ x.0 ∷ []) × Takes bytes (text_bytes x.0) x.1
unfolding new_text
text_takes_new before bytes x good known e =
    let k = kept_ok (λ t. is_none (id_in before t)) bytes (text_at bytes) x e in
    let t = text_takes bytes x.0 x.1 known k.0 in
    let new = pushed before x.0 (none_is (id_in before x.0) k.1) in
    let size : length x.0 < 2 ^ 16 = t.1 in
    let short : length x.0 ≤ 65535 = omega arith in
    (record { distinct = subst AreDistinct new (distinct-with_text before x.0 good.distinct); short = All-push (λ (s : List ℕ). length s ≤ 65535) before x.0 good.short short }, t.0)

-- ---- what is read is spelled so

record Opens (bytes : List ℕ) (count : ℕ) (at : Cursor) : Type 0 where
  parts : bytes ≡ u32_bytes (length at.texts) ++ (flat_map text_bytes at.texts ++ (u32_bytes count ++ at.rest))
  few : count < 2 ^ 32
  few_texts : length at.texts < 2 ^ 32
  unused : at.used ≡ 0
  place : IsPlace at

opens : (bytes : List ℕ) (x : ℕ × Cursor) → AreBytes bytes → open_at bytes ≡ Ok x → Opens bytes x.0 x.1
unfolding open_at texts_at
opens bytes x known e =
    let a = bind_ok (texts_at bytes) (λ texts. number_at w32 texts.1 >>= λ count. Ok (count.0, record { texts = texts.0; used = 0; rest = count.1 })) x e in
    let texts = a.0 in
    let b = bind_ok (number_at w32 texts.1) (λ count. Ok (count.0, record { texts = texts.0; used = 0; rest = count.1 })) x a.2 in
    let c = bind_ok (number_at w32 bytes) (λ count. items new_text count.0 [] count.1) texts a.1 in
    let t0 = number_takes w32 (2 ^ 32) wide32 bytes c.0.0 c.0.1 known c.1 in
    let t1 = items_take new_text text_bytes AreTexts text_takes_new c.0.0 c.0.1 texts (record { distinct = none_distinct; short = All-nil (λ (s : List ℕ). length s ≤ 65535) }) t0.0.rest_fits c.2 in
    let t2 = number_takes w32 (2 ^ 32) wide32 texts.1 b.0.0 b.0.1 t1.2.rest_fits b.1 in
    let good : AreTexts texts.0 = t1.0 in
    let size : length texts.0 ≡ c.0.0 = t1.1 in
    let begun : bytes ≡ u32_bytes c.0.0 ++ (flat_map text_bytes texts.0 ++ (u32_bytes b.0.0 ++ b.0.1)) = t0.0.parts ∙ ap (λ (l : List ℕ). u32_bytes c.0.0 ++ l) (t1.2.parts ∙ ap (λ (l : List ℕ). flat_map text_bytes texts.0 ++ l) t2.0.parts) in
    let at : Cursor = record { texts = texts.0; used = 0; rest = b.0.1 } in
    let made : Opens bytes b.0.0 at = record {
      parts = begun ∙ ap (λ (n : ℕ). u32_bytes n ++ (flat_map text_bytes texts.0 ++ (u32_bytes b.0.0 ++ b.0.1))) (sym size);
      few = t2.1;
      few_texts = omega (arith, size, t0.1);
      unused = refl;
      place = record { distinct = good.distinct; short = good.short; within = omega arith; rest_fits = t2.0.rest_fits };
    } in
    subst (λ (y : ℕ × Cursor). Opens bytes y.0 y.1) (ok_is (b.0.0, at) x b.2) made

-- the texts that were used are read again: that is never the end
never_ends : (bytes : List ℕ) (used : ℕ) (u : Unit {0}) → unused bytes used ≡ Ok u → ⊥
unfolding unused
never_ends bytes used u e =
    let a = bind_ok (number_at w32 bytes) (λ count. items new_text used [] count.1 >>= λ texts. Err (length texts.1)) u e in
    let b = bind_ok (items new_text used [] a.0.1) (λ texts. Err (length texts.1)) u a.2 in
    no b.0.1 b.2
  where
    no : (rest : List ℕ) → Err (length rest) ≡ Ok u → ⊥
    no rest h = cc

ends : (bytes : List ℕ) (at : Cursor) (u : Unit {0}) → closed bytes at ≡ Ok u → (length at.texts ≤ at.used) × (at.rest ≡ [])
unfolding closed
ends bytes at u e = go (ltb at.used (length at.texts)) refl e
  where
    go : (b : Bool) → ltb at.used (length at.texts) ≡ b → cond b (unused bytes at.used) (cond (eqb (length at.rest) 0) (Ok tt) (Err (length at.rest))) ≡ Ok u → (length at.texts ≤ at.used) × (at.rest ≡ [])
    go true is h = absurd (never_ends bytes at.used u h)
    go false is h = (let t = test_ok (eqb (length at.rest) 0) (length at.rest) tt u h in (ltb-false at.used (length at.texts) is, nil_from_length at.rest (eqb-true (length at.rest) 0 t.0)))

pub entry_takes : (bytes : List ℕ) (e : Entry) → AreBytes bytes → entry_from bytes ≡ Ok e → SpellsEntry bytes e
unfolding entry_from entry_bytes
entry_takes bytes e known h =
    let a = bind_ok (open_at bytes) (λ start. items (each op_at) start.0 [] start.1 >>= λ ops. closed bytes ops.1 >>= λ u. Ok (record { ops = ops.0 })) e h in
    let start = a.0 in
    let b = bind_ok (items (each op_at) start.0 [] start.1) (λ ops. closed bytes ops.1 >>= λ u. Ok (record { ops = ops.0 })) e a.2 in
    let ops = b.0.0 in
    let to = b.0.1 in
    let c = bind_ok (closed bytes to) (λ u. Ok (record { ops = ops })) e b.2 in
    let o : Opens bytes start.0 start.1 = opens bytes start known a.1 in
    let s = items_spelled op_at texts_of_op op_bytes FitsOp op_spelled start.0 start.1 b.0 o.place b.1 in
    let m : Moves start.1 to (flat_map texts_of_op ops) (flat_map (op_bytes start.1.texts) ops) = s.0 in
    let end = ends bytes to c.0 c.1 in
    let texts = start.1.texts in
    let used : length texts ≤ to.used = subst (λ (l : Texts). length l ≤ to.used) m.same end.0 in
    let named : dictionary_of ops ≡ texts = subst (λ (n : ℕ). with_texts (take n texts) (flat_map texts_of_op ops) ≡ take to.used texts) o.unused m.named ∙ take_all to.used texts used in
    let body : start.1.rest ≡ flat_map (op_bytes texts) ops = m.parts ∙ ap (λ (l : List ℕ). flat_map (op_bytes texts) ops ++ l) end.1 ∙ append-nil (flat_map (op_bytes texts) ops) in
    let spell : Texts → List ℕ = λ t. u32_bytes (length t) ++ (flat_map text_bytes t ++ (u32_bytes (length ops) ++ flat_map (op_bytes t) ops)) in
    let count : length ops ≡ start.0 = s.2 in
    let made : Entry = record { ops = ops } in
    let spelled : SpellsEntry bytes made = record {
      sound = record { each = s.1; few = subst (λ (n : ℕ). n < 2 ^ 32) (sym count) o.few; few_texts = subst (λ (l : Texts). length l < 2 ^ 32) (sym named) o.few_texts };
      whole = o.parts ∙ ap (λ (l : List ℕ). u32_bytes (length texts) ++ (flat_map text_bytes texts ++ (u32_bytes start.0 ++ l))) body ∙ ap (λ (n : ℕ). u32_bytes (length texts) ++ (flat_map text_bytes texts ++ (u32_bytes n ++ flat_map (op_bytes texts) ops))) (sym count) ∙ ap spell (sym named);
    } in
    subst (SpellsEntry bytes) (ok_is made e c.2) spelled

-- ---- what is spelled is read

texts_short : (known texts : Texts) → AreShort known → AreShort texts → AreShort (with_texts known texts)
texts_short known [] h short = h
texts_short known (t ∷ ts) h short = texts_short (with_text known t) ts (go (ltb (id_for known t) (length known))) (λ k d lt. short (suc k) d (omega arith))
  where
    go : (b : Bool) → AreShort (cond b known (known ++ t ∷ []))
    go true = h
    go false = All-push (λ (s : List ℕ). length s ≤ 65535) known t h (short zero [] (omega arith))

all_short : {A : Type 0} (texts_of : A → Texts) (Fits : A → Type 0) (one : (x : A) → Fits x → AreShort (texts_of x)) (xs : List A) → All Fits xs → AreShort (flat_map texts_of xs)
all_short texts_of Fits one [] each = All-nil (λ (s : List ℕ). length s ≤ 65535)
all_short texts_of Fits one (x ∷ xs) each = subst AreShort (sym (flat_map-cons texts_of x xs)) (All-append (λ (s : List ℕ). length s ≤ 65535) (texts_of x) (flat_map texts_of xs) (one x (each zero x (omega arith))) (all_short texts_of Fits one xs (λ k d lt. each (suc k) d (omega arith))))

cell_short : (c : Cell) → FitsCell c → AreShort (text_of c)
cell_short cell.Null fits = All-nil (λ (s : List ℕ). length s ≤ 65535)
cell_short (cell.Long x) fits = All-nil (λ (s : List ℕ). length s ≤ 65535)
cell_short (cell.Bool b) fits = All-nil (λ (s : List ℕ). length s ≤ 65535)
cell_short (cell.Text t) fits = All-push (λ (s : List ℕ). length s ≤ 65535) [] t (All-nil (λ (s : List ℕ). length s ≤ 65535)) fits
cell_short (cell.Time t) fits = All-nil (λ (s : List ℕ). length s ≤ 65535)

op_short : (o : Op) → FitsOp o → AreShort (texts_of_op o)
op_short (op.Create s) fits = All-nil (λ (s : List ℕ). length s ≤ 65535)
op_short (op.AddColumn table c) fits = All-nil (λ (s : List ℕ). length s ≤ 65535)
op_short (op.SetKeys table keys) fits = All-nil (λ (s : List ℕ). length s ≤ 65535)
op_short (op.Insert table rows) fits = all_short texts_of_row (FitsRow (width_of rows)) (λ row h. all_short text_of FitsCell cell_short row h.cells) rows fits.1.each

texts_are : (ops : List Op) → All FitsOp ops → AreTexts (dictionary_of ops)
texts_are ops fit = record {
  distinct = distinct_texts [] (flat_map texts_of_op ops) none_distinct;
  short = texts_short [] (flat_map texts_of_op ops) (All-nil (λ (s : List ℕ). length s ≤ 65535)) (all_short texts_of_op FitsOp op_short ops fit);
}

-- among distinct texts, none is one of those before it
is_new : (texts before : Texts) (t : List ℕ) (after : Texts) → texts ≡ before ++ t ∷ after → AreDistinct texts → is_none (id_in before t) ≡ true
is_new texts before t after e distinct =
    let whole = before ++ t ∷ after in
    let apart : AreDistinct whole = subst AreDistinct e distinct in
    let at : get_or whole (length before) [] ≡ t = get_or_at before t after [] (length before) refl in
    let place : id_for whole t ≡ length before = ap (λ (s : List ℕ). id_for whole s) (sym at) ∙ id_of_place whole (length before) apart (omega (arith, length-append before (t ∷ after))) in
    let absent : length before ≤ id_for before t = elim (cases_lt (id_for before t) (length before)) [ inl there ↦ (let early = id_for-append before (t ∷ after) t there in absurd (omega arith)) | inr le ↦ le ] in
    ap (λ (b : Bool). is_none (cond b (Some (id_for before t)) None)) (le-ltb (id_for before t) (length before) absent)

text_stands : (texts before : Texts) (t : List ℕ) (after : Texts) (rest : List ℕ) → AreTexts texts → texts ≡ before ++ t ∷ after → new_text before (text_bytes t ++ rest) ≡ Ok (t, rest)
unfolding new_text
text_stands texts before t after rest good e =
    let short : length t ≤ 65535 = All-amid (λ (s : List ℕ). length s ≤ 65535) texts before t after e good.short in
    kept_again (λ s. is_none (id_in before s)) (text_bytes t ++ rest) (text_at (text_bytes t ++ rest)) (t, rest) (text_again t rest (omega arith)) (is_new texts before t after e good.distinct)

step_on : {A B : Type 0} (r : Result A ℕ) (f : A → Result B ℕ) (x : A) → r ≡ Ok x → (r >>= f) ≡ f x
step_on r f x e = ap (λ q. q >>= f) e

-- what the end of an entry is, by the bytes that are left
abbrev ended : List ℕ → Result (Unit {0}) ℕ
ended more = cond (eqb (length more) 0) (Ok tt) (Err (length more))

opens_again : (e : Entry) (more : List ℕ) → IsEntry e → open_at (entry_bytes e ++ more) ≡ Ok (length e.ops, standing (dictionary_of e.ops) [] (flat_map (op_bytes (dictionary_of e.ops)) e.ops ++ more))
unfolding open_at texts_at entry_bytes
opens_again e more sound =
    let texts = dictionary_of e.ops in
    let good : AreTexts texts = texts_are e.ops sound.each in
    let body = flat_map (op_bytes texts) e.ops in
    let r3 = body ++ more in
    let r2 = u32_bytes (length e.ops) ++ r3 in
    let r1 = flat_map text_bytes texts ++ r2 in
    let r0 = u32_bytes (length texts) ++ r1 in
    let grouped : (u32_bytes (length texts) ++ (flat_map text_bytes texts ++ (u32_bytes (length e.ops) ++ body))) ++ more ≡ r0 = append_assoc (u32_bytes (length texts)) (flat_map text_bytes texts ++ (u32_bytes (length e.ops) ++ body)) more ∙ ap (λ (l : List ℕ). u32_bytes (length texts) ++ l) (append_assoc (flat_map text_bytes texts) (u32_bytes (length e.ops) ++ body) more ∙ ap (λ (l : List ℕ). flat_map text_bytes texts ++ l) (append_assoc (u32_bytes (length e.ops)) body more)) in
    let one : number_at w32 r0 ≡ Ok (length texts, r1) = number_again w32 (2 ^ 32) wide32 (length texts) r1 sound.few_texts in
    let two : items new_text (length texts) [] r1 ≡ Ok (texts, r2) = items_again new_text text_bytes texts (λ before t after rest h. text_stands texts before t after rest good h) r2 in
    let named : texts_at r0 ≡ Ok (texts, r2) = bind_again (number_at w32 r0) (λ count. items new_text count.0 [] count.1) (length texts, r1) (texts, r2) one two in
    let three : number_at w32 r2 ≡ Ok (length e.ops, r3) = number_again w32 (2 ^ 32) wide32 (length e.ops) r3 sound.few in
    let made : ℕ × Cursor = (length e.ops, standing texts [] r3) in
    ap open_at grouped
    ∙ bind_again (texts_at r0) (λ t. number_at w32 t.1 >>= λ count. Ok (count.0, record { texts = t.0; used = 0; rest = count.1 })) (texts, r2) made named
    (bind_again (number_at w32 r2) (λ count. Ok (count.0, record { texts = texts; used = 0; rest = count.1 })) (length e.ops, r3) made three refl)

-- an entry that is spelled is read, and then what is left is judged
reads_on : (e : Entry) (more : List ℕ) → IsEntry e → entry_from (entry_bytes e ++ more) ≡ (ended more >>= λ u. Ok e)
unfolding entry_from closed
reads_on e more sound =
    let bytes = entry_bytes e ++ more in
    let ops = e.ops in
    let texts = dictionary_of ops in
    let start = standing texts [] (flat_map (op_bytes texts) ops ++ more) in
    let to = standing texts (flat_map texts_of_op ops) more in
    let close : List Op × Cursor → Result Entry ℕ = λ read. closed bytes read.1 >>= λ u. Ok (record { ops = read.0 }) in
    let all : texts ≡ with_texts [] (flat_map texts_of_op ops ++ []) = ap (with_texts []) (sym (append-nil (flat_map texts_of_op ops))) in
    let read : items (each op_at) (length ops) [] start ≡ Ok (ops, to) = items_taken op_at texts_of_op op_bytes FitsOp op_taken texts [] [] ops more sound.each all sound.few_texts in
    let whole : closed bytes to ≡ ended more = ap (λ (b : Bool). cond b (unused bytes (length texts)) (ended more)) (le-ltb (length texts) (length texts) (omega arith)) in
    step_on (open_at bytes) (λ s. items (each op_at) s.0 [] s.1 >>= close) (length ops, start) (opens_again e more sound)
    ∙ step_on (items (each op_at) (length ops) [] start) close (ops, to) read
    ∙ ap (λ (r : Result (Unit {0}) ℕ). r >>= λ u. Ok e) whole

pub entry_again : (bytes : List ℕ) (e : Entry) → SpellsEntry bytes e → entry_from bytes ≡ Ok e
entry_again bytes e spelled = ap entry_from (spelled.whole ∙ sym (append-nil (entry_bytes e))) ∙ reads_on e [] spelled.sound

-- ---- the laws

ok_same : (a b : Entry) → ◌≡◌ {A = Result Entry ℕ} (Ok a) (Ok b) → a ≡ b
ok_same a b e = cc

err_same : (a b : ℕ) → ◌≡◌ {A = Result Entry ℕ} (Err a) (Err b) → a ≡ b
err_same a b e = cc

pub one_entry : (bytes : List ℕ) (a b : Entry) → SpellsEntry bytes a → SpellsEntry bytes b → a ≡ b
one_entry bytes a b p q = ok_same a b (sym (entry_again bytes a p) ∙ entry_again bytes b q)

pub one_text : (a b : List ℕ) (e : Entry) → SpellsEntry a e → SpellsEntry b e → a ≡ b
one_text a b e p q = p.whole ∙ sym q.whole

pub no_front : (bytes more : List ℕ) (a b : Entry) → SpellsEntry bytes a → SpellsEntry (bytes ++ more) b → more ≡ []
no_front bytes more a b p q = nil_from_length more (go (eqb (length more) 0) refl (sym (reads_on a more p.sound) ∙ ap (λ (l : List ℕ). entry_from (l ++ more)) (sym p.whole) ∙ entry_again (bytes ++ more) b q))
  where
    go : (t : Bool) → eqb (length more) 0 ≡ t → (cond {A = Result (Unit {0}) ℕ} t (Ok tt) (Err (length more)) >>= λ u. Ok a) ≡ Ok b → length more ≡ 0
    go true is h = eqb-true (length more) 0 is
    go false is h = absurd (no (length more) h)
      where
        no : (left : ℕ) → ◌≡◌ {A = Result Entry ℕ} (Err left) (Ok b) → ⊥
        no left same = cc

-- where reading fails, nothing is spelled
pub not_spelled : (bytes : List ℕ) (left : ℕ) (e : Entry) → entry_from bytes ≡ Err left → SpellsEntry bytes e → ⊥
not_spelled bytes left e h spelled = no (sym h ∙ entry_again bytes e spelled)
  where
    no : ◌≡◌ {A = Result Entry ℕ} (Err left) (Ok e) → ⊥
    no same = cc

pub one_place : (bytes : List ℕ) (at other : ℕ) → IsDamagedAt bytes at → IsDamagedAt bytes other → at ≡ other
one_place bytes at other p q = p.2 ∙ ap (λ left. length bytes - left) (err_same p.0 q.0 (sym p.1 ∙ q.1)) ∙ sym q.2

pub damaged_spells_none : (bytes : List ℕ) (at : ℕ) (e : Entry) → IsDamagedAt bytes at → SpellsEntry bytes e → ⊥
damaged_spells_none bytes at e damaged spelled = not_spelled bytes damaged.0 e damaged.1 spelled
