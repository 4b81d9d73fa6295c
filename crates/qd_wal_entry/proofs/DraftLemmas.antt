-- What is added to an entry that is written.
use Rattle.std.proofs.Common.{◌≡◌, ℕ, ◌+◌, ◌<◌, ◌≤◌, List, [], ◌∷◌, ◌++◌, length, take, drop, get_or, slice_get, Some, Result, Ok, Err, OnOk, refl, sym, ap, subst, ◌∙◌, append_assoc, append-nil, arith}
use Rattle.std.specs.List.{flat_map}
use Rattle.std.proofs.lemmas.List.{take_more, take-append-drop, take_all}
use Rattle.std.proofs.lemmas.List.Concat.{flat_map-append}
use Rattle.std.proofs.lemmas.Option.{get_or_from_slice_get}
use Rattle.qd_base.specs.declared.cell.Cell.TheVariants as cell
use Rattle.qd_base.specs.declared.op.Entry.{Entry}
use Rattle.qd_base.specs.declared.op.Op.TheVariants as op
use Rattle.qd_base.specs.declared.schema.Col.{Col}
use Rattle.qd_base.specs.declared.schema.Schema.{Schema}
use Rattle.qd_base.specs.Dictionary.{id_for, with_text}
use Rattle.qd_base.specs.Rows.{Row}
use Rattle.qd_fields.specs.Spelling.{u16_bytes, u32_bytes, name_bytes, text_bytes, column_bytes, keys_bytes, schema_bytes}
use Rattle.qd_fields.proofs.Steps.{flat_map-push}
use Rattle.qd_wal_entry.specs.Spelling.{text_of, texts_of_row, texts_of_op, with_texts, dictionary_of, width_of, cell_bytes, rows_bytes, op_bytes, entry_bytes, IsEntry, SpellsEntry}
use Rattle.qd_wal_entry.specs.Writing.{Draft, Adds, FewWith}
use Rattle.qd_wal_entry.proofs.DictionaryLemmas.{Texts, id_kept, texts_more, texts_grow, texts_then}

module _ {A : Type 0} (texts_of : A → Texts) (spell : Texts → A → List ℕ) where
  -- some of a list are added, one after another
  abbrev pub AddsAll : Draft → Draft → List A → Type 0
  AddsAll = Adds (flat_map texts_of) (λ (t : Texts). flat_map (spell t))

  pub adds_none : (d : Draft) → AddsAll d d []
  adds_none d = record { texts = refl; bytes = λ more. sym (append-nil d.body) }

  adds_more : (start now next : Draft) (before : List A) (x : A) → AddsAll start now before → Adds texts_of spell now next x → AddsAll start next (before ++ x ∷ [])
  adds_more start now next before x p q = record {
    texts = q.texts ∙ ap (λ (l : Texts). with_texts l (texts_of x)) p.texts ∙ sym (texts_then start.texts (flat_map texts_of before) (texts_of x)) ∙ ap (with_texts start.texts) (sym (flat_map-push texts_of before x));
    bytes = λ more.
        let m = texts_more now.texts (texts_of x) in
        let same : now.texts ++ (m.0 ++ more) ≡ next.texts ++ more = sym (append_assoc now.texts m.0 more) ∙ ap (λ (l : Texts). l ++ more) (sym (q.texts ∙ m.1)) in
        let all = next.texts ++ more in
        let first : now.body ≡ start.body ++ flat_map (spell all) before = subst (λ (l : Texts). now.body ≡ start.body ++ flat_map (spell l) before) same (p.bytes (m.0 ++ more)) in
        q.bytes more ∙ ap (λ (l : List ℕ). l ++ spell all x) first ∙ append_assoc start.body (flat_map (spell all) before) (spell all x) ∙ ap (λ (l : List ℕ). start.body ++ l) (sym (flat_map-push (spell all) before x));
  }

  pub adds_next : (start now next : Draft) (xs : List A) (i : ℕ) (x : A) → i < length xs → x ≡ get_or xs i x → AddsAll start now (take i xs) → Adds texts_of spell now next x → AddsAll start next (take (i + 1) xs)
  adds_next start now next xs i x lt is p q = subst (AddsAll start next) (sym (take_more xs i x lt)) (adds_more start now next (take i xs) (get_or xs i x) p (subst (Adds texts_of spell now next) is q))

  pub adds_all : (start now : Draft) (xs : List A) (i : ℕ) → length xs ≤ i → AddsAll start now (take i xs) → AddsAll start now xs
  adds_all start now xs i le p = subst (AddsAll start now) (take_all i xs le) p

  -- the texts of one among a list are few, where those of the list are
  few_at : (start now : Draft) (xs : List A) (i : ℕ) (d : A) → i < length xs → AddsAll start now (take i xs) → FewWith (flat_map texts_of) start xs → FewWith texts_of now (get_or xs i d)
  few_at start now xs i d lt p few =
      let x = get_or xs i d in
      let front = flat_map texts_of (take (i + 1) xs) in
      let back = flat_map texts_of (drop (i + 1) xs) in
      let split : flat_map texts_of xs ≡ front ++ back = ap (flat_map texts_of) (sym (take-append-drop (i + 1) xs)) ∙ flat_map-append texts_of (take (i + 1) xs) (drop (i + 1) xs) in
      let more : front ≡ flat_map texts_of (take i xs) ++ texts_of x = ap (flat_map texts_of) (take_more xs i d lt) ∙ flat_map-push texts_of (take i xs) x in
      let known : with_texts start.texts front ≡ with_texts now.texts (texts_of x) = ap (with_texts start.texts) more ∙ texts_then start.texts (flat_map texts_of (take i xs)) (texts_of x) ∙ ap (λ (l : Texts). with_texts l (texts_of x)) (sym p.texts) in
      let whole : with_texts start.texts (flat_map texts_of xs) ≡ with_texts (with_texts start.texts front) back = ap (with_texts start.texts) split ∙ texts_then start.texts front back in
      let grow = texts_grow (with_texts start.texts front) back in
      let some : length (with_texts start.texts front) ≡ length (with_texts now.texts (texts_of x)) = ap length known in
      let all : length (with_texts start.texts (flat_map texts_of xs)) ≡ length (with_texts (with_texts start.texts front) back) = ap length whole in
      omega arith

  pub few_next : (start now : Draft) (xs : List A) (i : ℕ) (e : A) → i < length xs → e ≡ get_or xs i e → AddsAll start now (take i xs) → FewWith (flat_map texts_of) start xs → FewWith texts_of now e
  few_next start now xs i e lt is p few = subst (FewWith texts_of now) (sym is) (few_at start now xs i e lt p few)

-- two facts of one answer
pub on_ok_both : {T E P Q R : Type 0} (r : Result T E) → (P → Q → R) → OnOk r P → OnOk r Q → OnOk r R
on_ok_both (Ok x) f p q = f p q
on_ok_both (Err e) f p q = p

-- one text more of those that are written
pub text_next : (start head now next : List ℕ) (texts : Texts) (i : ℕ) (t : List ℕ) → i < length texts → slice_get texts i ≡ Some t → now ≡ start ++ (head ++ flat_map text_bytes (take i texts)) → next ≡ now ++ text_bytes t → next ≡ start ++ (head ++ flat_map text_bytes (take (i + 1) texts))
text_next start head now next texts i t lt is before e =
    let at : get_or texts i [] ≡ t = get_or_from_slice_get texts i t [] is in
    let more : flat_map text_bytes (take (i + 1) texts) ≡ flat_map text_bytes (take i texts) ++ text_bytes t = ap (flat_map text_bytes) (take_more texts i [] lt) ∙ flat_map-push text_bytes (take i texts) (get_or texts i []) ∙ ap (λ (s : List ℕ). flat_map text_bytes (take i texts) ++ text_bytes s) at in
    let part = flat_map text_bytes (take i texts) in
    e ∙ ap (λ (l : List ℕ). l ++ text_bytes t) before
    ∙ append_assoc start (head ++ part) (text_bytes t)
    ∙ ap (λ (l : List ℕ). start ++ l) (append_assoc head part (text_bytes t) ∙ ap (λ (l : List ℕ). head ++ l) (sym more))

-- a cell with a text
pub adds_text : (old new : Draft) (t : List ℕ) (id : ℕ) → new.texts ≡ with_text old.texts t → id ≡ id_for old.texts t → new.body ≡ old.body ++ (4 ∷ u32_bytes id) → Adds text_of cell_bytes old new (cell.Text t)
adds_text old new t id e is body = record {
  texts = e;
  bytes = λ more. body ∙ ap (λ (n : ℕ). old.body ++ (4 ∷ u32_bytes n)) (is ∙ sym (id_kept old.texts more t) ∙ ap (λ (l : Texts). id_for (l ++ more) t) (sym e));
}

-- a change without rows
pub adds_create : (old new : Draft) (s : Schema) → new.texts ≡ old.texts → new.body ≡ old.body ++ (1 ∷ schema_bytes s) → Adds texts_of_op op_bytes old new (op.Create s)
unfolding op_bytes
adds_create old new s e body = record { texts = e; bytes = λ more. body }

pub adds_column : (old new : Draft) (table : List ℕ) (c : Col) → new.texts ≡ old.texts → new.body ≡ old.body ++ (2 ∷ (name_bytes table ++ column_bytes c)) → Adds texts_of_op op_bytes old new (op.AddColumn table c)
unfolding op_bytes
adds_column old new table c e body = record { texts = e; bytes = λ more. body }

pub adds_keys : (old new : Draft) (table keys : List ℕ) → new.texts ≡ old.texts → new.body ≡ old.body ++ (4 ∷ (name_bytes table ++ keys_bytes keys)) → Adds texts_of_op op_bytes old new (op.SetKeys table keys)
unfolding op_bytes
adds_keys old new table keys e body = record { texts = e; bytes = λ more. body }

-- what stands in front of rows, and the rows
pub adds_insert : (old mid new : Draft) (table : List ℕ) (rows : List Row) → mid.texts ≡ old.texts → mid.body ≡ old.body ++ (3 ∷ (name_bytes table ++ (u16_bytes (width_of rows) ++ u32_bytes (length rows)))) → Adds (flat_map texts_of_row) rows_bytes mid new rows → Adds texts_of_op op_bytes old new (op.Insert table rows)
unfolding op_bytes
adds_insert old mid new table rows e body q = record {
  texts = q.texts ∙ ap (λ (l : Texts). with_texts l (flat_map texts_of_row rows)) e;
  bytes = λ more.
      let r = rows_bytes (new.texts ++ more) rows in
      let n = name_bytes table in
      let w = u16_bytes (width_of rows) in
      let k = u32_bytes (length rows) in
      let grouped : (n ++ (w ++ k)) ++ r ≡ n ++ (w ++ (k ++ r)) = append_assoc n (w ++ k) r ∙ ap (λ (l : List ℕ). n ++ l) (append_assoc w k r) in
      q.bytes more ∙ ap (λ (l : List ℕ). l ++ r) body ∙ append_assoc old.body (3 ∷ (n ++ (w ++ k))) r ∙ ap (λ (l : List ℕ). old.body ++ (3 ∷ l)) grouped;
}

-- all changes, and then the bytes of the whole
pub drafted : (e : Entry) (empty made : Draft) (count : ℕ) (bytes : List ℕ) → IsEntry e → (empty.texts ≡ []) × (empty.body ≡ []) → Adds (flat_map texts_of_op) (λ (t : Texts). flat_map (op_bytes t)) empty made e.ops → count ≡ length e.ops → bytes ≡ u32_bytes (length made.texts) ++ (flat_map text_bytes made.texts ++ (u32_bytes count ++ made.body)) → SpellsEntry bytes e
unfolding entry_bytes
drafted e empty made count bytes sound none added is whole =
    let texts = dictionary_of e.ops in
    let known : made.texts ≡ texts = added.texts ∙ ap (λ (l : Texts). with_texts l (flat_map texts_of_op e.ops)) none.0 in
    let body : made.body ≡ flat_map (op_bytes made.texts) e.ops = added.bytes [] ∙ ap (λ (l : List ℕ). l ++ flat_map (op_bytes (made.texts ++ [])) e.ops) none.1 ∙ ap (λ (l : Texts). flat_map (op_bytes l) e.ops) (append-nil made.texts) in
    let spell : Texts → List ℕ = λ t. u32_bytes (length t) ++ (flat_map text_bytes t ++ (u32_bytes (length e.ops) ++ flat_map (op_bytes t) e.ops)) in
    record {
      sound = sound;
      whole = whole ∙ ap (λ (n : ℕ). u32_bytes (length made.texts) ++ (flat_map text_bytes made.texts ++ (u32_bytes n ++ made.body))) is ∙ ap (λ (l : List ℕ). u32_bytes (length made.texts) ++ (flat_map text_bytes made.texts ++ (u32_bytes (length e.ops) ++ l))) body ∙ ap spell known;
    }
