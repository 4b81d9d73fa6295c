-- What a writer of entries holds after each of its calls.
use Rattle.std.proofs.Common.{◌≡◌, ◌⊎◌, inl, inr, ℕ, ◌+◌, ◌^◌, ◌<◌, ◌≤◌, true, false, List, [], ◌∷◌, ◌++◌, length, All, refl, sym, ap, subst, ◌∙◌, append_assoc, append-nil, length-append, arith}
use Rattle.std.specs.List.{flat_map}
use Rattle.std.proofs.lemmas.Bool.{cases_lt, false≢true}
use Rattle.std.proofs.lemmas.List.{nil_from_length}
use Rattle.std.proofs.lemmas.List.Elements.{All-from_recursion, All-push}
use Rattle.qd_base.specs.declared.cell.Cell.{Cell}
use Rattle.qd_base.specs.declared.cell.Cell.TheVariants as cell
use Rattle.qd_base.specs.declared.op.Op.{Op}
use Rattle.qd_base.specs.declared.op.Op.TheVariants as op
use Rattle.qd_base.specs.Dictionary.{id_for}
use Rattle.qd_base.specs.Rows.{Row}
use Rattle.qd_base.proofs.Texts.{with_text-there, with_text-new}
use Rattle.qd_fields.specs.Spelling.{u16_bytes, u32_bytes, name_bytes, text_bytes, FitsName}
use Rattle.qd_fields.proofs.Steps.{flat_map-push}
use Rattle.qd_wal_entry.specs.Spelling.{text_of, texts_of_row, texts_of_op, with_texts, dictionary_of, width_of, cell_bytes, row_bytes, rows_bytes, op_bytes, entry_bytes, FitsCell, FitsRow, FitsRows, FitsOp, SpellsEntry}
use Rattle.qd_wal_entry.specs.Writing.{Draft, Adds}
use Rattle.qd_wal_entry.specs.Written.{EndsRow, HasRoom, IsSoFar, SoFar, Written, begun, entry_of, inserted, nothing, texts_so_far, with_cell, with_op, with_row}
use Rattle.qd_wal_entry.proofs.DictionaryLemmas.{Texts, texts_more, texts_then}

true_is_false : true ≡ false → ⊥
true_is_false h = false≢true (sym h)

-- what comes behind the texts that there are, where others join them and more come then
joined_then : (known x more : Texts) → Texts
joined_then known x more = (texts_more known x).0 ++ more

-- texts that join others leave each behind those that were there
behind_known : (known new x more : Texts) → new ≡ with_texts known x → known ++ joined_then known x more ≡ new ++ more
unfolding joined_then
behind_known known new x more e = let m = texts_more known x in sym (append_assoc known m.0 more) ∙ ap (λ (l : Texts). l ++ more) (sym (e ∙ m.1))

-- a cell adds one text at most
pub one_text_more : (known : Texts) (c : Cell) → length (with_texts known (text_of c)) ≤ length known + 1
one_text_more known cell.Null = omega arith
one_text_more known (cell.Long x) = omega arith
one_text_more known (cell.Bool b) = omega arith
one_text_more known (cell.Text t) =
    elim (cases_lt (id_for known t) (length known)) [
      | inl there ↦ (let e = ap length (with_text-there known t there) in omega (arith, e))
      | inr new ↦ (let e = ap length (with_text-new known t new) in omega (arith, e, length-append known (t ∷ [])))
    ]
one_text_more known (cell.Time t) = omega arith

-- nothing was written
pub holds_nothing : (w : Written) → w.draft.texts ≡ [] → w.draft.body ≡ [] → w.done ≡ [] → w.count ≡ 0 → w.is_open ≡ false → w.table ≡ [] → w.columns ≡ 0 → w.rows ≡ 0 → w.cells ≡ 0 → IsSoFar w nothing
holds_nothing w texts body done count closed table columns rows cells = record {
  texts = texts;
  ops = record { bytes = λ more. done; count = count; few = omega (arith, count); fit = All-from_recursion FitsOp [] tt };
  rows = record {
    bytes = λ more. body;
    begun = closed;
    table = table;
    name = omega arith;
    width = columns;
    rows = rows;
    few = omega arith;
    narrow = omega (arith, columns);
    cells = cells;
    fit_rows = All-from_recursion (FitsRow w.columns) [] tt;
    fit_row = All-from_recursion FitsCell [] tt;
    some = λ e. refl;
    none = λ e. (refl, refl);
  };
}

module _ (old : Written) (e : SoFar) (has : IsSoFar old e) where
  -- ---- a cell

  texts_cell : (c : Cell) → texts_so_far (with_cell c e) ≡ texts_so_far e ++ text_of c
  texts_cell c =
      let o = flat_map texts_of_op e.ops in
      let r = flat_map texts_of_row e.rows in
      ap (λ (l : Texts). o ++ (r ++ l)) (flat_map-push text_of e.row c)
      ∙ ap (λ (l : Texts). o ++ l) (sym (append_assoc r (texts_of_row e.row) (text_of c)))
      ∙ sym (append_assoc o (r ++ texts_of_row e.row) (text_of c))

  pub cell_pushed : (d : Draft) (c : Cell) → old.is_open ≡ true → FitsCell c → Adds text_of cell_bytes old.draft d c → IsSoFar (record old { draft = d; cells = old.cells + 1 }) (with_cell c e)
  cell_pushed d c opened fits added = record {
    texts = added.texts ∙ ap (λ (l : Texts). with_texts l (text_of c)) has.texts ∙ sym (texts_then [] (texts_so_far e) (text_of c)) ∙ ap (with_texts []) (sym (texts_cell c));
    ops = record { bytes = λ more. subst (λ (l : Texts). old.done ≡ flat_map (op_bytes l) e.ops) (same more) (has.ops.bytes (joined_then old.draft.texts (text_of c) more)); count = has.ops.count; few = has.ops.few; fit = has.ops.fit };
    rows = record {
      bytes = bytes;
      begun = has.rows.begun;
      table = has.rows.table;
      name = has.rows.name;
      width = has.rows.width;
      rows = has.rows.rows;
      few = has.rows.few;
      narrow = has.rows.narrow;
      cells = omega (arith, has.rows.cells, length-append e.row (c ∷ []));
      fit_rows = has.rows.fit_rows;
      fit_row = All-push FitsCell e.row c has.rows.fit_row fits;
      some = has.rows.some;
      none = λ closed. absurd (true_is_false (sym opened ∙ closed));
    };
  }
    where
      same : (more : Texts) → old.draft.texts ++ joined_then old.draft.texts (text_of c) more ≡ d.texts ++ more
      same more = behind_known old.draft.texts d.texts (text_of c) more added.texts

      bytes : (more : Texts) → d.body ≡ rows_bytes (d.texts ++ more) e.rows ++ row_bytes (d.texts ++ more) (e.row ++ c ∷ [])
      bytes more =
          let all = d.texts ++ more in
          let before : old.draft.body ≡ rows_bytes all e.rows ++ row_bytes all e.row = subst (λ (l : Texts). old.draft.body ≡ rows_bytes l e.rows ++ row_bytes l e.row) (same more) (has.rows.bytes (joined_then old.draft.texts (text_of c) more)) in
          added.bytes more
          ∙ ap (λ (l : List ℕ). l ++ cell_bytes all c) before
          ∙ append_assoc (rows_bytes all e.rows) (row_bytes all e.row) (cell_bytes all c)
          ∙ ap (λ (l : List ℕ). rows_bytes all e.rows ++ l) (sym (flat_map-push (cell_bytes all) e.row c))

  -- ---- a change without rows

  pub op_added : (done : List ℕ) (o : Op) → texts_of_op o ≡ [] → ((more : Texts) → done ≡ old.done ++ op_bytes (old.draft.texts ++ more) o) → FitsOp o → old.count + 1 < 2 ^ 32 → IsSoFar (record old { done = done; count = old.count + 1 }) (with_op o e)
  op_added done o no_texts adds fits room = record {
    texts = has.texts ∙ ap (with_texts []) (sym (ap (λ (l : Texts). l ++ (flat_map texts_of_row e.rows ++ texts_of_row e.row)) (flat_map-push texts_of_op e.ops o ∙ ap (λ (l : Texts). flat_map texts_of_op e.ops ++ l) no_texts ∙ append-nil (flat_map texts_of_op e.ops))));
    ops = record {
      bytes = λ more. adds more ∙ ap (λ (l : List ℕ). l ++ op_bytes (old.draft.texts ++ more) o) (has.ops.bytes more) ∙ sym (flat_map-push (op_bytes (old.draft.texts ++ more)) e.ops o);
      count = omega (arith, has.ops.count, length-append e.ops (o ∷ []));
      few = room;
      fit = All-push FitsOp e.ops o has.ops.fit fits;
    };
    rows = record {
      bytes = has.rows.bytes;
      begun = has.rows.begun;
      table = has.rows.table;
      name = has.rows.name;
      width = has.rows.width;
      rows = has.rows.rows;
      few = has.rows.few;
      narrow = has.rows.narrow;
      cells = has.rows.cells;
      fit_rows = has.rows.fit_rows;
      fit_row = has.rows.fit_row;
      some = has.rows.some;
      none = has.rows.none;
    };
  }

  -- ---- an insertion

  pub insert_begun : (table : List ℕ) → FitsName table → IsSoFar (record old { is_open = true; table = table }) (begun table e)
  insert_begun table fits = record {
    texts = has.texts;
    ops = record { bytes = has.ops.bytes; count = has.ops.count; few = has.ops.few; fit = has.ops.fit };
    rows = record {
      bytes = has.rows.bytes;
      begun = refl;
      table = refl;
      name = fits;
      width = has.rows.width;
      rows = has.rows.rows;
      few = has.rows.few;
      narrow = has.rows.narrow;
      cells = has.rows.cells;
      fit_rows = has.rows.fit_rows;
      fit_row = has.rows.fit_row;
      some = has.rows.some;
      none = λ closed. absurd (true_is_false closed);
    };
  }

  -- the rows so far are as wide as the one that is ended
  width_kept : (rows : List Row) → old.columns ≡ width_of rows → old.rows ≡ length rows → (old.rows ≡ 0) ⊎ (old.cells ≡ old.columns) → old.cells ≡ length e.row → All (FitsRow old.columns) rows → (old.cells ≡ width_of (rows ++ e.row ∷ [])) × All (FitsRow old.cells) rows
  width_kept [] width count ends cells fit = (cells, All-from_recursion (FitsRow old.cells) [] tt)
  width_kept (row ∷ rows) width count (inl none) cells fit = absurd (omega (arith, none, count))
  width_kept (row ∷ rows) width count (inr same) cells fit = (same ∙ width, subst (λ n. All (FitsRow n) (row ∷ rows)) (sym same) fit)

  pub row_ended : EndsRow old → HasRoom old → IsSoFar (record old { columns = old.cells; rows = old.rows + 1; cells = 0 }) (with_row e)
  row_ended ends room =
      let kept = width_kept e.rows has.rows.width has.rows.rows ends.width has.rows.cells has.rows.fit_rows in
      record {
        texts = has.texts ∙ ap (with_texts []) (sym (ap (λ (l : Texts). flat_map texts_of_op e.ops ++ l) (append-nil (flat_map texts_of_row (e.rows ++ e.row ∷ [])) ∙ flat_map-push texts_of_row e.rows e.row)));
        ops = record { bytes = has.ops.bytes; count = has.ops.count; few = has.ops.few; fit = has.ops.fit };
        rows = record {
          bytes = λ more. let all = old.draft.texts ++ more in has.rows.bytes more ∙ sym (flat_map-push (row_bytes all) e.rows e.row) ∙ sym (append-nil (rows_bytes all (e.rows ++ e.row ∷ [])));
          begun = has.rows.begun;
          table = has.rows.table;
          name = has.rows.name;
          width = kept.0;
          rows = omega (arith, has.rows.rows, length-append e.rows (e.row ∷ []));
          few = omega (arith, has.rows.rows, room.rows, length-append e.rows (e.row ∷ []));
          narrow = omega (arith, room.cells);
          cells = refl;
          fit_rows = All-push (FitsRow old.cells) e.rows e.row kept.1 (record { cells = has.rows.fit_row; width = sym has.rows.cells });
          fit_row = All-from_recursion FitsCell [] tt;
          some = λ none. absurd (omega (arith, ends.some, none));
          none = λ closed. absurd (true_is_false (sym ends.begun ∙ closed));
        };
      }

  no_width : (rows : List Row) → length rows ≡ 0 → width_of rows ≡ 0
  no_width [] none = refl
  no_width (row ∷ rows) none = absurd (omega (arith, none))

  rows_fit : FitsRows (width_of e.rows) e.rows
  rows_fit = record {
    each = subst (λ n. All (FitsRow n) e.rows) has.rows.width has.rows.fit_rows;
    few = has.rows.few;
    narrow = omega (arith, has.rows.width, has.rows.narrow);
    some = λ none. has.rows.some (has.rows.width ∙ none);
    none = no_width e.rows;
  }

  -- no row is begun
  no_row : old.cells ≡ 0 → e.row ≡ []
  no_row none = nil_from_length e.row (sym has.rows.cells ∙ none)

  pub insert_ended : (d : Draft) (done head : List ℕ) → old.cells ≡ 0 → old.count + 1 < 2 ^ 32 → d.texts ≡ old.draft.texts → d.body ≡ [] → head ≡ old.done ++ (3 ∷ (name_bytes old.table ++ (u16_bytes old.columns ++ u32_bytes old.rows))) → done ≡ head ++ old.draft.body → IsSoFar (record { draft = d; done = done; count = old.count + 1; is_open = false; table = []; columns = 0; rows = 0; cells = old.cells }) (inserted e)
  unfolding op_bytes
  insert_ended d done head none room same_texts no_body head_is done_is = record {
    texts = same_texts ∙ has.texts ∙ ap (with_texts []) (sym texts_insert);
    ops = record {
      bytes = λ more. subst (λ (l : Texts). done ≡ flat_map (op_bytes (l ++ more)) (e.ops ++ (op.Insert e.table e.rows) ∷ [])) (sym same_texts) (bytes more);
      count = omega (arith, has.ops.count, length-append e.ops ((op.Insert e.table e.rows) ∷ []));
      few = room;
      fit = All-push FitsOp e.ops (op.Insert e.table e.rows) has.ops.fit (has.rows.name, rows_fit);
    };
    rows = record {
      bytes = λ more. no_body;
      begun = refl;
      table = refl;
      name = omega arith;
      width = refl;
      rows = refl;
      few = omega arith;
      narrow = omega arith;
      cells = none;
      fit_rows = All-from_recursion (FitsRow 0) [] tt;
      fit_row = All-from_recursion FitsCell [] tt;
      some = λ z. refl;
      none = λ closed. (refl, refl);
    };
  }
    where
      texts_insert : texts_so_far (inserted e) ≡ texts_so_far e
      texts_insert =
          let o = flat_map texts_of_op e.ops in
          let r = flat_map texts_of_row e.rows in
          append-nil (flat_map texts_of_op (e.ops ++ (op.Insert e.table e.rows) ∷ []))
          ∙ flat_map-push texts_of_op e.ops (op.Insert e.table e.rows)
          ∙ ap (λ (l : Texts). o ++ l) (sym (append-nil r))
          ∙ ap (λ (l : Row). o ++ (r ++ texts_of_row l)) (sym (no_row none))

      bytes : (more : Texts) → done ≡ flat_map (op_bytes (old.draft.texts ++ more)) (e.ops ++ (op.Insert e.table e.rows) ∷ [])
      bytes more =
          let all = old.draft.texts ++ more in
          let body : old.draft.body ≡ rows_bytes all e.rows = has.rows.bytes more ∙ ap (λ (l : Row). rows_bytes all e.rows ++ row_bytes all l) (no_row none) ∙ append-nil (rows_bytes all e.rows) in
          let n = name_bytes e.table in
          let w = u16_bytes (width_of e.rows) in
          let k = u32_bytes (length e.rows) in
          let r = rows_bytes all e.rows in
          let fields : 3 ∷ (name_bytes old.table ++ (u16_bytes old.columns ++ u32_bytes old.rows)) ≡ 3 ∷ (n ++ (w ++ k)) =
          ap (λ (t : List ℕ). 3 ∷ (name_bytes t ++ (u16_bytes old.columns ++ u32_bytes old.rows))) has.rows.table
          ∙ ap (λ (c : ℕ). 3 ∷ (n ++ (u16_bytes c ++ u32_bytes old.rows))) has.rows.width
          ∙ ap (λ (c : ℕ). 3 ∷ (n ++ (w ++ u32_bytes c))) has.rows.rows in
          let grouped : (n ++ (w ++ k)) ++ r ≡ n ++ (w ++ (k ++ r)) = append_assoc n (w ++ k) r ∙ ap (λ (l : List ℕ). n ++ l) (append_assoc w k r) in
          done_is
          ∙ ap (λ (l : List ℕ). l ++ old.draft.body) (head_is ∙ ap (λ (l : List ℕ). old.done ++ l) fields)
          ∙ ap (λ (l : List ℕ). (old.done ++ (3 ∷ (n ++ (w ++ k)))) ++ l) body
          ∙ append_assoc old.done (3 ∷ (n ++ (w ++ k))) r
          ∙ ap (λ (l : List ℕ). old.done ++ (3 ∷ l)) grouped
          ∙ ap (λ (l : List ℕ). l ++ op_bytes all (op.Insert e.table e.rows)) (has.ops.bytes more)
          ∙ sym (flat_map-push (op_bytes all) e.ops (op.Insert e.table e.rows))

  -- ---- the whole

  pub written : (bytes : List ℕ) → old.is_open ≡ false → length old.draft.texts < 2 ^ 32 → bytes ≡ u32_bytes (length old.draft.texts) ++ (flat_map text_bytes old.draft.texts ++ (u32_bytes old.count ++ old.done)) → SpellsEntry bytes (entry_of e)
  unfolding entry_bytes
  written bytes closed few whole =
      let texts = dictionary_of e.ops in
      let none = has.rows.none closed in
      let all : texts_so_far e ≡ flat_map texts_of_op e.ops =
      ap (λ (l : List Row). flat_map texts_of_op e.ops ++ (flat_map texts_of_row l ++ texts_of_row e.row)) none.0
      ∙ ap (λ (l : Row). flat_map texts_of_op e.ops ++ texts_of_row l) none.1
      ∙ append-nil (flat_map texts_of_op e.ops) in
      let known : old.draft.texts ≡ texts = has.texts ∙ ap (with_texts []) all in
      let body : old.done ≡ flat_map (op_bytes old.draft.texts) e.ops = has.ops.bytes [] ∙ ap (λ (l : Texts). flat_map (op_bytes l) e.ops) (append-nil old.draft.texts) in
      let spell : Texts → List ℕ = λ t. u32_bytes (length t) ++ (flat_map text_bytes t ++ (u32_bytes (length e.ops) ++ flat_map (op_bytes t) e.ops)) in
      record {
        sound = record { each = has.ops.fit; few = omega (arith, has.ops.count, has.ops.few); few_texts = omega (arith, ap length known, few) };
        whole = whole ∙ ap (λ (n : ℕ). u32_bytes (length old.draft.texts) ++ (flat_map text_bytes old.draft.texts ++ (u32_bytes n ++ old.done))) has.ops.count ∙ ap (λ (l : List ℕ). u32_bytes (length old.draft.texts) ++ (flat_map text_bytes old.draft.texts ++ (u32_bytes (length e.ops) ++ l))) body ∙ ap spell known;
      }
