use Rattle.std.proofs.Common.{◌≡◌, ◌∙◌, ◌++◌, ◌*◌, ap, sym, length, take, drop, arith}
use Rattle.std.specs.List.{flat_map}
use Rattle.std.proofs.lemmas.List.{take_rest, take-append-drop, length-take-le}
use Rattle.byteorder.specs.Endian.{little_bytes}
use Rattle.qd_base.specs.declared.schema.ColType.TheVariants as kind
use Rattle.qd_column.specs.Texts.{cells_from}
use Rattle.qd_column_format.specs.Fields.{bytes_of_fields, end_of}
use Rattle.qd_column_format.specs.Spelling.{aux_of}
use Rattle.qd_column_format.specs.Added.{column_of, first_rows}
use Rattle.qd_column_format.proofs.ColumnLemmas.{text_column, texts_front, texts_added, column_itself, all_fit}
use Rattle.qd_column_format.proofs.encode.texts_added.Goals as goal

pub slice_bounds-from_slice-count : goal.slice_bounds-from_slice-count
slice_bounds-from_slice-count c = omega (arith, c.last_end-before.ensures.end, (texts_front c.args.bytes.now c.args.marks.now c.args.from c.requires.tiled).2)

pub slice_bounds-from_slice-start : goal.slice_bounds-from_slice-start
slice_bounds-from_slice-start c = omega (arith, c.last_end-before.ensures.end, (texts_front c.args.bytes.now c.args.marks.now c.args.from c.requires.tiled).2)

pub returns-clause-added : goal.returns-clause-added
returns-clause-added c =
    let marks = c.args.marks.now in
    let bytes = c.args.bytes.now in
    let from = c.args.from in
    let before = end_of (take from marks) in
    let has = text_column bytes marks c.requires.tiled (all_fit marks (λ i. omega (arith, c.type_inv.marks i))) in
    let front = texts_front bytes marks from c.requires.tiled in
    let column = column_of kind.Varchar (cells_from bytes 0 marks) in
    let main : c.from_vec.result ≡ bytes_of_fields kind.Varchar (drop from marks) = c.from_vec.ensures.same ∙ c.in_ok-main.ensures.bytes ∙ ap (flat_map (little_bytes 8)) (take_rest marks from) in
    let aux : c.from_vec-2.result ≡ drop before bytes = c.from_vec-2.ensures.same ∙ c.in_ok-aux.ensures.items ∙ take_rest bytes c.last_end-before.result ∙ ap (λ n. drop n bytes) c.last_end-before.ensures.end in
    let whole : aux_of (first_rows from column) ++ c.from_vec-2.result ≡ aux_of column = ap (λ l. l ++ c.from_vec-2.result) front.1 ∙ ap (λ l. take before bytes ++ l) aux ∙ take-append-drop before bytes ∙ sym front.0 in
    let place : c.last_end-before.result ≡ length (aux_of (first_rows from column)) = c.last_end-before.ensures.end ∙ sym (ap length front.1 ∙ length-take-le before bytes front.2) in
    texts_added kind.Varchar (cells_from bytes 0 marks) marks from (record { main = c.from_vec.result; main_at = 8 * from; aux = c.from_vec-2.result; aux_at = c.last_end-before.result }) has c.requires.from main (omega arith) whole place

pub returns-clause-spelled : goal.returns-clause-spelled
returns-clause-spelled c =
    let marks = c.args.marks.now in
    let bytes = c.args.bytes.now in
    column_itself (column_of kind.Varchar (cells_from bytes 0 marks)) marks (text_column bytes marks c.requires.tiled (all_fit marks (λ i. omega (arith, c.type_inv.marks i)))) (omega arith)
