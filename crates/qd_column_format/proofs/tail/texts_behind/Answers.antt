use Rattle.std.proofs.Common.{◌≡◌, ◌∙◌, ℕ, ◌+◌, ◌*◌, ◌^◌, ◌<◌, ◌++◌, List, ap, ap₂, sym, length, map, arith}
use Rattle.std.specs.List.{flat_map}
use Rattle.std.proofs.lemmas.List.Elements.{All-map}
use Rattle.std.proofs.lemmas.Grind.{flat_map-append}
use Rattle.byteorder.specs.Endian.{little_bytes}
use Rattle.qd_base.specs.declared.schema.ColType.TheVariants as kind
use Rattle.qd_column.specs.Texts.{cells_from}
use Rattle.qd_column_format.specs.Fields.{marks_from}
use Rattle.qd_column_format.specs.Spelling.{text_bytes}
use Rattle.qd_column_format.proofs.ColumnLemmas.{all_fit, text_column, texts_front}
use Rattle.qd_column_format.proofs.TextLemmas.{length-cells}
use Rattle.qd_column_format.proofs.TailLemmas.{adds, marks_small, text_fields}
use Rattle.qd_column_format.proofs.tail.texts_behind.Goals as goal

pub moved_marks-requires-clause-small : goal.moved_marks-requires-clause-small
moved_marks-requires-clause-small c k d lt = omega (arith, marks_small 0 (length c.args.bytes.now) c.args.marks.now c.requires.tiled k d lt)

pub returns-clause-added : goal.returns-clause-added
returns-clause-added c first rows itself ends =
    let marks = c.args.marks.now in
    let bytes = c.args.bytes.now in
    let end = c.args.end in
    let cells = cells_from bytes 0 marks in
    let fields = map (λ (m : ℕ). m + 2 * end) marks in
    let has = text_column bytes marks c.requires.tiled (all_fit marks (λ i. omega (arith, c.type_inv.marks i))) in
    let count = length-cells bytes 0 marks in
    let main : c.from_vec.result ≡ flat_map (little_bytes 8) fields = c.from_vec.ensures.same ∙ c.in_ok-main.ensures.bytes ∙ ap (flat_map (little_bytes 8)) (c.as_slice.ensures.value ∙ c.in_ok-moved.ensures.marks) in
    let aux : c.from_vec-2.result ≡ bytes = c.from_vec-2.ensures.same ∙ c.in_ok-aux.ensures.items in
    adds kind.Varchar first cells fields (record { main = c.from_vec.result; main_at = c.in_ok-at.at; aux = c.from_vec-2.result; aux_at = end }) itself has.storable
    (All-map (λ n. n < 256 ^ 8) (λ (m : ℕ). m + 2 * end) marks (λ k d lt. omega (arith, marks_small 0 (length bytes) marks c.requires.tiled k d lt)))
    (text_fields first cells ∙ ap₂ (λ (e : ℕ) (l : List ℕ). marks_from 0 first ++ map (λ m. m + 2 * e) l) ends has.are)
    (omega (arith, c.in_ok-at.ensures.few, rows, count))
    main (c.in_ok-at.ensures.place ∙ ap (λ n. n * 8) (sym rows))
    (flat_map-append text_bytes first cells ∙ ap (λ (l : List ℕ). flat_map text_bytes first ++ l) ((texts_front bytes marks 0 c.requires.tiled).0 ∙ sym aux))
    (sym ends)
