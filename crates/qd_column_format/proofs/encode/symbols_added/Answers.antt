use Rattle.std.proofs.Common.{◌≡◌, ◌∙◌, ◌++◌, ◌*◌, ◌<◌, ◌^◌, ap, sym, length, map, take, drop, arith}
use Rattle.std.specs.List.{flat_map}
use Rattle.std.proofs.lemmas.List.{take_rest, take-append-drop}
use Rattle.std.proofs.lemmas.Grind.{flat_map-append}
use Rattle.byteorder.specs.Endian.{little_bytes}
use Rattle.qd_base.specs.declared.schema.ColType.TheVariants as kind
use Rattle.qd_column.specs.Symbols.{symbol_cell}
use Rattle.qd_column_format.specs.Fields.{bytes_of_fields, named}
use Rattle.qd_column_format.specs.Spelling.{stored_text, aux_of}
use Rattle.qd_column_format.specs.Added.{column_of, first_rows}
use Rattle.qd_column_format.proofs.ColumnLemmas.{symbol_column, symbols_distinct, symbols_few, symbols_front, named_within, texts_added, column_itself, all_fit}
use Rattle.qd_column_format.proofs.encode.symbols_added.Goals as goal

pub encode_from-requires-clause-within : goal.encode_from-requires-clause-within
encode_from-requires-clause-within g c =
    let texts = g.D.Dictionary.texts c.args.dictionary.now in
    let ids = c.args.ids.now in
    let few : length ids < 2 ^ 63 = omega arith in
    let has = symbol_column texts ids c.requires.known (symbols_distinct texts ids c.requires.known) (omega (arith, symbols_few texts ids c.requires.known)) (all_fit ids (λ i. omega (arith, c.type_inv.ids i))) in
    omega (arith, c.named_by-before.ensures.named, named_within texts ids c.args.from c.requires.known has few)

pub encode_from-requires-clause-short : goal.encode_from-requires-clause-short
encode_from-requires-clause-short g c = c.requires.known.short

pub size_before-requires : goal.size_before-requires
size_before-requires g c =
    let texts = g.D.Dictionary.texts c.args.dictionary.now in
    let ids = c.args.ids.now in
    let few : length ids < 2 ^ 63 = omega arith in
    let has = symbol_column texts ids c.requires.known (symbols_distinct texts ids c.requires.known) (omega (arith, symbols_few texts ids c.requires.known)) (all_fit ids (λ i. omega (arith, c.type_inv.ids i))) in
    omega (arith, c.named_by-before.ensures.named, named_within texts ids c.args.from c.requires.known has few)

pub returns-clause-added : goal.returns-clause-added
returns-clause-added g c =
    let texts = g.D.Dictionary.texts c.args.dictionary.now in
    let ids = c.args.ids.now in
    let from = c.args.from in
    let before = named (take from ids) in
    let few : length ids < 2 ^ 63 = omega arith in
    let has = symbol_column texts ids c.requires.known (symbols_distinct texts ids c.requires.known) (omega (arith, symbols_few texts ids c.requires.known)) (all_fit ids (λ i. omega (arith, c.type_inv.ids i))) in
    let front = symbols_front texts ids from c.requires.known has few in
    let column = column_of kind.Symbol (map (symbol_cell texts) ids) in
    let main : c.from_vec.result ≡ bytes_of_fields kind.Symbol (drop from ids) = c.from_vec.ensures.same ∙ c.in_ok-main.ensures.bytes ∙ ap (flat_map (little_bytes 8)) (take_rest ids from) in
    let aux : c.in_ok-aux.aux ≡ flat_map stored_text (drop before texts) = c.in_ok-aux.ensures.bytes ∙ ap (λ n. flat_map stored_text (drop n texts)) c.named_by-before.ensures.named in
    let whole : aux_of (first_rows from column) ++ c.in_ok-aux.aux ≡ aux_of column = ap (λ l. l ++ c.in_ok-aux.aux) front.1 ∙ ap (λ l. flat_map stored_text (take before texts) ++ l) aux ∙ sym (flat_map-append stored_text (take before texts) (drop before texts)) ∙ ap (flat_map stored_text) (take-append-drop before texts) ∙ sym front.0 in
    let place : c.in_ok-aux_at.aux_at ≡ length (aux_of (first_rows from column)) = c.in_ok-aux_at.ensures.size ∙ ap (λ n. length (flat_map stored_text (take n texts))) c.named_by-before.ensures.named ∙ ap length (sym front.1) in
    texts_added kind.Symbol (map (symbol_cell texts) ids) ids from (record { main = c.from_vec.result; main_at = 8 * from; aux = c.in_ok-aux.aux; aux_at = c.in_ok-aux_at.aux_at }) has c.requires.from main (omega arith) whole place

pub returns-clause-spelled : goal.returns-clause-spelled
returns-clause-spelled g c =
    let texts = g.D.Dictionary.texts c.args.dictionary.now in
    let ids = c.args.ids.now in
    let few : length ids < 2 ^ 63 = omega arith in
    column_itself (column_of kind.Symbol (map (symbol_cell texts) ids)) ids (symbol_column texts ids c.requires.known (symbols_distinct texts ids c.requires.known) (omega (arith, symbols_few texts ids c.requires.known)) (all_fit ids (λ i. omega (arith, c.type_inv.ids i)))) few
