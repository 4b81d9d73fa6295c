use Rattle.std.proofs.Common.{◌≡◌, ◌∙◌, ℕ, ◌+◌, ◌*◌, ◌^◌, ◌<◌, ◌++◌, List, ap, ap₂, sym, length, map, take, drop, subst, arith, All}
use Rattle.std.specs.List.{flat_map}
use Rattle.std.proofs.lemmas.List.{length-map, take_all}
use Rattle.std.proofs.Common.{length-append}
use Rattle.byteorder.specs.Endian.{little_bytes}
use Rattle.qd_base.specs.declared.schema.ColType.TheVariants as kind
use Rattle.qd_base.specs.Dictionary.{id_for}
use Rattle.qd_column.specs.Symbols.{symbol_cell, texts_in}
use Rattle.qd_column_format.specs.Fields.{fields_of}
use Rattle.qd_column_format.specs.Spelling.{stored_text}
use Rattle.qd_column_format.specs.Tails.{id_anew, with_texts}
use Rattle.qd_column_format.proofs.ColumnLemmas.{all_fit, symbol_column, symbols_distinct, symbols_few}
use Rattle.qd_column_format.proofs.SymbolLemmas.{ids_are_fields}
use Rattle.qd_column_format.proofs.TailLemmas.{adds, all_second, ids_named, named_longer, symbol_aux, symbol_fields, texts_joined}
use Rattle.qd_column_format.proofs.tail.symbols_behind.Goals as goal

pub encode_from-requires-clause-within : goal.encode_from-requires-clause-within
encode_from-requires-clause-within g c = omega (arith, c.len-before.ensures.count, ap length c.in_ok-names.ensures.texts, named_longer (g.D.Dictionary.texts c.args.texts.now) (g.D.Dictionary.texts c.args.dictionary.now))

pub returns-clause-added : goal.returns-clause-added
returns-clause-added g c first rows itself start =
    let T = g.D.Dictionary.texts c.args.texts.now in
    let D = g.D.Dictionary.texts c.args.dictionary.now in
    let ids = c.args.ids.now in
    let cells = map (symbol_cell D) ids in
    let all = texts_in (first ++ cells) in
    let has = symbol_column D ids c.requires.known (symbols_distinct D ids c.requires.known) (omega (arith, symbols_few D ids c.requires.known)) (all_fit ids (λ i. omega (arith, c.type_inv.ids i))) in
    let count = length-map ids (symbol_cell D) in
    let small : length first + length cells < 2 ^ 63 = omega (arith, c.in_ok-at.ensures.few, rows, count) in
    let whole : with_texts T D ≡ all = ap₂ with_texts start (sym c.requires.known.appeared) ∙ texts_joined first cells in
    let texts : g.D.Dictionary.texts c.named_anew.new.texts ≡ all = c.in_ok-names.ensures.texts ∙ whole in
    let names : c.as_slice.result.now ≡ map (id_for all) D = c.as_slice.ensures.value ∙ c.in_ok-names.ensures.names ∙ ap (λ (t : List (List ℕ)). map (id_for t) D) texts in
    let fields = map (id_anew (map (id_for all) D)) ids in
    let named : c.as_slice-2.result.now ≡ fields = c.as_slice-2.ensures.value ∙ c.in_ok-ids.ensures.ids ∙ ap (λ (n : List ℕ). map (id_anew n) ids) names in
    let are : fields_of kind.Symbol (first ++ cells) ≡ fields_of kind.Symbol first ++ fields = symbol_fields first cells ∙ ap (λ (l : List ℕ). fields_of kind.Symbol first ++ l) (ids_named all D ids c.requires.known.each) in
    let fit = all_second (λ n. n < 256 ^ 8) (fields_of kind.Symbol first) fields (subst (All (λ n. n < 256 ^ 8)) are ((ids_are_fields (first ++ cells) (omega (arith, length-append first cells, small))).0.fit)) in
    let before : c.len-before.result ≡ length (texts_in first) = c.len-before.ensures.count ∙ ap length start in
    let aux : c.in_ok-aux.aux ≡ flat_map stored_text (drop (length (texts_in first)) all) = c.in_ok-aux.ensures.bytes ∙ ap₂ (λ (n : ℕ) (t : List (List ℕ)). flat_map stored_text (drop n t)) before texts in
    let place : c.in_ok-aux_at.aux_at ≡ length (flat_map stored_text (texts_in first)) = c.in_ok-aux_at.ensures.size ∙ ap₂ (λ (n : ℕ) (t : List (List ℕ)). length (flat_map stored_text (take n t))) before start ∙ ap (λ (t : List (List ℕ)). length (flat_map stored_text t)) (take_all (length (texts_in first)) (texts_in first) (omega arith)) in
    adds kind.Symbol first cells fields (record { main = c.from_vec.result; main_at = c.in_ok-at.at; aux = c.in_ok-aux.aux; aux_at = c.in_ok-aux_at.aux_at }) itself has.storable fit are small
    (c.from_vec.ensures.same ∙ c.in_ok-main.ensures.bytes ∙ ap (flat_map (little_bytes 8)) named)
    (c.in_ok-at.ensures.place ∙ ap (λ n. n * 8) (sym rows))
    (symbol_aux first cells c.in_ok-aux.aux aux)
    place
