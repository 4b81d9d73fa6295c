use Rattle.std.proofs.Common.{◌≡◌, ◌∙◌, refl, ap, sym, map, drop, arith}
use Rattle.std.specs.List.{flat_map}
use Rattle.std.specs.Int.{w64, cast_unsigned}
use Rattle.std.proofs.lemmas.List.{length-map, drop-map, take_rest}
use Rattle.byteorder.specs.Endian.{little_bytes}
use Rattle.qd_base.specs.declared.schema.ColType.TheVariants as kind
use Rattle.qd_column.specs.Cells.{long_cell}
use Rattle.qd_column_format.specs.Fields.{bytes_of_fields}
use Rattle.qd_column_format.specs.Added.{column_of}
use Rattle.qd_column_format.proofs.SpellingLemmas.{flat_map-map}
use Rattle.qd_column_format.proofs.ColumnLemmas.{long_column, plain_added, column_itself}
use Rattle.qd_column_format.proofs.encode.longs_added.Goals as goal

pub returns-clause-added : goal.returns-clause-added
returns-clause-added c =
    let longs = c.args.longs.now in
    let from = c.args.from in
    let count = length-map longs (cast_unsigned w64) in
    let main : c.plain.result.main ≡ bytes_of_fields kind.Long (drop from (map (cast_unsigned w64) longs)) = c.plain.ensures.main ∙ c.in_ok-main.ensures.bytes ∙ ap (flat_map (λ z. little_bytes 8 (cast_unsigned w64 z))) (take_rest longs from) ∙ sym (flat_map-map (little_bytes 8) (cast_unsigned w64) (drop from longs)) ∙ ap (flat_map (little_bytes 8)) (sym (drop-map (cast_unsigned w64) from longs)) in
    plain_added kind.Long (map long_cell longs) (map (cast_unsigned w64) longs) from c.plain.result (long_column longs c.are_longs.ensures.fit) (omega (arith, count, c.requires)) refl refl main (c.plain.ensures.main_at ∙ omega arith) c.plain.ensures.aux c.plain.ensures.aux_at

pub returns-clause-spelled : goal.returns-clause-spelled
returns-clause-spelled c =
    let longs = c.args.longs.now in
    column_itself (column_of kind.Long (map long_cell longs)) (map (cast_unsigned w64) longs) (long_column longs c.are_longs.ensures.fit) (let count = length-map longs (cast_unsigned w64) in omega arith)
