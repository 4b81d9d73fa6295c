use Rattle.std.proofs.Common.{◌≡◌, ◌∙◌, ◌++◌, ◌*◌, ◌<◌, ◌^◌, refl, ap, sym, subst, length, map, drop, arith}
use Rattle.std.specs.List.{flat_map}
use Rattle.std.specs.Int.{w64, cast_unsigned}
use Rattle.std.proofs.lemmas.List.{length-map}
use Rattle.byteorder.specs.Endian.{little_bytes}
use Rattle.qd_base.specs.declared.schema.ColType.TheVariants as kind
use Rattle.qd_column.specs.Cells.{CellsOf, long_cell}
use Rattle.qd_column_format.specs.Reading.{IsReadColumn}
use Rattle.qd_column_format.specs.Added.{column_of}
use Rattle.qd_column_format.proofs.SpellingLemmas.{flat_map-map}
use Rattle.qd_column_format.proofs.ColumnLemmas.{long_column, column_read}
use Rattle.qd_column_format.proofs.decode.decode_longs.Goals as goal

pub returns-clause-ok : goal.returns-clause-ok
returns-clause-ok g c = λ aux.
    let xs = c.in_ok-longs.longs.items in
    let main = c.args.main.now in
    let rows = c.args.rows in
    let fields = map (cast_unsigned w64) xs in
    let size : length fields ≡ rows = length-map xs (cast_unsigned w64) ∙ c.in_ok-longs.ensures.count ∙ c.in_ok-count.ensures.rows in
    let begins : main ≡ flat_map (little_bytes 8) fields ++ drop (8 * c.in_ok-count.count) main = c.in_ok-longs.ensures.bytes ∙ ap (λ l. l ++ drop (8 * c.in_ok-count.count) main) (sym (flat_map-map (little_bytes 8) (cast_unsigned w64) xs)) in
    let few : rows < 2 ^ 63 = omega (arith, c.in_ok-count.ensures.there) in
    subst (λ (column : CellsOf). IsReadColumn kind.Long rows main aux column) (sym c.of_longs.ensures.column) (column_read (column_of kind.Long (map long_cell xs)) fields main aux rows (long_column xs c.in_ok-longs.ensures.fit) size few (drop (8 * c.in_ok-count.count) main, begins) (aux, refl))
