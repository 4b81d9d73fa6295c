use Rattle.std.proofs.Common.{◌∙◌, ◌++◌, ◌*◌, ◌^◌, ◌<◌, ap, sym, map, subst, arith, All}
use Rattle.std.specs.Int.{w64, cast_unsigned}
use Rattle.std.proofs.lemmas.List.{length-map, map-append}
use Rattle.byteorder.specs.Endian.{little_bytes}
use Rattle.qd_base.specs.declared.schema.ColType.TheVariants as kind
use Rattle.qd_column.specs.Cells.{long_cell}
use Rattle.qd_column_format.specs.Fields.{long_of}
use Rattle.qd_column_format.proofs.SpellingLemmas.{flat_map-map}
use Rattle.qd_column_format.proofs.ColumnLemmas.{long_column}
use Rattle.qd_column_format.proofs.TailLemmas.{adds}
use Rattle.qd_column_format.proofs.tail.longs_behind.Goals as goal

pub returns : goal.returns
returns c =
    let items = c.args.longs.now in
    let cells = map long_cell items in
    let fields = map (cast_unsigned w64) items in
    let has = long_column items c.are_longs.ensures.fit in
    let count = length-map items long_cell in
    record {
      added = λ first rows itself.
          adds kind.Long first cells fields c.plain.result itself has.storable (subst (All (λ n. n < 256 ^ 8)) has.are has.fit)
          (map-append (λ x. cast_unsigned w64 (long_of x)) first cells ∙ ap (λ l. map (λ x. cast_unsigned w64 (long_of x)) first ++ l) has.are)
          (omega (arith, c.in_ok-at.ensures.few, rows, count))
          (c.plain.ensures.main ∙ c.in_ok-main.ensures.bytes ∙ sym (flat_map-map (little_bytes 8) (cast_unsigned w64) items))
          (c.plain.ensures.main_at ∙ c.in_ok-at.ensures.place ∙ ap (λ n. n * 8) (sym rows))
          (sym c.plain.ensures.aux) c.plain.ensures.aux_at;
    }
