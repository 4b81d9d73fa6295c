use Rattle.std.proofs.Common.{◌∙◌, ◌++◌, ◌*◌, ◌^◌, ◌<◌, ap, sym, map, subst, arith, All}
use Rattle.std.proofs.lemmas.List.{length-map, map-append}
use Rattle.qd_base.specs.declared.schema.ColType.TheVariants as kind
use Rattle.qd_column.specs.Cells.{time_cell}
use Rattle.qd_column_format.specs.Fields.{time_field}
use Rattle.qd_column_format.proofs.ColumnLemmas.{all_fit, time_column}
use Rattle.qd_column_format.proofs.TailLemmas.{adds}
use Rattle.qd_column_format.proofs.tail.times_behind.Goals as goal

pub returns : goal.returns
returns c =
    let items = c.args.times.now in
    let cells = map time_cell items in
    let fields = items in
    let has = time_column items (all_fit items (λ i. omega (arith, c.type_inv.times i))) in
    let count = length-map items time_cell in
    record {
      added = λ first rows itself.
          adds kind.Time first cells fields c.plain.result itself has.storable (subst (All (λ n. n < 256 ^ 8)) has.are has.fit)
          (map-append time_field first cells ∙ ap (λ l. map time_field first ++ l) has.are)
          (omega (arith, c.in_ok-at.ensures.few, rows, count))
          (c.plain.ensures.main ∙ c.in_ok-main.ensures.bytes)
          (c.plain.ensures.main_at ∙ c.in_ok-at.ensures.place ∙ ap (λ n. n * 8) (sym rows))
          (sym c.plain.ensures.aux) c.plain.ensures.aux_at;
    }
