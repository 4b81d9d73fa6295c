use Rattle.std.proofs.Common.{◌∙◌, ◌++◌, ◌^◌, ◌<◌, ap, sym, map, subst, arith, All}
use Rattle.std.proofs.lemmas.List.{length-map, map-append}
use Rattle.qd_base.specs.declared.cell.Cell.TheVariants as cell
use Rattle.qd_base.specs.declared.schema.ColType.TheVariants as kind
use Rattle.qd_column_format.specs.Fields.{truth_field}
use Rattle.qd_column_format.proofs.SpellingLemmas.{single_bytes}
use Rattle.qd_column_format.proofs.ColumnLemmas.{truth_column, truths_small}
use Rattle.qd_column_format.proofs.TailLemmas.{adds}
use Rattle.qd_column_format.proofs.tail.truths_behind.Goals as goal

pub returns : goal.returns
returns c =
    let items = c.args.truths.now in
    let cells = map (λ b. cell.Bool b) items in
    let fields = map (λ b. truth_field (cell.Bool b)) items in
    let has = truth_column items in
    let count = length-map items (λ b. cell.Bool b) in
    record {
      added = λ first rows itself.
          adds kind.Bool first cells fields c.plain.result itself has.storable (subst (All (λ n. n < 256 ^ 1)) has.are has.fit)
          (map-append truth_field first cells ∙ ap (λ l. map truth_field first ++ l) has.are)
          (omega (arith, c.in_ok-_at.ensures.few, rows, count))
          (c.plain.ensures.main ∙ c.in_ok-main.ensures.bytes ∙ sym (single_bytes (map (λ b. truth_field (cell.Bool b)) items) (truths_small items)))
          (c.plain.ensures.main_at ∙ omega (arith, rows))
          (sym c.plain.ensures.aux) c.plain.ensures.aux_at;
    }
