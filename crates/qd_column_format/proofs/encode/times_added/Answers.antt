use Rattle.std.proofs.Common.{◌≡◌, ◌∙◌, refl, ap, map, drop, arith}
use Rattle.std.specs.List.{flat_map}
use Rattle.std.proofs.lemmas.List.{take_rest}
use Rattle.byteorder.specs.Endian.{little_bytes}
use Rattle.qd_base.specs.declared.schema.ColType.TheVariants as kind
use Rattle.qd_column.specs.Cells.{time_cell}
use Rattle.qd_column_format.specs.Fields.{bytes_of_fields}
use Rattle.qd_column_format.specs.Added.{column_of}
use Rattle.qd_column_format.proofs.ColumnLemmas.{time_column, plain_added, column_itself, all_fit}
use Rattle.qd_column_format.proofs.encode.times_added.Goals as goal

pub returns-clause-added : goal.returns-clause-added
returns-clause-added c =
    let times = c.args.times.now in
    let from = c.args.from in
    let main : c.plain.result.main ≡ bytes_of_fields kind.Time (drop from times) = c.plain.ensures.main ∙ c.in_ok-main.ensures.bytes ∙ ap (flat_map (little_bytes 8)) (take_rest times from) in
    plain_added kind.Time (map time_cell times) times from c.plain.result (time_column times (all_fit times (λ i. omega (arith, c.type_inv.times i)))) c.requires refl refl main (c.plain.ensures.main_at ∙ omega arith) c.plain.ensures.aux c.plain.ensures.aux_at

pub returns-clause-spelled : goal.returns-clause-spelled
returns-clause-spelled c =
    let times = c.args.times.now in
    column_itself (column_of kind.Time (map time_cell times)) times (time_column times (all_fit times (λ i. omega (arith, c.type_inv.times i)))) (omega arith)
