use Rattle.std.proofs.Common.{◌≡◌, ◌∙◌, ℕ, Bool, refl, ap, sym, map, drop, arith}
use Rattle.std.specs.List.{flat_map}
use Rattle.std.proofs.lemmas.List.{take_rest, drop-map, length-map}
use Rattle.byteorder.specs.Endian.{little_bytes}
use Rattle.qd_base.specs.declared.cell.Cell.TheVariants as cell
use Rattle.qd_base.specs.declared.schema.ColType.TheVariants as kind
use Rattle.qd_column_format.specs.Fields.{bytes_of_fields, truth_field}
use Rattle.qd_column_format.specs.Added.{column_of}
use Rattle.qd_column_format.proofs.SpellingLemmas.{single_bytes}
use Rattle.qd_column_format.proofs.ColumnLemmas.{truth_column, truths_small, plain_added, column_itself}
use Rattle.qd_column_format.proofs.encode.truths_added.Goals as goal

pub returns-clause-added : goal.returns-clause-added
returns-clause-added c =
    let truths = c.args.truths.now in
    let from = c.args.from in
    let f : Bool → ℕ = λ b. truth_field (cell.Bool b) in
    let count = length-map truths f in
    let rest = map f (drop from truths) in
    let main : c.plain.result.main ≡ bytes_of_fields kind.Bool (drop from (map f truths)) = c.plain.ensures.main ∙ c.in_ok-main.ensures.bytes ∙ ap (map f) (take_rest truths from) ∙ sym (single_bytes rest (truths_small (drop from truths))) ∙ ap (flat_map (little_bytes 1)) (sym (drop-map f from truths)) in
    plain_added kind.Bool (map (λ b. cell.Bool b) truths) (map f truths) from c.plain.result (truth_column truths) (omega (arith, count, c.requires)) refl refl main (c.plain.ensures.main_at ∙ omega arith) c.plain.ensures.aux c.plain.ensures.aux_at

pub returns-clause-spelled : goal.returns-clause-spelled
returns-clause-spelled c =
    let truths = c.args.truths.now in
    let count = length-map truths (λ b. truth_field (cell.Bool b)) in
    column_itself (column_of kind.Bool (map (λ b. cell.Bool b) truths)) (map (λ b. truth_field (cell.Bool b)) truths) (truth_column truths) (omega arith)
