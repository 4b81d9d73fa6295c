use Rattle.std.proofs.Common.{◌∙◌, ◌++◌, ◌∷◌, [], List, ap, ap₂, sym, arith, map, get_or}
use Rattle.std.proofs.lemmas.List.{get_or-map, length-map, map_push}
use Rattle.qd_base.specs.declared.cell.Cell.{Cell}
use Rattle.qd_base.specs.declared.cell.Cell.TheVariants as cell
use Rattle.qd_meaning.specs.declared.parts.Fill.{Fill}
use Rattle.qd_meaning.specs.declared.parts.Fill.TheVariants as fill
use Rattle.qd_meaning.specs.Sampled.{fill_cell}
use Rattle.qd_value.specs.declared.scalars.Scalar.TheVariants as scalar
use Rattle.qd_value.specs.Scalars.{cell_of}
use Rattle.qd_sample.proofs.Steps.{zip_more}
use Rattle.qd_sample.proofs.filling.filled.Goals as goal

pub loop-i-preserved : goal.loop-i-preserved
loop-i-preserved c =
    let i = c.loop-i.i in
    let fills = c.args.fills.now in
    let before = c.args.before.now in
    ap (map cell_of) c.in_ok-push.ensures.items
    ∙ map_push cell_of c.loop-i.cells.items c.filled_cell.result
    ∙ ap₂ (λ (l : List Cell) (x : Cell). l ++ x ∷ []) c.loop-i.invariant (c.filled_cell.ensures ∙ ap (fill_cell (get_or fills i fill.Skip)) (sym (get_or-map cell_of before i scalar.Null cell.Null (omega (arith, c.requires)))))
    ∙ sym (zip_more (λ (f : Fill × Cell). fill_cell f.0 f.1) fills (map cell_of before) i fill.Skip cell.Null (omega arith) (omega (arith, length-map before cell_of, c.requires)))
