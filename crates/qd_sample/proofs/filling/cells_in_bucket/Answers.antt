use Rattle.std.proofs.Common.{◌∙◌, ℕ, List, ap, ap₂, sym, fold, map, set, slice_index, take, Vec, Global}
use Rattle.std.proofs.lemmas.List.{length-set, map-set, take_more}
use Rattle.std.proofs.lemmas.List.Sums.{fold_push}
use Rattle.qd_base.specs.declared.cell.Cell.{Cell}
use Rattle.qd_value.specs.declared.scalars.Scalar.{Scalar}
use Rattle.qd_value.specs.Scalars.{cell_of}
use Rattle.qd_sample.specs.Cells.{filled_by, placed}
use Rattle.qd_sample.proofs.filling.cells_in_bucket.Goals as goal

pub loop-group-preserved : goal.loop-group-preserved
loop-group-preserved c =
    let i : ℕ = c.loop-group.group-index in
    let g : ℕ = slice_index c.args.groups.now i in
    let k : ℕ = slice_index c.args.keys.now g in
    let now = c.loop-group.now.items in
    let shown = λ (v : Vec Scalar Global). map cell_of v.items in
    let columns = map (λ (v : Vec Scalar Global). map cell_of v.items) c.args.columns.now in
    let begun = map (filled_by c.args.fills.now) (map (λ (v : Vec Scalar Global). map cell_of v.items) c.args.befores.now) in (
      length-set now k c.in_ok-now-2.field-0 ∙ c.loop-group.invariant.0,
      map-set (λ (v : Vec Scalar Global). map cell_of v.items) now k c.in_ok-now-2.field-0
          ∙ ap₂ (λ (l : List (List Cell)) (x : List Cell). set l k x) c.loop-group.invariant.1 c.in_ok-now-2.ensures.answers
          ∙ sym (ap (fold (placed columns c.args.keys.now) begun) (take_more c.args.groups.now i 0 c.loop-group-test.true) ∙ fold_push (placed columns c.args.keys.now) begun (take i c.args.groups.now) g),
    )
