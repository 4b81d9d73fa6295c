use Rattle.std.proofs.Common.{◌∙◌, ◌+◌, [], ℕ, Vec, Global, ap, arith, get_or, map, sym}
use Rattle.std.specs.List.{range_with_len}
use Rattle.std.proofs.lemmas.List.{get_or-map}
use Rattle.std.proofs.lemmas.List.FromFn.{map-range_with_len_more}
use Rattle.qd_base.specs.Rows.{Row}
use Rattle.qd_expr.specs.Passing.{row_in}
use Rattle.qd_meaning.specs.Grouped.{key_of}
use Rattle.qd_meaning.specs.Sampled.{sample_row}
use Rattle.qd_value.specs.declared.scalars.Scalar.{Scalar}
use Rattle.qd_value.specs.Scalars.{cell_of}
use Rattle.qd_sample.specs.Cells.{key_row}
use Rattle.qd_sample.proofs.Steps.{pushed}
use Rattle.qd_sample.proofs.rows.push_keys.Goals as goal

pub loop-k-preserved : goal.loop-k-preserved
loop-k-preserved g c =
    let heads = c.args.heads.now in
    let k : ℕ = c.loop-k.k in
    let cells = map (λ (v : Vec Scalar Global). map cell_of v.items) c.args.cells.now in
    let key = key_of heads.keys.now (row_in heads.rows.now (get_or heads.firsts.now k 0)) in
    let row : ℕ → Row = key_row heads.rows.now heads.keys.now heads.firsts.now cells c.args.start in
    let read = ap (map cell_of) c.as_slice.ensures.value ∙ ap (λ (v : Vec Scalar Global). map cell_of v.items) c.index-cells-k.is ∙ sym (get_or-map (λ (v : Vec Scalar Global). map cell_of v.items) c.args.cells.now k c.index-cells-k.result [] (omega arith)) in
    pushed c.args.made.now c.loop-k.made c.push.new.self (map row (range_with_len 0 k)) (map row (range_with_len 0 (k + 1))) c.in_ok-head_row.field-0 (row k) c.loop-k.invariant c.in_ok-push.ensures.ok
    (c.in_ok-head_row.ensures.row ∙ ap (sample_row c.args.start key) read)
    (map-range_with_len_more row 0 k k (omega arith))
