use Rattle.std.proofs.Common.{◌∙◌, ◌++◌, [], ℕ, List, Vec, Global, ap, ap₂, arith, map, slice_index, sym}
use Rattle.std.proofs.lemmas.List.{get_or-map}
use Rattle.qd_base.specs.Rows.{Row}
use Rattle.qd_value.specs.declared.scalars.Scalar.{Scalar}
use Rattle.qd_value.specs.Scalars.{cell_of}
use Rattle.qd_sample.specs.Cells.{bucket_rows, group_row}
use Rattle.qd_sample.proofs.Steps.{flat_range_more}
use Rattle.qd_sample.proofs.rows.rows_of_groups.Goals as goal

pub loop-b-preserved : goal.loop-b-preserved
loop-b-preserved g c =
    let heads = c.args.heads.now in
    let b : ℕ = c.loop-b.b in
    let columns = map (λ (v : Vec Scalar Global). map cell_of v.items) c.args.columns.now in
    let lists = map (λ (v : Vec ℕ Global). v.items) c.args.lists.now in
    let read = c.as_slice-groups.ensures.value ∙ ap (λ (v : Vec ℕ Global). v.items) c.index-lists-b.is ∙ sym (get_or-map (λ (v : Vec ℕ Global). v.items) c.args.lists.now b c.index-lists-b.result [] (omega (arith, c.requires.count))) in
    c.in_ok-push_groups.ensures.rows
    ∙ ap₂ (λ (made : List Row) (l : List ℕ). made ++ map (group_row heads.rows.now heads.keys.now heads.firsts.now columns c.args.keys.now (slice_index c.args.starts.now b)) l) c.loop-b.invariant read
    ∙ sym (flat_range_more (bucket_rows heads.rows.now heads.keys.now heads.firsts.now columns c.args.keys.now c.args.starts.now lists) b)
