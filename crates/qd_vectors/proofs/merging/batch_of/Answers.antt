use Rattle.std.proofs.Common.{◌≡◌, ◌∙◌, ℕ, List, All, ap, sym, subst}
use Rattle.std.proofs.lemmas.Result.{IfOk-weaker}
use Rattle.qd_base.specs.Rows.{Row}
use Rattle.qd_block.specs.Blocks.{in_time_order}
use Rattle.qd_merge.specs.Batch.{batch}
use Rattle.qd_merge.specs.Laws.{IsBatch}
use Rattle.qd_vectors.specs.Tables.{IsTableRow}
use Rattle.qd_merge.proofs.Batches.{batch_is_batch}
use Rattle.qd_vectors.proofs.Tables.{all-batch}
use Rattle.qd_vectors.proofs.merging.batch_of.Goals as goal

pub returns : goal.returns
returns c =
    let keys = c.args.schema.now.keys in
    let sorted : c.in_ok-sorted.sorted ≡ in_time_order 0 c.args.came = c.in_ok-sorted.ensures.sorted ∙ ap (λ (col : ℕ). in_time_order col c.args.came) c.requires.table.time_col in
    let is = c.dedup_batch.ensures.of_sorted 0 c.args.came sorted in
    record {
      batch = IfOk-weaker c.dedup_batch.result _ _ (λ out h. subst (IsBatch 0 keys) (sym h) (batch_is_batch 0 keys c.args.came)) is;
      rows = IfOk-weaker c.dedup_batch.result _ _ (λ out h. subst (All IsTableRow) (sym h) (all-batch IsTableRow 0 keys c.args.came c.requires.rows)) is;
    }
