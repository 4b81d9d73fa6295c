use Rattle.std.proofs.Common.{◌≡◌, ◌∙◌, ap, sym, subst, take, length}
use Rattle.std.proofs.lemmas.Result.{IfOk-weaker}
use Rattle.qd_block.specs.Blocks.{Block}
use Rattle.qd_merge.specs.Laws.{AreKeys, IsBatch}
use Rattle.qd_merge.specs.Merged.{merged}
use Rattle.qd_merge.proofs.Batched.{block_given}
use Rattle.qd_merge.proofs.merge.merge_block.Goals as goal

pub merge_blocks-requires-clause-keys : goal.merge_blocks-requires-clause-keys
merge_blocks-requires-clause-keys c =
    let same = block_given c.args.schema.now c.args.batch.now c.in_ok-batch.batch c.in_ok-batch.ensures.block (c.in_ok-batch.ensures.in_order c.requires.batch.in_order) in
    subst (λ (b : Block). AreKeys b.time_col c.args.schema.now.keys) (sym same) c.requires.keys

pub merge_blocks-requires-clause-kinds : goal.merge_blocks-requires-clause-kinds
merge_blocks-requires-clause-kinds c =
    let same = block_given c.args.schema.now c.args.batch.now c.in_ok-batch.batch c.in_ok-batch.ensures.block (c.in_ok-batch.ensures.in_order c.requires.batch.in_order) in
    subst (λ (b : Block). take (length c.args.old.now.kinds) b.kinds ≡ c.args.old.now.kinds) (sym same) c.requires.kinds

pub merge_blocks-requires-clause-time_col : goal.merge_blocks-requires-clause-time_col
merge_blocks-requires-clause-time_col c =
    let same = block_given c.args.schema.now c.args.batch.now c.in_ok-batch.batch c.in_ok-batch.ensures.block (c.in_ok-batch.ensures.in_order c.requires.batch.in_order) in
    subst (λ (b : Block). c.args.old.now.time_col ≡ b.time_col) (sym same) c.requires.time_col

pub merge_blocks-requires-clause-batch : goal.merge_blocks-requires-clause-batch
merge_blocks-requires-clause-batch c =
    let same = block_given c.args.schema.now c.args.batch.now c.in_ok-batch.batch c.in_ok-batch.ensures.block (c.in_ok-batch.ensures.in_order c.requires.batch.in_order) in
    subst (λ (b : Block). IsBatch b.time_col c.args.schema.now.keys b.rows) (sym same) c.requires.batch

pub returns : goal.returns
returns c =
    let same = block_given c.args.schema.now c.args.batch.now c.in_ok-batch.batch c.in_ok-batch.ensures.block (c.in_ok-batch.ensures.in_order c.requires.batch.in_order) in
    record { merged = IfOk-weaker c.merge_blocks.result _ _ (λ x h. h ∙ ap (merged c.args.schema.now.keys c.args.old.now c.args.skip) same) c.merge_blocks.ensures.merged }
