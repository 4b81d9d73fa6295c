use Rattle.std.proofs.Common.{◌≡◌, ap, sym}
use Rattle.qd_block.specs.Blocks.{Block, in_time_order, kinds_in}
use Rattle.qd_memory.proofs.MergingLemmas.{batch_made, batch_rows, block_keys, block_sorted}
use Rattle.qd_memory.proofs.WaitLemmas.{block_finished}
use Rattle.qd_memory.proofs.merging.batch_of.Goals as goal

pub finish-requires : goal.finish-requires
finish-requires c = record { whole = c.requires.begun.whole }

pub dedup_block-requires : goal.dedup_block-requires
dedup_block-requires c =
    let s = c.args.schema.now in
    let waiting = c.args.waiting in
    record { keys = block_keys s c.in_ok-block.block (in_time_order s.time_col waiting.rows) c.requires.schema (block_finished s waiting c.in_ok-block.block c.requires.begun c.in_ok-block.ensures.block) }

pub returns : goal.returns
returns c =
    let s = c.args.schema.now in
    let waiting = c.args.waiting.rows in
    let is = block_finished s c.args.waiting c.in_ok-block.block c.requires.begun c.in_ok-block.ensures.block in
    let made = c.in_ok-batch.ensures.of_sorted waiting (block_sorted s waiting c.in_ok-block.block is) in
    record {
      batch = batch_made s waiting c.in_ok-block.block c.in_ok-batch.batch c.requires.schema c.requires.fit is made c.is_whole.ensures.whole;
      rows = batch_rows s waiting c.in_ok-block.block c.in_ok-batch.batch is made;
    }
