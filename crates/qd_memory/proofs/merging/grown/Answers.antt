use Rattle.std.proofs.Common.{◌≡◌, ◌∙◌, ℕ, List, ap, sym, subst, take, length, arith}
use Rattle.std.proofs.lemmas.Result.{IfOk-weaker}
use Rattle.qd_base.specs.declared.schema.ColType.{ColType}
use Rattle.qd_block.specs.Blocks.{kinds_in}
use Rattle.qd_merge.specs.Laws.{AreKeys, IsBatch}
use Rattle.qd_memory.proofs.MergingLemmas.{piece_merged, slot_grown}
use Rattle.qd_memory.proofs.TableLemmas.{keys_are}
use Rattle.qd_memory.proofs.merging.grown.Goals as goal

pub merge_blocks-requires-clause-keys : goal.merge_blocks-requires-clause-keys
merge_blocks-requires-clause-keys c = subst (λ (n : ℕ). AreKeys n c.args.schema.now.keys) (sym c.requires.piece.full.time_col) (keys_are c.args.schema.now c.requires.schema)

pub merge_blocks-requires-clause-kinds : goal.merge_blocks-requires-clause-kinds
merge_blocks-requires-clause-kinds c = subst (λ (ks : List ColType). take (length c.args.old.now.kinds) ks ≡ c.args.old.now.kinds) (sym c.requires.piece.full.kinds) c.requires.old.kinds

pub merge_blocks-requires-clause-time_col : goal.merge_blocks-requires-clause-time_col
merge_blocks-requires-clause-time_col c = c.requires.old.time_col ∙ sym c.requires.piece.full.time_col

pub merge_blocks-requires-clause-batch : goal.merge_blocks-requires-clause-batch
merge_blocks-requires-clause-batch c = subst (λ (n : ℕ). IsBatch n c.args.schema.now.keys c.args.piece.now.rows) (sym c.requires.piece.full.time_col) c.requires.piece.batch.batch

pub slot_of-requires-clause-full : goal.slot_of-requires-clause-full
slot_of-requires-clause-full c = piece_merged c.args.schema.now c.args.start c.args.old.now c.args.piece.now c.in_ok-merged.merged c.in_ok-merged.ensures.merged c.is_whole-2.ensures.whole c.is_whole.ensures.whole c.requires.old c.requires.piece c.requires.start

pub returns-clause-rows : goal.returns-clause-rows
returns-clause-rows c =
    let s = c.args.schema.now in
    let full = piece_merged s c.args.start c.args.old.now c.args.piece.now c.in_ok-merged.merged c.in_ok-merged.ensures.merged c.is_whole-2.ensures.whole c.is_whole.ensures.whole c.requires.old c.requires.piece c.requires.start in
    IfOk-weaker c.slot_of.result _ _ (λ y h. slot_grown s c.args.start c.args.old.now c.args.piece.now c.in_ok-merged.merged y c.in_ok-merged.ensures.merged c.is_whole.ensures.whole full c.requires.piece h) c.slot_of.ensures.block
