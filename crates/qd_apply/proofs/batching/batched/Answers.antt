use Rattle.std.proofs.Common.{ℕ, ◌∙◌, ap, sym, subst}
use Rattle.qd_base.specs.Database.{StoredTable}
use Rattle.qd_block.specs.Blocks.{Block}
use Rattle.qd_merge.specs.Laws.{AreKeys}
use Rattle.qd_merge.specs.Merged.{block_in}
use Rattle.qd_apply.specs.Next.{batch_of}
use Rattle.qd_apply.proofs.BatchLemmas.{batch_made}
use Rattle.qd_apply.proofs.PieceLemmas.{keys_are}
use Rattle.qd_apply.proofs.batching.batched.Goals as goal

pub dedup_block-requires : goal.dedup_block-requires
dedup_block-requires c =
    let s = c.table.inside.schema in
    record { keys = subst (λ (n : ℕ). AreKeys n s.keys) (sym (ap (λ (x : Block). x.time_col) c.in_ok-sorted.ensures.block)) (keys_are s c.table.invariant.waits.schema) }

pub returns-clause-block : goal.returns-clause-block
returns-clause-block c =
    let i = c.table.inside in
    batch_made i.schema i.stages.items i.current c.in_ok-begun.field-0 c.in_ok-last.last c.in_ok-sorted.sorted c.in_ok-block.block c.in_ok-begun.ensures.rows c.in_ok-begun.ensures.begun c.in_ok-last.ensures.block c.in_ok-sorted.ensures.block c.in_ok-block.ensures.of_sorted
    ∙ ap (λ (t : StoredTable). block_in t.schema (batch_of t)) c.table.view_is
