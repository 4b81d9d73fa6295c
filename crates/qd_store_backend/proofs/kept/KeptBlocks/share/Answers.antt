use Rattle.std.proofs.Common.{ℕ, subst, ◌∙◌}
use Rattle.qd_block.specs.Blocks.{Block}
use Rattle.qd_store_backend.specs.Kept.{KeepsOne}
use Rattle.qd_store_backend.proofs.KeptLemmas.{put_keeps}
use Rattle.qd_store_backend.proofs.kept.KeptBlocks.share.Goals as goal

pub returns-clause-keeps : goal.returns-clause-keeps
returns-clause-keeps c =
    let at : ℕ × ℕ = (c.args.table, c.args.i) in
    subst (λ (b : Block). KeepsOne c.args.self.now.cache.entries c.put.new.self.entries c.args.table c.args.i b) (c.in_ok-clone.ensures.cases ∙ c.in_ok-shared.ensures.ok)
    (put_keeps c.args.self.now.cache c.put.new.self at c.in_ok-clone.field-0 c.put.result c.put.ensures.entries c.put.ensures.err)
