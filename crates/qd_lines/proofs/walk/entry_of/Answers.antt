use Rattle.std.proofs.Common.{◌<◌, ◌≤◌, ◌∙◌, ℕ, List, All, sym, subst}
use Rattle.qd_base.specs.declared.limits.TheConstants.{MAX_BATCH_CELLS}
use Rattle.qd_base.specs.Lawful.{cells_of}
use Rattle.qd_ilp.specs.Whole.{IsReading}
use Rattle.qd_lines.specs.Laws.{KeepLaws}
use Rattle.qd_base.specs.declared.op.Op.{Op}
use Rattle.qd_lines.proofs.walk.entry_of.Goals as goal

pub returns-clause-lawful : goal.returns-clause-lawful
returns-clause-lawful c =
    let took = c.in_ok-walk_batch.ensures.taken in
    subst (λ (ops : List Op). (text : List ℕ) → All (λ b. b < 256) text → IsReading text c.args.batch.now → KeepLaws c.args.schemas.now ops × (cells_of (record { ops = ops }) ≤ MAX_BATCH_CELLS)) (sym (c.in_ok-finish.ensures.entry ∙ took.2)) (c.in_ok-walk_batch.ensures.lawful took.0 took.1)
