use Rattle.std.proofs.Common.{◌≤◌, ℕ, List, All, sym, subst}
use Rattle.std.proofs.lemmas.List.Elements.{All-nil}
use Rattle.qd_base.specs.declared.limits.TheConstants.{MAX_TIME}
use Rattle.qd_base.specs.declared.part.Part.{Part}
use Rattle.qd_base.specs.Laws.{IsInOrder}
use Rattle.qd_base.specs.Rows.{time_of}
use Rattle.qd_vectors.proofs.Tables.{times_within}
use Rattle.qd_vectors.proofs.merging.planned.Goals as goal

pub plan_merge-requires-clause-in_order : goal.plan_merge-requires-clause-in_order
plan_merge-requires-clause-in_order c = subst (λ (col : ℕ). IsInOrder col c.args.batch.now) (sym c.requires.table.time_col) c.requires.batch.in_order

pub plan_merge-requires-clause-times : goal.plan_merge-requires-clause-times
plan_merge-requires-clause-times c = subst (λ (col : ℕ). All (λ r. time_of col r ≤ MAX_TIME) c.args.batch.now) (sym c.requires.table.time_col) (times_within c.args.batch.now c.requires.rows)

pub plan_merge-requires-clause-parts : goal.plan_merge-requires-clause-parts
plan_merge-requires-clause-parts c = subst (All (λ (p : Part). p.lo ≤ MAX_TIME)) (sym c.new-parts.ensures.empty) (All-nil (λ (p : Part). p.lo ≤ MAX_TIME))
