use Rattle.std.proofs.Common.{List, ℕ, sym, subst}
use Rattle.qd_base.specs.Schemas.{table_at}
use Rattle.qd_sql_ast.specs.declared.tree.Stmt.{Stmt}
use Rattle.qd_plan.specs.Plans.{Planned, PlannedShow}
use Rattle.qd_plan.proofs.stmt.plan.Goals as goal

pub returns-in-Show : goal.returns-in-Show
returns-in-Show c = record {
  answers =
      subst (λ (s : Stmt). Planned c.args.schemas.now s c.shown.result) (sym c.in-Show.is)
      (subst (λ (name : List ℕ). PlannedShow (table_at c.args.schemas.now name) c.in-Show.at c.shown.result) c.bytes.ensures.same c.shown.ensures.answers);
}
