-- What a plan is of a statement: its parts over the schemas, exactly where nothing is refused in it but what the rows alone show.
use Rattle.std.specs.Prelude.{◌≡◌, ℕ, List, [], Option, Some, None, Result, Ok, Err}
use Rattle.qd_base.specs.declared.code.Code.TheVariants as code
use Rattle.qd_base.specs.declared.schema.Schema.{Schema}
use Rattle.qd_base.specs.Schemas.{table_at}
use Rattle.qd_sql_ast.specs.declared.tree.Stmt.{Stmt}
use Rattle.qd_sql_ast.specs.declared.tree.Stmt.TheVariants as is
use Rattle.qd_meaning.specs.Refusals.{least}
use Rattle.qd_meaning.specs.Planned as parts
use Rattle.qd_plan.specs.declared.fault.PlanFault.{PlanFault}
use Rattle.qd_plan.specs.declared.fault.PlanFault.TheVariants as fault
use Rattle.qd_plan.specs.declared.asked.Plan.{Plan}
use Rattle.qd_plan.specs.declared.asked.Plan.TheVariants as plan

-- the plan of a query is its parts, where nothing is refused in it, and else the refusal is the least
abbrev pub PlannedQuery : parts.Planned → Result Plan PlanFault → Type 0
PlannedQuery p (Ok (plan.Ask made)) = (p.faults ≡ []) × (made ≡ p.plan)
PlannedQuery p (Ok (plan.Show table)) = ⊥
PlannedQuery p (Err (fault.Refused why place)) = least p.faults ≡ Some (record { code = why; place = place })
PlannedQuery p (Err fault.Memory) = Unit {0}

-- SHOW PARTITIONS names a table that is there
abbrev pub PlannedShow : Option ℕ → ℕ → Result Plan PlanFault → Type 0
PlannedShow found place (Ok (plan.Show table)) = found ≡ Some table
PlannedShow found place (Ok (plan.Ask made)) = ⊥
PlannedShow found place (Err (fault.Refused why at)) = (found ≡ None) × (why ≡ code.UnknownTable) × (at ≡ place)
PlannedShow found place (Err fault.Memory) = Unit {0}

abbrev pub Planned : List Schema → Stmt → Result Plan PlanFault → Type 0
Planned schemas (is.Query q) r = PlannedQuery (parts.planned schemas q) r
Planned schemas (is.Show name place) r = PlannedShow (table_at schemas name) place r
Planned schemas (is.Create c) r = Unit {0}
Planned schemas (is.Insert i) r = Unit {0}
Planned schemas (is.Alter a) r = Unit {0}
