use Rattle.std.proofs.Common.{◌∙◌, ◌++◌, ℕ, List, Option, ap}
use Rattle.std.specs.Option.{option_copied}
use Rattle.qd_base.specs.declared.schema.Col.{Col}
use Rattle.qd_sql_ast.specs.declared.tree.Query.{Query}
use Rattle.qd_bind.specs.Scoped as scoped
use Rattle.qd_meaning.specs.declared.refusal.Refusal.{Refusal}
use Rattle.qd_meaning.specs.Refusals.{least, sooner}
use Rattle.qd_meaning.specs.Scopes.{Scope}
use Rattle.qd_meaning.specs.Planned as parts
use Rattle.qd_plan.specs.Shaping as spec
use Rattle.qd_plan.proofs.FaultLemmas.{step}
use Rattle.qd_plan.proofs.query.shaped.Goals as goal

pub returns-clause-faults : goal.returns-clause-faults
returns-clause-faults c =
    let before : Option Refusal = c.args.faults.now.first in
    let q : Query = c.args.query.now in
    let columns : Scope = scoped.scope c.args.columns.now in
    let at : ℕ = parts.time_col_in (option_copied c.args.left.schema) in
    let f : List Refusal = parts.filter_faults columns q.filter in
    let l : List Refusal = parts.latest_faults columns at q.latest in
    let w : List Refusal = spec.work_faults columns q in
    let o : List Refusal = parts.order_faults (spec.out columns q) q.order in
    let kept = c.in_ok-keep.ensures.faults in
    let last = c.in_ok-latest.ensures.faults ∙ ap (λ (n : ℕ). sooner c.keep_of.new.faults.first (least (parts.latest_faults columns n q.latest))) c.time_col-time_col.ensures.time_col in
    let shown = c.in_ok-work.ensures.faults in
    let ordered = c.in_ok-order.ensures.faults ∙ ap (λ (cols : List Col). sooner c.worked.new.faults.first (least (parts.order_faults cols q.order))) c.in_ok-work.ensures.out in
    step before c.worked.new.faults.first c.order_of.new.faults.first (f ++ l ++ w) o
    (step before c.latest_of.new.faults.first c.worked.new.faults.first (f ++ l) w (step before c.keep_of.new.faults.first c.latest_of.new.faults.first f l kept last) shown) ordered
