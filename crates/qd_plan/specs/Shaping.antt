-- The parts of a query over its columns, and the clauses of it.
use Rattle.std.specs.Prelude.{ℕ, List, ◌++◌, Option, Some, None, Result, Ok, Err}
use Rattle.std.specs.List.{flat_map}
use Rattle.std.specs.Option.{option_map}
use Rattle.qd_base.specs.declared.code.Code.TheVariants as code
use Rattle.qd_base.specs.declared.schema.Col.{Col}
use Rattle.qd_sql_ast.specs.declared.tree.Column.{Column}
use Rattle.qd_sql_ast.specs.declared.tree.Query.{Query}
use Rattle.qd_meaning.specs.declared.parts.AskPlan.{AskPlan}
use Rattle.qd_meaning.specs.declared.parts.JoinSpec.{JoinSpec}
use Rattle.qd_meaning.specs.declared.parts.Work.{Work}
use Rattle.qd_meaning.specs.declared.refusal.Refusal.{Refusal}
use Rattle.qd_meaning.specs.Refusals.{unless}
use Rattle.qd_meaning.specs.Scopes.{Scope, resolved}
use Rattle.qd_meaning.specs.Items.{Shows, items_of, columns_of, some_made, bound_in}
use Rattle.qd_meaning.specs.Planned.{cut_of, filter_faults, is_column, keep_of, latest_faults, latest_of, made_kinds, order_faults, order_of, picks_of, place_of_sample, position_in, roles_in, sampled_faults, work_of}
use Rattle.qd_plan.specs.declared.fault.PlanFault.{PlanFault}
use Rattle.qd_plan.specs.declared.fault.PlanFault.TheVariants as fault
use Rattle.qd_plan.specs.declared.asked.Plan.{Plan}
use Rattle.qd_plan.specs.declared.asked.Plan.TheVariants as plan

-- ---- LATEST ON

abbrev pub on_faults : Scope → ℕ → Column → List Refusal
on_faults scope time_col on = (resolved scope on).faults ++ unless (is_column time_col (resolved scope on).column) code.Keys on.first.at

abbrev pub key_of : Scope → Column → ℕ
key_of scope c = position_in (resolved scope c).column

abbrev pub key_faults : Scope → Column → List Refusal
key_faults scope c = (resolved scope c).faults

-- ---- items

abbrev pub work : ℕ → Scope → Query → Work
work time_col scope q =
    let items = items_of scope q.selected in
    work_of q.sampled (some_made items) (flat_map (λ (i : Shows). bound_in i.part) items) (roles_in time_col q.sampled items)

abbrev pub picks : ℕ → Scope → Query → List ℕ
picks time_col scope q = let items = items_of scope q.selected in picks_of q.sampled (some_made items) (roles_in time_col q.sampled items)

abbrev pub out : Scope → Query → List Col
out scope q = columns_of (items_of scope q.selected)

abbrev pub work_faults : Scope → Query → List Refusal
work_faults scope q = let items = items_of scope q.selected in flat_map (λ (i : Shows). i.faults) items ++ sampled_faults q.sampled (made_kinds items)

-- ---- the whole

abbrev pub shaped : ℕ → ℕ → Scope → Option (ℕ × JoinSpec) → Query → AskPlan
shaped left_at time_col scope join q = record {
  left = left_at;
  join = join;
  keep = keep_of scope q.filter;
  latest = latest_of scope q.latest;
  work = work time_col scope q;
  picks = picks time_col scope q;
  out = out scope q;
  order = order_of (out scope q) q.order;
  limit = option_map cut_of q.limit;
  at = place_of_sample q.sampled;
}

abbrev pub shaped_faults : ℕ → Scope → Query → List Refusal
shaped_faults time_col scope q = filter_faults scope q.filter ++ latest_faults scope time_col q.latest ++ work_faults scope q ++ order_faults (out scope q) q.order

-- a plan, or the refusal in its place
abbrev pub judged : AskPlan → Option Refusal → Result Plan PlanFault
judged made None = Ok (plan.Ask made)
judged made (Some r) = Err (fault.Refused r.code r.place)
