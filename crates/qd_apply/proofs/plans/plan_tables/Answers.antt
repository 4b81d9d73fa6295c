use Rattle.std.proofs.Common.{◌≡◌, ℕ, List, length, map, drop, sym, subst, arith}
use Rattle.std.specs.Prelude.{Vec}
use Rattle.std.specs.declared.alloc.Global.{Global}
use Rattle.qd_base.specs.declared.part.Part.{Part}
use Rattle.qd_apply.specs.Next.{first_counts}
use Rattle.qd_apply.specs.Plans.{IsPlanOf}
use Rattle.qd_apply.proofs.ServeLemmas.{may_plan, planned_all, planned_first, planned_next, IsPlanAt, MayPlan}
use Rattle.qd_apply.proofs.plans.plan_tables.Goals as goal

pub loop-table-init : goal.loop-table-init
loop-table-init c = planned_first (map (λ (v : Vec ℕ Global). v.items) c.args.written.now) c.args.split_rows c.args.shape.now c.args.tables.items c.reverse.new.self.items c.new-plans.result.items c.reverse.ensures.items c.new-plans.ensures.items

pub plan_table-requires : goal.plan_table-requires
plan_table-requires c =
    let counts : List (List ℕ) = map (λ (v : Vec ℕ Global). v.items) c.args.written.now in
    let may = may_plan c.len-number.result c.args.shape.now counts c.requires.parts c.requires.counts in
    let here : MayPlan c.counts_of-counts.result.now c.parts_of-parts.result.now =
    subst (λ (l : List ℕ). MayPlan l c.parts_of-parts.result.now) (sym c.counts_of-counts.ensures.counts)
    (subst (λ (l : List Part). MayPlan (first_counts (drop c.len-number.result counts)) l) (sym c.parts_of-parts.ensures.parts) may) in
    record { order = here.order; parts = here.begin; counts = here.many }

pub loop-table-preserved : goal.loop-table-preserved
loop-table-preserved c =
    let counts : List (List ℕ) = map (λ (v : Vec ℕ Global). v.items) c.args.written.now in
    let ps = c.loop-table.plans.items in
    let n : c.len-number.result ≡ length c.loop-table.plans.items = omega (arith, c.len-number.ensures, c.loop-table.plans.ok.0) in
    let t = c.in-Some.table in
    let p = c.in_ok-plan.plan in
    let s = c.args.split_rows in
    planned_next counts s c.args.shape.now c.args.tables.items c.loop-table.left.items c.pop.new.self.items ps c.push.new.self.items t p c.in-Some.ensures.items c.loop-table.invariant
    (subst (λ (m : ℕ). IsPlanAt counts s c.args.shape.now m t p) n
    (subst (λ (l : List Part). IsPlanOf (first_counts (drop c.len-number.result counts)) s l t p) c.parts_of-parts.ensures.parts
    (subst (λ (l : List ℕ). IsPlanOf l s c.parts_of-parts.result.now t p) c.counts_of-counts.ensures.counts c.in_ok-plan.ensures.plan))) c.in_ok-push.ensures.items

pub returns : goal.returns
returns c = record {
  plans = planned_all (map (λ (v : Vec ℕ Global). v.items) c.args.written.now) c.args.split_rows c.args.shape.now c.args.tables.items c.loop-table.left.items c.loop-table.plans.items (omega (arith, c.in_default.ensures.cases.0, c.loop-table.left.ok.0)) c.loop-table.invariant;
}
