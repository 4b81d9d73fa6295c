use Rattle.std.proofs.Common.{◌∙◌, ℕ, List, All, map, ap, sym, subst}
use Rattle.std.specs.Prelude.{Vec}
use Rattle.std.specs.declared.alloc.Global.{Global}
use Rattle.qd_base.specs.Database.{StoredTable}
use Rattle.qd_manifest.specs.declared.shape.TableParts.{TableParts}
use Rattle.qd_manifest.specs.Spelling.{AreParts}
use Rattle.qd_apply.specs.Drafts.{Drafting, Planning}
use Rattle.qd_apply.specs.Laws.{CountsParts}
use Rattle.qd_apply.specs.Plans.{late_from, with_batch, ArePlansOf}
use Rattle.qd_apply.proofs.ServeLemmas.{plans_again, plans_shown}
use Rattle.qd_apply.proofs.drafts.Draft.plan.Goals as goal

pub plan_tables-requires : goal.plan_tables-requires
plan_tables-requires c =
    let of_lists : List (Vec ℕ Global) → List (List ℕ) = λ l. map (λ (v : Vec ℕ Global). v.items) l in
    record {
      parts = subst (λ (d : Drafting). All (λ (t : TableParts). AreParts t.schema t.parts) d.shape) (sym c.self.view_is) c.requires.parts;
      counts = subst (λ (l : List (Vec ℕ Global)). CountsParts c.self.inside.shape (of_lists l)) (sym c.as_slice.ensures.value) (subst (λ (d : Drafting). CountsParts d.shape (of_lists c.args.written.items)) (sym c.self.view_is) c.requires.counts);
    }

pub invariant_of-result : goal.invariant_of-result
invariant_of-result c =
    let of_lists : List (Vec ℕ Global) → List (List ℕ) = λ l. map (λ (v : Vec ℕ Global). v.items) l in
    let i = c.self.inside in
    let plans : ArePlansOf (of_lists c.args.written.items) c.args.split_rows i.shape c.tables.inside.tables.items c.in_ok-plans.plans.items =
    subst (λ (l : List (Vec ℕ Global)). ArePlansOf (of_lists l) c.args.split_rows i.shape c.tables.inside.tables.items c.in_ok-plans.plans.items) c.as_slice.ensures.value c.in_ok-plans.ensures.plans in
    record {
      plans = plans_again (of_lists c.args.written.items) c.args.split_rows i.shape c.tables.inside.tables.items c.in_ok-plans.plans.items plans;
      late = c.in_ok-late.ensures.late ∙ ap (late_from 0) c.as_slice-2.ensures.value;
    }

pub returns : goal.returns
returns c =
    let of_lists : List (Vec ℕ Global) → List (List ℕ) = λ l. map (λ (v : Vec ℕ Global). v.items) l in
    let i = c.self.inside in
    let plans : ArePlansOf (of_lists c.args.written.items) c.args.split_rows i.shape c.tables.inside.tables.items c.in_ok-plans.plans.items =
    subst (λ (l : List (Vec ℕ Global)). ArePlansOf (of_lists l) c.args.split_rows i.shape c.tables.inside.tables.items c.in_ok-plans.plans.items) c.as_slice.ensures.value c.in_ok-plans.ensures.plans in
    let planned : Drafting → List StoredTable → Planning = λ d l. record { base = d.base; upto = d.upto; next_block = d.next_block; shape = d.shape; tables = l; written = of_lists c.args.written.items; split_rows = c.args.split_rows } in
    let d : Drafting = record { base = i.base; upto = i.upto; next_block = i.next_block; shape = i.shape; tables = c.tables.inside.tables.items } in
    record {
      plan = ap (λ (l : List StoredTable). planned d l)
          (plans_shown (of_lists c.args.written.items) c.args.split_rows i.shape c.tables.inside.tables.items c.in_ok-plans.plans.items plans ∙ ap (map with_batch) c.tables.view_is)
          ∙ ap (λ (e : Drafting). planned e (map with_batch e.tables)) c.self.view_is;
    }
