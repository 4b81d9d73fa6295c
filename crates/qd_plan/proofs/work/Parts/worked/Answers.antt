use Rattle.std.proofs.Common.{◌∙◌, List, Option, sym, ap, ap₂}
use Rattle.qd_base.specs.declared.schema.ColType.{ColType}
use Rattle.qd_sql_ast.specs.declared.tree.Sampled.{Sampled}
use Rattle.qd_meaning.specs.declared.refusal.Refusal.{Refusal}
use Rattle.qd_meaning.specs.Planned.{made_kinds, sampled_faults}
use Rattle.qd_meaning.specs.Refusals.{least, sooner}
use Rattle.qd_plan.specs.declared.work.Worked as made
use Rattle.qd_plan.proofs.FaultLemmas.{none_more}
use Rattle.qd_plan.proofs.WorkLemmas.{picks_sampled, picks_without, work_none, work_sampled}
use Rattle.qd_plan.proofs.QueryLemmas.{ok_with, on_any, on_same}
use Rattle.qd_plan.proofs.work.Parts.worked.Goals as goal

pub returns-in-Some : goal.returns-in-Some
returns-in-Some c =
    let before : Option Refusal = c.args.faults.now.first in
    let o : Option Sampled = c.args.sampled.now in
    let s : Sampled = c.in-Some.sampled in
    record {
      work = λ shown time_col m. ok_with c.sampled.result (λ (w : made.Worked). w.work) _ _ (work_sampled o s (sym c.in-Some.is) shown time_col c.args.self m) c.sampled.ensures.work;
      picks = λ shown time_col m. ok_with c.sampled.result (λ (w : made.Worked). w.picks) _ _ (picks_sampled o s (sym c.in-Some.is) shown time_col c.args.self m) c.sampled.ensures.picks;
      out = λ shown buckets m. ok_with c.sampled.result (λ (w : made.Worked). w.out) _ _ m.out c.sampled.ensures.out;
      faults = λ shown buckets m.
          on_same c.sampled.result _ _
          (λ h. h ∙ ap₂ (λ (ks : List ColType) (x : Option Sampled). sooner before (least (sampled_faults x ks))) m.kinds (sym c.in-Some.is)) c.sampled.ensures.faults;
    }

pub returns-in-None : goal.returns-in-None
returns-in-None c =
    let before : Option Refusal = c.args.faults.now.first in
    let o : Option Sampled = c.args.sampled.now in
    record {
      work = λ shown time_col m. ok_with c.plain.result (λ (w : made.Worked). w.work) _ _ (work_none o (sym c.in-None.is) shown time_col c.args.self m) c.plain.ensures.work;
      picks = λ shown time_col m. ok_with c.plain.result (λ (w : made.Worked). w.picks) _ _ (picks_without o (sym c.in-None.is) shown time_col c.args.self m) c.plain.ensures.picks;
      out = λ shown buckets m. ok_with c.plain.result (λ (w : made.Worked). w.out) _ _ m.out c.plain.ensures.out;
      faults = λ shown buckets m.
          on_any c.plain.result _ (sym (none_more before) ∙ ap (λ (x : Option Sampled). sooner before (least (sampled_faults x (made_kinds shown)))) (sym c.in-None.is));
    }
