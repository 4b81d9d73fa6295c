use Rattle.std.proofs.Common.{◌≡◌, ◌∙◌, List, ap, sym, subst}
use Rattle.qd_manifest.specs.declared.shape.TableParts.{TableParts}
use Rattle.qd_score_model.specs.declared.view.View.{View}
use Rattle.qd_shared.specs.declared.item.Item.{Item}
use Rattle.qd_shared.specs.Passes.{Pass, view_of}
use Rattle.qd_worker.specs.Worker.{StaysMain}
use Rattle.qd_worker.proofs.Working.{joined_stays, lent_stays, stays_on}
use Rattle.qd_worker.proofs.worker.Worker.start.Goals as goal
use Rattle.qd_worker.proofs.worker.Worker.start.Goals.{in-Ok-start_work, in-Err}

pub returns-clause-main : goal.returns-clause-main
returns-clause-main g c =
    let s = c.split_keeper-pass.ensures in
    let lent = lent_stays c.args.main.now c.split_keeper-pass.new.pass s.table s.origin s.lent in
    elim c.match-start_work.branch [
      | in-Ok-start_work w ↦ subst (λ (p : Pass). StaysMain c.args.main.now p) (sym w.main-is) lent
      | in-Err w ↦ subst (λ (p : Pass). StaysMain c.args.main.now p) (sym w.main-is)
          (stays_on c.args.main.now c.split_keeper-pass.new.pass w.join.new.pass lent (joined_stays c.split_keeper-pass.new.pass w.into_pass.result w.join.new.pass w.join.ensures.joined (ap (λ (p : Pass). (view_of p).own) (w.into_pass.ensures ∙ w.in-Err.ensures.back) ∙ ap (λ (v : View Item (List TableParts)). v.own) s.part.view)))
    ]
