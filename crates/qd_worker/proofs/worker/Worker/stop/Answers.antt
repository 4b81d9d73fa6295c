use Rattle.std.proofs.Common.{◌≡◌, ◌∙◌, Option, IfSome, sym, subst}
use Rattle.qd_shared.specs.Passes.{Pass}
use Rattle.qd_worker.specs.Worker.{IsHelper, StaysMain}
use Rattle.qd_worker.proofs.Working.{joined_stays}
use Rattle.qd_worker.proofs.worker.Worker.stop.Goals as goal

pub returns-clause-main : goal.returns-clause-main
returns-clause-main g c =
    let helper = subst (λ (o : Option Pass). IfSome o (IsHelper c.args.main.now.table)) (sym c.self.view_is ∙ c.in-Some.is) c.requires.helper in
    joined_stays c.args.main.now c.join_work-pass.result c.join.new.pass c.join.ensures.joined (c.join_work-pass.ensures.given.own ∙ helper.new)
