use Rattle.std.proofs.Common.{◌∙◌, Option, Some, ap, subst}
use Rattle.std.specs.Arc.{arc_value}
use Rattle.qd_base.specs.declared.request.Request.TheVariants as request
use Rattle.qd_session.specs.Legal.{Handles}
use Rattle.qd_shared.specs.Commits.{batch_at}
use Rattle.qd_shared.specs.Passes.{Pass}
use Rattle.qd_pass.specs.Backs.{back_shown, table_in}
use Rattle.qd_pass.specs.Passed.{shown_by}
use Rattle.qd_pass.specs.Shared.{AllowedShared}
use Rattle.qd_pass.proofs.Backing.{pass_there, session_held}
use Rattle.qd_pass.proofs.Written.{batch_handled, commits_counted}
use Rattle.qd_pass.proofs.back.PassBackBackend.lines.Goals as goal

pub invariant_of-self : goal.invariant_of-self
invariant_of-self g c =
    let done = c.commit_lines-done.ensures.commits in
    session_held (arc_value c.self.inside.shared) c.self.inside.session c.take.result c.in-Some.field-0 c.take.ensures.value c.in-Some.is c.commit_lines-done.new.pass done.found done.left c.self.invariant done.holds (commits_counted (batch_at c.args.now c.args.batch.now) c.commit_lines-done.result c.in-Some.field-0.pass c.commit_lines-done.new.pass done)

pub returns : goal.returns
returns g c = record {
  handled = λ text reads.
      subst (λ (o : Option Pass). Handles AllowedShared (back_shown o) (shown_by c.commit_lines-done.new.pass) c.args.now (request.Write text) c.reply_of.result) (pass_there (arc_value c.self.inside.shared) c.self.inside.session c.take.result c.in-Some.field-0 c.take.ensures.value c.in-Some.is ∙ c.self.view_is)
      (batch_handled c.in-Some.field-0.pass c.commit_lines-done.new.pass c.args.now c.args.batch.now c.commit_lines-done.result c.reply_of.result c.commit_lines-done.ensures.commits c.reply_of.ensures.reply text reads);
  fixed = ap Some c.commit_lines-done.ensures.commits.holds.table ∙ ap table_in (pass_there (arc_value c.self.inside.shared) c.self.inside.session c.take.result c.in-Some.field-0 c.take.ensures.value c.in-Some.is ∙ c.self.view_is);
}
