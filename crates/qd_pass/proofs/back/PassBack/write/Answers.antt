use Rattle.std.proofs.Common.{◌∙◌, Option, Some, ap, subst}
use Rattle.std.specs.Arc.{arc_value}
use Rattle.qd_base.specs.declared.request.Request.TheVariants as request
use Rattle.qd_session.specs.Legal.{Handles}
use Rattle.qd_shared.specs.Commits.{statement}
use Rattle.qd_shared.specs.Passes.{Pass}
use Rattle.qd_pass.specs.Backs.{back_shown, table_in}
use Rattle.qd_pass.specs.Passed.{shown_by}
use Rattle.qd_pass.specs.Shared.{AllowedShared}
use Rattle.qd_pass.proofs.Backing.{pass_there, session_held}
use Rattle.qd_pass.proofs.Written.{commits_counted, stmt_handled}
use Rattle.qd_pass.proofs.back.PassBack.write.Goals as goal

pub invariant_of-self : goal.invariant_of-self
invariant_of-self g c =
    let done = c.commit_sql-done.ensures.commits in
    session_held (arc_value c.self.inside.shared) c.self.inside.session c.take.result c.in-Some.field-0 c.take.ensures.value c.in-Some.is c.commit_sql-done.new.pass done.found done.left c.self.invariant done.holds (commits_counted (statement c.args.stmt.now) c.commit_sql-done.result c.in-Some.field-0.pass c.commit_sql-done.new.pass done)

pub returns : goal.returns
returns g c = record {
  handled = λ text asks.
      subst (λ (o : Option Pass). Handles AllowedShared (back_shown o) (shown_by c.commit_sql-done.new.pass) 0 (request.Sql text) c.reply_of.result) (pass_there (arc_value c.self.inside.shared) c.self.inside.session c.take.result c.in-Some.field-0 c.take.ensures.value c.in-Some.is ∙ c.self.view_is)
      (stmt_handled c.in-Some.field-0.pass c.commit_sql-done.new.pass c.args.stmt.now c.commit_sql-done.result c.reply_of.result c.requires.writes c.commit_sql-done.ensures.commits c.reply_of.ensures.reply text asks);
  fixed = ap Some c.commit_sql-done.ensures.commits.holds.table ∙ ap table_in (pass_there (arc_value c.self.inside.shared) c.self.inside.session c.take.result c.in-Some.field-0 c.take.ensures.value c.in-Some.is ∙ c.self.view_is);
}
