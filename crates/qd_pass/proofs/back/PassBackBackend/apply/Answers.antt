use Rattle.std.proofs.Common.{◌∙◌, Option, Some, ap, subst}
use Rattle.std.specs.Arc.{arc_value}
use Rattle.qd_base.specs.declared.request.Request.TheVariants as request
use Rattle.qd_session.specs.Legal.{Handles}
use Rattle.qd_shared.specs.Passes.{Pass}
use Rattle.qd_pass.specs.Backs.{back_shown, table_in}
use Rattle.qd_pass.specs.Passed.{shown_by}
use Rattle.qd_pass.specs.Shared.{AllowedShared}
use Rattle.qd_pass.proofs.Backing.{pass_there, session_passed, session_there}
use Rattle.qd_pass.proofs.Applied.{settles_handled, settles_ready, settles_still}
use Rattle.qd_pass.proofs.back.PassBackBackend.apply.Goals as goal

pub invariant_of-self : goal.invariant_of-self
invariant_of-self g c =
    let old = c.in-Some.field-0.pass in
    let new = c.settle-done.new.pass in
    let s = c.settle-done.ensures.settles in
    let table = arc_value c.self.inside.shared in
    let was = session_there table c.self.inside.session c.take.result c.in-Some.field-0 c.take.ensures.value c.in-Some.is c.self.invariant in
    session_passed table c.self.inside.session c.take.result c.in-Some.field-0 c.take.ensures.value c.in-Some.is new c.self.invariant (settles_still c.settle-done.result old new s) (settles_ready c.settle-done.result old new s was.ready)

pub returns : goal.returns
returns g c =
    let there = pass_there (arc_value c.self.inside.shared) c.self.inside.session c.take.result c.in-Some.field-0 c.take.ensures.value c.in-Some.is ∙ c.self.view_is in
    let old = c.in-Some.field-0.pass in
    let new = c.settle-done.new.pass in
    let s = c.settle-done.ensures.settles in
    record {
      handled = subst (λ (o : Option Pass). Handles AllowedShared (back_shown o) (shown_by new) 0 request.Apply c.reply_with.result) there (settles_handled c.settle-done.result c.reply_with.result old new s c.reply_with.ensures.reply);
      fixed = ap Some (settles_still c.settle-done.result old new s).goes.table ∙ ap table_in there;
    }
