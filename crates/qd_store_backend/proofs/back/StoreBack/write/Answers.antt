use Rattle.std.proofs.Common.{refl, subst}
use Rattle.qd_base.specs.declared.request.Request.TheVariants as request
use Rattle.qd_session.specs.Alone.{AllowedAlone}
use Rattle.qd_session.specs.Legal.{Handles}
use Rattle.qd_store.specs.Arriving.{SaysStmt}
use Rattle.qd_store_backend.specs.Backs.{Back, GoesOn, back_shown, left_of}
use Rattle.qd_store_backend.proofs.Going.{Written, committed_back, committed_goes_on}
use Rattle.qd_store_backend.proofs.Handled.{stmt_handled}
use Rattle.qd_store_backend.proofs.back.StoreBack.write.Goals as goal

pub invariant_of-self : goal.invariant_of-self
invariant_of-self g c =
    let i = c.self.inside in
    let old : Back = record { parts = i.parts; before = i.before; writer = i.writer; left = left_of i.left.history } in
    let e = c.commit_sql-done.ensures in
    committed_back old c.commit_sql-done.new.self (left_of c.left_behind-self-inside.result.history) c.commit_sql-done.result (SaysStmt i.parts.owned.store.sequence.schemas c.args.stmt.now) c.self.invariant e.commits
    (record { law = c.writers_go_on.ensures.law; number = e.writer; place = e.place; stays = e.stays }) c.left_behind-self-inside.ensures.left c.writer_after-self-inside.result c.writer_after-self-inside.ensures

pub returns-clause-handled : goal.returns-clause-handled
returns-clause-handled g c =
    let i = c.self.inside in
    let old : Back = record { parts = i.parts; before = i.before; writer = i.writer; left = left_of i.left.history } in
    let new : Back = record { parts = c.commit_sql-done.new.self; before = i.before; writer = c.writer_after-self-inside.result; left = left_of c.left_behind-self-inside.result.history } in
    let e = c.commit_sql-done.ensures in
    λ text asks.
    subst (λ (b : Back). Handles AllowedAlone (back_shown b) (back_shown new) 0 (request.Sql text) c.reply_of.result) c.self.view_is
    (stmt_handled old new c.args.stmt.now c.commit_sql-done.result c.reply_of.result c.requires.writes
    (record {
      before = refl;
      kept = c.self.invariant;
      commits = e.commits;
      count = e.count;
      causes = e.causes;
      counted = e.counted;
      settled = e.settled;
      leaves = e.left;
      left = c.left_behind-self-inside.ensures.left;
      told = c.is_told.ensures.told;
      told_now = c.left_behind-self-inside.ensures.told;
      told_schemas = c.is_told.ensures.schemas;
      told_count = c.is_told.ensures.count;
      reply = c.reply_of.ensures.reply;
    }) text asks)

pub returns-clause-one_writer : goal.returns-clause-one_writer
returns-clause-one_writer g c =
    let i = c.self.inside in
    let old : Back = record { parts = i.parts; before = i.before; writer = i.writer; left = left_of i.left.history } in
    let new : Back = record { parts = c.commit_sql-done.new.self; before = i.before; writer = c.writer_after-self-inside.result; left = left_of c.left_behind-self-inside.result.history } in
    let e = c.commit_sql-done.ensures in
    subst (λ (b : Back). GoesOn b new) c.self.view_is
    (committed_goes_on old c.commit_sql-done.new.self (left_of c.left_behind-self-inside.result.history) c.commit_sql-done.result c.self.invariant
    (record { law = c.writers_go_on.ensures.law; number = e.writer; place = e.place; stays = e.stays }) c.writer_after-self-inside.result c.writer_after-self-inside.ensures)
