use Rattle.std.proofs.Common.{refl, subst}
use Rattle.qd_base.specs.declared.request.Request.TheVariants as request
use Rattle.qd_session.specs.Alone.{AllowedAlone}
use Rattle.qd_session.specs.Legal.{Handles}
use Rattle.qd_store_backend.specs.Backs.{Back, GoesOn, IsPartDamaged, back_shown, left_of}
use Rattle.qd_store_backend.proofs.Asked.{asked_damage, asked_handled, damage_untold}
use Rattle.qd_store_backend.proofs.Going.{asked_back, asked_goes_on}
use Rattle.qd_store_backend.proofs.back.StoreBack.answer.Goals as goal

pub invariant_of-self : goal.invariant_of-self
invariant_of-self g c =
    let i = c.self.inside in
    asked_back (record { parts = i.parts; before = i.before; writer = i.writer; left = left_of i.left.history }) c.run_query-answer.new.source c.self.invariant c.run_query-answer.ensures.fixed

pub returns-clause-handled : goal.returns-clause-handled
returns-clause-handled g c =
    let i = c.self.inside in
    let old : Back = record { parts = i.parts; before = i.before; writer = i.writer; left = left_of i.left.history } in
    let new : Back = record { parts = c.run_query-answer.new.source; before = i.before; writer = i.writer; left = left_of i.left.history } in
    let e = c.run_query-answer.ensures in
    λ text asks.
    subst (λ (b : Back). Handles AllowedAlone (back_shown b) (back_shown new) 0 (request.Sql text) c.reply_over.result) c.self.view_is
    (asked_handled old new c.args.stmt.now c.shown_n-n.result c.run_query-answer.result c.reply_over.result
    (record {
      question = c.requires.asks;
      before = refl;
      left = refl;
      kept = c.self.invariant;
      number = c.shown_n-n.ensures.n;
      fixed = e.fixed;
      answer = e.answer;
      stays = e.stays;
      cause = e.cause;
      untold = λ number place none. tt;
      damaged = λ file at is. damage_untold i.parts c.run_query-answer.new.source c.run_query-answer.result file at e.fixed c.is_told.ensures.whole e.cause is;
      reply = c.reply_over.ensures.reply;
    }) text asks)

pub returns-clause-one_writer : goal.returns-clause-one_writer
returns-clause-one_writer g c =
    let i = c.self.inside in
    let old : Back = record { parts = i.parts; before = i.before; writer = i.writer; left = left_of i.left.history } in
    let new : Back = record { parts = c.run_query-answer.new.source; before = i.before; writer = i.writer; left = left_of i.left.history } in
    subst (λ (b : Back). GoesOn b new) c.self.view_is (asked_goes_on old c.run_query-answer.new.source c.run_query-answer.ensures.fixed)

pub returns-clause-damaged : goal.returns-clause-damaged
returns-clause-damaged g c =
    let i = c.self.inside in
    λ file at is.
    subst (λ (b : Back). IsPartDamaged b.parts.owned file at) c.self.view_is
    (asked_damage i.parts c.run_query-answer.new.source c.shown_n-n.result c.run_query-answer.result c.reply_over.result file at c.run_query-answer.ensures.fixed c.run_query-answer.ensures.cause c.is_told.ensures.damage c.reply_over.ensures.reply is)
