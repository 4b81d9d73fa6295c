use Rattle.std.proofs.Common.{◌∙◌, ap}
use Rattle.qd_shared.specs.Snaps.{pinned_at}
use Rattle.qd_pass.specs.Reading.{Reading}
use Rattle.qd_pass.proofs.Asked.{asked_handled, asking_of, ended_ready, ended_still}
use Rattle.qd_pass.proofs.asking.ask.Goals as goal

pub returns-clause-ready : goal.returns-clause-ready
returns-clause-ready g c =
    let from = c.run_query-answer.ensures.fixed ∙ ap (λ (x : Reading). x.from) c.over-parts.ensures in
    let source = c.run_query-answer.new.source in
    let still = ended_still c.args.session.pass c.pin_current-memo.new.pass c.memo_of.new.pass c.pin_current-memo.result.0.n source c.end-pass.result.0 c.pin_current-memo.ensures.goes c.memo_of.ensures.goes from c.end-pass.ensures.reading c.end-pass.ensures.ended in
    ended_ready c.args.session.pass source c.end-pass.result.0 still c.requires.ready c.end-pass.ensures.ended

pub returns-clause-goes : goal.returns-clause-goes
returns-clause-goes g c =
    let from = c.run_query-answer.ensures.fixed ∙ ap (λ (x : Reading). x.from) c.over-parts.ensures in
    ended_still c.args.session.pass c.pin_current-memo.new.pass c.memo_of.new.pass c.pin_current-memo.result.0.n c.run_query-answer.new.source c.end-pass.result.0 c.pin_current-memo.ensures.goes c.memo_of.ensures.goes from c.end-pass.ensures.reading c.end-pass.ensures.ended

pub returns-clause-handled : goal.returns-clause-handled
returns-clause-handled g c =
    let e = c.run_query-answer.ensures in
    λ text asks.
    asked_handled c.args.session.pass c.memo_of.new.pass c.end-pass.result.0 c.n-n.result c.args.stmt.now c.run_query-answer.result c.reply_over.result
    (asking_of c.args.session.pass c.pin_current-memo.new.pass c.memo_of.new.pass (pinned_at c.pin_current-memo.result.0) c.in-Ok.memo c.over-parts.result c.run_query-answer.new.source c.end-pass.result.0 c.n-n.result c.args.stmt.now c.run_query-answer.result c.reply_over.result
    c.requires.asks c.pin_current-memo.ensures.goes c.memo_of.ensures.goes c.in-Ok.ensures.memo c.in-Ok.ensures.number c.n-n.ensures c.over-parts.ensures e.fixed c.end-pass.ensures.reading c.end-pass.ensures.ended e.answer e.cause c.reply_over.ensures.reply)
    text asks
