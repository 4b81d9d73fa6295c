use Rattle.std.proofs.Common.{List, ℕ, [], refl, subst, arith}
use Rattle.qd_session.proofs.TurnLemmas.{step-from_turn, step-from_said, step-from_piece, stop-from_malformed, stop-from_memory}
use Rattle.qd_session.proofs.WireLemmas.{moves-none}
use Rattle.qd_session.specs.declared.ended.Ended.TheVariants as ended
use Rattle.qd_session.specs.Turns.{Said}
use Rattle.qd_session.proofs.session.take_step.Goals as goal

pub returns-in-Ok-Ask-clause-step : goal.returns-in-Ok-Ask-clause-step
returns-in-Ok-Ask-clause-step g c =
    step-from_turn g.B.Backend.rule (g.F.Front.protocol c.args.front.now) (g.F.Front.protocol c.next_step.new.self) (g.F.Front.protocol c.take_request.new.front) c.take_request.ensures.front _ _ _ _ _ _ _
    c.in-Ok-Ask.asked c.take_request.result (rw c.in-Ok-Ask.field-0-is at c.in-Ok-Ask.ensures.step) c.take_request.ensures.reply

pub returns-in-Ok-Say-clause-step : goal.returns-in-Ok-Say-clause-step
returns-in-Ok-Say-clause-step g c =
    let t = rw c.in-Ok-Say.field-0-is at c.in-Ok-Say.ensures.step in
    step-from_said g.B.Backend.rule (g.F.Front.protocol c.args.front.now) (g.F.Front.protocol c.next_step.new.self) _ _ _ _ _
    c.in-Ok-Say.text c.say.result t.1
    (subst (λ (bytes : List ℕ). Said (g.W.Ends.stream c.args.wire.now) (g.W.Ends.stream c.say.new.wire) bytes c.say.result) c.bytes.ensures.same c.say.ensures.said)

pub returns-in-Ok-More-clause-step : goal.returns-in-Ok-More-clause-step
returns-in-Ok-More-clause-step g c =
    let t = rw c.in-Ok-More.field-0-is at c.in-Ok-More.ensures.step in
    step-from_piece g.B.Backend.rule (g.F.Front.protocol c.args.front.now) (g.F.Front.protocol c.take_piece.new.front) _ _ _ _ _ (g.F.Front.protocol c.next_step.new.self) _
    c.take_piece.result t.0 t.1 c.take_piece.ensures.taken

pub returns-in-Ok-Bad-clause-step : goal.returns-in-Ok-Bad-clause-step
returns-in-Ok-Bad-clause-step g c =
    stop-from_malformed g.B.Backend.rule (g.F.Front.protocol c.args.front.now) (g.F.Front.protocol c.refuse.new.front) _ _ _ _ _
    c.in-Ok-Bad.place (g.F.Front.protocol c.next_step.new.self).printed c.refuse.result (rw c.in-Ok-Bad.field-0-is at c.in-Ok-Bad.ensures.step) c.refuse.ensures.refused

pub returns-in-Err-clause-step : goal.returns-in-Err-clause-step
returns-in-Err-clause-step g c =
    stop-from_memory g.B.Backend.rule (g.F.Front.protocol c.args.front.now) (g.F.Front.protocol c.next_step.new.self) _ _ _ _ _
    [] ended.Memory refl (moves-none _) (λ more s k. subst (λ f. (g.F.Front.protocol f).spells more s) c.in-Err.ensures.err k) (omega (arith, c.requires.few))
