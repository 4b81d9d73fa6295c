use Rattle.std.proofs.Common.{◌≡◌, ℕ, ◌+◌, ◌-◌, ◌≤◌, length, take, drop, refl, ap, ◌∙◌, subst, arith, List}
use Rattle.std.proofs.lemmas.List.{length-drop}
use Rattle.qd_http.specs.Reading.{HasOrder, IsAt, is_closing}
use Rattle.qd_http.specs.Steps.{StepIs, turn_with}
use Rattle.qd_http.proofs.TakenLemmas.{body_step}
use Rattle.qd_http.proofs.reader.Reader.next_body.Goals as goal

pub returns-clause-sound : goal.returns-clause-sound
returns-clause-sound c =
    let reader = c.args.self.now in
    let order = c.in-Body.order in
    record {
      room = omega (arith, c.requires.sound.room, ap length c.skip.ensures.rest, length-drop (order.head + order.body) reader.queue, ap length c.as_slice-waiting.ensures.bytes, c.if-waiting-size.false);
      at = c.after.ensures.at c.skip.new.self;
    }

pub returns-clause-exact : goal.returns-clause-exact
returns-clause-exact c before =
    let reader = c.args.self.now in
    let order = c.in-Body.order in
    let t = c.in_ok-taken.taken in
    let has : HasOrder order reader.queue = subst (λ s. IsAt s reader.queue) c.in-Body.is c.requires.sound.at in
    let waiting = c.as_slice-waiting.ensures.bytes in
    let enough : order.head + order.body ≤ length reader.queue = omega (arith, ap length waiting, c.if-waiting-size.false) in
    let size : order.head + order.body - order.head ≡ order.body = omega arith in
    let body : take (order.head + order.body - order.head) (drop order.head c.as_slice-waiting.result.now) ≡ take order.body (drop order.head reader.queue) =
    ap (λ n. take n (drop order.head c.as_slice-waiting.result.now)) size ∙ ap (λ w. take order.body (drop order.head w)) waiting in
    body_step reader _ before t order (ap is_closing c.in-Body.is) has enough c.skip.ensures.rest refl c.after.ensures.closing
    (subst (λ (b : List ℕ). StepIs (turn_with b order.wanted) t.asked t.step) body c.in_ok-taken.ensures)
