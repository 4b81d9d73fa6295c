-- What the steps of a reader are.
use Rattle.std.proofs.Common.{◌≡◌, ℕ, ◌+◌, ◌<◌, ◌≤◌, inl, inr, false, List, length, take, drop, refl, sym, ap, ◌∙◌, subst, arith}
use Rattle.std.proofs.lemmas.Bool.{cases_lt}
use Rattle.httparse.specs.Grammar.{print_request}
use Rattle.qd_base.specs.declared.request.Reply.{Reply}
use Rattle.qd_base.specs.declared.request.Request.TheVariants as request
use Rattle.qd_base.specs.declared.request.Step.{Step}
use Rattle.qd_base.specs.declared.request.Step.TheVariants as step
use Rattle.qd_base.specs.Script.{Asks}
use Rattle.qd_http.specs.declared.limits.TheConstants.{MAX_HEAD_BYTES}
use Rattle.qd_http.specs.declared.head.Order.{Order}
use Rattle.qd_http.specs.declared.reader.Reader.{Reader}
use Rattle.qd_http.specs.declared.reader.Taken.{Taken}
use Rattle.qd_http.specs.declared.reply.Asked.{Asked}
use Rattle.qd_http.specs.declared.reply.Asked.TheVariants as asked
use Rattle.qd_http.specs.declared.wanted.Wanted.{Wanted}
use Rattle.qd_http.specs.declared.wanted.Wanted.TheVariants as wanted
use Rattle.qd_http.specs.Steps.{BeginsNone, BeginsRequest, Https, IsUnfinished, StepIs, TakesHttp, TakesRequest, TakesSome, turn_with}
use Rattle.qd_http.specs.Targets.{wanted_of}
use Rattle.qd_http.specs.Reading.{HasOrder, https_of, is_closing}
use Rattle.qd_http.proofs.ReaderLemmas.{body_whole}

-- no request that is read asks the end
no_end : (body : List ℕ) (w : Wanted) (printed : Reply → List ℕ) → turn_with body w ≡ Asks request.End printed → ⊥
no_end body wanted.Write printed e = cc
no_end body (wanted.Statement text) printed e = cc
no_end body wanted.Apply printed e = cc
no_end body (wanted.Refused why) printed e = cc

pub takes_some : (old new : Https) (given : Step) → TakesSome old new given → TakesHttp old new given
takes_some old new (step.Ask (request.Write text)) t = t
takes_some old new (step.Ask (request.Sql text)) t = t
takes_some old new (step.Ask request.Apply) t = t
takes_some old new (step.Ask request.End) t = absurd (no_end t.2 (wanted_of t.1.method t.1.target) _ t.4)
takes_some old new (step.Say bytes) t = t
takes_some old new step.More t = absurd t.4
takes_some old new step.Clean t = absurd t.4
takes_some old new (step.Bad place) t = absurd t.4

-- the step that waits for more, and the one that refuses
abbrev pub waits : Taken
waits = record { step = step.More; asked = asked.Nothing }

abbrev pub refuses : ℕ → Taken
refuses place = record { step = step.Bad place; asked = asked.Nothing }

-- where nothing is taken, more is waited for or the bytes are refused
pub more_step : (old new : Reader) (before : Asked) (t : Taken) → is_closing old.stage ≡ false → new.queue ≡ old.queue → new.start ≡ old.start → is_closing new.stage ≡ false
    → t ≡ waits → IsUnfinished old.queue → TakesHttp (https_of old before) (https_of new t.asked) t.step
more_step old new before t closing queue start closing' is unfinished =
    subst (λ (u : Taken). TakesHttp (https_of old before) (https_of new u.asked) u.step) (sym is)
    (closing, refl, record { waiting = queue; start = start; closing = closing' ∙ sym closing }, unfinished)

pub bad_step : (old new : Reader) (before : Asked) (t : Taken) → is_closing old.stage ≡ false → new.queue ≡ old.queue → new.start ≡ old.start → is_closing new.stage ≡ false
    → t ≡ refuses old.start → BeginsNone old.queue → TakesHttp (https_of old before) (https_of new t.asked) t.step
bad_step old new before t closing queue start closing' is none =
    subst (λ (u : Taken). TakesHttp (https_of old before) (https_of new u.asked) u.step) (sym is)
    (closing, refl, record { waiting = queue; start = start; closing = closing' ∙ sym closing }, none, refl)

pub waiting_step : (old new : Reader) (before : Asked) (t : Taken) → is_closing old.stage ≡ false → new.queue ≡ old.queue → new.start ≡ old.start → is_closing new.stage ≡ false
    → (length new.queue ≤ MAX_HEAD_BYTES → t ≡ waits) → (MAX_HEAD_BYTES < length new.queue → t ≡ refuses new.start)
    → (length old.queue ≤ MAX_HEAD_BYTES → IsUnfinished old.queue) → (MAX_HEAD_BYTES < length old.queue → BeginsNone old.queue)
    → TakesHttp (https_of old before) (https_of new t.asked) t.step
waiting_step old new before t closing queue start closing' more bad unfinished none =
    elim (cases_lt MAX_HEAD_BYTES (length old.queue)) [
      | inl full ↦ bad_step old new before t closing queue start closing' (bad (omega (arith, ap length queue)) ∙ ap refuses start) (none full)
      | inr room ↦ more_step old new before t closing queue start closing' (more (omega (arith, ap length queue))) (unfinished room)
    ]

-- the request of an order was taken
pub body_step : (old new : Reader) (before : Asked) (t : Taken) (order : Order) → is_closing old.stage ≡ false → HasOrder order old.queue → order.head + order.body ≤ length old.queue
    → new.queue ≡ drop (order.head + order.body) old.queue → new.start ≡ old.start + (order.head + order.body) → is_closing new.stage ≡ order.last
    → StepIs (turn_with (take order.body (drop order.head old.queue)) order.wanted) t.asked t.step
    → TakesHttp (https_of old before) (https_of new t.asked) t.step
body_step old new before t order closing has enough queue start last step_is =
    let whole = body_whole old.queue order has enough in
    let body = take order.body (drop order.head old.queue) in
    let taken : TakesRequest (https_of old before) (https_of new t.asked) has.head body = record {
      begins = subst (λ rest. BeginsRequest old.queue has.head body rest) (sym queue) whole.0;
      offset = start ∙ (ap (λ n. old.start + (n + order.body)) has.is.size ∙ ap (λ n. old.start + (length (print_request has.head) + n)) (sym whole.1));
      last = last ∙ has.is.last;
    } in
    takes_some (https_of old before) (https_of new t.asked) t.step
    (closing, has.head, body, taken, subst (λ w. StepIs (turn_with body w) t.asked t.step) has.is.wanted step_is)
