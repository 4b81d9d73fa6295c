-- The steps of another front are those of a front that prints no acknowledgements.
use Rattle.std.proofs.Common.{◌≡◌, ℕ, List, ap, refl, IfOk, Result, Ok, Err}
use Rattle.qd_base.specs.declared.request.Request.{Request}
use Rattle.qd_base.specs.declared.request.Request.TheVariants as request
use Rattle.qd_base.specs.declared.request.Step.{Step}
use Rattle.qd_base.specs.declared.request.Step.TheVariants as step
use Rattle.qd_base.specs.Script.{Protocol, ReadsOn, Script, SpellsTurn, TakesBytes, TakesRequest, TakesStep, Turn, Asks, Says, Ended, Malformed, Waiting, only, with_turn}
use Rattle.qd_gen.specs.Quieted.{quiet_protocol, quiet_script, quiet_turn}

module _ (old new : Protocol) where
  reads_on : ReadsOn old new → ReadsOn (quiet_protocol old) (quiet_protocol new)
  reads_on r = record { waiting = r.waiting; start = r.start; spelled = λ more s h. (h.0, r.spelled more h.0 h.1, h.2) }

  takes_bytes : TakesBytes old new → TakesBytes (quiet_protocol old) (quiet_protocol new)
  takes_bytes t = record { taken = t.taken; some = t.some; front = t.front; offset = t.offset }

  spells_turn : (turn : Turn) → SpellsTurn old turn new → SpellsTurn (quiet_protocol old) (quiet_turn turn) (quiet_protocol new)
  spells_turn turn t = λ more s h. (with_turn turn h.0, t more h.0 h.1, ap (with_turn (quiet_turn turn)) h.2)

  takes_request : (asked : Request) → TakesRequest old new asked → TakesRequest (quiet_protocol old) (quiet_protocol new) asked
  takes_request request.End t = λ more. (with_turn (Asks request.End new.printed) (only Ended), t more, refl)
  takes_request (request.Sql text) t = (t.0, takes_bytes t.1, spells_turn (Asks (request.Sql text) new.printed) t.2)
  takes_request (request.Write text) t = (takes_bytes t.0, spells_turn (Asks (request.Write text) new.printed) t.1)
  takes_request request.Apply t = (takes_bytes t.0, spells_turn (Asks request.Apply new.printed) t.1)

  takes_step : (given : Step) → TakesStep old new given → TakesStep (quiet_protocol old) (quiet_protocol new) given
  takes_step (step.Ask asked) t = takes_request asked t
  takes_step (step.Say bytes) t = (takes_bytes t.0, spells_turn (Says bytes) t.1)
  takes_step step.More t = ((only (Waiting old.waiting old.start new.printed), t.0, refl), reads_on t.1)
  takes_step step.Clean t = absurd t
  takes_step (step.Bad place) t = λ more. (only (Malformed place new.printed), t more, refl)

  pub takes_if_ok : {E : Type 0} (result : Result Step E) → IfOk result (λ given. TakesStep old new given) → IfOk result (λ given. TakesStep (quiet_protocol old) (quiet_protocol new) given)
  takes_if_ok (Ok given) t = takes_step given t
  takes_if_ok (Err fault) t = t

-- what spells some script for the other front does so for this one
pub some_script : (p : Protocol) → ((more : List ℕ) → (s : Script) × p.spells more s) → (more : List ℕ) → (s : Script) × (quiet_protocol p).spells more s
some_script p some more = let t = some more in (quiet_script t.0, (t.0, t.1, refl))
