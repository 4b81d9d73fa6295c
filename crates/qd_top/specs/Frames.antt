-- Fronts of frames, that print replies in one way.
use Rattle.std.specs.Prelude.{◌≡◌, ℕ, List, map}
use Rattle.qd_base.specs.declared.request.Reply.{Reply}
use Rattle.qd_base.specs.declared.request.Request.{Request}
use Rattle.qd_base.specs.Script.{Protocol, Script, Turn, Asks, Ending, Waiting, Ended, Malformed}
use Rattle.qd_frames.specs.Frames.{Steps}
use Rattle.qd_print.specs.Printed.{reply_bytes}
use Rattle.qd_session.specs.Session.{refusal}

-- the turns of requests whose replies are printed in one way
abbrev pub asked_by : (Reply → List ℕ) → List Request → List Turn
asked_by print requests = map (λ r. Asks r print) requests

-- refusals are printed as they are
abbrev pub PrintsRefusals : (Reply → List ℕ) → Type 0
PrintsRefusals print = (place : ℕ) → print (refusal place) ≡ reply_bytes (refusal place)

-- the same ending, but that replies other than refusals may be printed in another way
abbrev pub EndsAs : Ending → Ending → Type 0
EndsAs (Waiting rest place print) (Waiting rest' place' print') = (rest' ≡ rest) × (place' ≡ place) × PrintsRefusals print'
EndsAs Ended Ended = Unit {0}
EndsAs (Malformed place print) (Malformed place' print') = (place' ≡ place) × PrintsRefusals print'
EndsAs e e' = ⊥

-- a script is that of the frames that some bytes are
pub record SaysFrames (print : Reply → List ℕ) (bytes : List ℕ) (said : Script) : Type 0 where
  pub requests : List Request
  pub ending : Ending
  pub turns_are : said.turns ≡ asked_by print requests
  pub ends_as : EndsAs ending said.ending
  pub spelled : Steps 0 bytes requests ending

-- a front to which nothing was fed reads frames, and prints replies in one way
abbrev pub SpellsFrames : (Reply → List ℕ) → Protocol → Type 0
SpellsFrames print p = (bytes : List ℕ) (said : Script) → p.spells bytes said → SaysFrames print bytes said
