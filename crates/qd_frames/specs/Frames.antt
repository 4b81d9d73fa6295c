-- The frame grammar: which requests the bytes of an input spell. It is this project's own.
use Rattle.std.specs.Prelude.{◌≡◌, ◌≢◌, ℕ, ◌+◌, ◌<◌, ◌≤◌, List, [], ◌∷◌, ◌++◌, codes, length, map}
use Rattle.std.specs.Fmt.{decimal}
use Rattle.qd_base.specs.declared.limits.TheConstants.{MAX_QUERY_BYTES, MAX_WRITE_BYTES}
use Rattle.qd_base.specs.declared.request.Request.{Request}
use Rattle.qd_base.specs.declared.request.Request.TheVariants as request
use Rattle.qd_base.specs.declared.request.Step.{Step}
use Rattle.qd_base.specs.declared.request.Step.TheVariants as step
use Rattle.qd_base.specs.Script.{Protocol, Script, Turn, Asks, Ending, Waiting, Ended, Malformed}
use Rattle.qd_print.specs.Printed.{reply_bytes}

-- The one spelling of a request: a letter, for a text its length in decimal without leading zeros, LF, the text.
abbrev pub frame : Request → List ℕ
frame (request.Write text) = codes "W " ++ decimal (length text) ++ 10 ∷ text
frame (request.Sql text) = codes "Q " ++ decimal (length text) ++ 10 ∷ text
frame request.Apply = codes "A" ++ 10 ∷ []
frame request.End = codes "X" ++ 10 ∷ []

-- a text is no longer than its kind allows
abbrev pub IsFramed : Request → Type 0
IsFramed (request.Write text) = length text ≤ MAX_WRITE_BYTES
IsFramed (request.Sql text) = length text ≤ MAX_QUERY_BYTES
IsFramed request.Apply = Unit {0}
IsFramed request.End = Unit {0}

-- the bytes are a proper prefix of a request's frame; no bytes at all are one
abbrev pub IsUnfinished : List ℕ → Type 0
IsUnfinished bytes = (r : Request) × (more : List ℕ) × IsFramed r × (0 < length more) × (frame r ≡ bytes ++ more)

-- the bytes begin with the whole frame of a request
abbrev pub BeginsFrame : List ℕ → Type 0
BeginsFrame bytes = (r : Request) × (rest : List ℕ) × IsFramed r × (bytes ≡ frame r ++ rest)

-- the bytes begin no request, however they go on
abbrev pub BeginsNone : List ℕ → Type 0
BeginsNone bytes = (r : Request) (more tail : List ℕ) → IsFramed r → bytes ++ more ≢ frame r ++ tail

-- The bytes from the offset `at` on spell these requests, one behind the other, and end so: with a prefix of a request
-- that waits, or with bytes that begin none. Behind the request for the end nothing is looked at.
abbrev pub Steps : ℕ → List ℕ → List Request → Ending → Type 0
Steps at bytes [] (Waiting rest place printed) = (rest ≡ bytes) × (place ≡ at) × (printed ≡ reply_bytes) × IsUnfinished bytes
Steps at bytes [] Ended = ⊥
Steps at bytes [] (Malformed place printed) = (place ≡ at) × (printed ≡ reply_bytes) × BeginsNone bytes
Steps at bytes (request.End ∷ rs) e = (rest : List ℕ) × (bytes ≡ frame request.End ++ rest) × (rs ≡ []) × (e ≡ Ended)
Steps at bytes (r ∷ rs) e = (rest : List ℕ) × IsFramed r × (bytes ≡ frame r ++ rest) × Steps (at + length (frame r)) rest rs e

-- the turns of requests whose replies are printed as replies are
abbrev pub asked : List Request → List Turn
asked requests = map (λ r. Asks r reply_bytes) requests

-- the script that the bytes from the offset on spell
abbrev pub SpellsScript : ℕ → List ℕ → Script → Type 0
SpellsScript at bytes script = (requests : List Request) × (script.turns ≡ asked requests) × Steps at bytes requests script.ending

-- what is seen of a front: the bytes that wait, and the offset of the first
pub record Frames : Type 0 where
  pub waiting : List ℕ
  pub start : ℕ

-- what the bytes that wait spell, followed by these
abbrev pub frames_spell : Frames → List ℕ → Script → Type 0
frames_spell f more script = SpellsScript f.start (f.waiting ++ more) script

-- a front of frames as a session sees it
abbrev pub frames_protocol : Frames → Protocol
frames_protocol f = record { waiting = f.waiting; start = f.start; spells = frames_spell f; printed = reply_bytes }

-- What a step of a front of frames is: a request with whose frame the bytes that waited began, and which goes; or the want
-- of more, where they are a proper prefix of a frame; or a refusal of them, where they begin none.
abbrev pub TakesFrame : (old new : Frames) → Step → Type 0
TakesFrame old new (step.Ask asked) = IsFramed asked × (old.waiting ≡ frame asked ++ new.waiting) × (new.start ≡ old.start + length (frame asked))
TakesFrame old new (step.Say bytes) = ⊥
TakesFrame old new step.More = IsUnfinished old.waiting × (new ≡ old)
TakesFrame old new step.Clean = ⊥
TakesFrame old new (step.Bad place) = BeginsNone old.waiting × (place ≡ old.start) × (new ≡ old)
