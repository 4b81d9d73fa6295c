-- What a front reads from its input: requests to answer, bytes to say by itself, and how the input ends.
use Rattle.std.specs.Prelude.{◌≡◌, ℕ, ◌+◌, ◌<◌, ◌≤◌, ◌==◌, if◌then◌else◌, List, [], ◌∷◌, ◌++◌, length}
use Rattle.qd_base.specs.declared.limits.TheConstants.{LAST_OFFSET, MAX_QUERY_BYTES}
use Rattle.qd_base.specs.declared.request.Request.{Request}
use Rattle.qd_base.specs.declared.request.Request.TheVariants as request
use Rattle.qd_base.specs.declared.request.Reply.{Reply}
use Rattle.qd_base.specs.declared.request.Step.{Step}
use Rattle.qd_base.specs.declared.request.Step.TheVariants as step

-- One turn: a request, with the way in which its reply is printed; or bytes that the front says by itself.
pub data Turn : Type 0 where
  Asks : (request : Request) (printed : Reply → List ℕ) → Turn
  Says : (bytes : List ℕ) → Turn

-- How an input ends: with bytes that are no whole request, from this offset on; by a request for the end; or with
-- bytes from this offset on that begin no request, however they go on. A refusal there is printed in the way given.
pub data Ending : Type 0 where
  Waiting : (rest : List ℕ) (place : ℕ) (printed : Reply → List ℕ) → Ending
  Ended : Ending
  Malformed : (place : ℕ) (printed : Reply → List ℕ) → Ending

-- what an input says
pub record Script : Type 0 where
  pub turns : List Turn
  pub ending : Ending

-- a script with one turn more, the first
abbrev pub with_turn : Turn → Script → Script
with_turn turn s = record { turns = turn ∷ s.turns; ending = s.ending }

-- a script without a turn
abbrev pub only : Ending → Script
only ending = record { turns = []; ending = ending }

-- What a front shows at a moment.
pub record Protocol : Type 1 where
  -- the bytes fed and not yet taken
  pub waiting : List ℕ
  -- the offset in the input of the first of them
  pub start : ℕ
  -- what they spell, followed by these
  pub spells : List ℕ → Script → Type 0
  -- how a reply is printed now
  pub printed : Reply → List ℕ

-- what is spelled in the new state, behind these bytes, was spelled in the old one
abbrev pub SpellsOn : (old : Protocol) (piece : List ℕ) (new : Protocol) → Type 0
SpellsOn old piece new = (more : List ℕ) (s : Script) → new.spells more s → old.spells (piece ++ more) s

-- a turn is taken: behind it goes on what is spelled in the new state
abbrev pub SpellsTurn : (old : Protocol) (turn : Turn) (new : Protocol) → Type 0
SpellsTurn old turn new = (more : List ℕ) (s : Script) → new.spells more s → old.spells more (with_turn turn s)

-- a piece of the input was fed: it stands behind the bytes that wait
pub record Feeds (old : Protocol) (piece : List ℕ) (new : Protocol) : Type 0 where
  pub waiting : new.waiting ≡ old.waiting ++ piece
  pub start : new.start ≡ old.start
  pub spelled : SpellsOn old piece new
  -- no offset passes the last one
  pub room : old.start + length old.waiting + length piece ≤ LAST_OFFSET

-- what is read is as it was
pub record ReadsOn (old new : Protocol) : Type 0 where
  pub waiting : new.waiting ≡ old.waiting
  pub start : new.start ≡ old.start
  pub spelled : SpellsOn old [] new

-- at least one byte goes from the front of those that wait, and the offset goes on by as many
pub record TakesBytes (old new : Protocol) : Type 0 where
  pub taken : List ℕ
  pub some : 0 < length taken
  pub front : old.waiting ≡ taken ++ new.waiting
  pub offset : new.start ≡ old.start + length taken

-- A request is asked: the script has that turn, and goes on with what is spelled then. A request for the end is the
-- last turn, whatever follows it. A statement is no longer than one may be.
abbrev pub TakesRequest : (old new : Protocol) → Request → Type 0
TakesRequest old new request.End = (more : List ℕ) → old.spells more (with_turn (Asks request.End new.printed) (only Ended))
TakesRequest old new (request.Sql text) =
    (length text ≤ MAX_QUERY_BYTES) × TakesBytes old new × SpellsTurn old (Asks (request.Sql text) new.printed) new
TakesRequest old new asked = TakesBytes old new × SpellsTurn old (Asks asked new.printed) new

-- what a step says of a front before it and after it
abbrev pub TakesStep : (old new : Protocol) → Step → Type 0
TakesStep old new (step.Ask asked) = TakesRequest old new asked
TakesStep old new (step.Say bytes) = TakesBytes old new × SpellsTurn old (Says bytes) new
TakesStep old new step.More = old.spells [] (only (Waiting old.waiting old.start new.printed)) × ReadsOn old new
TakesStep old new step.Clean = ⊥
TakesStep old new (step.Bad place) = (more : List ℕ) → old.spells more (only (Malformed place new.printed))

-- how the end of the input is answered: cleanly where no byte waits, else with the place of the first that does
abbrev pub ends_with : Protocol → Step
ends_with p = if length p.waiting == 0 then step.Clean else step.Bad p.start
