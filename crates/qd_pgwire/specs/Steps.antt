-- Which turns the bytes of a connection spell, one message behind the other, in the states of PostgreSQL's protocol.
use Rattle.std.specs.Prelude.{◌≡◌, ℕ, ◌+◌, Bool, true, false, ◌||◌, ◌==◌, MatchBool, if◌then◌else◌, List, [], ◌∷◌, ◌++◌, drop}
use Rattle.std.specs.List.{list_all}
use Rattle.qd_base.specs.declared.request.Request.TheVariants as request
use Rattle.qd_base.specs.declared.request.Step.{Step}
use Rattle.qd_base.specs.declared.request.Step.TheVariants as step
use Rattle.qd_base.specs.Script.{Protocol, Script, Turn, Asks, Says, Ending, Waiting, Ended, Malformed}
use Rattle.qd_pgwire.specs.declared.found.Kind.{Kind}
use Rattle.qd_pgwire.specs.declared.found.Kind.TheVariants as kind
use Rattle.qd_pgwire.specs.declared.found.Mode.{Mode}
use Rattle.qd_pgwire.specs.declared.found.Mode.TheVariants as mode
use Rattle.qd_pgwire.specs.declared.found.Found.{Found}
use Rattle.qd_pgwire.specs.declared.found.Found.TheVariants as found
use Rattle.qd_pgwire.specs.Messages.{first, text_in}
use Rattle.qd_pgwire.specs.Replies.{empty_query, no_encryption, not_served, pg_reply, ready_for_query, welcome}

-- a text of blanks alone: spaces, tabs, CR and LF
abbrev pub is_blank : ℕ → Bool
is_blank b = b == 32 || b == 9 || b == 13 || b == 10

abbrev pub are_blanks : List ℕ → Bool
are_blanks text = list_all is_blank text

-- a query asks its text as a statement; one that is skipped says nothing
abbrev pub query_turn : Mode → List ℕ → Turn
query_turn mode.Skipping text = Says []
query_turn m text = if are_blanks text then Says empty_query else Asks (request.Sql text) pg_reply

-- a message of the extended query is refused, and then all is skipped up to Sync
abbrev pub extended_turn : Mode → Turn
extended_turn mode.Skipping = Says []
extended_turn m = Says not_served

-- the turn of a message, with the text that a query has
abbrev pub turn_of : Mode → Kind → List ℕ → Turn
turn_of m (kind.Start names) text = Says (welcome names)
turn_of m kind.Encrypt text = Says no_encryption
turn_of m kind.Cancel text = Asks request.End pg_reply
turn_of m kind.Query text = query_turn m text
turn_of m kind.Extended text = extended_turn m
turn_of m kind.Flush text = Says []
turn_of m kind.Sync text = Says ready_for_query
turn_of m kind.Terminate text = Asks request.End pg_reply

-- the state behind it
abbrev pub mode_after : Mode → Kind → Mode
mode_after m (kind.Start names) = mode.Ready
mode_after m kind.Encrypt = m
mode_after m kind.Cancel = m
mode_after m kind.Query = m
mode_after m kind.Extended = mode.Skipping
mode_after m kind.Flush = m
mode_after m kind.Sync = mode.Ready
mode_after m kind.Terminate = m

-- behind a request to cancel and behind Terminate nothing is looked at
abbrev pub is_last : Kind → Bool
is_last (kind.Start names) = false
is_last kind.Encrypt = false
is_last kind.Cancel = true
is_last kind.Query = false
is_last kind.Extended = false
is_last kind.Flush = false
is_last kind.Sync = false
is_last kind.Terminate = true

-- no turn more
abbrev pub EndsHere : List Turn → Ending → Type 0
EndsHere turns ending = (turns ≡ []) × (ending ≡ Ended)

-- The bytes from the offset `at` on spell these turns in this state, one message behind the other, and end so: with bytes that
-- wait, since no message has come whole; with bytes that are no message; or with the last message of the connection.
abbrev pub PgSteps : Mode → ℕ → List ℕ → List Turn → Ending → Type 0
PgSteps m at bytes [] (Waiting rest place how) = (rest ≡ bytes) × (place ≡ at) × (how ≡ pg_reply) × (first m bytes ≡ found.Short)
PgSteps m at bytes [] Ended = ⊥
PgSteps m at bytes [] (Malformed place how) = (place ≡ at) × (how ≡ pg_reply) × (first m bytes ≡ found.Wrong)
PgSteps m at bytes (turn ∷ turns) ending =
    (k : Kind) × (size : ℕ) × (first m bytes ≡ found.Whole k size) × (turn ≡ turn_of m k (text_in size bytes))
    × MatchBool (is_last k) (EndsHere turns ending) (PgSteps (mode_after m k) (at + size) (drop size bytes) turns ending)

-- what is seen of a front: the bytes that wait, the offset of the first, and the state
pub record Pgs : Type 0 where
  pub waiting : List ℕ
  pub start : ℕ
  pub mode : Mode

-- a front to which nothing has been fed
abbrev pub first_pgs : Pgs
first_pgs = record { waiting = []; start = 0; mode = mode.Starting }

-- what the bytes that wait spell, followed by these
abbrev pub pg_spell : Pgs → List ℕ → Script → Type 0
pg_spell f more script = PgSteps f.mode f.start (f.waiting ++ more) script.turns script.ending

-- a front of PostgreSQL's protocol as a session sees it
abbrev pub pg_protocol : Pgs → Protocol
pg_protocol f = record { waiting = f.waiting; start = f.start; spells = pg_spell f; printed = pg_reply }

-- the step that a turn is
abbrev pub step_of : Turn → Step
step_of (Asks wants how) = step.Ask wants
step_of (Says bytes) = step.Say bytes

-- What a step of a front is, and what it leaves: the turn of the message with which the bytes that waited began, and which goes;
-- or the want of more, or a refusal of the bytes, and then nothing goes.
abbrev pub TakesBy : (old new : Pgs) → Step → Found → Type 0
TakesBy old new given found.Short = (given ≡ step.More) × (new ≡ old)
TakesBy old new given found.Wrong = (given ≡ step.Bad old.start) × (new ≡ old)
TakesBy old new given (found.Whole k size) =
    (given ≡ step_of (turn_of old.mode k (text_in size old.waiting)))
    × (new ≡ record { waiting = drop size old.waiting; start = old.start + size; mode = mode_after old.mode k })

abbrev pub TakesPg : (old new : Pgs) → Step → Type 0
TakesPg old new given = TakesBy old new given (first old.mode old.waiting)
