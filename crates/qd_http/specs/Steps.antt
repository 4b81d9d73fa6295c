-- Which turns the bytes of an input spell, one request behind the other (RFC 9112, section 9.3).
use Rattle.std.specs.Prelude.{◌≡◌, ℕ, ◌+◌, ◌<◌, ◌≤◌, ◌==◌, ◌||◌, ◌⊎◌, Bool, true, false, MatchBool, List, [], ◌∷◌, ◌++◌, length, Some, None}
use Rattle.httparse.specs.Grammar.{RequestHead, print_request, NeverHasRequest}
use Rattle.qd_base.specs.declared.request.Request.TheVariants as request
use Rattle.qd_base.specs.declared.request.Step.{Step}
use Rattle.qd_base.specs.declared.request.Step.TheVariants as step
use Rattle.qd_base.specs.Script.{Protocol, Script, Turn, Asks, Says, Ending, Waiting, Ended, Malformed}
use Rattle.qd_http.specs.declared.limits.TheConstants.{MAX_HEAD_BYTES}
use Rattle.qd_http.specs.declared.wanted.Wanted.{Wanted}
use Rattle.qd_http.specs.declared.wanted.Wanted.TheVariants as wanted
use Rattle.qd_http.specs.declared.reply.Asked.{Asked}
use Rattle.qd_http.specs.declared.reply.Asked.TheVariants as asked
use Rattle.qd_http.specs.Heads.{HasEmptyLine, BeginsHead, BeginsNoHead}
use Rattle.qd_http.specs.Fields.{body_size, closes, pairs_of}
use Rattle.qd_http.specs.Targets.{wanted_of}
use Rattle.qd_http.specs.Responses.{http_reply, bare_reply, printed, said}

-- the turn of a request with this body
abbrev pub turn_with : List ℕ → Wanted → Turn
turn_with body wanted.Write = Asks (request.Write body) (http_reply (request.Write body))
turn_with body (wanted.Statement text) = Asks (request.Sql text) (http_reply (request.Sql text))
turn_with body wanted.Apply = Asks request.Apply (http_reply request.Apply)
turn_with body (wanted.Refused why) = Says (said why)

abbrev pub turn_of : RequestHead → List ℕ → Turn
turn_of head body = turn_with body (wanted_of head.method head.target)

-- the request is the last of its connection: it is of HTTP/1.0, or says so
abbrev pub is_last : RequestHead → Bool
is_last head = head.minor == 0 || closes (pairs_of head)

-- the bytes begin with the request of this head and this body, and the rest follows
pub record BeginsRequest (bytes : List ℕ) (head : RequestHead) (body rest : List ℕ) : Type 0 where
  pub begins : BeginsHead bytes head (body ++ rest)
  pub whole : body_size (pairs_of head) ≡ Some (length body)

-- a head whose body is still to come
pub record AwaitsBody (bytes : List ℕ) : Type 0 where
  pub head : RequestHead
  pub rest : List ℕ
  pub size : ℕ
  pub begins : BeginsHead bytes head rest
  pub told : body_size (pairs_of head) ≡ Some size
  pub missing : length rest < size

-- a head whose body has no length that is served
pub record LacksSize (bytes : List ℕ) : Type 0 where
  pub head : RequestHead
  pub rest : List ℕ
  pub begins : BeginsHead bytes head rest
  pub untold : body_size (pairs_of head) ≡ None

-- an empty line has come, and no head begins the bytes, however they go on
abbrev pub IsNoHead : List ℕ → Type 0
IsNoHead bytes = HasEmptyLine bytes × NeverHasRequest bytes

-- a head is still to come, and has room to
pub record AwaitsHead (bytes : List ℕ) : Type 0 where
  pub none : BeginsNoHead bytes
  pub room : length bytes ≤ MAX_HEAD_BYTES
  pub possible : IsNoHead bytes → ⊥

-- no head comes: more bytes than one has are there, or what is there is none
pub record LacksHead (bytes : List ℕ) : Type 0 where
  pub none : BeginsNoHead bytes
  pub hopeless : (MAX_HEAD_BYTES < length bytes) ⊎ IsNoHead bytes

-- the bytes wait for more: nothing is there, or a request has not come whole
abbrev pub IsUnfinished : List ℕ → Type 0
IsUnfinished bytes = AwaitsHead bytes ⊎ AwaitsBody bytes

-- the bytes are refused
abbrev pub BeginsNone : List ℕ → Type 0
BeginsNone bytes = LacksHead bytes ⊎ LacksSize bytes

-- the last request was taken: the end is asked, whatever follows
abbrev pub EndsHere : List Turn → Ending → Type 0
EndsHere turns ending = (turns ≡ Asks request.End (http_reply request.End) ∷ []) × (ending ≡ Ended)

-- The bytes from the offset `at` on spell these turns, one request behind the other, and end so: with bytes that wait, or
-- with bytes that are refused, or with the last request of the connection.
abbrev pub HttpSteps : ℕ → List ℕ → List Turn → Ending → Type 0
HttpSteps at bytes [] (Waiting rest place how) = (rest ≡ bytes) × (place ≡ at) × (how ≡ bare_reply) × IsUnfinished bytes
HttpSteps at bytes [] Ended = ⊥
HttpSteps at bytes [] (Malformed place how) = (place ≡ at) × (how ≡ bare_reply) × BeginsNone bytes
HttpSteps at bytes (turn ∷ turns) ending =
    (head : RequestHead) × (body : List ℕ) × (rest : List ℕ) × BeginsRequest bytes head body rest × (turn ≡ turn_of head body)
    × MatchBool (is_last head) (EndsHere turns ending) (HttpSteps (at + (length (print_request head) + length body)) rest turns ending)

-- what is seen of a front: the bytes that wait, the offset of the first, whether the last request was taken, and what the
-- replies answer now
pub record Https : Type 0 where
  pub waiting : List ℕ
  pub start : ℕ
  pub closing : Bool
  pub asked : Asked

-- a front to which nothing has been fed
abbrev pub first_https : Https
first_https = record { waiting = []; start = 0; closing = false; asked = asked.Nothing }

-- what the bytes that wait spell, followed by these
abbrev pub https_spell : Https → List ℕ → Script → Type 0
https_spell f more script = MatchBool f.closing (EndsHere script.turns script.ending) (HttpSteps f.start (f.waiting ++ more) script.turns script.ending)

-- a front of HTTP as a session sees it
abbrev pub https_protocol : Https → Protocol
https_protocol f = record { waiting = f.waiting; start = f.start; spells = https_spell f; printed = printed f.asked }

-- the turn that a step is
abbrev pub StepIs : Turn → (asked : Asked) → Step → Type 0
StepIs turn now (step.Ask wants) = turn ≡ Asks wants (printed now)
StepIs turn now (step.Say bytes) = turn ≡ Says bytes
StepIs turn now step.More = ⊥
StepIs turn now step.Clean = ⊥
StepIs turn now (step.Bad place) = ⊥

-- the request of this head and this body was taken
pub record TakesRequest (old new : Https) (head : RequestHead) (body : List ℕ) : Type 0 where
  pub begins : BeginsRequest old.waiting head body new.waiting
  pub offset : new.start ≡ old.start + (length (print_request head) + length body)
  pub last : new.closing ≡ is_last head

-- some request was taken, and the step is its turn
abbrev pub TakesSome : (old new : Https) → Step → Type 0
TakesSome old new given =
    (old.closing ≡ false) × (head : RequestHead) × (body : List ℕ) × TakesRequest old new head body × StepIs (turn_of head body) new.asked given

-- nothing was taken
pub record Stays (old new : Https) : Type 0 where
  pub waiting : new.waiting ≡ old.waiting
  pub start : new.start ≡ old.start
  pub closing : new.closing ≡ old.closing

-- What a step of a front of HTTP is: a request with which the bytes that waited began, and which goes; or the end, behind
-- the last one; or the want of more; or a refusal of the bytes that wait.
abbrev pub TakesHttp : (old new : Https) → Step → Type 0
TakesHttp old new (step.Ask request.End) = (old.closing ≡ true) × (new.asked ≡ asked.End) × Stays old new
TakesHttp old new (step.Ask wants) = TakesSome old new (step.Ask wants)
TakesHttp old new (step.Say bytes) = TakesSome old new (step.Say bytes)
TakesHttp old new step.More = (old.closing ≡ false) × (new.asked ≡ asked.Nothing) × Stays old new × IsUnfinished old.waiting
TakesHttp old new step.Clean = ⊥
TakesHttp old new (step.Bad place) = (old.closing ≡ false) × (new.asked ≡ asked.Nothing) × Stays old new × BeginsNone old.waiting × (place ≡ old.start)
