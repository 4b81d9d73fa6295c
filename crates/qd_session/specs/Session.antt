-- What a session did with its wire.
use Rattle.std.specs.Prelude.{◌≡◌, ℕ, ◌<◌, ◌≤◌, ◌⊎◌, List, [], ◌∷◌, ◌++◌, length, Option, Some, None}
use Rattle.qd_base.specs.Codes.{number_of}
use Rattle.qd_base.specs.declared.code.Code.TheVariants as code
use Rattle.qd_base.specs.declared.limits.TheConstants.{LAST_OFFSET}
use Rattle.qd_base.specs.declared.request.Request.{Request}
use Rattle.qd_base.specs.declared.request.Reply.{Reply}
use Rattle.qd_base.specs.declared.request.Reply.TheVariants as reply
use Rattle.qd_base.specs.Script.{Protocol, Script, Turn, Asks, Says, Ending, Waiting, Ended, Malformed}
use Rattle.qd_io.specs.Clocks.{Timeline}
use Rattle.qd_io.specs.Ends.{HasRisen, Stream}
use Rattle.qd_session.specs.declared.ended.Ended.{Ended as EndedBy}
use Rattle.qd_session.specs.declared.ended.Ended.TheVariants as ended
use Rattle.qd_session.specs.Looks.{Look, Shown, look_at}
use Rattle.qd_session.specs.Legal.{GoesOn, Legal, LegalRun, Rule, done_numbers}

-- What a session shows at a moment: its front, its backend, its wire and its clock.
pub record Moment : Type 1 where
  pub front : Protocol
  pub back : Shown
  pub wire : Stream
  pub clock : Timeline

abbrev pub moment : Protocol → Shown → Stream → Timeline → Moment
moment front back wire clock = record { front = front; back = back; wire = wire; clock = clock }

-- what a session knows at a moment
abbrev pub look : Moment → Look
look m = look_at m.clock m.back

-- the requests of turns, in order
abbrev pub requests_in : List Turn → List Request
requests_in [] = []
requests_in (Asks asked printed ∷ turns) = asked ∷ requests_in turns
requests_in (Says bytes ∷ turns) = requests_in turns

-- the bytes of turns with their replies
abbrev pub transcript : List Turn → List Reply → List ℕ
transcript [] replies = []
transcript (Asks asked printed ∷ turns) [] = []
transcript (Asks asked printed ∷ turns) (given ∷ replies) = printed given ++ transcript turns replies
transcript (Says bytes ∷ turns) replies = bytes ++ transcript turns replies

-- the bytes of the last of some turns, with its reply; or these, where there is none
abbrev pub last_bytes : List ℕ → List Turn → List Reply → List ℕ
last_bytes these [] replies = these
last_bytes these (Asks asked printed ∷ turns) [] = these
last_bytes these (Asks asked printed ∷ turns) (given ∷ replies) = last_bytes (printed given) turns replies
last_bytes these (Says bytes ∷ turns) replies = last_bytes bytes turns replies

-- these bytes were taken from a told input
abbrev pub TakenFrom : Option (List ℕ) → Option (List ℕ) → List ℕ → Type 0
TakenFrom None now taken = Unit {0}
TakenFrom (Some bytes) now taken = (left : List ℕ) × (now ≡ Some left) × (bytes ≡ taken ++ left)

-- these bytes were put behind a told output
abbrev pub PutTo : Option (List ℕ) → Option (List ℕ) → List ℕ → Type 0
PutTo None now written = Unit {0}
PutTo (Some before) now written = now ≡ Some (before ++ written)

-- these bytes were taken and those were written
pub record Moves (old new : Stream) (taken written : List ℕ) : Type 0 where
  pub from : TakenFrom old.input new.input taken
  pub to : PutTo old.output new.output written

-- these bytes are all of a told input
abbrev pub IsAllOf : Option (List ℕ) → List ℕ → Type 0
IsAllOf None taken = Unit {0}
IsAllOf (Some bytes) taken = bytes ≡ taken

-- the input has ended: all of it is taken, or so many bytes as offsets count
abbrev pub IsOver : Option (List ℕ) → List ℕ → Type 0
IsOver input taken = IsAllOf input taken ⊎ (length taken ≡ LAST_OFFSET)

-- turns before a script
abbrev pub with_turns : List Turn → Script → Script
with_turns turns s = record { turns = turns ++ s.turns; ending = s.ending }

-- the input ended cleanly: by a request for the end, or between requests
abbrev pub IsClean : Option (List ℕ) → List ℕ → Ending → Type 0
IsClean input taken Ended = Unit {0}
IsClean input taken (Waiting rest place printed) = (rest ≡ []) × IsOver input taken
IsClean input taken (Malformed place printed) = ⊥

-- the input ended badly: the bytes from this place on are no request, or it ended inside one
abbrev pub IsBad : Option (List ℕ) → List ℕ → Ending → ℕ → (Reply → List ℕ) → Type 0
IsBad input taken Ended place printed = ⊥
IsBad input taken (Waiting rest at printed') place printed = (0 < length rest) × IsOver input taken × (at ≡ place) × (printed' ≡ printed)
IsBad input taken (Malformed at printed') place printed = (at ≡ place) × (printed' ≡ printed)

-- the session waits for more of its input
abbrev pub IsWaiting : Ending → Type 0
IsWaiting (Waiting rest place printed) = Unit {0}
IsWaiting Ended = ⊥
IsWaiting (Malformed place printed) = ⊥

-- the reply that refuses the bytes from a place on
abbrev pub refusal : ℕ → Reply
refusal place = reply.Refused (number_of code.Frame) place

-- What a session has done so far. What it took spells these turns, whatever the front makes of what comes; the replies are
-- legal, and the backend's own transactions are those that they acknowledge.
pub record Progress (rule : Rule) (before now : Moment) (taken written : List ℕ) : Type 0 where
  pub turns : List Turn
  pub replies : List Reply
  pub begins : (more : List ℕ) (s : Script) → now.front.spells more s → before.front.spells (taken ++ more) (with_turns turns s)
  pub run : LegalRun rule now.back.history (look before) (requests_in turns) replies (look now)
  pub goes_on : GoesOn (requests_in turns)
  pub bytes : written ≡ transcript turns replies
  pub own : now.back.own ≡ before.back.own ++ done_numbers replies

-- A whole session: what it took spells this script, and these are its replies.
pub record Dialogue (rule : Rule) (before after : Moment) (taken : List ℕ) : Type 0 where
  pub script : Script
  pub replies : List Reply
  pub spelled : before.front.spells taken script
  pub legal : Legal rule after.back.history (look before) (look after) (requests_in script.turns) replies
  pub own : after.back.own ≡ before.back.own ++ done_numbers replies

-- A session that was cut short: what it took begins with these turns, however it goes on, and these are their replies. The
-- last bytes taken may not have been fed to the front.
pub record Broken (rule : Rule) (before after : Moment) (taken : List ℕ) : Type 0 where
  pub turns : List Turn
  pub replies : List Reply
  pub unfed : List ℕ
  pub begins : (more : List ℕ) (s : Script) → after.front.spells (unfed ++ more) s → before.front.spells (taken ++ more) (with_turns turns s)
  pub legal : Legal rule after.back.history (look before) (look after) (requests_in turns) replies
  pub own : after.back.own ≡ before.back.own ++ done_numbers replies

-- All of some bytes were written, but for an end of the last ones: of those before them nothing is missing.
pub record IsWrittenUpTo (all last written : List ℕ) : Type 0 where
  pub sent : List ℕ
  pub missing : List ℕ
  pub front : all ≡ written ++ missing
  pub end_of_last : last ≡ sent ++ missing

-- The bytes written are the transcript, but for an end of its last reply: of a session cut short, of a whole one, or of a whole one
-- that ended badly, with its refusal. So behind a reply that wasn't written whole nothing more was carried out.
abbrev pub IsCutShort : Rule → (before after : Moment) (taken written : List ℕ) → Type 0
IsCutShort rule before after taken written =
    ((b : Broken rule before after taken) × IsWrittenUpTo (transcript b.turns b.replies) (last_bytes [] b.turns b.replies) written)
    ⊎ (((d : Dialogue rule before after taken) × IsWrittenUpTo (transcript d.script.turns d.replies) (last_bytes [] d.script.turns d.replies) written)
    ⊎ ((d : Dialogue rule before after taken) × (place : ℕ) × (printed : Reply → List ℕ) × IsBad before.wire.input taken d.script.ending place printed
    × IsWrittenUpTo (transcript d.script.turns d.replies ++ printed (refusal place)) (printed (refusal place)) written))

-- what the end of a session says of what it took and wrote
abbrev pub Concludes : Rule → (before after : Moment) (taken written : List ℕ) → EndedBy → Type 0
-- the input ended cleanly, and the bytes written are the replies
Concludes rule before after taken written ended.Finished =
    (d : Dialogue rule before after taken) × IsClean before.wire.input taken d.script.ending × (written ≡ transcript d.script.turns d.replies)
-- the input ended badly, and the bytes written are the replies and one refusal
Concludes rule before after taken written ended.BadFrame =
    (d : Dialogue rule before after taken) × (place : ℕ) × (printed : Reply → List ℕ) × IsBad before.wire.input taken d.script.ending place printed × (written ≡ transcript d.script.turns d.replies ++ printed (refusal place))
-- the bytes written are the replies to all requests of the bytes taken
Concludes rule before after taken written ended.ReadFault =
    (d : Dialogue rule before after taken) × IsWaiting d.script.ending × (written ≡ transcript d.script.turns d.replies)
Concludes rule before after taken written ended.WriteFault = IsCutShort rule before after taken written
Concludes rule before after taken written ended.Memory = IsCutShort rule before after taken written

-- a session from one moment to another: what it took, no more than offsets count, and what it wrote
pub record Serves (rule : Rule) (before after : Moment) (how : EndedBy) : Type 0 where
  pub taken : List ℕ
  pub written : List ℕ
  pub moved : Moves before.wire after.wire taken written
  pub short : length taken ≤ LAST_OFFSET
  pub concluded : Concludes rule before after taken written how

-- The count of failed reads has risen exactly where it ended by such a fault; before the end it is what it was.
abbrev pub CountsReads : ℕ → ℕ → Option EndedBy → Type 0
CountsReads before now (Some ended.ReadFault) = (before ≤ now) × HasRisen before now
CountsReads before now how = now ≡ before

-- and the count of failed writes
abbrev pub CountsWrites : ℕ → ℕ → Option EndedBy → Type 0
CountsWrites before now (Some ended.WriteFault) = (before ≤ now) × HasRisen before now
CountsWrites before now how = now ≡ before

-- Each fault of the wire ends the session and is counted, and nothing else is counted; the wire's borrows stay.
pub record Faults (old new : Stream) (how : Option EndedBy) : Type 0 where
  pub reads : CountsReads old.reads_failed new.reads_failed how
  pub writes : CountsWrites old.writes_failed new.writes_failed how
  pub input_lent : new.input_lent ≡ old.input_lent
  pub output_lent : new.output_lent ≡ old.output_lent
