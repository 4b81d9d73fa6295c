-- One step of a session: what it does to the front, the backend and the wire.
use Rattle.std.specs.Prelude.{◌≡◌, ℕ, ◌+◌, ◌<◌, ◌≤◌, ◌⊎◌, List, [], ◌∷◌, ◌++◌, length, Option, Some, None, Result, Ok, Err}
use Rattle.qd_base.specs.declared.limits.TheConstants.{LAST_OFFSET, MAX_QUERY_BYTES}
use Rattle.qd_base.specs.declared.request.Request.{Request}
use Rattle.qd_base.specs.declared.request.Request.TheVariants as request
use Rattle.qd_base.specs.declared.request.Reply.{Reply}
use Rattle.qd_base.specs.Script.{Protocol, Script, SpellsOn, SpellsTurn, Turn, Asks, Says, Ending, Waiting, Ended, Malformed, with_turn, only}
use Rattle.qd_io.specs.Clocks.{Timeline}
use Rattle.qd_io.specs.Ends.{Counts, InputStays, Stream}
use Rattle.qd_io.specs.declared.fault.IoFault.{IoFault}
use Rattle.qd_io.specs.declared.fault.IoFault.TheVariants as fault
use Rattle.qd_session.specs.declared.ended.Ended.{Ended as EndedBy}
use Rattle.qd_session.specs.declared.ended.Ended.TheVariants as ended
use Rattle.qd_session.specs.Looks.{Grows, Shown, look_at}
use Rattle.qd_session.specs.Legal.{GoesOn, Rule, done_in}
use Rattle.qd_session.specs.Timing.{ReadsClock}
use Rattle.qd_session.specs.Session.{IsAllOf, Moment, Moves, TakenFrom, refusal}

-- a statement is no longer than one may be
abbrev pub IsAskable : Request → Type 0
IsAskable (request.Sql text) = length text ≤ MAX_QUERY_BYTES
IsAskable asked = Unit {0}

-- a prefix of these bytes was written
pub record WritesFront (old new : Stream) (bytes : List ℕ) : Type 0 where
  pub written : List ℕ
  pub missing : List ℕ
  pub moved : Moves old new [] written
  pub front : bytes ≡ written ++ missing

-- these bytes were written, or after a fault a prefix of them
abbrev pub WritesBy : {T : Type 0} → (old new : Stream) (bytes : List ℕ) → Result T IoFault → Type 0
WritesBy old new bytes (Ok done) = Moves old new [] bytes
WritesBy old new bytes (Err fault) = WritesFront old new bytes

-- what a write of these bytes does to a wire
pub record Wrote {T : Type 0} (old new : Stream) (bytes : List ℕ) (result : Result T IoFault) : Type 0 where
  pub put : WritesBy old new bytes result
  pub counted : Counts old.writes_failed new.writes_failed result
  pub rest : InputStays old new

-- the backend and the clock are as they were
pub record IsIdle (old new : Moment) : Type 0 where
  pub back : new.back ≡ old.back
  pub clock : new.clock ≡ old.clock

-- A request was handled: the clock was read as the request is to, what the backend shows has grown, the reply may come by
-- its rule, and its own transactions are those that the reply acknowledges.
pub record IsHandled (rule : Rule) (old new : Shown) (clock clock' : Timeline) (asked : Request) (given : Reply) : Type 0 where
  pub time : ℕ
  pub read : ReadsClock clock clock' time asked given
  pub grows : Grows old new
  pub allowed : rule new.history (look_at clock old) (look_at clock' new) time asked given
  pub own : new.own ≡ old.own ++ done_in given

-- a turn that isn't the last was handled, and these are its bytes
abbrev pub Replied : Rule → (old new : Moment) (bytes : List ℕ) → Turn → Type 0
Replied rule old new bytes (Asks asked printed) =
    (given : Reply) × GoesOn (asked ∷ []) × IsHandled rule old.back new.back old.clock new.clock asked given × (bytes ≡ printed given)
Replied rule old new bytes (Says said) = IsIdle old new × (bytes ≡ said)

pub record TurnOf (rule : Rule) (old new : Moment) (bytes : List ℕ) : Type 0 where
  pub turn : Turn
  pub spelled : SpellsTurn old.front turn new.front
  pub replied : Replied rule old new bytes turn

-- the request for the end was handled, and these are its bytes
pub record EndOf (rule : Rule) (old new : Moment) (bytes : List ℕ) : Type 0 where
  pub printed : Reply → List ℕ
  pub given : Reply
  pub spelled : (more : List ℕ) → old.front.spells more (with_turn (Asks request.End printed) (only Ended))
  pub handled : IsHandled rule old.back new.back old.clock new.clock request.End given
  pub printing : bytes ≡ printed given

-- the input has ended, once these many bytes are fed: nothing is left of it, or so many as offsets count are fed
abbrev pub IsOut : Option (List ℕ) → ℕ → Type 0
IsOut input fed = IsAllOf input [] ⊎ (fed ≡ LAST_OFFSET)

-- the input ends badly at this place
abbrev pub IsBadHere : Option (List ℕ) → ℕ → Ending → ℕ → (Reply → List ℕ) → Type 0
IsBadHere input fed Ended place printed = ⊥
IsBadHere input fed (Waiting rest at printed') place printed = (0 < length rest) × IsOut input fed × (at ≡ place) × (printed' ≡ printed)
IsBadHere input fed (Malformed at printed') place printed = (at ≡ place) × (printed' ≡ printed)

pub record BadEnd (now : Moment) (fed place : ℕ) (printed : Reply → List ℕ) : Type 0 where
  pub ending : Ending
  pub spelled : now.front.spells [] (only ending)
  pub bad : IsBadHere now.wire.input fed ending place printed

-- the front waits for more, with these bytes
abbrev pub Waits : Moment → List ℕ → Type 0
Waits now rest = (place : ℕ) × (printed : Reply → List ℕ) × now.front.spells [] (only (Waiting rest place printed))

-- a step after which the session goes on: a turn was taken, or a piece of the input was fed
abbrev pub Stepped : Rule → (old new : Moment) (fed fed' : ℕ) → Type 0
Stepped rule old new fed fed' =
    ((bytes : List ℕ) × TurnOf rule old new bytes × Moves old.wire new.wire [] bytes × (fed' ≡ fed))
    ⊎ ((piece : List ℕ) × Moves old.wire new.wire piece [] × IsIdle old new × (fed' ≡ fed + length piece) × SpellsOn old.front piece new.front)

-- A step that was cut short: bytes were read and not fed; a turn's bytes, or those of the last one, were not all written;
-- or those of a refusal.
abbrev pub CutStep : Rule → (old new : Moment) (fed : ℕ) → Type 0
CutStep rule old new fed =
    ((unfed : List ℕ) × Moves old.wire new.wire unfed [] × IsIdle old new × SpellsOn old.front [] new.front × (fed + length unfed ≤ LAST_OFFSET))
    ⊎ (((bytes : List ℕ) × TurnOf rule old new bytes × WritesFront old.wire new.wire bytes)
    ⊎ (((bytes : List ℕ) × EndOf rule old new bytes × WritesFront old.wire new.wire bytes)
    ⊎ ((place : ℕ) × (printed : Reply → List ℕ) × BadEnd old fed place printed × WritesFront old.wire new.wire (printed (refusal place)) × IsIdle old new)))

-- a step after which the session is over
abbrev pub Stopped : Rule → (old new : Moment) (fed : ℕ) → EndedBy → Type 0
Stopped rule old new fed ended.Finished =
    ((bytes : List ℕ) × EndOf rule old new bytes × Moves old.wire new.wire [] bytes)
    ⊎ (Waits old [] × IsOut old.wire.input fed × Moves old.wire new.wire [] [] × IsIdle old new)
Stopped rule old new fed ended.BadFrame =
    (place : ℕ) × (printed : Reply → List ℕ) × BadEnd old fed place printed × Moves old.wire new.wire [] (printed (refusal place)) × IsIdle old new
Stopped rule old new fed ended.ReadFault = (rest : List ℕ) × Waits old rest × Moves old.wire new.wire [] [] × IsIdle old new
Stopped rule old new fed ended.WriteFault = CutStep rule old new fed
Stopped rule old new fed ended.Memory = CutStep rule old new fed

-- what a step does, by whether the session is over after it
abbrev pub SessionStep : Rule → (old new : Moment) (fed fed' : ℕ) → Option EndedBy → Type 0
SessionStep rule old new fed fed' None = Stepped rule old new fed fed'
SessionStep rule old new fed fed' (Some how) = Stopped rule old new fed how

-- what the fault of a write makes of a session
abbrev pub ended_by_write : IoFault → EndedBy
ended_by_write fault.Failed = ended.WriteFault
ended_by_write fault.Memory = ended.Memory

-- A request was handled and its reply written, by whether the session is over after it.
abbrev pub TakesTurn : Rule → (printed : Reply → List ℕ) (back back' : Shown) (clock clock' : Timeline) (wire wire' : Stream) → Request → Option EndedBy → Type 0
TakesTurn rule printed back back' clock clock' wire wire' asked None =
    (given : Reply) × GoesOn (asked ∷ []) × IsHandled rule back back' clock clock' asked given × Moves wire wire' [] (printed given)
TakesTurn rule printed back back' clock clock' wire wire' asked (Some ended.Finished) =
    (given : Reply) × (asked ≡ request.End) × IsHandled rule back back' clock clock' asked given × Moves wire wire' [] (printed given)
TakesTurn rule printed back back' clock clock' wire wire' asked (Some ended.BadFrame) = ⊥
TakesTurn rule printed back back' clock clock' wire wire' asked (Some ended.ReadFault) = ⊥
TakesTurn rule printed back back' clock clock' wire wire' asked (Some how) =
    (given : Reply) × IsHandled rule back back' clock clock' asked given × WritesFront wire wire' (printed given)

-- a refusal of these bytes was written, or a prefix of it
abbrev pub Refuses : (wire wire' : Stream) (bytes : List ℕ) → EndedBy → Type 0
Refuses wire wire' bytes ended.Finished = ⊥
Refuses wire wire' bytes ended.BadFrame = Moves wire wire' [] bytes
Refuses wire wire' bytes ended.ReadFault = ⊥
Refuses wire wire' bytes how = WritesFront wire wire' bytes

-- the session ended with the input: cleanly where no byte waits, else with a refusal
abbrev pub Finishes : Protocol → (wire wire' : Stream) → EndedBy → Type 0
Finishes front wire wire' how =
    ((how ≡ ended.Finished) × (front.waiting ≡ []) × Moves wire wire' [] []) ⊎ ((0 < length front.waiting) × Refuses wire wire' (front.printed (refusal front.start)) how)

-- bytes that the front says by itself were written, or a prefix of them
abbrev pub Said : (wire wire' : Stream) (bytes : List ℕ) → Option EndedBy → Type 0
Said wire wire' bytes None = Moves wire wire' [] bytes
Said wire wire' bytes (Some ended.Finished) = ⊥
Said wire wire' bytes (Some ended.BadFrame) = ⊥
Said wire wire' bytes (Some ended.ReadFault) = ⊥
Said wire wire' bytes (Some how) = WritesFront wire wire' bytes

-- A piece of the input was read and fed; or the read failed; or what was read found no memory; or the input has ended.
abbrev pub TakesPiece : (front front' : Protocol) (wire wire' : Stream) (fed fed' : ℕ) → Option EndedBy → Type 0
TakesPiece front front' wire wire' fed fed' None =
    (piece : List ℕ) × Moves wire wire' piece [] × (fed' ≡ fed + length piece) × SpellsOn front piece front'
TakesPiece front front' wire wire' fed fed' (Some how) =
    ((how ≡ ended.ReadFault) × Moves wire wire' [] [])
    ⊎ (((how ≡ ended.Memory) × (unfed : List ℕ) × Moves wire wire' unfed [] × SpellsOn front [] front' × (fed + length unfed ≤ LAST_OFFSET))
    ⊎ (IsOut wire.input fed × (middle : Stream) × Moves wire middle [] [] × Finishes front middle wire' how))
