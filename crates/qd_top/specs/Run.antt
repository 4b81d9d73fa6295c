-- What a run of the program took and wrote, by its status.
use Rattle.std.specs.Prelude.{◌≡◌, ℕ, ◌+◌, ◌-◌, ◌≤◌, ◌⊎◌, ◌≢◌, List, [], ◌∷◌, ◌++◌, codes, length, map, take, drop, All, Option, Some, None, IfSome, Result, Ok, Err}
use Rattle.std.specs.List.{flat_map, range_with_len}
use Rattle.std.specs.List.Sorted.{IsPermutation}
use Rattle.qd_store_backend.specs.Volumes.{HoldsTold, IsDamagedAt, IsUnopened, KeepsTold}
use Rattle.qd_base.specs.declared.limits.TheConstants.{LAST_OFFSET}
use Rattle.qd_base.specs.declared.op.Entry.{Entry}
use Rattle.qd_base.specs.declared.request.Request.{Request}
use Rattle.qd_base.specs.declared.request.Reply.{Reply}
use Rattle.qd_base.specs.declared.request.Reply.TheVariants as reply
use Rattle.qd_base.specs.Script.{Ending}
use Rattle.qd_connections.specs.Accounts.{CameBack}
use Rattle.qd_connections.specs.Connections.{Connection, IsFated, IsTaken, numbers_of, refusals_in}
use Rattle.qd_durable.specs.Moments.{Told}
use Rattle.qd_host.specs.Hosts.{Supply, and_named, risen}
use Rattle.qd_io.specs.Clocks.{Timeline}
use Rattle.qd_io.specs.Ends.{HasRisen, Stream, counts_together}
use Rattle.qd_frames.specs.Frames.{Steps}
use Rattle.qd_gen.specs.Generated.{input as generated}
use Rattle.qd_print.specs.Printed.{reply_bytes}
use Rattle.qd_score_model.specs.Kept.{RisesWithin}
use Rattle.qd_gen.specs.Quieted.{without_done}
use Rattle.qd_session.specs.Alone.{AllowedAlone, LeavesOpen, SaysOwn, StaysApplied}
use Rattle.qd_session.specs.Legal.{Legal, done_numbers}
use Rattle.qd_session.specs.Looks.{Extends, Look}
use Rattle.qd_session.specs.Session.{IsBad, IsClean, IsWaiting, IsWrittenUpTo, PutTo, TakenFrom, refusal}
use Rattle.qd_store.specs.Marks.{IsMade}
use Rattle.qd_store.specs.Opening.{IsDamaged}
use Rattle.qd_volume.specs.Disk.{Disk, reads_of}
use Rattle.qd_top.specs.declared.status.Status.{Status}
use Rattle.qd_top.specs.declared.status.Status.TheVariants as status
use Rattle.qd_top.specs.Status.{number_of}
use Rattle.qd_args.specs.declared.command.Command.{Command}
use Rattle.qd_args.specs.declared.command.Spoken.{Spoken}
use Rattle.qd_args.specs.declared.command.Spoken.TheVariants as spoken
use Rattle.qd_fronts.specs.declared.front.FrontKind.{FrontKind}
use Rattle.qd_fronts.specs.declared.front.FrontKind.TheVariants as kind
use Rattle.qd_args.specs.declared.command.Command.TheVariants as command
use Rattle.qd_args.specs.Words.{Asks, IsCommand}

-- the line that other words are answered with
abbrev pub usage : List ℕ
usage = codes "usage: tsdb run [--dir D] | gen NUMBER LINES | serve PORT --dir D [--connections N] [--front F]" ++ 10 ∷ []

-- replies, printed one behind the other
abbrev pub printed : (Reply → List ℕ) → List Reply → List ℕ
printed print replies = flat_map print replies

-- the bytes of the last of some replies
abbrev pub last_printed : (Reply → List ℕ) → List Reply → List ℕ
last_printed print [] = []
last_printed print (given ∷ []) = print given
last_printed print (given ∷ next ∷ replies) = last_printed print (next ∷ replies)

-- What went through two ends: what there was to read and what is left of it, and what was written before and is now.
pub record Traffic : Type 0 where
  pub input : Option (List ℕ)
  pub left : Option (List ℕ)
  pub output : Option (List ℕ)
  pub written : Option (List ℕ)

-- between two moments of an input and of an output
abbrev pub traffic : (input input' output output' : Stream) → Traffic
traffic input input' output output' = record { input = input.input; left = input'.input; output = output.output; written = output'.output }

-- ---- a session over a store

-- what a run begins with, and what it ends with
pub record Store : Type 0 where
  -- the transactions, where they are told, and how many there are
  pub history : Option (List Entry)
  pub sequenced : ℕ
  -- how many of them are applied
  pub applied : ℕ
  -- the transaction that a write that failed may have left behind them, where they are told
  pub pending : Option Entry
  -- how many calls of the volume have failed
  pub volume_faults : ℕ
  pub clock : Timeline

-- what a session knows of a store
abbrev pub look_of : Store → Look
look_of s = record { sequenced = s.sequenced; known = s.applied; clock = s.clock; volume_faults = s.volume_faults; pinned = []; pending = s.pending }

-- The history grew by the transactions of the `K` replies, in order, and by nothing else.
pub record IsOwn (before after : Store) (replies : List Reply) : Type 0 where
  pub grows : Extends before.history after.history
  pub numbers : done_numbers replies ≡ range_with_len (before.sequenced + 1) (after.sequenced - before.sequenced)

-- Each apply gives the number of all transactions that were acknowledged before it, of which n were before these replies.
abbrev pub AppliesAll : ℕ → List Reply → Type 0
AppliesAll n [] = Unit {0}
AppliesAll n (reply.Done m ∷ replies) = AppliesAll (n + 1) replies
AppliesAll n (reply.Applied m ∷ replies) = (m ≡ n) × AppliesAll n replies
AppliesAll n (given ∷ replies) = AppliesAll n replies

-- Each query is answered over just what the last apply before it gave, which was n before these replies; or behind an apply that failed
-- over what that left, which is no less.
abbrev pub AnswersLast : ℕ → List Request → List Reply → Type 0
AnswersLast n [] [] = Unit {0}
AnswersLast n [] (given ∷ replies) = ⊥
AnswersLast n (asked ∷ requests) [] = ⊥
AnswersLast n (asked ∷ requests) (reply.Applied m ∷ replies) = AnswersLast m requests replies
AnswersLast n (asked ∷ requests) (reply.Rows m table ∷ replies) = (m ≡ n) × AnswersLast n requests replies
AnswersLast n (asked ∷ requests) (reply.QueryRefused m number place ∷ replies) = (m ≡ n) × AnswersLast n requests replies
AnswersLast n (asked ∷ requests) (given ∷ replies) = (m : ℕ) × StaysApplied asked n m × AnswersLast m requests replies

-- A request says this transaction, and was answered that the volume failed, or that no memory was found.
abbrev pub IsFailedWrite : List Entry → (sequenced : ℕ) → Request → Reply → Entry → Type 0
IsFailedWrite h sequenced asked (reply.Refused number place) e = LeavesOpen number × (time : ℕ) × SaysOwn h sequenced time asked e
IsFailedWrite h sequenced asked given e = ⊥

-- One of these requests was such a write, and no acknowledged write is behind it.
abbrev pub IsLeftBy : List Entry → (sequenced : ℕ) → List Request → List Reply → Entry → Type 0
IsLeftBy h sequenced [] replies e = ⊥
IsLeftBy h sequenced (asked ∷ requests) [] e = ⊥
IsLeftBy h sequenced (asked ∷ requests) (given ∷ replies) e =
    (IsFailedWrite h sequenced asked given e × (done_numbers replies ≡ [])) ⊎ IsLeftBy h sequenced requests replies e

-- A transaction may have been left behind the others: before the replies, or by the write of one of their requests, which failed.
abbrev pub LeavesOwn : Option (List Entry) → (before after : Store) → List Request → List Reply → Type 0
LeavesOwn None before after requests replies = Unit {0}
LeavesOwn (Some h) before after requests replies = (e : Entry) → after.pending ≡ Some e → (before.pending ≡ Some e) ⊎ IsLeftBy h after.sequenced requests replies e

-- The replies of one session alone over a store: legal, and exact where nobody else writes or applies.
pub record Replied (before after : Store) (requests : List Request) (replies : List Reply) : Type 0 where
  pub legal : Legal AllowedAlone after.history (look_of before) (look_of after) requests replies
  pub own : IsOwn before after replies
  pub applies : AppliesAll before.sequenced replies
  pub answers : AnswersLast before.applied requests replies
  pub left : LeavesOwn after.history before after requests replies

-- A run over frames: the bytes taken from the input, the requests that they spell and how they end, and the replies, one
-- for each request, from a store to the one that it left.
pub record Run (before after : Store) (t : Traffic) : Type 0 where
  pub taken : List ℕ
  pub requests : List Request
  pub ending : Ending
  pub replies : List Reply
  pub from : TakenFrom t.input t.left taken
  pub short : length taken ≤ LAST_OFFSET
  pub spelled : Steps 0 taken requests ending
  pub replied : Replied before after requests replies

-- what a run may be, from one store to another: one of the relations below
abbrev pub RunKind : Type 1
RunKind = (Reply → List ℕ) → (before after : Store) → Traffic → Type 0

-- Status 0: the bytes taken are whole frames up to the end of the input or to a request for the end, and the bytes
-- written are the replies.
abbrev pub FinishedRun : RunKind
FinishedRun print before after t =
    (r : Run before after t) × IsClean t.input r.taken r.ending × PutTo t.output t.written (printed print r.replies)

-- Status 2: the same up to the first bytes that are no frame, or to a frame inside which the input ended; its place is
-- answered, and nothing after it.
abbrev pub RefusedRun : RunKind
RefusedRun print before after t =
    (r : Run before after t) × (place : ℕ) × IsBad t.input r.taken r.ending place reply_bytes × PutTo t.output t.written (printed print r.replies ++ reply_bytes (refusal place))

-- Status 3: the bytes written are the replies to all requests of the bytes taken.
abbrev pub StoppedRun : RunKind
StoppedRun print before after t =
    (r : Run before after t) × IsWaiting r.ending × PutTo t.output t.written (printed print r.replies)

-- Statuses 4 and 7: the bytes written are such a transcript, but for an end of its last reply. The replies are those to the first
-- requests of the bytes taken, and nothing is carried out behind a reply that wasn't written whole; where there is no later request,
-- the refusal of a bad frame may stand behind them.
pub record CutRun (print : Reply → List ℕ) (before after : Store) (t : Traffic) : Type 0 where
  pub taken : List ℕ
  pub requests : List Request
  pub later : List Request
  pub ending : Ending
  pub replies : List Reply
  pub written : List ℕ
  pub from : TakenFrom t.input t.left taken
  pub short : length taken ≤ LAST_OFFSET
  pub spelled : Steps 0 taken (requests ++ later) ending
  pub replied : Replied before after requests replies
  pub put : PutTo t.output t.written written
  pub front : IsWrittenUpTo (printed print replies) (last_printed print replies) written
      ⊎ ((later ≡ []) × (place : ℕ) × IsBad t.input taken ending place reply_bytes
      × IsWrittenUpTo (printed print replies ++ reply_bytes (refusal place)) (reply_bytes (refusal place)) written)

-- a session over a store that ended with a status
abbrev pub RanOver : (Reply → List ℕ) → (before after : Store) → Traffic → Status → Type 0
RanOver print before after t status.Finished = FinishedRun print before after t
RanOver print before after t status.BadFrame = RefusedRun print before after t
RanOver print before after t status.ReadFault = StoppedRun print before after t
RanOver print before after t status.WriteFault = CutRun print before after t
RanOver print before after t status.NoMemory = CutRun print before after t
RanOver print before after t other = ⊥

-- ---- the volume of the host

-- the clock that a host gives: no call of it was made
abbrev pub fresh : Supply → Timeline
fresh host = record { ahead = host.clock_times; faults = 0 }

-- a volume is told, and is damaged at some place
abbrev pub IsDamagedTold : Option Disk → Type 0
IsDamagedTold None = ⊥
IsDamagedTold (Some disk) = IsMade (reads_of disk) × (file : ℕ) × (at : ℕ) × IsDamaged (reads_of disk) file at

-- What a run begins with: the clock that the host gave, and the store on its volume, which is nowhere damaged. Where a history is told,
-- it is that; and just so many transactions are applied as the volume's version shows.
pub record IsBegun (found : Option (List Entry)) (host : Supply) (before : Store) : Type 0 where
  pub clock : before.clock ≡ fresh host
  pub history : before.history ≡ found
  pub count : IfSome found (λ h. before.sequenced ≡ length h)
  pub shown : IfSome found (λ h. (n : ℕ) → HoldsTold host.shelf h n → before.applied ≡ n)
  pub within : before.applied ≤ before.sequenced
  pub undamaged : IsDamagedTold host.shelf → ⊥
  pub settled : before.pending ≡ None

-- What a run leaves: the host has taken back its clock and its volume, and has counted just the faults that a session saw. Where a history is told, a crash
-- leaves it whole, with a version of no fewer transactions than are applied; a write that failed may stand behind it, where one may
-- have been left.
pub record IsEnded (host host' : Supply) (before after : Store) : Type 0 where
  pub clock_faults : host'.clock_faults ≡ counts_together host.clock_faults after.clock.faults
  pub volume_faults : host'.volume_faults ≡ counts_together host.volume_faults (risen before.volume_faults after.volume_faults)
  pub kept : IfSome after.history (λ h. KeepsTold host'.shelf h after.pending after.applied)

-- A run over the store of the host's volume, which was opened, or made where there was none: R holds from what it began with to what
-- it left.
pub record Stored (found : Option (List Entry)) (host host' : Supply) (R : Store → Store → Type 0) : Type 0 where
  pub before : Store
  pub after : Store
  pub begun : IsBegun found host before
  pub ended : IsEnded host host' before after
  pub ran : R before after

-- No store was opened, and no clock was read; of the input nothing was read, and these bytes were written.
pub record Unserved (host host' : Supply) (t : Traffic) (bytes : List ℕ) : Type 0 where
  pub unread : t.left ≡ t.input
  pub put : PutTo t.output t.written bytes
  pub clock_faults : host'.clock_faults ≡ host.clock_faults

-- The volume couldn't be had, or its store couldn't be opened or made: nothing was written.
pub record Unopened (host host' : Supply) (t : Traffic) : Type 0 where
  pub unserved : Unserved host host' t []
  pub volume : Told host.shelf host'.shelf IsUnopened

-- The files of a store are damaged: nothing but the place was written, or a prefix of that.
pub record FoundDamage (host host' : Supply) (t : Traffic) (missing : List ℕ) : Type 0 where
  pub file : ℕ
  pub at : ℕ
  pub bytes : List ℕ
  pub unserved : Unserved host host' t bytes
  pub volume : Told host.shelf host'.shelf (IsDamagedAt file at)
  pub place : reply_bytes (reply.Damaged file at) ≡ bytes ++ missing

-- ---- a command, by its status

-- what a command may have done, over the host's volume: one of the relations below
abbrev pub CommandKind : Type 1
CommandKind = (Reply → List ℕ) → (found : Option (List Entry)) → (host host' : Supply) → Traffic → Type 0

-- a session of some kind
abbrev pub OverStore : RunKind → CommandKind
OverStore R print found host host' t = Stored found host host' (λ before after. R print before after t)

-- Status 4: a write failed, in a session or at the place of a damage.
abbrev pub CutShort : CommandKind
CutShort print found host host' t = OverStore CutRun print found host host' t ⊎ ((missing : List ℕ) × FoundDamage host host' t missing)

-- Status 5: the volume failed while its store was opened or made, and nothing was read or written.
abbrev pub NoVolume : CommandKind
NoVolume print found host host' t = Unopened host host' t × HasRisen host.volume_faults host'.volume_faults

-- Status 6: the files are damaged, and nothing but the place was written.
abbrev pub Damaged : CommandKind
Damaged print found host host' t = FoundDamage host host' t []

-- Status 7: no memory was found, in a session, or before one.
abbrev pub OutOfMemory : CommandKind
OutOfMemory print found host host' t = CutShort print found host host' t ⊎ Unopened host host' t

-- what a command did, where it ended with a status
abbrev pub Ran : (Reply → List ℕ) → Option (List Entry) → (host host' : Supply) → Traffic → Status → Type 0
Ran print found host host' t status.Finished = OverStore FinishedRun print found host host' t
Ran print found host host' t status.Usage = ⊥
Ran print found host host' t status.BadFrame = OverStore RefusedRun print found host host' t
Ran print found host host' t status.ReadFault = OverStore StoppedRun print found host host' t
Ran print found host host' t status.WriteFault = CutShort print found host host' t
Ran print found host host' t status.NoVolume = NoVolume print found host host' t
Ran print found host host' t status.Damaged = Damaged print found host host' t
Ran print found host host' t status.NoMemory = OutOfMemory print found host host' t
Ran print found host host' t status.NoListener = ⊥

-- the usage line was written, or a prefix of it
abbrev pub WroteUsage : (output output' : Option (List ℕ)) (missing : List ℕ) → Type 0
WroteUsage output output' missing = (written : List ℕ) × PutTo output output' written × (usage ≡ written ++ missing)

-- the part of an input that offsets reach
abbrev pub reached : List ℕ → List ℕ
reached bytes = take LAST_OFFSET bytes

-- a told input is whole frames, to its end or to a request for the end, as far as offsets reach
abbrev pub IsWellFramed : Option (List ℕ) → Type 0
IsWellFramed None = ⊥
IsWellFramed (Some bytes) = (requests : List Request) (ending : Ending) → Steps 0 (reached bytes) requests ending → IsClean (Some (reached bytes)) (reached bytes) ending

-- The count of failed reads has risen exactly at the status of a failed read.
abbrev pub CountsReads : ℕ → ℕ → Status → Type 0
CountsReads before now status.ReadFault = (before ≤ now) × HasRisen before now
CountsReads before now s = now ≡ before

-- The count of failed writes has risen exactly at the status of a failed write; at that of other words, where the usage
-- line could not be written.
abbrev pub CountsWrites : ℕ → ℕ → Status → Type 0
CountsWrites before now status.WriteFault = (before ≤ now) × HasRisen before now
CountsWrites before now status.Usage = before ≤ now
CountsWrites before now s = now ≡ before

-- what a host was asked for, folders of volumes or ports of listeners, grew by this one, or by none where none is named
abbrev pub AsksFor : {A : Type 0} → (old new : Option (List A)) → Option A → Type 0
AsksFor None new name = new ≡ None
AsksFor (Some names) new name = new ≡ Some (and_named names name)

-- ---- connections served over a store

-- these wires are the first ones of a listener, where those are told
abbrev pub AreFirst : List Stream → Option (List Stream) → Type 0
AreFirst taken None = Unit {0}
AreFirst taken (Some wires) = (rest : List Stream) × (wires ≡ taken ++ rest)

-- they are as many as were asked for, where that isn't 0, or all of them, where those are told
abbrev pub AreEnough : ℕ → List Stream → Option (List Stream) → Type 0
AreEnough most taken wires = ((most ≢ 0) × (length taken ≡ most)) ⊎ IfSome wires (λ all. taken ≡ all)

-- A volume keeps this history, and behind it at most one transaction, of a write that failed.
abbrev pub KeepsSome : Option Disk → List Entry → Type 0
KeepsSome shelf h = (left : Option Entry) × (n : ℕ) × KeepsTold shelf h left n

-- Connections of a listener, from the first one on, and at most so many where that isn't 0, were served over the store of the host's
-- volume, which the host has taken back.
pub record ServedAll (kind : FrontKind) (found : Option (List Entry)) (host host' : Supply) (most : ℕ) (s : Status) : Type 0 where
  -- the transactions in the end: those that were found are a front of them
  pub history : Option (List Entry)
  pub grows : Extends found history
  -- a crash leaves them whole
  pub kept : IfSome history (KeepsSome host'.shelf)
  -- the wires that were taken, which are the first ones, and what became of each: it is given back, once
  pub taken : List Stream
  pub over : List Connection
  pub first : AreFirst taken host.wires
  pub within : most ≢ 0 → length taken ≤ most
  -- it has finished once enough were taken
  pub enough : s ≡ status.Finished → AreEnough most taken host.wires
  pub once : IsPermutation taken (map (λ c. c.before) over)
  pub back : CameBack host.returned host'.returned (map (λ c. c.after) over)
  pub each : All (IsFated kind history) over
  -- no number was acknowledged twice: put in order they rise, up to no more than there are transactions
  pub numbers : List ℕ
  pub own : IsPermutation (flat_map numbers_of over) numbers
  pub count : ℕ
  pub apart : RisesWithin 0 count numbers
  pub counted_in : IfSome history (λ h. count ≤ length h)
  -- they are just those of the transactions behind the ones that were found
  pub nothing_else : IfSome found (λ before. IfSome history (λ h. numbers ≡ range_with_len (length before + 1) (length h - length before)))
  -- as many connections were turned away as starts of threads were refused
  pub turned : host'.starts_failed ≡ counts_together host.starts_failed (refusals_in over)
  -- none was given back as it came, but where no memory was found
  pub fed : (s ≡ status.NoMemory → ⊥) → All (λ c. IsTaken c.fate) over

-- Connections were served, over a store that was opened, or made where there was none. The listener is that of the port that was named;
-- where no memory was found, none may have been asked for. The program's own input and output were left alone.
pub record OverPort (kind : FrontKind) (found : Option (List Entry)) (host host' : Supply) (port most : ℕ) (t : Traffic) (s : Status) : Type 0 where
  pub before : Store
  pub begun : IsBegun found host before
  pub all : ServedAll kind found host host' most s
  pub listens : AsksFor host.ports host'.ports (Some port) ⊎ ((s ≡ status.NoMemory) × (host'.ports ≡ host.ports))
  pub unread : t.left ≡ t.input
  pub put : PutTo t.output t.written []

-- What serving a port did, where it ended with a status. Where no store was opened, no listener was asked for.
abbrev pub ServedPort : FrontKind → (found : Option (List Entry)) → (host host' : Supply) → (port most : ℕ) → Traffic → Status → Type 0
ServedPort kind found host host' port most t status.Finished = OverPort kind found host host' port most t status.Finished
ServedPort kind found host host' port most t status.Usage = ⊥
ServedPort kind found host host' port most t status.BadFrame = ⊥
ServedPort kind found host host' port most t status.ReadFault = ⊥
ServedPort kind found host host' port most t status.WriteFault = (missing : List ℕ) × FoundDamage host host' t missing × (host'.ports ≡ host.ports)
ServedPort kind found host host' port most t status.NoVolume = Unopened host host' t × HasRisen host.volume_faults host'.volume_faults × (host'.ports ≡ host.ports)
ServedPort kind found host host' port most t status.Damaged = FoundDamage host host' t [] × (host'.ports ≡ host.ports)
ServedPort kind found host host' port most t status.NoMemory =
    OverPort kind found host host' port most t status.NoMemory ⊎ ((((missing : List ℕ) × FoundDamage host host' t missing) ⊎ Unopened host host' t) × (host'.ports ≡ host.ports))
ServedPort kind found host host' port most t status.NoListener = OverPort kind found host host' port most t status.NoListener × HasRisen host.listener_faults host'.listener_faults

-- ---- a command

-- what a program shows at a moment of what it was given: its input, its output and its host
pub record Outside : Type 0 where
  pub input : Stream
  pub output : Stream
  pub host : Supply

abbrev pub outside : Stream → Stream → Supply → Outside
outside input output host = record { input = input; output = output; host = host }

-- the protocol that a word names
abbrev pub kind_of : Spoken → FrontKind
kind_of spoken.Frames = kind.Frames
kind_of spoken.Http = kind.Http
kind_of spoken.Pg = kind.Pg

-- how many connections are served at most, where 0 is no end
abbrev pub limit_of : Option ℕ → ℕ
limit_of None = 0
limit_of (Some most) = most

-- What a command did, by the tables `Ran` and `ServedPort`: `run` serves the input; `gen` the one that it makes, of which something is
-- left, and prints no replies that acknowledge a write; `serve` serves connections.
abbrev pub Served : Command → (found : Option (List Entry)) → (old new : Outside) → Status → Type 0
Served (command.Run dir) found old new s = Ran reply_bytes found old.host new.host (traffic old.input new.input old.output new.output) s
Served (command.Gen number lines) found old new s =
    (left : Option (List ℕ)) × Ran (without_done reply_bytes) found old.host new.host (record { input = Some (generated number lines); left = left; output = old.output.output; written = new.output.output }) s
Served (command.Serve port dir most spoken) found old new s = ServedPort (kind_of spoken) found old.host new.host port (limit_of most) (traffic old.input new.input old.output new.output) s

-- the folder whose store a command serves, where it names one
abbrev pub folder_of : Command → Option (List ℕ)
folder_of (command.Run dir) = dir
folder_of (command.Gen number lines) = None
folder_of (command.Serve port dir most spoken) = Some dir

-- the numbers that a command may end with: over the generated input, which is whole frames in memory, no frame is bad and
-- no read fails
abbrev pub EndsWith : Command → ℕ → Type 0
EndsWith (command.Run dir) number = (number ≡ 0) ⊎ (number ≡ 2) ⊎ (number ≡ 3) ⊎ (number ≡ 4) ⊎ (number ≡ 5) ⊎ (number ≡ 6) ⊎ (number ≡ 7)
EndsWith (command.Gen number_given lines) number = (number ≡ 0) ⊎ (number ≡ 4) ⊎ (number ≡ 5) ⊎ (number ≡ 6) ⊎ (number ≡ 7)
EndsWith (command.Serve port dir most spoken) number = (number ≡ 0) ⊎ (number ≡ 4) ⊎ (number ≡ 5) ⊎ (number ≡ 6) ⊎ (number ≡ 7) ⊎ (number ≡ 8)

-- what `run` serves is whole frames, where that is told; what `gen` serves always is; `serve` finishes whatever is sent
abbrev pub IsServedWell : Command → Option (List ℕ) → Type 0
IsServedWell (command.Run dir) input = IsWellFramed input
IsServedWell (command.Gen number lines) input = Unit {0}
IsServedWell (command.Serve port dir most spoken) input = Unit {0}

-- no count of failures has risen: of reads, of writes, of the volume, and of listeners
pub record NoneFailed (old new : Outside) : Type 0 where
  pub reads : HasRisen old.input.reads_failed new.input.reads_failed → ⊥
  pub writes : HasRisen old.output.writes_failed new.output.writes_failed → ⊥
  pub volume : HasRisen old.host.volume_faults new.host.volume_faults → ⊥
  pub listener : HasRisen old.host.listener_faults new.host.listener_faults → ⊥

-- What a command did where the program ended with a number.
pub record Did (asked : Command) (found : Option (List Entry)) (old new : Outside) (number : ℕ) : Type 0 where
  pub ends : EndsWith asked number
  pub ran : (s : Status) × (number ≡ number_of s) × Served asked found old new s
  -- the folder that is opened is the one that was named; where no memory was found, none may have been
  pub folder : AsksFor old.host.folders new.host.folders (folder_of asked) ⊎ ((number ≡ 7) × (new.host.folders ≡ old.host.folders))
  -- over whole frames and a volume that isn't made or is whole, and where no count rises, it finishes unless memory runs out
  pub complete : (h : List Entry) → found ≡ Some h → IsServedWell asked old.input.input → NoneFailed old new → (number ≡ 0) ⊎ (number ≡ 7)
  -- over a damaged volume, and where no count rises, it says where, unless memory runs out
  pub damaged : IsDamagedTold old.host.shelf → NoneFailed old new → (number ≡ 6) ⊎ (number ≡ 7)

-- whether words are those of `run`
abbrev pub AsksToRun : List (List ℕ) → Type 0
AsksToRun words = (dir : Option (List ℕ)) × Asks (command.Run dir) words

-- the words behind a program's name; none where the machine gives no arguments
abbrev pub words_behind : {A E : Type 0} → (A → List (List ℕ)) → Result A E → List (List ℕ)
words_behind words (Ok arguments) = drop 1 (words arguments)
words_behind words (Err fault) = []

-- the statuses behind which nothing of the input was read: where there is no store to serve it by
abbrev pub IsUnserved : ℕ → Type 0
IsUnserved number = (number ≡ 5) ⊎ (number ≡ 6)

-- What the top call says of these words, and of a status.
pub record Answered (given : List (List ℕ)) (found : Option (List Entry)) (old new : Outside) (number : ℕ) : Type 0 where
  pub statuses : number ≤ 8
  -- only words that ask for no command are answered with the usage line, and with nothing else
  pub words : number ≡ 1 → IsCommand given → ⊥
  pub other_words : (IsCommand given → ⊥) → (number ≡ 1) ⊎ (number ≡ 7)
  pub usage : number ≡ 1 → (missing : List ℕ) × WroteUsage old.output.output new.output.output missing × ((missing ≡ []) ⊎ HasRisen old.output.writes_failed new.output.writes_failed)
  pub other_output : (IsCommand given → ⊥) → (missing : List ℕ) × WroteUsage old.output.output new.output.output missing
  pub unread : (AsksToRun given → ⊥) ⊎ IsUnserved number → new.input ≡ old.input
  pub unused : (IsCommand given → ⊥) → new.host ≡ old.host
  -- what the command that the words ask for took and wrote
  pub did : (asked : Command) → Asks asked given → Did asked found old new number
  -- causes: a count of reads or of writes rises exactly where its fault is the status, the usage line apart; that of listeners rises there
  pub read_cause : number ≡ 3 → HasRisen old.input.reads_failed new.input.reads_failed
  pub reads_stay : (number ≡ 3 → ⊥) → new.input.reads_failed ≡ old.input.reads_failed
  pub write_cause : number ≡ 4 → HasRisen old.output.writes_failed new.output.writes_failed
  pub writes_stay : (number ≡ 4 → ⊥) → (number ≡ 1 → ⊥) → new.output.writes_failed ≡ old.output.writes_failed
  pub listener_cause : number ≡ 8 → HasRisen old.host.listener_faults new.host.listener_faults
