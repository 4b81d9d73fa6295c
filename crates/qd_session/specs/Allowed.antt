-- The rule of the product: which reply may come to which request.
use Rattle.std.specs.Prelude.{◌≡◌, ℕ, ◌-◌, ◌<◌, ◌≤◌, ◌⊎◌, List, Option, Some, None, IfSome, slice_get, Result, Ok, Err}
use Rattle.qd_io.specs.Ends.{HasRisen}
use Rattle.qd_base.specs.Codes.{number_of}
use Rattle.qd_base.specs.declared.code.Code.{Code}
use Rattle.qd_base.specs.declared.code.Code.TheVariants as code
use Rattle.qd_base.specs.declared.op.Entry.{Entry}
use Rattle.qd_base.specs.declared.schema.Schema.{Schema}
use Rattle.qd_base.specs.declared.request.Request.{Request}
use Rattle.qd_base.specs.declared.request.Request.TheVariants as request
use Rattle.qd_base.specs.declared.request.Reply.{Reply}
use Rattle.qd_base.specs.declared.request.Reply.TheVariants as reply
use Rattle.qd_base.specs.Database.{Database, schemas_of}
use Rattle.qd_base.specs.Replay.{first}
use Rattle.qd_ilp.specs.Transaction.{Says, start}
use Rattle.qd_ilp.specs.Whole.{IsReading, Reading}
use Rattle.qd_sql_ast.specs.declared.tree.Stmt.{Stmt}
use Rattle.qd_sql.specs.declared.stmt.SqlFault.TheVariants as fault
use Rattle.qd_meaning.specs.declared.refusal.Refusal.{Refusal}
use Rattle.qd_meaning.specs.Answer.{answer}
use Rattle.qd_meaning.specs.Write.{write}
use Rattle.qd_session.specs.Asking.{asks_for}
use Rattle.qd_sql_ast.specs.Kinds.{IsQuestion, IsWrite}
use Rattle.qd_session.specs.Looks.{Look}
use Rattle.qd_session.specs.Timing.{LacksTime}
use Rattle.qd_base.specs.declared.limits.TheConstants.{MAX_TXNS}

-- What the lines of a batch say over the schemas of the tables that are there, with the time of those without a stamp: their
-- transaction, or a code and the number of the line that has it.
abbrev pub SaysBatch : List Schema → (time : ℕ) → (text : List ℕ) → Result Entry (Code × ℕ) → Type 0
SaysBatch schemas time text said = (reading : Reading) × IsReading text reading × Says time (start schemas) 1 reading.lines reading.whole said

-- transaction n of the history, counted from 1, has P
abbrev pub HasTransaction : List Entry → ℕ → (Entry → Type 0) → Type 0
HasTransaction history n P = (entry : Entry) × (slice_get history (n - 1) ≡ Some entry) × P entry

-- want of memory is free
abbrev pub IsWantOfMemory : ℕ → ℕ → Type 0
IsWantOfMemory number place = (number ≡ number_of code.Memory) × (place ≡ 0)

-- the volume failed in this request
abbrev pub IsVolumeFault : Look → Look → ℕ → ℕ → Type 0
IsVolumeFault before now number place = (number ≡ number_of code.Volume) × (place ≡ 0) × HasRisen before.volume_faults now.volume_faults

-- a refusal that any request but that for the end may meet
abbrev pub IsFault : Look → Look → ℕ → ℕ → Type 0
IsFault before now number place = IsWantOfMemory number place ⊎ IsVolumeFault before now number place

-- the codes of lines
abbrev pub IsLineCode : ℕ → Type 0
IsLineCode number = (number_of code.LineSyntax ≤ number) × (number ≤ number_of code.TooManyCells)

-- The clock failed in this request, which is a batch that lacks a time.
abbrev pub IsClockFault : Look → Look → List ℕ → ℕ → ℕ → Type 0
IsClockFault before now text number place =
    (number ≡ number_of code.Clock) × (place ≡ 0) × LacksTime text × HasRisen before.clock.faults now.clock.faults

-- A batch is refused over the schemas of the first transactions: for its first line that has a code, by the least one.
abbrev pub IsRefusedBatch : Option (List Entry) → (sequenced time : ℕ) → List ℕ → ℕ → ℕ → Type 0
IsRefusedBatch None sequenced time text number place = IsLineCode number
IsRefusedBatch (Some h) sequenced time text number place =
    (c : Code) × (number ≡ number_of c) × SaysBatch (schemas_of (first h sequenced)) time text (Err (c, place))

-- A batch that has no refusal of its own is refused where there are as many transactions as a store may hold: its lines say
-- a transaction over the schemas of the first transactions.
abbrev pub IsFullBatch : Option (List Entry) → (sequenced time : ℕ) → List ℕ → ℕ → ℕ → Type 0
IsFullBatch history sequenced time text number place =
    (number ≡ number_of code.Full) × (place ≡ 0) × (MAX_TXNS ≤ sequenced)
    × IfSome history (λ h. (entry : Entry) × SaysBatch (schemas_of (first h sequenced)) time text (Ok entry))

-- A statement that writes is refused over some schemas: by the code and the place of that refusal of all which goes first.
abbrev pub IsRefusalOver : List Schema → Stmt → ℕ → ℕ → Type 0
IsRefusalOver schemas s number place = (r : Refusal) × (write schemas s ≡ Err r) × (number ≡ number_of r.code) × (place ≡ r.place)

-- it is refused over the schemas of the first transactions
abbrev pub IsRefusedWrite : Option (List Entry) → (sequenced : ℕ) → Stmt → ℕ → ℕ → Type 0
IsRefusedWrite None sequenced s number place = (schemas : List Schema) × IsRefusalOver schemas s number place
IsRefusedWrite (Some h) sequenced s number place = IsRefusalOver (schemas_of (first h sequenced)) s number place

-- It has no refusal of its own, and is refused where there are as many transactions as a store may hold: it writes a
-- transaction over the schemas of the first ones.
abbrev pub IsFullWrite : Option (List Entry) → (sequenced : ℕ) → Stmt → ℕ → ℕ → Type 0
IsFullWrite history sequenced s number place =
    (number ≡ number_of code.Full) × (place ≡ 0) × (MAX_TXNS ≤ sequenced)
    × IfSome history (λ h. (entry : Entry) × (write (schemas_of (first h sequenced)) s ≡ Ok entry))

-- A statement that asks is refused over a database: by the code and the place of that refusal of all which goes first.
abbrev pub HasNoAnswer : Database → Stmt → ℕ → ℕ → Type 0
HasNoAnswer db s number place = (r : Refusal) × (answer db s ≡ Err r) × (number ≡ number_of r.code) × (place ≡ r.place)

-- it is refused over the first n transactions; where these aren't told, nothing is said of it
abbrev pub IsRefusedQuestion : Option (List Entry) → (n : ℕ) → Stmt → ℕ → ℕ → Type 0
IsRefusedQuestion None n s number place = Unit {0}
IsRefusedQuestion (Some h) n s number place = HasNoAnswer (first h n) s number place

-- a number that the answers between two looks may be over
abbrev pub IsBetween : Look → Look → ℕ → Type 0
IsBetween before now n = (before.known ≤ n) × (n ≤ now.known)

-- What a reply to a request says, between the look before it and the look at it. What it says of transactions holds where
-- the history is told.
abbrev pub Allowed : Option (List Entry) → (before now : Look) → (time : ℕ) → Request → Reply → Type 0
-- a batch becomes transaction n, the last one now, over the schemas of those before it
Allowed history before now time (request.Write text) (reply.Done n) =
    (n ≡ now.sequenced) × (before.sequenced < n) × IfSome history (λ h. HasTransaction h n (λ entry. SaysBatch (schemas_of (first h (n - 1))) time text (Ok entry)))
Allowed history before now time (request.Write text) (reply.Refused number place) =
    IsRefusedBatch history now.sequenced time text number place
    ⊎ (IsFullBatch history now.sequenced time text number place ⊎ (IsClockFault before now text number place ⊎ IsFault before now number place))
-- a statement that writes becomes transaction n, the last one now, over the schemas of those before it
Allowed history before now time (request.Sql text) (reply.Done n) =
    (s : Stmt) × (asks_for text ≡ Ok s) × IsWrite s × (n ≡ now.sequenced) × (before.sequenced < n)
    × IfSome history (λ h. HasTransaction h n (λ entry. write (schemas_of (first h (n - 1))) s ≡ Ok entry))
-- a statement that asks is answered over the first n transactions: by its table, or by that refusal of all which goes first
Allowed history before now time (request.Sql text) (reply.Rows n table) =
    (s : Stmt) × (asks_for text ≡ Ok s) × IsQuestion s × IsBetween before now n × (n ≤ now.sequenced) × IfSome history (λ h. answer (first h n) s ≡ Ok table)
Allowed history before now time (request.Sql text) (reply.QueryRefused n number place) =
    (s : Stmt) × (asks_for text ≡ Ok s) × IsQuestion s × IsBetween before now n × (n ≤ now.sequenced) × IsRefusedQuestion history n s number place
-- any other text is refused as it is, and a statement that writes may be refused: as it is, or where the store is full
Allowed history before now time (request.Sql text) (reply.Refused number place) =
    ((c : Code) × (number ≡ number_of c) × (asks_for text ≡ Err (fault.Refused c place)))
    ⊎ (((s : Stmt) × (asks_for text ≡ Ok s) × IsRefusedWrite history now.sequenced s number place)
    ⊎ (((s : Stmt) × (asks_for text ≡ Ok s) × IsWrite s × IsFullWrite history now.sequenced s number place) ⊎ IsFault before now number place))
-- a statement that asks may find damage, only where the history isn't told: a told one is that of a whole store, which has none
Allowed history before now time (request.Sql text) (reply.Damaged file at) = (s : Stmt) × (asks_for text ≡ Ok s) × IsQuestion s × (history ≡ None)
-- all that was sequenced at the look before is applied
Allowed history before now time request.Apply (reply.Applied n) =
    IsBetween before now n × (before.sequenced ≤ n) × (n ≤ now.sequenced)
Allowed history before now time request.Apply (reply.Refused number place) = IsFault before now number place
-- so may an apply
Allowed history before now time request.Apply (reply.Damaged file at) = history ≡ None
Allowed history before now time request.End reply.Bye = Unit {0}
Allowed history before now time asked given = ⊥
