-- What the reader of a front of HTTP holds.
use Rattle.std.specs.Prelude.{◌≡◌, ◌≢◌, ℕ, ◌+◌, ◌<◌, ◌≤◌, ◌⊎◌, ◌==◌, ◌||◌, Bool, true, false, if◌then◌else◌, List, [], ◌∷◌, ◌++◌, length, map, take, Some, None, option_copied}
use Rattle.httparse.specs.Grammar.{RequestHead, print_request, ReadsRequest, NeverHasRequest}
use Rattle.httparse.specs.Borrowed.{header_parts}
use Rattle.httparse.specs.declared.borrowed.Request.{Request}
use Rattle.qd_base.specs.declared.limits.TheConstants.{LAST_OFFSET}
use Rattle.qd_http.specs.declared.limits.TheConstants.{MAX_FIELDS, MAX_HEAD_BYTES}
use Rattle.qd_http.specs.declared.lines.Lines.{Lines}
use Rattle.qd_http.specs.declared.lines.Lines.TheVariants as lines
use Rattle.qd_http.specs.declared.lines.Search.{Search}
use Rattle.qd_http.specs.declared.lines.Found.{Found}
use Rattle.qd_http.specs.declared.lines.Found.TheVariants as found
use Rattle.qd_http.specs.declared.head.Order.{Order}
use Rattle.qd_http.specs.declared.head.Head.{Head}
use Rattle.qd_http.specs.declared.head.Head.TheVariants as read
use Rattle.qd_http.specs.declared.reader.Stage.{Stage}
use Rattle.qd_http.specs.declared.reader.Stage.TheVariants as stage
use Rattle.qd_http.specs.declared.reader.Reader.{Reader}
use Rattle.qd_http.specs.Heads.{BeginsHead}
use Rattle.qd_http.specs.Fields.{body_size, pairs_of}
use Rattle.qd_http.specs.Targets.{wanted_of}
use Rattle.qd_http.specs.declared.reply.Asked.{Asked}
use Rattle.qd_http.specs.Steps.{Https, is_last}

-- what one more byte makes of the lines so far
abbrev pub lines_after : Lines → ℕ → Lines
lines_after lines.Before b = if b == 13 || b == 10 then lines.Before else lines.Inside
lines_after lines.Inside b = if b == 10 then lines.AfterLine else lines.Inside
lines_after lines.AfterLine b = if b == 10 then lines.Done else (if b == 13 then lines.AfterReturn else lines.Inside)
lines_after lines.AfterReturn b = if b == 10 then lines.Done else lines.Inside
lines_after lines.Done b = lines.Done

-- what bytes make of them
abbrev pub lines_from : Lines → List ℕ → Lines
lines_from state [] = state
lines_from state (b ∷ bytes) = lines_from (lines_after state b) bytes

abbrev pub lines_of : List ℕ → Lines
lines_of bytes = lines_from lines.Before bytes

-- a search has looked at the first of these bytes, and the head doesn't end there
pub record IsSearch (s : Search) (bytes : List ℕ) : Type 0 where
  pub within : s.seen ≤ length bytes
  pub state : s.lines ≡ lines_of (take s.seen bytes)
  pub open_ : s.lines ≢ lines.Done

-- what a search finds: the head ends behind the first n bytes and not before, or it doesn't end in these
abbrev pub Finds : List ℕ → Found → Type 0
Finds bytes (found.End n) = (before : List ℕ) × (last : ℕ) × (take n bytes ≡ before ++ last ∷ []) × (n ≤ length bytes) × (lines_of before ≢ lines.Done) × (lines_of (before ++ last ∷ []) ≡ lines.Done)
Finds bytes (found.Open s) = IsSearch s bytes × (s.seen ≡ length bytes)

-- the head ends with the last of these bytes
pub record EndsWithHead (bytes : List ℕ) : Type 0 where
  pub before : List ℕ
  pub last : ℕ
  pub is : bytes ≡ before ++ last ∷ []
  pub open_ : lines_of before ≢ lines.Done
  pub done : lines_of bytes ≡ lines.Done

-- an order is that of a head
pub record IsOrderOf (order : Order) (head : RequestHead) : Type 0 where
  pub wanted : order.wanted ≡ wanted_of head.method head.target
  pub size : order.head ≡ length (print_request head)
  pub body : body_size (pairs_of head) ≡ Some order.body
  pub last : order.last ≡ is_last head

-- the parts of a parsed request are those of a head
pub record HasParts (request : Request) (len : ℕ) (head : RequestHead) : Type 0 where
  pub len_is : len ≡ length (print_request head)
  pub method : option_copied request.method ≡ Some head.method
  pub path : option_copied request.path ≡ Some head.target
  pub version : request.version ≡ Some head.minor
  pub fields : map header_parts request.headers.now ≡ pairs_of head

-- what a head asks
abbrev pub OrdersBy : RequestHead → Head → Type 0
OrdersBy head read.Wrong = (length head.fields ≤ MAX_FIELDS) × (body_size (pairs_of head) ≡ None)
OrdersBy head read.Overfull = MAX_FIELDS < length head.fields
OrdersBy head (read.Whole order) = (length head.fields ≤ MAX_FIELDS) × IsOrderOf order head

-- what bytes that end with an empty line are: no head, however they go on, or one
abbrev pub ReadsHead : List ℕ → Head → Type 0
ReadsHead bytes what = ((what ≡ read.Wrong) × NeverHasRequest bytes) ⊎ ((head : RequestHead) × ReadsRequest bytes head [] × OrdersBy head what)

-- the bytes begin with the head of an order
pub record HasOrder (order : Order) (bytes : List ℕ) : Type 0 where
  pub head : RequestHead
  pub rest : List ℕ
  pub begins : BeginsHead bytes head rest
  pub is : IsOrderOf order head

-- the bytes begin with a head of too many fields
pub record IsOverfull (bytes : List ℕ) : Type 0 where
  pub head : RequestHead
  pub rest : List ℕ
  pub reads : ReadsRequest bytes head rest
  pub many : MAX_FIELDS < length head.fields

-- what is known of the bytes that wait
abbrev pub IsAt : Stage → List ℕ → Type 0
IsAt (stage.Head search) bytes = IsSearch search (take MAX_HEAD_BYTES bytes)
IsAt stage.Overfull bytes = IsOverfull bytes
IsAt (stage.Body order) bytes = HasOrder order bytes
IsAt stage.Closing bytes = Unit {0}

abbrev pub is_closing : Stage → Bool
is_closing (stage.Head search) = false
is_closing stage.Overfull = false
is_closing (stage.Body order) = false
is_closing stage.Closing = true

-- what holds of a reader between two calls: no offset passes the last one
pub record IsSound (r : Reader) : Type 0 where
  pub room : r.start + length r.queue ≤ LAST_OFFSET
  pub at : IsAt r.stage r.queue

-- what is seen of a reader
abbrev pub https_of : Reader → Asked → Https
https_of r asked = record { waiting = r.queue; start = r.start; closing = is_closing r.stage; asked = asked }

-- nothing that is seen of a reader has changed
abbrev pub IsUnchanged : (old new : Reader) → Type 0
IsUnchanged old new = (new.queue ≡ old.queue) × (new.start ≡ old.start) × (is_closing new.stage ≡ is_closing old.stage)

-- a head has come
abbrev pub IsBody : Stage → Type 0
IsBody (stage.Head search) = ⊥
IsBody stage.Overfull = ⊥
IsBody (stage.Body order) = Unit {0}
IsBody stage.Closing = ⊥
