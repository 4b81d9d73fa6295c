-- What became of a connection.
use Rattle.std.specs.Prelude.{◌≡◌, ℕ, zero, suc, List, [], ◌∷◌, ◌++◌, Option}
use Rattle.qd_base.specs.Codes.{number_of as code_number}
use Rattle.qd_base.specs.declared.code.Code.TheVariants as code
use Rattle.qd_base.specs.declared.op.Entry.{Entry}
use Rattle.qd_base.specs.declared.request.Reply.TheVariants as reply
use Rattle.qd_io.specs.Ends.{Stream}
use Rattle.qd_fronts.specs.declared.front.FrontKind.{FrontKind}
use Rattle.qd_fronts.specs.Fronts.{any_protocol, begun}
use Rattle.qd_session.specs.Looks.{Extends}
use Rattle.qd_session.specs.Session.{PutTo}
use Rattle.qd_shared.specs.Passes.{history_of, view_of}
use Rattle.qd_connections.specs.Visits.{IsServed, Visit, Visited}

-- what a connection may come to: its session acknowledged the transactions of these numbers; it was turned away, since no thread could
-- be started for it; or it was given back as it came, since there was no memory for it
pub data Fate : Type 0 where
  served : List ℕ → Fate
  turned_away : Fate
  given_up : Fate

-- a connection as its listener gave it, and as the host was given it back
pub record Connection : Type 0 where
  pub before : Stream
  pub after : Stream
  pub fate : Fate

-- A session was held over the connection, by this protocol. What it saw in the end is a beginning of the history, and the transactions
-- of these numbers are its own.
pub record IsSession (kind : FrontKind) (history : Option (List Entry)) (before after : Stream) (numbers : List ℕ) : Type 0 where
  pub visit : Visit
  pub out : Visited
  pub served : IsServed visit out
  pub speaks : visit.front ≡ kind
  pub before_is : visit.wire ≡ before
  pub after_is : out.wire ≡ after
  pub new : (view_of visit.pass).own ≡ []
  pub own : (view_of out.pass).own ≡ numbers
  pub seen : Extends (history_of out.pass) history

-- the refusal of a connection for which no thread could be started, as its protocol prints it
abbrev pub no_worker : FrontKind → List ℕ
no_worker kind = (any_protocol (begun kind)).printed (reply.Refused (code_number code.NoWorker) 0)

-- Nothing was taken from a connection, and the refusal was written to it: whole, or in part where a write failed or no memory was found.
pub record IsTurnedAway (kind : FrontKind) (before after : Stream) : Type 0 where
  pub unread : after.input ≡ before.input
  pub written : List ℕ
  pub missing : List ℕ
  pub put : PutTo before.output after.output written
  pub refusal : no_worker kind ≡ written ++ missing

abbrev pub HasFate : FrontKind → Option (List Entry) → (before after : Stream) → Fate → Type 0
HasFate kind history before after (served numbers) = IsSession kind history before after numbers
HasFate kind history before after turned_away = IsTurnedAway kind before after
HasFate kind history before after given_up = after ≡ before

abbrev pub IsFated : FrontKind → Option (List Entry) → Connection → Type 0
IsFated kind history c = HasFate kind history c.before c.after c.fate

abbrev pub acknowledged : Fate → List ℕ
acknowledged (served numbers) = numbers
acknowledged turned_away = []
acknowledged given_up = []

-- the numbers of the transactions that the replies to a connection acknowledge
abbrev pub numbers_of : Connection → List ℕ
numbers_of c = acknowledged c.fate

abbrev pub and_refused : Fate → ℕ → ℕ
and_refused (served numbers) n = n
and_refused turned_away n = suc n
and_refused given_up n = n

-- how many connections were turned away
abbrev pub refusals_in : List Connection → ℕ
refusals_in [] = zero
refusals_in (c ∷ cs) = and_refused c.fate (refusals_in cs)

-- the connection was not given back as it came
abbrev pub IsTaken : Fate → Type 0
IsTaken (served numbers) = Unit {0}
IsTaken turned_away = Unit {0}
IsTaken given_up = ⊥
