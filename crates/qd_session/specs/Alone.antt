-- The rule of a backend whose one session alone writes and applies.
use Rattle.std.specs.Prelude.{◌≡◌, ℕ, ◌+◌, ◌≤◌, ◌⊎◌, List, Option, Some, None, Ok}
use Rattle.qd_base.specs.Codes.{number_of}
use Rattle.qd_base.specs.declared.code.Code.TheVariants as code
use Rattle.qd_base.specs.declared.op.Entry.{Entry}
use Rattle.qd_base.specs.declared.request.Request.{Request}
use Rattle.qd_base.specs.declared.request.Request.TheVariants as request
use Rattle.qd_base.specs.declared.request.Reply.{Reply}
use Rattle.qd_base.specs.declared.request.Reply.TheVariants as reply
use Rattle.qd_base.specs.Database.{schemas_of}
use Rattle.qd_base.specs.Replay.{first}
use Rattle.qd_meaning.specs.Write.{write}
use Rattle.qd_sql_ast.specs.declared.tree.Stmt.{Stmt}
use Rattle.qd_session.specs.Allowed.{Allowed, SaysBatch}
use Rattle.qd_session.specs.Asking.{asks_for}
use Rattle.qd_sql_ast.specs.Kinds.{IsWrite}
use Rattle.qd_session.specs.Looks.{Look}

-- How many transactions are applied behind a request whose reply doesn't say it: as many as before, or behind an apply that failed no
-- fewer.
abbrev pub StaysApplied : Request → (before now : ℕ) → Type 0
StaysApplied request.Apply before now = before ≤ now
StaysApplied asked before now = now ≡ before

-- Only an apply changes what is applied, to what its reply says; and a query is over just that.
abbrev pub IsOfLastApply : (before now : Look) → Request → Reply → Type 0
IsOfLastApply before now asked (reply.Applied n) = now.known ≡ n
IsOfLastApply before now asked (reply.Rows n table) = (now.known ≡ before.known) × (n ≡ before.known)
IsOfLastApply before now asked (reply.QueryRefused n number place) = (now.known ≡ before.known) × (n ≡ before.known)
IsOfLastApply before now asked given = StaysApplied asked before.known now.known

-- only an acknowledged write is one transaction more
abbrev pub sequenced_behind : ℕ → Reply → ℕ
sequenced_behind n (reply.Done m) = n + 1
sequenced_behind n given = n

abbrev pub CountsAlone : (before now : Look) → Reply → Type 0
CountsAlone before now given = now.sequenced ≡ sequenced_behind before.sequenced given

-- The transaction that a request says, over the schemas of the first transactions: that of a batch, or of a statement that writes.
abbrev pub SaysOwn : List Entry → (sequenced time : ℕ) → Request → Entry → Type 0
SaysOwn h sequenced time (request.Write text) e = SaysBatch (schemas_of (first h sequenced)) time text (Ok e)
SaysOwn h sequenced time (request.Sql text) e = (s : Stmt) × (asks_for text ≡ Ok s) × IsWrite s × (write (schemas_of (first h sequenced)) s ≡ Ok e)
SaysOwn h sequenced time request.Apply e = ⊥
SaysOwn h sequenced time request.End e = ⊥

-- a fault of the volume, or want of memory, leaves open whether a transaction was written
abbrev pub LeavesOpen : ℕ → Type 0
LeavesOpen number = (number ≡ number_of code.Volume) ⊎ (number ≡ number_of code.Memory)

-- Which transaction may have been left behind the others: one that may have been before, or the request's own, where a reply leaves
-- that open. An acknowledged write settles it.
abbrev pub MayLeave : List Entry → (before now : Look) → (time : ℕ) → Request → Reply → Entry → Type 0
MayLeave h before now time asked (reply.Done n) e = ⊥
MayLeave h before now time asked (reply.Refused number place) e = (before.pending ≡ Some e) ⊎ (LeavesOpen number × SaysOwn h now.sequenced time asked e)
MayLeave h before now time asked given e = before.pending ≡ Some e

-- no other is left, where the transactions are told
abbrev pub MayPend : Option (List Entry) → (before now : Look) → (time : ℕ) → Request → Reply → Type 0
MayPend None before now time asked given = Unit {0}
MayPend (Some h) before now time asked given = (e : Entry) → now.pending ≡ Some e → MayLeave h before now time asked given e

-- The rule of the product, and what is exact where one session alone writes and applies.
abbrev pub AllowedAlone : Option (List Entry) → (before now : Look) → (time : ℕ) → Request → Reply → Type 0
AllowedAlone history before now time asked given =
    Allowed history before now time asked given × IsOfLastApply before now asked given × CountsAlone before now given × MayPend history before now time asked given
