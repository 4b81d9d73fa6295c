-- What serving a port does, in its steps.
use Rattle.std.specs.Prelude.{◌≡◌, ◌≢◌, ◌⊎◌, ℕ, ◌≤◌, Bool, true, false, List, length, map, All, Some, IfSome, Result, Ok, Err}
use Rattle.std.specs.List.{flat_map}
use Rattle.std.specs.List.Sorted.{IsPermutation}
use Rattle.qd_connections.specs.Accounts.{CameBack}
use Rattle.qd_connections.specs.Connections.{Connection, IsFated, IsTaken, numbers_of, refusals_in}
use Rattle.qd_fronts.specs.declared.front.FrontKind.{FrontKind}
use Rattle.qd_host.specs.Hosts.{Supply}
use Rattle.qd_io.specs.Ends.{HasRisen, Stream, counts_together}
use Rattle.qd_io.specs.declared.fault.IoFault.{IoFault}
use Rattle.qd_io.specs.declared.fault.IoFault.TheVariants as fault
use Rattle.qd_session.specs.Looks.{Extends}
use Rattle.qd_shared.specs.Desks.{Desk, items_in}
use Rattle.qd_shared.specs.Passes.{Pass, history_of, view_of}
use Rattle.qd_top.specs.declared.status.Status.{Status}
use Rattle.qd_top.specs.declared.status.Status.TheVariants as status
use Rattle.qd_top.specs.Run.{AreEnough, AreFirst, AsksFor}

-- the status where there is no listener, or it has failed
abbrev pub listener_status : IoFault → Status
listener_status fault.Failed = status.NoListener
listener_status fault.Memory = status.NoMemory

-- the status of serving that ended so, where there was no memory for a connection or there was for all
abbrev pub serving_status : (starved : Bool) → Result ℕ IoFault → Status
serving_status true ended = status.NoMemory
serving_status false (Ok count) = status.Finished
serving_status false (Err fault) = listener_status fault

-- the statuses where a store was opened to serve connections
abbrev pub EndsServing : Status → Type 0
EndsServing status.Finished = Unit {0}
EndsServing status.NoMemory = Unit {0}
EndsServing status.NoListener = Unit {0}
EndsServing other = ⊥

-- A listener of this port was asked for, but where no memory was found; the status says that one failed only where that was counted; and
-- no folder was asked for.
pub record Listens (host host' : Supply) (port : ℕ) (s : Status) : Type 0 where
  pub ports : AsksFor host.ports host'.ports (Some port) ⊎ ((s ≡ status.NoMemory) × (host'.ports ≡ host.ports))
  pub failed : s ≡ status.NoListener → HasRisen host.listener_faults host'.listener_faults
  pub ends : EndsServing s
  pub folders : host'.folders ≡ host.folders

-- Connections were served by passes that were split off the first one, and joined to the last.
pub record ServedBy (kind : FrontKind) (first last : Pass) (host host' : Supply) (most : ℕ) (s : Status) : Type 0 where
  pub taken : List Stream
  pub over : List Connection
  pub ahead : AreFirst taken host.wires
  pub within : most ≢ 0 → length taken ≤ most
  pub once : IsPermutation taken (map (λ c. c.before) over)
  pub back : CameBack host.returned host'.returned (map (λ c. c.after) over)
  pub each : All (IsFated kind (history_of last)) over
  pub own : IsPermutation (flat_map numbers_of over) (view_of last).own
  pub turned : host'.starts_failed ≡ counts_together host.starts_failed (refusals_in over)
  pub fed : (s ≡ status.NoMemory → ⊥) → All (λ c. IsTaken c.fate) over
  pub enough : s ≡ status.Finished → AreEnough most taken host.wires
  pub grows : Extends (history_of first) (history_of last)
  -- all passes that were split off have gone into the last one
  pub origin : last.knows.origin ≡ first.knows.origin
  pub room : (view_of first).room ≤ (view_of last).room

-- the pass that a store was shared with first: it has seen as many transactions as there were, where they are told
pub record IsFirst (first : Pass) : Type 0 where
  pub desk : Desk
  pub origin : first.knows.origin ≡ Some desk
  pub count : IfSome (history_of first) (λ h. length (items_in desk) ≡ length h)
