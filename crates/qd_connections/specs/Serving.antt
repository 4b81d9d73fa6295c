-- What serving all connections of a listener does.
use Rattle.std.specs.Prelude.{◌≡◌, ℕ, ◌≤◌, Bool, List, [], map, Result}
use Rattle.qd_fronts.specs.declared.front.FrontKind.{FrontKind}
use Rattle.qd_host.specs.Hosts.{Supply}
use Rattle.qd_io.specs.declared.fault.IoFault.{IoFault}
use Rattle.qd_io.specs.Ends.{Stream, counts_together}
use Rattle.qd_net.specs.Arrivals.{Arrivals}
use Rattle.qd_server.specs.Accepting.{Ends, IsWithin, Takes}
use Rattle.qd_session.specs.Looks.{Extends}
use Rattle.qd_shared.specs.Passes.{Pass, history_of, view_of}
use Rattle.qd_connections.specs.Accounts.{IsAccount}
use Rattle.qd_connections.specs.Making.{after_serving}

-- a host that gave clocks, was given wires back, and was told of refused starts
abbrev pub after_all : Supply → Supply → Supply
after_all now supply = record (after_serving now supply) { starts_failed = now.starts_failed }

module _ {W : Type 0} (stream : W → Stream) where
  -- Some wires were taken, the first ones of the listener; each of them was served, or turned away, or given up, and given back. As many
  -- were turned away as starts of threads were refused.
  pub record ServesAll (kind : FrontKind) (began now : Supply) (old new : Arrivals W) (first main : Pass) (starved : Bool) (most : ℕ) (ended : Result ℕ IoFault) : Type 0 where
    pub wires : List W
    pub takes : Takes wires old.ahead new.ahead
    pub refused : ℕ
    pub account : IsAccount kind main began.returned now.returned starved (map stream wires) [] refused
    pub counted : now.starts_failed ≡ counts_together began.starts_failed refused
    pub ends : Ends wires most old.ahead new.ahead new.closed ended
    pub within : IsWithin wires most
    pub rest : now ≡ after_all now began
    pub table : main.table ≡ first.table
    pub grows : Extends (history_of first) (history_of main)
    pub origin : main.knows.origin ≡ first.knows.origin
    -- it may be split as often as the first one could, so all that were split off it have gone into it
    pub room : (view_of first).room ≤ (view_of main).room
