-- What the maker of the works of connections keeps.
use Rattle.std.specs.Prelude.{◌≡◌, ℕ, ◌≤◌, Bool, length, map}
use Rattle.std.specs.Borrow.{GName}
use Rattle.atomic_table.specs.Seated.{TableId}
use Rattle.qd_fronts.specs.declared.front.FrontKind.{FrontKind}
use Rattle.qd_host.specs.Hosts.{Supply}
use Rattle.qd_io.specs.Ends.{Stream}
use Rattle.qd_server.specs.declared.maker.TheConstants.{MOST}
use Rattle.qd_server.specs.Works.{Works}
use Rattle.qd_session.specs.Looks.{Extends}
use Rattle.qd_shared.specs.Passes.{Pass, history_of}
use Rattle.qd_connections.specs.Accounts.{IsAccount, IsMain}
use Rattle.qd_connections.specs.Visits.{Visit}

-- a host that gave clocks and was given wires back
abbrev pub after_serving : Supply → Supply → Supply
after_serving now supply = record supply { clock_times = now.clock_times; clock_faults = now.clock_faults; returned = now.returned }

-- The host is the one that was lent, and shows what it showed but for clocks and wires; and the main pass is of the store that was shared.
pub record IsLent (lender lender' : GName) (began now : Supply) (table : TableId) (first main : Pass) : Type 0 where
  pub same : lender' ≡ lender
  pub rest : now ≡ after_serving now began
  pub shared : table ≡ first.table
  pub of : main.table ≡ first.table
  pub origin : main.knows.origin ≡ first.knows.origin
  pub grows : Extends (history_of first) (history_of main)

module _ {W : Type 0} (stream : W → Stream) where
  -- An account of works is one of connections. The main pass may be split so often as it could at first, but for those that are out.
  pub record IsCounted (kind : FrontKind) (spare : ℕ) (began now : Supply) (main : Pass) (starved : Bool) (s : Works W Visit) : Type 0 where
    pub account : IsAccount kind main began.returned now.returned starved (map stream s.taken) s.out (length s.unstarted)
    pub main_is : IsMain main (length s.out) spare
    pub enough : MOST ≤ spare
