-- An account of connections: what became of those that are over, and which are being served.
use Rattle.std.specs.Prelude.{◌≡◌, ℕ, ◌+◌, ◌≤◌, Bool, false, List, [], ◌++◌, map, All, Option, Some, None}
use Rattle.std.specs.List.{flat_map}
use Rattle.std.specs.List.Sorted.{IsPermutation}
use Rattle.qd_fronts.specs.declared.front.FrontKind.{FrontKind}
use Rattle.qd_io.specs.Ends.{Stream}
use Rattle.qd_score_model.specs.declared.view.Mode.TheVariants.{Writer}
use Rattle.qd_score_model.specs.declared.view.Phase.TheVariants.{Idle}
use Rattle.qd_shared.specs.Passes.{Pass, history_of, view_of}
use Rattle.qd_connections.specs.Connections.{Connection, IsFated, IsTaken, numbers_of, refusals_in}
use Rattle.qd_connections.specs.Visits.{Visit}

-- these wires were given back to a host that tells them in the end
abbrev pub CameBack : (old new : Option (List Stream)) → List Stream → Type 0
CameBack old None back = Unit {0}
CameBack None (Some all) back = ⊥
CameBack (Some old) (Some all) back = all ≡ old ++ back

-- a visit is by this protocol, and by a pass that was split off the main one, and nothing is its own yet
pub record IsOfMain (kind : FrontKind) (main : Pass) (v : Visit) : Type 0 where
  pub front : v.front ≡ kind
  pub table : v.pass.table ≡ main.table
  pub origin : v.pass.knows.origin ≡ main.knows.origin
  pub new : (view_of v.pass).own ≡ []

-- Of the wires that were taken each is served still, or over and given back, once. The main pass has seen what the sessions that are
-- over have seen, and the transactions that they acknowledged are its own.
pub record IsAccount (kind : FrontKind) (main : Pass) (returned returned' : Option (List Stream)) (starved : Bool) (taken : List Stream) (out : List Visit) (refused : ℕ) : Type 0 where
  pub over : List Connection
  pub once : IsPermutation taken (map (λ c. c.before) over ++ map (λ v. v.wire) out)
  pub each : All (IsFated kind (history_of main)) over
  pub own : IsPermutation (flat_map numbers_of over) (view_of main).own
  pub back : CameBack returned returned' (map (λ c. c.after) over)
  pub turned : refusals_in over ≡ refused
  pub fed : starved ≡ false → All (λ c. IsTaken c.fate) over
  pub of_main : All (IsOfMain kind main) out

-- The main pass, of which so many are split off: it may be split further while fewer are out than may be.
pub record IsMain (main : Pass) (out most : ℕ) : Type 0 where
  pub mode : (view_of main).mode ≡ Writer
  pub idle : (view_of main).phase ≡ Idle
  pub room : most ≤ (view_of main).room + out
