-- What the session of a connection did.
use Rattle.std.specs.Prelude.{◌≡◌, ◌≢◌, Some}
use Rattle.qd_fronts.specs.declared.front.AnyFront.{AnyFront}
use Rattle.qd_fronts.specs.declared.front.FrontKind.{FrontKind}
use Rattle.qd_fronts.specs.Fronts.{any_protocol, begun}
use Rattle.qd_io.specs.Clocks.{Timeline}
use Rattle.qd_io.specs.Ends.{Stream}
use Rattle.qd_score_model.specs.declared.view.Mode.TheVariants.{Keeper}
use Rattle.qd_score_model.specs.declared.view.Phase.TheVariants.{Idle}
use Rattle.qd_session.specs.declared.ended.Ended.{Ended}
use Rattle.qd_session.specs.Looks.{Extends}
use Rattle.qd_session.specs.Session.{Faults, Serves, moment}
use Rattle.qd_shared.specs.Passes.{Pass, history_of, view_of}
use Rattle.qd_pass.specs.Passed.{GoesStill, IsReady, shown_by}
use Rattle.qd_pass.specs.Shared.{AllowedShared}

-- what contracts see of a connection before its session: the protocol that it speaks, its wire, the clock that the session reads, and
-- its pass
pub record Visit : Type 0 where
  pub front : FrontKind
  pub wire : Stream
  pub clock : Timeline
  pub pass : Pass

-- a pass may be given to a session
pub record MayVisit (p : Pass) : Type 0 where
  pub idle : (view_of p).phase ≡ Idle
  pub kind : (view_of p).mode ≢ Keeper

-- and behind it
pub record Visited : Type 0 where
  pub wire : Stream
  pub clock : Timeline
  pub pass : Pass
  pub ended : Ended

-- A session began with its pass, which looked at the store once, and went on as sessions do: what was written is the replies to
-- what was read by its protocol, and these are legal over what its pass has seen in the end.
pub record IsServed (v : Visit) (o : Visited) : Type 0 where
  pub from : Pass
  pub looked : GoesStill v.pass from
  pub later : AnyFront
  pub served : Serves AllowedShared (moment (any_protocol (begun v.front)) (shown_by from) v.wire v.clock) (moment (any_protocol later) (shown_by o.pass) o.wire o.clock) o.ended
  pub history : Extends (history_of from) (history_of o.pass)
  pub faults : Faults v.wire o.wire (Some o.ended)
  pub ready : IsReady o.pass
  pub table : o.pass.table ≡ v.pass.table
