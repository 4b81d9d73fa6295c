-- What is seen of a front of one protocol or another.
use Rattle.std.specs.Prelude.{[]}
use Rattle.qd_base.specs.Script.{Protocol}
use Rattle.qd_frames.specs.Frames.{frames_protocol}
use Rattle.qd_http.specs.Steps.{first_https, https_protocol}
use Rattle.qd_pgwire.specs.Steps.{first_pgs, pg_protocol}
use Rattle.qd_fronts.specs.declared.front.AnyFront.{AnyFront}
use Rattle.qd_fronts.specs.declared.front.AnyFront.TheVariants as front
use Rattle.qd_fronts.specs.declared.front.FrontKind.{FrontKind}
use Rattle.qd_fronts.specs.declared.front.FrontKind.TheVariants as kind

-- as a session sees it
abbrev pub any_protocol : AnyFront → Protocol
any_protocol (front.Frames f) = frames_protocol f
any_protocol (front.Http f) = https_protocol f
any_protocol (front.Pg f) = pg_protocol f

-- a front to which nothing has been fed
abbrev pub begun : FrontKind → AnyFront
begun kind.Frames = front.Frames (record { waiting = []; start = 0 })
begun kind.Http = front.Http first_https
begun kind.Pg = front.Pg first_pgs
