use Rattle.std.proofs.Common.{◌∙◌, ℕ, ap}
use Rattle.qd_base.specs.declared.request.Reply.TheVariants as reply
use Rattle.qd_fronts.specs.declared.front.AnyFront.{AnyFront}
use Rattle.qd_fronts.specs.Fronts.{any_protocol, begun}
use Rattle.qd_connections.proofs.Turned.{said_as}
use Rattle.qd_connections.proofs.away.turn_away.Goals as goal

pub returns-in-Ok : goal.returns-in-Ok
returns-in-Ok g c =
    record {
      turned = said_as c.args.kind (g.W.Ends.stream c.args.wire.now) (g.W.Ends.stream c.write_all.new.sink) c.bytes.result.now c.write_all.result
          (c.bytes.ensures.same ∙ c.in-Ok.ensures.bytes ∙ ap (λ (f : AnyFront). (any_protocol f).printed (reply.Refused c.number.result 0)) c.new-front.ensures.begun ∙ ap (λ (n : ℕ). (any_protocol (begun c.args.kind)).printed (reply.Refused n 0)) c.number.ensures.number)
          c.write_all.ensures.told c.write_all.ensures.rest;
    }
