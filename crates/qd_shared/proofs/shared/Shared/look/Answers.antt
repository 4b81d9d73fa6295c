use Rattle.std.proofs.Common.{ap, sym, ◌∙◌}
use Rattle.qd_score.specs.Calls.{known_by}
use Rattle.qd_shared.specs.Passes.{Pass}
use Rattle.qd_shared.proofs.Seated.{looks}
use Rattle.qd_shared.proofs.shared.Shared.look.Goals as goal

pub returns : goal.returns
returns g c =
    let same = c.give.ensures.seat.sits.of ∙ sym (ap (λ (p : Pass). p.table) c.pass.view_is ∙ c.requires.pass) in
    record {
      holds = looks c.args.pass.now c.pass.inside.seat.table_id c.give.new.seat.table_id (known_by c.pass.inside.seat) (known_by c.take-hold.new.seat) (known_by c.give.new.seat) c.pass.view_is c.pass.invariant.2 c.take-hold.result.book
          c.take-hold.ensures.begins c.take-hold.ensures.along same c.take-hold.ensures.may c.give.ensures.gave c.give.ensures.counted;
    }
