use Rattle.std.proofs.Common.{subst}
use Rattle.std.proofs.Common.{Option}
use Rattle.std.specs.Arc.{arc_value}
use Rattle.qd_session.specs.Looks.{IsCounted}
use Rattle.qd_shared.specs.Passes.{Pass}
use Rattle.qd_pass.specs.Backs.{back_shown}
use Rattle.qd_pass.proofs.Backing.{back_counted}
use Rattle.qd_pass.proofs.back.PassBackBackend.is_counted.Goals as goal

pub returns : goal.returns
returns g c = record { counted = subst (λ (o : Option Pass). IsCounted (back_shown o)) c.self.view_is (back_counted (arc_value c.self.inside.shared) c.self.inside.session c.self.invariant) }
