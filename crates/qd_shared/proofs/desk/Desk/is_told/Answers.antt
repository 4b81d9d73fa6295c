use Rattle.std.proofs.Common.{subst}
use Rattle.qd_shared.specs.Commits.{IsCounted}
use Rattle.qd_shared.specs.Desks.{Desk}
use Rattle.qd_shared.proofs.Desking.{counted_of}
use Rattle.qd_shared.proofs.desk.Desk.is_told.Goals as goal

pub returns-clause-counted : goal.returns-clause-counted
returns-clause-counted g c =
    let d : Desk = record { owned = c.self.inside.store; history = c.self.inside.telling.history; removed = c.self.inside.removed } in
    subst IsCounted c.self.view_is (counted_of d c.self.invariant)
