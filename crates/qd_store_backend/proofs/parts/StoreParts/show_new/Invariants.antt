use Rattle.std.proofs.Common.{◌-◌}
use Rattle.qd_store_backend.specs.Backs.{current, n_in}
use Rattle.qd_store_backend.proofs.Turns.{Rounded}
use Rattle.qd_store_backend.proofs.parts.StoreParts.show_new.Given as goal

abbrev pub invariant-rounds : goal.invariant-rounds
invariant-rounds g l = Rounded l.initial.self l.self

abbrev pub decreases-rounds : goal.decreases-rounds
decreases-rounds g l = l.upto - n_in (current l.self.owned.store)
