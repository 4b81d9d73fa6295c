use Rattle.std.proofs.Common.{ap}
use Rattle.qd_score.specs.Rule.{sight_of}
use Rattle.qd_score.specs.Calls.{view_of}
use Rattle.qd_score.specs.Counted.{book_of}
use Rattle.qd_score.proofs.Bare.{may_give_back}
use Rattle.qd_score.proofs.tests.has_a_turn.Goals as goal

pub give-requires-clause-may : goal.give-requires-clause-may
give-requires-clause-may g c = (sight_of (book_of c.take-hold.result.book), ap (λ k. k.view.hold) c.take-hold.ensures.took, may_give_back (view_of c.take-hold.new.seat) (book_of c.take-hold.result.book) c.take-hold.ensures.finds)
