use Rattle.qd_score.specs.Rule.{sight_of}
use Rattle.qd_score.specs.Calls.{view_of}
use Rattle.qd_score.specs.Counted.{book_of}
use Rattle.qd_score.proofs.Bare.{may_give}
use Rattle.qd_score.proofs.tests.gives.Goals as goal

pub give-requires-clause-may : goal.give-requires-clause-may
give-requires-clause-may c = (sight_of (book_of c.args.hold.book), c.requires.held, may_give (view_of c.args.seat.now) (book_of c.args.hold.book) c.requires.bare)
