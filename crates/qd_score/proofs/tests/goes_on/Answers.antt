use Rattle.std.proofs.Common.{rules}
use Rattle.qd_score.specs.Rule.{sight_of}
use Rattle.qd_score.specs.Counted.{book_of, bare}
use Rattle.qd_score.proofs.Bare.{may_make_live}
use Rattle.qd_score.proofs.tests.goes_on.Goals as goal

pub go_live-hold-requires-clause-may : goal.go_live-hold-requires-clause-may
go_live-hold-requires-clause-may c = (sight_of (book_of c.args.hold.book), c.requires.held, (bare 1, search rules, may_make_live (book_of c.args.hold.book) c.requires.first c.requires.full))
