use Rattle.qd_query.proofs.Told.{none_begun}
use Rattle.qd_query.proofs.sources.first_needed.Goals as goal

pub returns-then-first-gt0-clause-begun : goal.returns-then-first-gt0-clause-begun
returns-then-first-gt0-clause-begun c = none_begun c.args.parts.now _ c.args.lo c.requires c.if-first-gt0.true
