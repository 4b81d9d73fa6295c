use Rattle.qd_ilp.proofs.Places.{unquoted_place}
use Rattle.qd_ilp.proofs.cut.unquoted_end.Goals as goal

pub returns-clause-closed : goal.returns-clause-closed
returns-clause-closed c = unquoted_place c.args.text.now c.behind.result.now c.args.at c.unquoted_bytes.result c.behind.ensures.rest c.unquoted_bytes.ensures.closed
