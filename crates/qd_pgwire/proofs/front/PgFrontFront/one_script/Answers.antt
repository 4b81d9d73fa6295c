use Rattle.qd_pgwire.proofs.ScriptLemmas.{one_script, some_script}
use Rattle.qd_pgwire.proofs.front.PgFrontFront.one_script.Goals as goal

pub returns-clause-some : goal.returns-clause-some
returns-clause-some c = some_script c.args.self.now

pub returns-clause-one : goal.returns-clause-one
returns-clause-one c = one_script c.args.self.now
