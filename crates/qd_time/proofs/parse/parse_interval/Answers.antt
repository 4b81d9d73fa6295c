use Rattle.qd_time.proofs.IntervalLemmas.{is_ok, is_range, is_form}
use Rattle.qd_time.proofs.parse.parse_interval.Goals as goal

pub returns-clause-ok : goal.returns-clause-ok
returns-clause-ok c = is_ok c.args.text.now c.read_interval.result c.read_interval.ensures

pub returns-clause-range : goal.returns-clause-range
returns-clause-range c = is_range c.args.text.now c.read_interval.result c.read_interval.ensures

pub returns-clause-form : goal.returns-clause-form
returns-clause-form c = is_form c.args.text.now c.read_interval.result c.read_interval.ensures
