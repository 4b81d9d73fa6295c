use Rattle.qd_writes.proofs.TableLemmas.{time_same, time_low}
use Rattle.qd_writes.proofs.literal.time_in.Goals as goal

pub returns-clause-time : goal.returns-clause-time
returns-clause-time c = time_same c.times_are_read.ensures.law c.args.text.now c.parse_time.result c.parse_time.ensures.ok c.parse_time.ensures.range c.parse_time.ensures.form

pub returns-clause-low : goal.returns-clause-low
returns-clause-low c = time_low c.args.text.now c.parse_time.result c.parse_time.ensures.ok
