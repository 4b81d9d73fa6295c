use Rattle.qd_bind.proofs.TimeLemmas.{interval-read}
use Rattle.qd_bind.proofs.steps.interval.Goals as goal

pub returns : goal.returns
returns c = record { interval = interval-read c.times_are_read.ensures.law _ _ c.parse_interval.ensures.ok c.parse_interval.ensures.range c.parse_interval.ensures.form }
