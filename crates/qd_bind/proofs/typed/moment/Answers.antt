use Rattle.qd_bind.proofs.TimeLemmas.{moment-read}
use Rattle.qd_bind.proofs.typed.moment.Goals as goal

pub returns : goal.returns
returns c = record { moment = moment-read c.times_are_read.ensures.law _ _ c.parse_time.ensures.ok c.parse_time.ensures.range c.parse_time.ensures.form }
