use Rattle.qd_ilp.proofs.Wholes.{every_text_is_read, readings_are_one}
use Rattle.qd_ilp.proofs.laws.texts_are_read.Goals as goal

pub returns : goal.returns
returns c = record { law = record { always = every_text_is_read; once = readings_are_one } }
