use Rattle.qd_gen.proofs.Framing.{read_as_asked}
use Rattle.qd_gen.proofs.laws.input_is_read_as_asked.Goals as goal

pub returns : goal.returns
returns c = record { law = read_as_asked }
