use Rattle.qd_args.proofs.Lines.{one_command}
use Rattle.qd_args.proofs.laws.words_ask_for_one.Goals as goal

pub returns : goal.returns
returns c = record { law = one_command }
