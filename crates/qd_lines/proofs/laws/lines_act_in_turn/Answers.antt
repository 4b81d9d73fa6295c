use Rattle.qd_lines.proofs.TurnLemmas.{lines-in-turn}
use Rattle.qd_lines.proofs.laws.lines_act_in_turn.Goals as goal

pub returns : goal.returns
returns c = record { law = lines-in-turn }
