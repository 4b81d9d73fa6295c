use Rattle.qd_lines.proofs.FitLemmas.{early, made, named, rows}
use Rattle.qd_lines.proofs.laws.answers_fit.Goals as goal

pub returns : goal.returns
returns c = record { law = record { made = made; rows = rows; named = named; early = early } }
