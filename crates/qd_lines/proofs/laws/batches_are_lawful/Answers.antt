use Rattle.qd_lines.proofs.LawfulLemmas.{line-keeps, lines-keep, text-keeps}
use Rattle.qd_lines.proofs.laws.batches_are_lawful.Goals as goal

pub returns : goal.returns
returns c = record { law = record { line = line-keeps; lines = lines-keep; text = text-keeps } }
