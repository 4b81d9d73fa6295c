use Rattle.qd_meaning.proofs.ColumnLemmas.{output-names-are-distinct}
use Rattle.qd_meaning.proofs.laws.output_names_are_distinct.Goals as goal

pub returns : goal.returns
returns c = record { law = output-names-are-distinct }
