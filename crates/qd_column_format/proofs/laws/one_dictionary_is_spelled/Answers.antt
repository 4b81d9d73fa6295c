use Rattle.qd_column_format.proofs.PlaceLemmas.{one_dictionary}
use Rattle.qd_column_format.proofs.laws.one_dictionary_is_spelled.Goals as goal

pub returns : goal.returns
returns c = one_dictionary
