use Rattle.qd_column_files.proofs.LawLemmas.{one_block}
use Rattle.qd_column_files.proofs.laws.one_block_is_held.Goals as goal

pub returns : goal.returns
returns c = one_block c.one_column_is_spelled.ensures
