use Rattle.qd_column_format.proofs.LawLemmas.{later_bytes}
use Rattle.qd_column_format.proofs.laws.later_bytes_do_not_count.Goals as goal

pub returns : goal.returns
returns c = later_bytes
