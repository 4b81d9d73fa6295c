use Rattle.qd_ilp.proofs.Escapes.{name_again, text_again, item_again}
use Rattle.qd_ilp.proofs.RowEscapes.{row_again}
use Rattle.qd_ilp.proofs.laws.escapes_are_undone.Goals as goal

pub returns : goal.returns
returns c = record { law = record { names = name_again; texts = text_again; items = item_again; rows = row_again } }
