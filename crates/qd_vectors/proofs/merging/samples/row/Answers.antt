use Rattle.qd_vectors.proofs.Tables.{table_row}
use Rattle.qd_vectors.proofs.merging.samples.row.Goals as goal

pub returns : goal.returns
returns c = record { row = table_row c.in_ok-row.row c.in_ok-name_cell.field-0 _ _ _ c.in_ok-row.ensures.row c.in_ok-name_cell.ensures.name c.in_ok-push.ensures.ok c.in_ok-push-2.ensures.ok }
