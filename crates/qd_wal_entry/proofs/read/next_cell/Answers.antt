use Rattle.qd_wal_entry.proofs.Cells.{cell_read}
use Rattle.qd_wal_entry.proofs.read.next_cell.Goals as goal

pub returns : goal.returns
returns c = record { read = cell_read c.args.reader.now c.next_cell.new.self c.in_ok-stored.stored c.in_ok-cell.cell c.in_ok-stored.ensures.read c.in_ok-cell.ensures.cell }
