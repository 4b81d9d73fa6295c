use Rattle.qd_wal_entry.specs.Spelling.{text_of, cell_bytes}
use Rattle.qd_wal_entry.proofs.DraftLemmas.{adds_next, adds_all, few_next}
use Rattle.qd_wal_entry.proofs.draft.EntryDraft.push_row.Goals as goal

pub push_cell-requires-clause-few : goal.push_cell-requires-clause-few
push_cell-requires-clause-few c = few_next text_of cell_bytes c.args.self.now c.loop-cell.self c.args.row.now c.loop-cell.cell-index c.cell-item.result c.loop-cell-test.true c.cell-item.is c.loop-cell.invariant c.requires.few

pub loop-cell-preserved : goal.loop-cell-preserved
loop-cell-preserved c = adds_next text_of cell_bytes c.args.self.now c.loop-cell.self c.push_cell.new.self c.args.row.now c.loop-cell.cell-index c.cell-item.result c.loop-cell-test.true c.cell-item.is c.loop-cell.invariant c.in_ok-push_cell.ensures.added

pub returns : goal.returns
returns c = record { added = adds_all text_of cell_bytes c.args.self.now c.loop-cell.self c.args.row.now c.loop-cell.cell-index c.loop-cell-test.false c.loop-cell.invariant }
