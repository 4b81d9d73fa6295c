use Rattle.std.proofs.Common.{take}
use Rattle.qd_wal_entry.specs.Spelling.{text_of, cell_bytes}
use Rattle.qd_wal_entry.proofs.DraftLemmas.{AddsAll}
use Rattle.qd_wal_entry.proofs.draft.EntryDraft.push_row.Given as goal

abbrev pub invariant-loop-cell : goal.invariant-loop-cell
invariant-loop-cell l = AddsAll text_of cell_bytes l.fn.self l.self (take l.cell-index l.row)
