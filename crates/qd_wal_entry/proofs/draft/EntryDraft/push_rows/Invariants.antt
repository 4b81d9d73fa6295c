use Rattle.std.proofs.Common.{take}
use Rattle.qd_wal_entry.specs.Spelling.{texts_of_row, row_bytes}
use Rattle.qd_wal_entry.proofs.DraftLemmas.{AddsAll}
use Rattle.qd_wal_entry.proofs.draft.EntryDraft.push_rows.Given as goal

abbrev pub invariant-loop-row : goal.invariant-loop-row
invariant-loop-row l = AddsAll texts_of_row row_bytes l.fn.self l.self (take l.row-index l.rows)
