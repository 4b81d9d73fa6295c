use Rattle.std.proofs.Common.{take}
use Rattle.qd_wal_entry.specs.Spelling.{texts_of_op, op_bytes}
use Rattle.qd_wal_entry.proofs.DraftLemmas.{AddsAll}
use Rattle.qd_wal_entry.proofs.draft.EntryDraft.push_ops.Given as goal

abbrev pub invariant-loop-op : goal.invariant-loop-op
invariant-loop-op l = AddsAll texts_of_op op_bytes l.fn.self l.self (take l.op-index l.ops)
