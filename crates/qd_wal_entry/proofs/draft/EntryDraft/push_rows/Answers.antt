use Rattle.std.proofs.Common.{sym, subst}
use Rattle.qd_wal_entry.specs.Spelling.{texts_of_row, row_bytes}
use Rattle.qd_wal_entry.specs.Writing.{Adds, FewWith}
use Rattle.qd_wal_entry.proofs.DraftLemmas.{adds_next, few_next}
use Rattle.qd_wal_entry.proofs.draft.EntryDraft.push_rows.Goals as goal

pub push_row-requires-clause-few : goal.push_row-requires-clause-few
push_row-requires-clause-few c = subst (FewWith texts_of_row c.loop-row.self) (sym c.as_slice.ensures.items) (few_next texts_of_row row_bytes c.args.self.now c.loop-row.self c.args.rows.now c.loop-row.row-index c.row-item.result c.loop-row-test.true c.row-item.is c.loop-row.invariant c.requires.few)

pub loop-row-preserved : goal.loop-row-preserved
loop-row-preserved c = adds_next texts_of_row row_bytes c.args.self.now c.loop-row.self c.push_row.new.self c.args.rows.now c.loop-row.row-index c.row-item.result c.loop-row-test.true c.row-item.is c.loop-row.invariant (subst (Adds texts_of_row row_bytes c.loop-row.self c.push_row.new.self) c.as_slice.ensures.items c.in_ok-push_row.ensures.added)
