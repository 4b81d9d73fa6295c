use Rattle.qd_wal_entry.specs.Spelling.{texts_of_op, op_bytes}
use Rattle.qd_wal_entry.proofs.DraftLemmas.{adds_next, few_next}
use Rattle.qd_wal_entry.proofs.draft.EntryDraft.push_ops.Goals as goal

pub push_op-requires-clause-few : goal.push_op-requires-clause-few
push_op-requires-clause-few c = few_next texts_of_op op_bytes c.args.self.now c.loop-op.self c.args.ops.now c.loop-op.op-index c.op-item.result c.loop-op-test.true c.op-item.is c.loop-op.invariant c.requires.few

pub loop-op-preserved : goal.loop-op-preserved
loop-op-preserved c = adds_next texts_of_op op_bytes c.args.self.now c.loop-op.self c.push_op.new.self c.args.ops.now c.loop-op.op-index c.op-item.result c.loop-op-test.true c.op-item.is c.loop-op.invariant c.in_ok-push_op.ensures.added
