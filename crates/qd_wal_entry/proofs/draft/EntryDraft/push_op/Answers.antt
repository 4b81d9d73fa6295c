use Rattle.std.proofs.Common.{sym, subst}
use Rattle.qd_base.specs.declared.op.Op.{Op}
use Rattle.qd_wal_entry.specs.Spelling.{texts_of_op, op_bytes}
use Rattle.qd_wal_entry.specs.Writing.{Adds}
use Rattle.qd_wal_entry.proofs.DraftLemmas.{on_ok_both, adds_create, adds_column, adds_keys}
use Rattle.qd_wal_entry.proofs.draft.EntryDraft.push_op.Goals as goal

pub returns-in-Create : goal.returns-in-Create
returns-in-Create c = record { added = on_ok_both c.push_create.result (λ e b. subst (λ (o : Op). Adds texts_of_op op_bytes c.args.self.now c.push_create.new.self o) (sym c.in-Create.is) (adds_create c.args.self.now c.push_create.new.self c.in-Create.schema e b)) c.push_create.ensures.texts c.push_create.ensures.body }

pub returns-in-AddColumn : goal.returns-in-AddColumn
returns-in-AddColumn c = record { added = on_ok_both c.push_add_column.result (λ e b. subst (λ (o : Op). Adds texts_of_op op_bytes c.args.self.now c.push_add_column.new.self o) (sym c.in-AddColumn.is) (adds_column c.args.self.now c.push_add_column.new.self c.in-AddColumn.table c.in-AddColumn.col e b)) c.push_add_column.ensures.texts c.push_add_column.ensures.body }

pub returns-in-SetKeys : goal.returns-in-SetKeys
returns-in-SetKeys c = record { added = on_ok_both c.push_set_keys.result (λ e b. subst (λ (o : Op). Adds texts_of_op op_bytes c.args.self.now c.push_set_keys.new.self o) (sym c.in-SetKeys.is) (adds_keys c.args.self.now c.push_set_keys.new.self c.in-SetKeys.table c.in-SetKeys.keys e (rw c.as_slice-in-SetKeys.ensures.items at b))) c.push_set_keys.ensures.texts c.push_set_keys.ensures.body }
