use Rattle.std.proofs.Common.{◌≡◌, ◌++◌, List, ℕ, length, subst}
use Rattle.std.specs.List.{flat_map}
use Rattle.std.proofs.lemmas.Result.{IfOk-weaker}
use Rattle.qd_base.specs.declared.op.Op.{Op}
use Rattle.qd_fields.specs.Spelling.{u32_bytes, text_bytes}
use Rattle.qd_wal_entry.specs.Spelling.{texts_of_op, op_bytes, SpellsEntry}
use Rattle.qd_wal_entry.specs.Writing.{Adds}
use Rattle.qd_wal_entry.proofs.DraftLemmas.{drafted}
use Rattle.qd_wal_entry.proofs.encode.encode_entry.Goals as goal

pub returns : goal.returns
returns c =
    let made = c.push_ops.new.self in
    let added = subst (λ (ops : List Op). Adds (flat_map texts_of_op) (λ (t : List (List ℕ)). flat_map (op_bytes t)) c.in_ok-draft.draft made ops) c.as_slice.ensures.items c.in_ok-push_ops.ensures.added in
    record { spelled = IfOk-weaker c.finish.result (λ (bytes : List ℕ). bytes ≡ u32_bytes (length made.texts) ++ (flat_map text_bytes made.texts ++ (u32_bytes c.len.result ++ made.body))) (λ (bytes : List ℕ). SpellsEntry bytes c.args.entry.now) (λ bytes is. drafted c.args.entry.now c.in_ok-draft.draft made c.len.result bytes c.requires.spelled c.in_ok-draft.ensures.empty added c.len.ensures.count is) c.finish.ensures.bytes }
