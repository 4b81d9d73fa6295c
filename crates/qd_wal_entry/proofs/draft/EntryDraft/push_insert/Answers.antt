use Rattle.std.proofs.Common.{◌≡◌, ℕ, ◌∷◌, ◌++◌, length, subst}
use Rattle.std.proofs.lemmas.Result.{on_ok_weaker}
use Rattle.qd_fields.specs.Spelling.{u16_bytes, u32_bytes, name_bytes}
use Rattle.qd_wal_entry.proofs.DraftLemmas.{adds_insert}
use Rattle.qd_wal_entry.proofs.draft.EntryDraft.push_insert.Goals as goal

pub returns : goal.returns
returns c =
    let mid = c.push_head.new.self in
    let body = subst (λ (w : ℕ). mid.body ≡ c.args.self.now.body ++ (3 ∷ (name_bytes c.args.table.now ++ (u16_bytes w ++ u32_bytes (length c.args.rows.now))))) c.width_of.ensures.width c.in_ok-push_head.ensures.body in
    record { added = on_ok_weaker c.push_rows.result (adds_insert c.args.self.now mid c.push_rows.new.self c.args.table.now c.args.rows.now c.in_ok-push_head.ensures.texts body) c.push_rows.ensures.added }
