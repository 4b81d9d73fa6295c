use Rattle.std.proofs.Common.{◌≡◌, ℕ, ◌^◌, ◌<◌, ◌∷◌, [], ◌++◌, List, length, ap, ◌∙◌, arith}
use Rattle.std.proofs.Math.Facts.{Fits-of_lt}
use Rattle.std.specs.Int.{w32}
use Rattle.qd_base.specs.Dictionary.{id_for, with_text}
use Rattle.qd_base.proofs.Texts.{text_given}
use Rattle.qd_fields.specs.Spelling.{u32_bytes}
use Rattle.qd_wal_entry.proofs.DictionaryLemmas.{texts_grow}
use Rattle.qd_wal_entry.proofs.DraftLemmas.{on_ok_both, adds_text}
use Rattle.qd_wal_entry.proofs.draft.EntryDraft.push_text.Goals as goal

pub overflow_cast-id : goal.overflow_cast-id
overflow_cast-id c =
    let given = text_given c.args.self.now.texts c.args.text.now [] in
    let few : length (with_text c.args.self.now.texts c.args.text.now) < 2 ^ 32 = c.requires.few in
    let id : c.in_ok-id.id ≡ id_for c.args.self.now.texts c.args.text.now = c.in_ok-id.ensures.id in
    let lt : c.in_ok-id.id < 2 ^ 32 = omega (arith, given.0) in
    Fits-of_lt {w = w32} lt

pub returns-in_err-id-clause-few : goal.returns-in_err-id-clause-few
returns-in_err-id-clause-few c = omega (arith, ap length c.in_err-id.ensures.err, c.requires.few, texts_grow c.args.self.now.texts (c.args.text.now ∷ []))

pub returns-clause-added : goal.returns-clause-added
returns-clause-added c = on_ok_both c.push_id.result (λ e b. adds_text c.args.self.now c.push_id.new.self c.args.text.now c.in_ok-id.id (e ∙ c.in_ok-id.ensures.texts) c.in_ok-id.ensures.id (b ∙ ap (λ (l : List ℕ). l ++ (4 ∷ u32_bytes c.in_ok-id.id)) c.in_ok-id.ensures.body)) c.push_id.ensures.texts c.push_id.ensures.body

pub returns-clause-few : goal.returns-clause-few
returns-clause-few c = omega (arith, ap length (c.push_id.ensures.same ∙ c.in_ok-id.ensures.texts), c.requires.few)
