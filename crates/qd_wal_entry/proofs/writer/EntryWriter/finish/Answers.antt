use Rattle.std.proofs.Common.{◌≡◌, ◌∙◌, List, ℕ, ◌++◌, length, sym, ap, subst}
use Rattle.std.specs.List.{flat_map}
use Rattle.std.proofs.lemmas.Result.{IfOk-weaker}
use Rattle.qd_fields.specs.Spelling.{u32_bytes, text_bytes}
use Rattle.qd_wal_entry.specs.contracts.writer.EntryWriter.{the_view}
use Rattle.qd_wal_entry.specs.Spelling.{SpellsEntry}
use Rattle.qd_wal_entry.specs.Written.{IsSoFar, SoFar, Written, entry_of}
use Rattle.qd_wal_entry.proofs.WriterLemmas.{written}
use Rattle.qd_wal_entry.proofs.writer.EntryWriter.finish.Goals as goal

pub returns : goal.returns
returns c =
    let t = c.self.inside.draft.texts in
    let spell : List ℕ → List ℕ = λ done. u32_bytes (length t) ++ (flat_map text_bytes t ++ (u32_bytes c.self.inside.count ++ done)) in
    record {
      spelled = IfOk-weaker c.spelled.result (λ (bytes : List ℕ). bytes ≡ spell c.as_slice.result.now) (λ (bytes : List ℕ). (e : SoFar) → IsSoFar c.args.self e → SpellsEntry bytes (entry_of e))
          (λ bytes is e has. written (the_view c.self.inside) e (subst (λ (w : Written). IsSoFar w e) (sym c.self.view_is) has) bytes (ap (λ (w : Written). w.is_open) c.self.view_is ∙ c.requires.closed) c.self.invariant.few (is ∙ ap spell c.as_slice.ensures.value))
          c.spelled.ensures.bytes;
    }
