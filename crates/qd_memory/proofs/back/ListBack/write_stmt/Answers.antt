use Rattle.std.proofs.Common.{◌≡◌, ◌∙◌, List, Err, ap, inl, refl, subst, sym}
use Rattle.qd_base.proofs.Lawful.{sound_schemas}
use Rattle.qd_base.specs.declared.request.Reply.{Reply}
use Rattle.qd_base.specs.declared.schema.Schema.{Schema}
use Rattle.qd_base.specs.Database.{schemas_of}
use Rattle.qd_base.specs.Lawful.{AreLawful, AreSchemas}
use Rattle.qd_base.specs.Replay.{after}
use Rattle.qd_meaning.specs.declared.refusal.Refusal.{Refusal}
use Rattle.qd_meaning.specs.Write.{write}
use Rattle.qd_writes.specs.declared.check.StmtFault.{StmtFault}
use Rattle.qd_writes.specs.Answers.{Answers}
use Rattle.qd_memory.specs.Listed.{Listed, WritesStmt}
use Rattle.qd_memory.proofs.CellLemmas.{written_cells, written_few}
use Rattle.qd_memory.proofs.back.ListBack.write_stmt.Goals as goal

pub commit-requires-clause-lawful : goal.commit-requires-clause-lawful
commit-requires-clause-lawful c =
    let sound = subst AreSchemas (sym c.self.invariant.schemas_are) (sound_schemas c.self.inside.history c.self.invariant.lawful) in
    subst (λ (s : List Schema). AreLawful s c.in-Ok.entry.ops) (c.self.invariant.schemas_are ∙ ap (λ (l : Listed). schemas_of (after l.history)) c.self.view_is) (c.in-Ok.ensures.lawful sound)

pub commit-requires-clause-cells : goal.commit-requires-clause-cells
commit-requires-clause-cells c =
    let sound = subst AreSchemas (sym c.self.invariant.schemas_are) (sound_schemas c.self.inside.history c.self.invariant.lawful) in
    written_cells c.self.inside.schemas c.args.stmt.now c.in-Ok.entry sound c.requires.short c.in-Ok.ensures.answer

pub commit-requires-clause-alone : goal.commit-requires-clause-alone
commit-requires-clause-alone c = inl (written_few c.self.inside.schemas c.args.stmt.now c.in-Ok.entry c.in-Ok.ensures.answer)

pub returns-in-Err-Refused-clause-ok : goal.returns-in-Err-Refused-clause-ok
returns-in-Err-Refused-clause-ok c =
    let now = c.args.self.now in
    let stmt = c.args.stmt.now in
    let r : Refusal = record { code = c.in-Err-Refused.code; place = c.in-Err-Refused.place } in
    let shown = c.self.invariant.schemas_are ∙ ap (λ (l : Listed). schemas_of (after l.history)) c.self.view_is in
    let says : write (schemas_of (after now.history)) stmt ≡ Err r = subst (λ (s : List Schema). write s stmt ≡ Err r) shown (subst (λ (f : StmtFault). Answers (Err f) (write c.self.inside.schemas stmt)) c.in-Err-Refused.field-0-is c.in-Err-Refused.ensures.answer) in
    subst (λ (g : Reply). WritesStmt now now stmt g) (sym c.refused.ensures) (r, says, refl, refl, refl)
