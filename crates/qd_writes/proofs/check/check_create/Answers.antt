use Rattle.std.proofs.Common.{◌∙◌, ◌∷◌, [], sym, subst}
use Rattle.qd_base.specs.Lawful.{AreLawful}
use Rattle.qd_base.specs.declared.op.Entry.{Entry}
use Rattle.qd_base.specs.declared.op.Op.TheVariants as op
use Rattle.qd_base.specs.declared.schema.Schema.{Schema}
use Rattle.qd_meaning.specs.Creating.{create_faults}
use Rattle.qd_writes.proofs.JudgeLemmas.{none-is_empty}
use Rattle.qd_writes.proofs.CreateLawful.{create_lawful}
use Rattle.qd_writes.proofs.check.check_create.Goals as goal

pub returns-in_ok-entry_of-in-None-clause-lawful : goal.returns-in_ok-entry_of-in-None-clause-lawful
returns-in_ok-entry_of-in-None-clause-lawful c =
    let clear = none-is_empty (create_faults c.args.schemas.now c.args.create.now) (sym c.in-None.is ∙ c.in_ok-refusal.ensures.least) in
    subst (λ (e : Entry). AreLawful c.args.schemas.now e.ops) (sym c.in_ok-entry_of-in-None.ensures.made)
    (subst (λ (s : Schema). AreLawful c.args.schemas.now (op.Create s ∷ [])) (sym c.in_ok-schema-in-None.ensures.schema)
    (create_lawful c.names_are_judged.ensures.law c.args.schemas.now c.args.create.now clear))
