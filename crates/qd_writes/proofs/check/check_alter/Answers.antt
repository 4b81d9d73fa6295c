use Rattle.std.proofs.Common.{◌∙◌, Option, sym, subst}
use Rattle.std.specs.Option.{option_copied}
use Rattle.qd_base.specs.Lawful.{AreLawful}
use Rattle.qd_base.specs.declared.op.Entry.{Entry}
use Rattle.qd_base.specs.declared.schema.Schema.{Schema}
use Rattle.qd_meaning.specs.Altering.{alter_faults}
use Rattle.qd_writes.proofs.JudgeLemmas.{none-is_empty}
use Rattle.qd_writes.proofs.AlterLawful.{altered_lawful}
use Rattle.qd_writes.proofs.check.check_alter.Goals as goal

pub returns-in_ok-alteration-in-None-clause-lawful : goal.returns-in_ok-alteration-in-None-clause-lawful
returns-in_ok-alteration-in-None-clause-lawful c = λ schemas is are.
    let table : Option Schema = option_copied c.args.table in
    let clear = none-is_empty (alter_faults table c.args.alter.now) (sym c.in-None.is ∙ c.in_ok-refusal.ensures.least) in
    subst (λ (e : Entry). AreLawful schemas e.ops) (sym c.in_ok-alteration-in-None.ensures.made)
    (altered_lawful c.names_are_judged.ensures.law schemas table c.args.alter.now are is clear)
