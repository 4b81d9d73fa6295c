use Rattle.std.proofs.Common.{◌≡◌, ◌∙◌, All, List, Option, sym, subst}
use Rattle.std.specs.Option.{option_copied}
use Rattle.qd_base.specs.Lawful.{AreLawful}
use Rattle.qd_base.specs.Rows.{Row}
use Rattle.qd_base.specs.declared.op.Entry.{Entry}
use Rattle.qd_base.specs.declared.schema.Schema.{Schema}
use Rattle.qd_meaning.specs.Inserting.{insert_faults}
use Rattle.qd_writes.specs.Filling.{filled_rows, rows_put}
use Rattle.qd_writes.specs.Literals.{IsFit}
use Rattle.qd_writes.proofs.JudgeLemmas.{none-is_empty}
use Rattle.qd_writes.proofs.InsertLawful.{inserted_lawful}
use Rattle.qd_writes.proofs.check.check_insert.Goals as goal

pub returns-in_ok-insertion-in-None-clause-lawful : goal.returns-in_ok-insertion-in-None-clause-lawful
returns-in_ok-insertion-in-None-clause-lawful c = λ schemas is are.
    let table : Option Schema = option_copied c.args.table in
    let clear = none-is_empty (insert_faults table c.args.insert.now) (sym c.in-None.is ∙ c.in_ok-refusal.ensures.least) in
    let made : List Row = c.in_ok-rows.field-0.rows in
    let same : made ≡ filled_rows table c.args.insert.now = c.in_ok-rows.ensures.rows in
    subst (λ (e : Entry). AreLawful schemas e.ops) (sym c.in_ok-insertion-in-None.ensures.made)
    (subst (λ (rows : List Row). AreLawful schemas (rows_put table rows)) (sym same)
    (inserted_lawful schemas table c.args.insert.now are is clear (subst (All (All IsFit)) same c.in_ok-rows.ensures.fit)))
