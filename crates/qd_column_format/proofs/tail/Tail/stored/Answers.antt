use Rattle.std.proofs.Common.{◌∙◌, subst}
use Rattle.qd_base.specs.declared.schema.ColType.{ColType}
use Rattle.qd_column_format.specs.Rests.{HoldsTail}
use Rattle.qd_column_format.proofs.tail.Tail.stored.Goals as goal

pub returns-in-Varchar : goal.returns-in-Varchar
returns-in-Varchar g c = record {
  tail = λ column is size holds.
      c.of_mark.ensures.tail c.args.aux.now column (is ∙ c.in-Varchar.is) size (subst (λ (k : ColType). HoldsTail k c.args.main.now c.args.aux.now column) c.in-Varchar.is holds);
}
