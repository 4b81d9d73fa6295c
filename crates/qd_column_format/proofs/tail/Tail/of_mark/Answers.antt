use Rattle.std.proofs.Common.{◌<◌, ◌∙◌, Some, length, ap, subst, arith}
use Rattle.qd_base.specs.declared.schema.ColType.TheVariants as kind
use Rattle.qd_column_format.specs.Rests.{HoldsMark}
use Rattle.qd_column_format.proofs.RestLemmas.{by_kind, mark_size}
use Rattle.qd_column_format.proofs.StoredTails.{ends_behind}
use Rattle.qd_column_format.proofs.TailLemmas.{behind_texts}
use Rattle.qd_column_format.proofs.tail.Tail.of_mark.Goals as goal

pub returns-then-mark-lt8 : goal.returns-then-mark-lt8
returns-then-mark-lt8 g c = record {
  tail = λ aux column is size holds.
      let some : 0 < length column.cells = omega (arith, size, c.if-rows-eq0.false) in
      let n = length column.cells in
      absurd (omega (arith, mark_size n c.args.mark.now column.cells (subst (HoldsMark n c.args.mark.now) (by_kind kind.Varchar column is) (holds some)), c.if-mark-lt8.true));
}

pub returns : goal.returns
returns g c = record {
  tail = λ aux column is size holds.
      let some : 0 < length column.cells = omega (arith, size, c.if-rows-eq0.false) in
      ap Some (c.in_ok-of_end-2.ensures.tail ∙ behind_texts column c.text_end.result is (c.text_end.ensures.end (length column.cells) column (holds some) ∙ ends_behind column is));
}
