use Rattle.std.proofs.Common.{◌∙◌, ℕ, ◌/◌, ap, subst, sym, take, arith}
use Rattle.qd_base.specs.declared.schema.ColType.{ColType}
use Rattle.qd_base.specs.declared.schema.ColType.TheVariants as kind
use Rattle.qd_column_format.specs.Added.{column_of}
use Rattle.qd_column_format.specs.Rests.{HoldsMark}
use Rattle.qd_column_format.specs.Tails.{texts_end}
use Rattle.qd_column_format.proofs.RestLemmas.{by_kind, mark_end, mark_size}
use Rattle.qd_column_format.proofs.rest.text_end.Goals as goal

pub returns-then-mark-lt8 : goal.returns-then-mark-lt8
returns-then-mark-lt8 c = record {
  end = λ skip column h.
      let also : HoldsMark skip c.args.mark.now (column_of kind.Varchar column.cells) = subst (HoldsMark skip c.args.mark.now) (by_kind kind.Varchar column h.kind) h in
      absurd (omega (arith, mark_size skip c.args.mark.now column.cells also, c.if-mark-lt8.true));
}

pub returns : goal.returns
returns c = record {
  end = λ skip column h.
      let mark = c.args.mark.now in
      let also : HoldsMark skip mark (column_of kind.Varchar column.cells) = subst (HoldsMark skip mark) (by_kind kind.Varchar column h.kind) h in
      ap (λ (n : ℕ). n / 2) c.read_u64.ensures ∙ mark_end skip mark column.cells also ∙ sym (ap (λ (k : ColType). texts_end k (take skip column.cells)) h.kind);
}
