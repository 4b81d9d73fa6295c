use Rattle.qd_base.specs.declared.schema.Col.{Col}
use Rattle.qd_base.specs.Schemas.{same_name}
use Rattle.qd_base.proofs.Lists.{IsDistinct-nil}
use Rattle.qd_base.proofs.Taken.{IsDistinct-more, fails}
use Rattle.qd_validate.proofs.SoughtLemmas.{its_place, first_there, found_there, turned, unturned}
use Rattle.qd_validate.proofs.schema.are_apart.Goals as goal

pub loop-i-init : goal.loop-i-init
loop-i-init c = IsDistinct-nil (λ (a : Col) (b : Col). same_name a.name b.name)

pub returns-then-ne : goal.returns-then-ne
returns-then-ne c = record {
  apart = fails (λ h.
      unturned c.find.result c.loop-i.i c.if-ne.ensures
      (found_there c.args.cols.now c.as_slice-col-items.result.now c.loop-i.i c.col-item.result c.bytes.result.now c.find.result c.find.ensures.position c.bytes.ensures.same c.col-item.is c.as_slice-col-items.ensures.items c.loop-i-test.true h));
}

pub loop-i-preserved : goal.loop-i-preserved
loop-i-preserved c = IsDistinct-more (λ (a : Col) (b : Col). same_name a.name b.name) c.args.cols.now c.loop-i.i c.col-item.result
    (its_place c.args.cols.now c.as_slice-col-items.result.now c.loop-i.i c.col-item.result c.bytes.result.now c.find.result c.find.ensures.position c.bytes.ensures.same c.col-item.is c.as_slice-col-items.ensures.items c.loop-i-test.true)
    c.loop-i.invariant
    (first_there c.args.cols.now c.as_slice-col-items.result.now c.loop-i.i c.col-item.result c.bytes.result.now c.find.result c.find.ensures.position c.bytes.ensures.same c.col-item.is c.as_slice-col-items.ensures.items c.loop-i-test.true
    (turned c.find.result c.loop-i.i c.if-ne.ensures))
