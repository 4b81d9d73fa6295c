use Rattle.std.proofs.Common.{◌≡◌, length, get_or, sym, ◌∙◌, true≢false, arith}
use Rattle.qd_base.specs.declared.cell.Cell.{Cell}
use Rattle.qd_base.specs.declared.schema.Col.{Col}
use Rattle.qd_base.specs.Lawful.{Takes}
use Rattle.qd_base.proofs.Taken.{holds, fails}
use Rattle.qd_validate.proofs.ListLemmas.{AllZip-at, AllZip-length}
use Rattle.qd_validate.proofs.CellLemmas.{taken_whole}
use Rattle.qd_validate.proofs.cells.cells_fit.Goals as goal

pub returns-then-cols-row : goal.returns-then-cols-row
returns-then-cols-row c = record { fit = fails (λ h. let same = AllZip-length (λ (a : Col) (x : Cell). Takes a.kind x) c.args.cols.now c.args.row.now h in omega arith) }

pub returns-then-not-takes : goal.returns-then-not-takes
returns-then-not-takes c = record {
  fit = fails (λ h.
      let same : length c.args.cols.now ≡ length c.args.row.now = c.if-cols-row.false in
      let taken : Takes (get_or c.args.cols.now c.loop-i.i c.index-cols-i.result).kind (get_or c.args.row.now c.loop-i.i c.index-row-i.result) =
      AllZip-at (λ (a : Col) (x : Cell). Takes a.kind x) c.args.cols.now c.args.row.now c.loop-i.i c.index-cols-i.result c.index-row-i.result h c.loop-i-test.true in
      let at : Takes (get_or c.args.cols.now c.loop-i.i c.index-cols-i.result).kind c.index-row-i.result = rw c.index-row-i.is taken in
      true≢false (sym (c.takes.ensures.taken.1 at) ∙ c.if-not-takes.true));
}

pub returns : goal.returns
returns c = record { fit = holds (taken_whole c.args.cols.now c.args.row.now c.loop-i.i c.if-cols-row.false c.loop-i-test.false c.loop-i.invariant) }
