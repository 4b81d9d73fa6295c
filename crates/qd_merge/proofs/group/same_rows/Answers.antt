use Rattle.std.proofs.Common.{◌≡◌, ◌∙◌, [], ℕ, Bool, List, true, false, ap, ap₂, sym, subst, get_or, take}
use Rattle.std.proofs.lemmas.List.{take_all}
use Rattle.qd_base.specs.Rows.{Row, cell_at, cell_eq, same_on}
use Rattle.qd_merge.specs.Merged.{with_missing}
use Rattle.qd_merge.proofs.Among.{same_more, differ_at}
use Rattle.qd_merge.proofs.group.same_rows.Goals as goal

pub loop-key-preserved : goal.loop-key-preserved
loop-key-preserved c =
    let i = c.loop-key.key-index in
    let keys = c.as_slice-key-items.result.now in
    let cells : cell_eq (cell_at (with_missing c.args.batch.now.kinds (get_or c.args.block.now.rows c.args.place [])) (get_or keys i 0)) (cell_at (get_or c.args.batch.now.rows c.args.other []) (get_or keys i 0)) ≡ true = ap₂ cell_eq (sym c.lent_wide.ensures.cell) (sym c.lent_in.ensures.cell) ∙ sym c.same_cell.ensures.same ∙ c.if-not-same_cell.false in
    same_more keys i (with_missing c.args.batch.now.kinds (get_or c.args.block.now.rows c.args.place [])) (get_or c.args.batch.now.rows c.args.other []) c.loop-key-test.true c.loop-key.invariant cells

pub returns-then-not-same_cell : goal.returns-then-not-same_cell
returns-then-not-same_cell c =
    let i = c.loop-key.key-index in
    let keys = c.as_slice-key-items.result.now in
    let cells : cell_eq (cell_at (with_missing c.args.batch.now.kinds (get_or c.args.block.now.rows c.args.place [])) (get_or keys i 0)) (cell_at (get_or c.args.batch.now.rows c.args.other []) (get_or keys i 0)) ≡ false = ap₂ cell_eq (sym c.lent_wide.ensures.cell) (sym c.lent_in.ensures.cell) ∙ sym c.same_cell.ensures.same ∙ c.if-not-same_cell.true in
    let differ : same_on keys (with_missing c.args.batch.now.kinds (get_or c.args.block.now.rows c.args.place [])) (get_or c.args.batch.now.rows c.args.other []) ≡ false = differ_at keys i (with_missing c.args.batch.now.kinds (get_or c.args.block.now.rows c.args.place [])) (get_or c.args.batch.now.rows c.args.other []) c.loop-key-test.true cells in
    record { same = sym (ap (λ (ks : List ℕ). same_on ks (with_missing c.args.batch.now.kinds (get_or c.args.block.now.rows c.args.place [])) (get_or c.args.batch.now.rows c.args.other [])) (sym c.as_slice-key-items.ensures.items) ∙ differ) }

pub returns : goal.returns
returns c =
    let all = take_all c.loop-key.key-index c.as_slice-key-items.result.now c.loop-key-test.false in
    record { same = sym (subst (λ (ks : List ℕ). same_on ks (with_missing c.args.batch.now.kinds (get_or c.args.block.now.rows c.args.place [])) (get_or c.args.batch.now.rows c.args.other []) ≡ true) (all ∙ c.as_slice-key-items.ensures.items) c.loop-key.invariant) }
