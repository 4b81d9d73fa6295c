use Rattle.std.proofs.Common.{◌≡◌, ◌∙◌, ◌++◌, List, ap, sym, subst, ℕ}
use Rattle.qd_base.specs.declared.schema.ColType.{ColType}
use Rattle.qd_base.specs.Rows.{Row}
use Rattle.qd_block.specs.Blocks.{Building, FitsKinds, IsTimed}
use Rattle.qd_memory.proofs.table.push_rows.Goals as goal

pub push_row-requires-clause-begun : goal.push_row-requires-clause-begun
push_row-requires-clause-begun c = ap (λ (b : Building). b.open_row) c.loop-row.invariant ∙ c.requires.begun

pub push_row-requires-clause-fits : goal.push_row-requires-clause-fits
push_row-requires-clause-fits c =
    let x = c.row-item.result in
    let fits : FitsKinds c.args.waiting.now.kinds x = subst (FitsKinds c.args.waiting.now.kinds) (sym c.row-item.is) (c.requires.fit c.loop-row.row-index x c.loop-row-test.true) in
    subst (λ (ks : List ColType). FitsKinds ks x) (sym (ap (λ (b : Building). b.kinds) c.loop-row.invariant)) fits

pub push_row-requires-clause-timed : goal.push_row-requires-clause-timed
push_row-requires-clause-timed c =
    let x = c.row-item.result in
    let timed : IsTimed c.args.waiting.now.time_col x = subst (IsTimed c.args.waiting.now.time_col) (sym c.row-item.is) (c.requires.timed c.loop-row.row-index x c.loop-row-test.true) in
    subst (λ (t : ℕ). IsTimed t x) (sym (ap (λ (b : Building). b.time_col) c.loop-row.invariant)) timed
