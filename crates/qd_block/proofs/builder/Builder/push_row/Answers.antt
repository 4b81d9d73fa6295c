use Rattle.std.proofs.Common.{◌≡◌, ◌∙◌, ap, sym, subst, length, take, arith}
use Rattle.std.proofs.lemmas.List.{take_all}
use Rattle.qd_block.specs.Blocks.{Building, FitsKinds, IsTimed}
use Rattle.qd_block.proofs.FitLemmas.{fits_length, next_fits}
use Rattle.qd_block.proofs.builder.Builder.push_row.Goals as goal

pub push_cell-requires-clause-there : goal.push_cell-requires-clause-there
push_cell-requires-clause-there g c =
    let row = c.as_slice-item-items.result.now in
    let fits : FitsKinds c.args.self.now.kinds row = subst (FitsKinds c.args.self.now.kinds) (sym c.as_slice-item-items.ensures.items) c.requires.fits in
    let timed : IsTimed c.args.self.now.time_col row = subst (IsTimed c.args.self.now.time_col) (sym c.as_slice-item-items.ensures.items) c.requires.timed in
    (next_fits c.args.self.now c.loop-item.self row c.loop-item.item-index c.item-item.result fits timed c.loop-item.invariant (omega arith) c.item-item.is).there

pub push_cell-requires-clause-takes : goal.push_cell-requires-clause-takes
push_cell-requires-clause-takes g c =
    let row = c.as_slice-item-items.result.now in
    let fits : FitsKinds c.args.self.now.kinds row = subst (FitsKinds c.args.self.now.kinds) (sym c.as_slice-item-items.ensures.items) c.requires.fits in
    let timed : IsTimed c.args.self.now.time_col row = subst (IsTimed c.args.self.now.time_col) (sym c.as_slice-item-items.ensures.items) c.requires.timed in
    (next_fits c.args.self.now c.loop-item.self row c.loop-item.item-index c.item-item.result fits timed c.loop-item.invariant (omega arith) c.item-item.is).takes

pub end_row-requires : goal.end_row-requires
end_row-requires g c =
    let row = c.as_slice-item-items.result.now in
    let fits : FitsKinds c.args.self.now.kinds row = subst (FitsKinds c.args.self.now.kinds) (sym c.as_slice-item-items.ensures.items) c.requires.fits in
    let all : take c.loop-item.item-index row ≡ row = take_all c.loop-item.item-index row (omega arith) in
    record { whole = ap (λ (b : Building). length b.open_row) c.loop-item.invariant ∙ ap length all ∙ fits_length c.args.self.now.kinds row fits ∙ sym (ap (λ (b : Building). length b.kinds) c.loop-item.invariant) }
