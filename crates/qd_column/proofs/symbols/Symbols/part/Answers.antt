use Rattle.std.proofs.Common.{◌≡◌, ◌∙◌, ap, sym, subst, List, map, IfOk, slice_range}
use Rattle.qd_base.specs.declared.cell.Cell.{Cell}
use Rattle.qd_column.specs.Symbols.{symbol_cell}
use Rattle.qd_column.proofs.ListLemmas.{map-part}
use Rattle.qd_column.proofs.symbols.Symbols.part.Goals as goal

pub returns : goal.returns
returns g c =
    let known = g.D.Dictionary.texts c.self.inside.dictionary in
    let cells : map (symbol_cell known) (slice_range c.deref.result.now c.args.from c.args.to) ≡ slice_range c.args.self.now c.args.from c.args.to = ap (λ xs. map (symbol_cell known) (slice_range xs c.args.from c.args.to)) c.deref.ensures.value ∙ map-part (symbol_cell known) c.self.inside.ids.items c.args.from c.args.to ∙ ap (λ xs. slice_range xs c.args.from c.args.to) c.self.view_is in
    record { cells = subst (λ (l : List Cell). IfOk c.of_ids.result (λ s. s ≡ l)) cells c.of_ids.ensures.cells }
