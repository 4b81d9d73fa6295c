use Rattle.std.proofs.Common.{◌∙◌, sym}
use Rattle.qd_ilp.specs.View.{item_of}
use Rattle.qd_lines.proofs.CellLemmas.{cell_met, cell_missing}
use Rattle.qd_lines.proofs.cells.named.Goals as goal

pub returns-in-Some : goal.returns-in-Some
returns-in-Some c = record { cell = c.cell_of.ensures.cell ∙ sym (cell_met c.args.row.now.items c.args.col.now c.in-Some.at (item_of c.item.result) (sym c.requires.place ∙ c.in-Some.is) c.item.ensures.item) }

pub returns-in-None : goal.returns-in-None
returns-in-None c = record { cell = c.missing.ensures.missing ∙ sym (cell_missing c.args.row.now.items c.args.col.now (sym c.requires.place ∙ c.in-None.is)) }
