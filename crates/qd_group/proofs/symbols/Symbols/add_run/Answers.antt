use Rattle.std.proofs.Common.{◌∙◌, sym, ap}
use Rattle.std.proofs.lemmas.Result.{on_ok_weaker}
use Rattle.qd_column.specs.Cells.{CellsOf}
use Rattle.qd_column.specs.Symbols.{texts_in}
use Rattle.qd_group.specs.Numbering.{texts_at}
use Rattle.qd_group.proofs.symbols.Symbols.add_run.Goals as goal

pub returns-in_ok-make_room-in-Some : goal.returns-in_ok-make_room-in-Some
returns-in_ok-make_room-in-Some g c = record {
  next = on_ok_weaker c.add_ids.result
      (λ h cells n room at st. h (texts_at c.args.rows.now c.args.at) (ap (λ (x : CellsOf). texts_in x.cells) (sym c.in-Some.ensures.column.0)) cells n room (λ k low. c.in-Some.ensures.cells k low ∙ at k low) (c.in_ok-make_room-in-Some.ensures.same (texts_at c.args.rows.now c.args.at) cells n st))
      c.add_ids.ensures.next;
}

pub returns-in-None : goal.returns-in-None
returns-in-None g c = record {
  next = on_ok_weaker c.add_rows.result
      (λ h cells n room at st. h (texts_at c.args.rows.now c.args.at) cells n room (λ k low. c.requires.column _ ∙ at k low) st)
      c.add_rows.ensures.next;
}
