use Rattle.qd_lines.specs.Sinks.{cell_lent}
use Rattle.qd_prepare.specs.declared.sink.Place.TheVariants as place
use Rattle.qd_prepare.proofs.SinkLemmas.{cell_taken, seen}
use Rattle.qd_prepare.proofs.sink.EntrySink.put.Goals as goal

pub returns : goal.returns
returns c =
    let i = c.self.inside in
    record {
      ok = λ ops h. cell_taken i.writer c.write_cell.new.writer i.table i.changes ops (cell_lent c.args.cell) c.in_ok-write_cell.ensures.pushed
          (seen c.args.self.now i.writer i.place place.Open i.table i.changes ops c.self.view_is c.in-Open.is h.taken);
    }
