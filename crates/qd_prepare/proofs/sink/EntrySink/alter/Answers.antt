use Rattle.std.proofs.Common.{ap, ◌∙◌}
use Rattle.qd_prepare.specs.declared.sink.Place.TheVariants as place
use Rattle.qd_prepare.specs.Sunk.{Sunk}
use Rattle.qd_prepare.proofs.SinkLemmas.{change_taken, seen}
use Rattle.qd_prepare.proofs.sink.EntrySink.alter.Goals as goal

pub returns : goal.returns
returns c =
    let i = c.self.inside in
    record {
      ok = λ ops h. change_taken i.writer c.write_change.new.writer i.table i.changes c.push.new.self ops c.args.change c.requires.plain c.in_ok-push.ensures.ok c.in_ok-write_change.ensures.added
          (seen c.shut.new.self i.writer i.place place.Shut i.table i.changes ops c.self.view_is (ap (λ (s : Sunk). s.place) c.self.view_is ∙ c.in_ok-shut.ensures.shut) (c.in_ok-shut.ensures.kept ops h.taken));
    }
