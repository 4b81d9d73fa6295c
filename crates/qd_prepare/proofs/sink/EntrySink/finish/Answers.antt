use Rattle.std.proofs.Common.{ap, ◌∙◌}
use Rattle.qd_prepare.specs.declared.sink.Place.TheVariants as place
use Rattle.qd_prepare.specs.Sunk.{Sunk}
use Rattle.qd_prepare.proofs.SinkLemmas.{altered_whole, seen, spelled_whole}
use Rattle.qd_prepare.proofs.sink.EntrySink.finish.Goals as goal

pub returns-clause-spelled : goal.returns-clause-spelled
returns-clause-spelled c =
    let i = c.self.inside in
    λ ops h. spelled_whole i.writer i.table c.in_ok-bytes.bytes i.changes ops c.in_ok-bytes.ensures.spelled
    (seen c.shut.new.self i.writer i.place place.Shut i.table i.changes ops c.self.view_is (ap (λ (s : Sunk). s.place) c.self.view_is ∙ c.in_ok-shut.ensures.shut) (c.in_ok-shut.ensures.kept ops h.taken))

pub returns-clause-changes : goal.returns-clause-changes
returns-clause-changes c =
    let i = c.self.inside in
    λ ops h. altered_whole i.writer i.table i.changes ops
    (seen c.shut.new.self i.writer i.place place.Shut i.table i.changes ops c.self.view_is (ap (λ (s : Sunk). s.place) c.self.view_is ∙ c.in_ok-shut.ensures.shut) (c.in_ok-shut.ensures.kept ops h.taken))
