use Rattle.std.proofs.Common.{ap, sym, ◌∙◌}
use Rattle.std.specs.Prelude.{slice_get}
use Rattle.std.specs.List.{remove}
use Rattle.qd_server.specs.Works.{without}
use Rattle.qd_server.proofs.Serving.{got_at, serves_nothing}
use Rattle.qd_server.proofs.accept.settle.Goals as goal

pub returns-in-Some-clause-goes_on : goal.returns-in-Some-clause-goes_on
returns-in-Some-clause-goes_on g c failed s here =
    let there = got_at c.args.outs.now.items c.args.place c.in-Some.started c.in-Some.ensures.value c.requires.there in (
      without s c.args.place,
      (c.done.ensures.done s c.args.place c.in-Some.started here.0 (ap (λ xs. slice_get xs c.args.place) here.1 ∙ there) c.join.ensures.given, ap (λ xs. remove xs c.args.place) here.1 ∙ sym c.in-Some.ensures.items),
      serves_nothing s (remove s.out c.args.place) failed,
    )
