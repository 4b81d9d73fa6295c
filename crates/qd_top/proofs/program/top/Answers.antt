use Rattle.qd_top.specs.Run.{outside}
use Rattle.qd_top.proofs.CommandLemmas.{with_number}
use Rattle.qd_top.proofs.program.top.Goals as goal

pub returns-clause-answered : goal.returns-clause-answered
returns-clause-answered g c =
    let old = outside (g.S.Ends.stream c.args.input.now) (g.K.Ends.stream c.args.output.now) (g.H.Host.supply c.args.host.now) in
    let new = outside (g.S.Ends.stream c.do_as_asked.new.input) (g.K.Ends.stream c.do_as_asked.new.output) (g.H.Host.supply c.do_as_asked.new.host) in
    with_number {old = old} {new = new} c.number.ensures.number c.do_as_asked.ensures.answered
