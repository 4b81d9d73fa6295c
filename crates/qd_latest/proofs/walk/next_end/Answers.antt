use Rattle.qd_latest.proofs.MeetLemmas.{all_hold}
use Rattle.qd_latest.proofs.walk.next_end.Goals as goal

pub returns-then-all_met-clause-passed : goal.returns-then-all_met-clause-passed
returns-then-all_met-clause-passed g c =
    all_hold c.args.rows.now c.args.col (g.D.Dictionary.texts c.args.met.now) c.all_met.new.mark.block c.all_met.new.mark.id c.args.end c.requires.placed c.requires.symbols c.requires.some (c.all_met.ensures.all c.if-all_met.true) c.all_met.ensures.met
