use Rattle.qd_latest.proofs.PartLemmas.{all_placed}
use Rattle.qd_latest.proofs.parts.are_there.Goals as goal

pub returns : goal.returns
returns g c = all_placed c.args.rows.now c.runs-runs.result.now c.requires.single (c.runs-runs.ensures.rows c.requires.single) c.runs-runs.ensures.each
