use Rattle.qd_scan.proofs.SetLemmas.{all_placed}
use Rattle.qd_scan.proofs.scans.has_places.Goals as goal

pub returns : goal.returns
returns g c = record { there = all_placed c.args.rows.now c.runs.result.now c.requires.single (c.runs.ensures.rows c.requires.single) c.runs.ensures.each }
