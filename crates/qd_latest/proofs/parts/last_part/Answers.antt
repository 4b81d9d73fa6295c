use Rattle.std.proofs.Common.{◌≡◌, length, subst, arith}
use Rattle.qd_rows.specs.Runs.{places_of_runs, AreRuns}
use Rattle.qd_rows.proofs.RunLemmas.{length-runs}
use Rattle.qd_latest.proofs.PartLemmas.{part_of_run}
use Rattle.qd_latest.proofs.parts.last_part.Goals as goal

pub run_of-requires-clause-runs : goal.run_of-requires-clause-runs
run_of-requires-clause-runs g c =
    let size = length-runs 0 (length c.args.rows.now.places) c.runs-runs.result.now c.runs-runs.ensures.before in
    let same : length c.args.rows.now.places ≡ length (places_of_runs c.runs-runs.result.now) = omega (arith, size) in
    subst (AreRuns 0 c.runs-runs.result.now) same c.runs-runs.ensures.before

pub run_of-requires-clause-within : goal.run_of-requires-clause-within
run_of-requires-clause-within g c =
    let size = length-runs 0 (length c.args.rows.now.places) c.runs-runs.result.now c.runs-runs.ensures.before in
    omega (arith, size, c.requires.some, c.requires.within)

pub cut-requires-clause-first : goal.cut-requires-clause-first
cut-requires-clause-first g c = let h = c.run_of.ensures.first in omega (arith, h, c.requires.some)

pub cut-requires-clause-last : goal.cut-requires-clause-last
cut-requires-clause-last g c = let h = c.run_of.ensures.last in omega (arith, h, c.requires.some)

pub returns-clause-part : goal.returns-clause-part
returns-clause-part g c =
    part_of_run c.args.rows.now c.runs-runs.result.now (c.runs-runs.ensures.rows c.requires.single) c.runs-runs.ensures.before c.runs-runs.ensures.each c.run_of.result c.run_of.ensures.there c.args.to c.cut.result
    c.cut.ensures.block c.cut.ensures.within c.cut.ensures.some (let h = c.run_of.ensures.last in omega (arith, h, c.requires.some)) c.cut.ensures.first c.cut.ensures.last
