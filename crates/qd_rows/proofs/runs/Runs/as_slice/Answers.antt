use Rattle.std.proofs.Common.{◌≡◌, List, length, ap, sym, subst, arith}
use Rattle.qd_rows.specs.declared.runs.Run.{Run}
use Rattle.qd_rows.specs.Runs.{AreRuns}
use Rattle.qd_rows.proofs.RunLemmas.{length-runs}
use Rattle.qd_rows.proofs.runs.Runs.as_slice.Goals as goal

pub returns-clause-runs : goal.returns-clause-runs
returns-clause-runs c =
    let count : c.self.inside.count ≡ length c.args.self.now = omega (arith, length-runs 0 c.self.inside.count c.self.inside.runs.items c.self.invariant, ap length c.self.view_is) in
    subst (λ (rs : List Run). AreRuns 0 rs (length c.args.self.now)) (sym c.as_slice.ensures.value) (subst (AreRuns 0 c.self.inside.runs.items) count c.self.invariant)
