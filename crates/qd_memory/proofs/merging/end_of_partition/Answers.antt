use Rattle.std.proofs.Common.{◌≡◌, ℕ, sym, subst}
use Rattle.qd_time.specs.Units.{start_of, unit_of}
use Rattle.qd_time.proofs.UnitLemmas.{start_of-end_of}
use Rattle.qd_memory.proofs.MomentLemmas.{start_later}
use Rattle.qd_memory.proofs.merging.end_of_partition.Goals as goal

pub returns-in-Some-clause-later : goal.returns-in-Some-clause-later
returns-in-Some-clause-later c = λ t few behind.
    let u = unit_of c.args.unit in
    let starts = subst (λ (e : ℕ). start_of u e ≡ e) (sym c.in-Some.ensures.next.1) (start_of-end_of u c.args.time) in
    start_later u c.args.time c.in-Some.end t c.in-Some.ensures.after starts behind
