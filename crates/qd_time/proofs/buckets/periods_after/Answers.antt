use Rattle.std.proofs.Common.{rules, ◌≡◌, FitsSigned, w64, pos, ◌-ℤ◌, subst, sym}
use Rattle.std.specs.Int.{int_div_euclid}
use Rattle.std.proofs.lemmas.Int.{to_z-of_z}
use Rattle.qd_time.specs.Buckets.{IsNear}
use Rattle.qd_time.proofs.BucketLemmas.{near}
use Rattle.qd_time.proofs.buckets.periods_after.Goals as goal

pub returns-clause-bound : goal.returns-clause-bound
returns-clause-bound c =
    let periods : c.div_euclid.result ≡ int_div_euclid (pos c.args.ts -ℤ c.args.offset) (pos c.args.period) = search rules in
    let fits : FitsSigned w64 c.div_euclid.result = search rules in
    simp to_z-of_z (subst (IsNear c.args.ts c.args.offset c.args.period) (sym periods) (near c.args.ts c.args.offset c.args.period c.requires.period_in.0))
