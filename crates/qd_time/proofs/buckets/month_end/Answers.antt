use Rattle.std.proofs.Common.{arith}
use Rattle.std.proofs.lemmas.Int.{to_z-of_z}
use Rattle.qd_time.specs.Buckets.{month_after}
use Rattle.qd_time.proofs.BucketLemmas.{clip-far}
use Rattle.qd_time.proofs.buckets.month_end.Goals as goal

pub returns-then-month : goal.returns-then-month
returns-then-month c = λ within.
    let fits = c.ranges.ahead in
    let month = simp to_z-of_z at c.month_after-month.ensures in
    let far = clip-far (month_after c.args.n c.args.ahead) c.args.offset (omega (arith, month)) c.requires.offset_in in
    omega arith
