use Rattle.std.proofs.Common.{subst, ◌≤◌, ◌<◌}
use Rattle.std.specs.Option.{SomeIff}
use Rattle.qd_base.specs.declared.limits.TheConstants.{MAX_TIME}
use Rattle.qd_time.specs.Buckets.{bucket_end, end_by, period_of, IsStart}
use Rattle.qd_time.proofs.UnitLemmas.{IfSome-SomeIff}
use Rattle.qd_time.proofs.StartLemmas.{lt-end_by, end_by-starts, end_by-least, period_is}
use Rattle.qd_time.proofs.buckets.next_bucket.Goals as goal

-- the next start, by the stride
value_is : (c : goal.After-end_in) → let end = bucket_end c.args.stride c.args.align c.args.start in SomeIff c.end_in.result (end ≤ MAX_TIME) end
value_is c =
    subst (λ s. let end = end_by s c.args.align c.args.start in SomeIff c.end_in.result (end ≤ MAX_TIME) end) c.period.ensures.value c.end_in.ensures

pub returns-clause-next : goal.returns-clause-next
returns-clause-next c = value_is c

pub returns-clause-greater : goal.returns-clause-greater
returns-clause-greater c =
    IfSome-SomeIff c.end_in.result _ (bucket_end c.args.stride c.args.align c.args.start) (λ next. c.args.start < next) (value_is c) (lt-end_by (period_of c.args.stride) c.args.align c.args.start (period_is c.args.stride c.requires.stride))

pub returns-clause-starts : goal.returns-clause-starts
returns-clause-starts c =
    IfSome-SomeIff c.end_in.result _ (bucket_end c.args.stride c.args.align c.args.start) (IsStart c.args.stride c.args.align) (value_is c) (end_by-starts (period_of c.args.stride) c.args.align c.args.start (period_is c.args.stride c.requires.stride))

pub returns-clause-first : goal.returns-clause-first
returns-clause-first c = λ other is lt.
    end_by-least (period_of c.args.stride) c.args.align c.args.start other (period_is c.args.stride c.requires.stride) is lt
