use Rattle.std.proofs.Common.{arith, ap, sym, subst, ◌∙◌, ◌≡◌, ◌≤◌}
use Rattle.qd_time.specs.Buckets.{bucket_start, start_by, period_of, IsStart}
use Rattle.qd_time.proofs.StartLemmas.{start_by-le, start_by-starts, start_by-greatest, period_is}
use Rattle.qd_time.proofs.buckets.bucket_of.Goals as goal

-- the start, by the stride
value_is : (c : goal.After-start_in) → c.start_in.result ≡ bucket_start c.args.stride c.args.align c.args.ts
value_is c = c.start_in.ensures ∙ ap (λ s. start_by s c.args.align c.args.ts) c.period.ensures.value

pub returns-clause-value : goal.returns-clause-value
returns-clause-value c = value_is c

pub returns-clause-not_after : goal.returns-clause-not_after
returns-clause-not_after c =
    omega (arith, value_is c, start_by-le (period_of c.args.stride) c.args.align c.args.ts (period_is c.args.stride c.requires.stride) c.requires.reached)

pub returns-clause-starts : goal.returns-clause-starts
returns-clause-starts c =
    subst (IsStart c.args.stride c.args.align) (sym (value_is c)) (start_by-starts (period_of c.args.stride) c.args.align c.args.ts (period_is c.args.stride c.requires.stride))

pub returns-clause-last : goal.returns-clause-last
returns-clause-last c = λ start is le.
    subst (λ r. start ≤ r) (sym (value_is c)) (start_by-greatest (period_of c.args.stride) c.args.align c.args.ts start (period_is c.args.stride c.requires.stride) c.requires.reached is le)
