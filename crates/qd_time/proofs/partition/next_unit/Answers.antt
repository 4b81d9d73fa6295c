use Rattle.std.proofs.Common.{rules, ◌≤◌, ◌<◌, ◌≡◌}
use Rattle.std.specs.Option.{SomeIff}
use Rattle.qd_base.specs.declared.limits.TheConstants.{MAX_TIME}
use Rattle.qd_time.specs.Units.{unit_of, start_of, end_of}
use Rattle.qd_time.proofs.UnitLemmas.{in_unit, start_of-end_of, IfSome-SomeIff}
use Rattle.qd_time.proofs.partition.next_unit.Goals as goal

pub returns-clause-after : goal.returns-clause-after
returns-clause-after c =
    let u = unit_of c.args.unit in
    let s : SomeIff c.then_some.result (end_of u c.args.ts ≤ MAX_TIME) (end_of u c.args.ts) = search rules in
    IfSome-SomeIff c.then_some.result _ (end_of u c.args.ts) (λ next. c.args.ts < next) s (in_unit u c.args.ts).1

pub returns-clause-start : goal.returns-clause-start
returns-clause-start c =
    let u = unit_of c.args.unit in
    let s : SomeIff c.then_some.result (end_of u c.args.ts ≤ MAX_TIME) (end_of u c.args.ts) = search rules in
    IfSome-SomeIff c.then_some.result _ (end_of u c.args.ts) (λ next. start_of u next ≡ next) s (start_of-end_of u c.args.ts)
