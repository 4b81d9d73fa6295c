use Rattle.std.proofs.Common.{arith, ◌∙◌, ◌≤◌, ◌≡◌, sym, ap}
use Rattle.qd_time.specs.Units.{unit_of, start_of}
use Rattle.qd_time.proofs.UnitLemmas.{in_unit, start_of-within}
use Rattle.qd_time.proofs.partition.floor_unit.Goals as goal

-- the start, by the partition's unit
starts : (c : goal.After-start_of) → c.start_of.result ≡ start_of (unit_of c.args.unit) c.args.ts
starts c = c.start_of.ensures ∙ ap (λ u. start_of u c.args.ts) c.unit_of.ensures

pub returns-clause-not_after : goal.returns-clause-not_after
returns-clause-not_after c =
    omega (arith, starts c, (in_unit (unit_of c.args.unit) c.args.ts).0)

pub returns-clause-before_end : goal.returns-clause-before_end
returns-clause-before_end c = (in_unit (unit_of c.args.unit) c.args.ts).1

pub returns-clause-one_unit : goal.returns-clause-one_unit
returns-clause-one_unit c = λ other low high.
    let from : start_of (unit_of c.args.unit) c.args.ts ≤ other = omega (arith, starts c) in
    start_of-within (unit_of c.args.unit) c.args.ts other from high ∙ sym (starts c)
