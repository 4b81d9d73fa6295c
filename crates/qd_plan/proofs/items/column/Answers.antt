use Rattle.std.proofs.Common.{ℕ, List, Some, ap}
use Rattle.qd_base.specs.declared.schema.Col.{Col}
use Rattle.qd_value.specs.declared.bound.Bound.TheVariants as is
use Rattle.qd_plan.specs.declared.shows.Part.TheVariants as part
use Rattle.qd_plan.specs.declared.shows.Shows.{Shows}
use Rattle.qd_plan.proofs.items.column.Goals as goal

abbrev shown : ℕ → Col → List ℕ → Shows
shown at col name = record { name = name; kind = col.kind; part = part.Value (is.Column at) (Some at) }

pub returns : goal.returns
returns c = record { item = ap (shown c.args.at c.args.col.now) c.in_ok-name.ensures.same }
