-- What a tally has kept.
use Rattle.std.specs.Option.{option_map}
use Rattle.qd_value.specs.Scalars.{cell_of}
use Rattle.qd_group.specs.declared.tallies.Lead.{Lead}
use Rattle.qd_group.specs.declared.tallies.Tally.{Tally}
use Rattle.qd_group.specs.declared.tallies.Tally.TheVariants as tally
use Rattle.qd_group.specs.Tallies.{Leading, State, counted, summed, least, greatest, first, last}

abbrev pub lead_of : Lead → Leading
lead_of l = record { best = cell_of l.best; ended = l.ended }

abbrev pub state_of : Tally → State
state_of (tally.Count n) = counted n
state_of (tally.Sum t) = summed t
state_of (tally.Min l) = least (lead_of l)
state_of (tally.Max l) = greatest (lead_of l)
state_of (tally.First f) = first (option_map cell_of f)
state_of (tally.Last l) = last (cell_of l)
