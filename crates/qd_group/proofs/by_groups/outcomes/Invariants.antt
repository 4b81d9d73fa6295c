use Rattle.std.proofs.Common.{◌≡◌, map, take}
use Rattle.qd_value.specs.Scalars.{cell_of}
use Rattle.qd_group.specs.Tallies.{answer}
use Rattle.qd_group.proofs.by_groups.outcomes.Given as goal

-- the answers of the groups so far
abbrev pub invariant-loop-tally : goal.invariant-loop-tally
invariant-loop-tally g l = map cell_of l.answers.items ≡ map (λ t. answer (g.K.Keeping.state t)) (take l.tally-index l.tallies)
