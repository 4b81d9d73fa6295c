use Rattle.std.proofs.Common.{◌≡◌, map, take, get_or}
use Rattle.qd_column.proofs.gather.gathered.Given as goal

-- the items at the places so far are copied
abbrev pub invariant-loop-place : goal.invariant-loop-place
invariant-loop-place g l = (d : g.row.T.Denot) → l.chosen.items ≡ map (λ i. get_or l.items i d) (take l.place-index l.places)
