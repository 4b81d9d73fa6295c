use Rattle.std.proofs.Common.{◌≡◌, [], map, take, get_or}
use Rattle.qd_merge.proofs.batch.rows_at.Given as goal

-- the rows at the places so far
abbrev pub invariant-loop-place : goal.invariant-loop-place
invariant-loop-place l = l.chosen ≡ map (λ i. get_or l.rows i []) (take l.place-index l.places)
