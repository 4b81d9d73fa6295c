use Rattle.qd_sample.proofs.StartLists.{SeenTo}
use Rattle.qd_sample.proofs.buckets.starts_with_rows.Given as goal

-- the starts of the times so far
abbrev pub invariant-loop-time : goal.invariant-loop-time
invariant-loop-time l = SeenTo l.stride l.align l.times l.time-index l.starts.items l.end
