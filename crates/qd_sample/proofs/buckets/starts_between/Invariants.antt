use Rattle.qd_sample.proofs.StartLists.{WalkedTo}
use Rattle.qd_sample.proofs.buckets.starts_between.Given as goal

-- the starts so far
abbrev pub invariant-loop : goal.invariant-loop
invariant-loop l = WalkedTo l.stride l.align l.first l.last l.counter l.starts.items l.next
