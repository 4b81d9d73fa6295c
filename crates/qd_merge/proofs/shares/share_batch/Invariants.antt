use Rattle.std.proofs.Common.{◌≡◌, ◌++◌, drop}
use Rattle.qd_merge.proofs.Walks.{walk}
use Rattle.qd_merge.proofs.shares.share_batch.Given as goal

-- the shares of the parts from a number on are left
abbrev pub invariant-loop-number : goal.invariant-loop-number
invariant-loop-number l = l.list.items ++ walk l.rules l.written l.times l.done l.number (drop l.number l.parts) ≡ walk l.rules l.written l.times 0 0 l.parts
