use Rattle.std.proofs.Common.{◌≡◌, ◌+◌, drop}
use Rattle.qd_apply.specs.Given.{reads}
use Rattle.qd_apply.proofs.plans.reads_in.Given as goal

-- the shares from a place on are left
abbrev pub invariant-loop-share : goal.invariant-loop-share
invariant-loop-share l = l.count + reads (drop l.share-index l.shares) ≡ reads l.shares
