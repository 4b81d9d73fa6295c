use Rattle.std.proofs.Common.{◌≡◌, ◌⊎◌, ◌++◌, List, All, Contains}
use Rattle.qd_versions.specs.declared.growing.Growing.{Growing}
use Rattle.qd_versions.specs.declared.keeping.KeptTail.{KeptTail}
use Rattle.qd_versions.specs.Tails.{tails_in}
use Rattle.qd_versions.proofs.keeping.Kept.keep.Given as goal

-- the last ones were kept
abbrev pub invariant-loop-x : goal.invariant-loop-x
invariant-loop-x l = record {
  done : List Growing;
  split : l.fn.growing.items ≡ l.growing.items ++ done;
  kept : All (λ (k : KeptTail). Contains l.fn.self k ⊎ Contains (tails_in l.fn.growing.items) k) l.self;
}

abbrev pub decreases-loop-x : goal.decreases-loop-x
decreases-loop-x l = goal.left-loop-x l
