use Rattle.std.proofs.Common.{◌≡◌, ℕ, ◌<◌, false, get_or}
use Rattle.qd_base.specs.declared.limits.TheConstants.{NULL_ID}
use Rattle.qd_latest.proofs.nulls.lack_some.Given as goal

-- where none was found, all places so far have ids
abbrev pub invariant-loop-id : goal.invariant-loop-id
invariant-loop-id l = l.found ≡ false → (k : ℕ) → k < l.id-index → get_or l.ids k 0 ≡ NULL_ID → ⊥
