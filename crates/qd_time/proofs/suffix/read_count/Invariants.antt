use Rattle.std.proofs.Common.{◌≡◌, ◌+◌, ◌≤◌, length}
use Rattle.qd_time.specs.Reading.{count_at}
use Rattle.qd_base.specs.declared.limits.TheConstants.{MAX_SUFFIX_COUNT}
use Rattle.qd_time.proofs.suffix.read_count.Given as goal

abbrev pub invariant-loop-low : goal.invariant-loop-low
invariant-loop-low l = (count_at l.count l.rest ≡ count_at 0 l.text) × (l.count ≤ MAX_SUFFIX_COUNT + 1)

abbrev pub decreases-loop-low : goal.decreases-loop-low
decreases-loop-low l = length l.rest
