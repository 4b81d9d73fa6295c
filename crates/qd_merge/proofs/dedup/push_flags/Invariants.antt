use Rattle.std.proofs.Common.{◌≡◌, ◌++◌, take}
use Rattle.qd_merge.proofs.dedup.push_flags.Given as goal

-- the flags so far are added
abbrev pub invariant-loop-flag : goal.invariant-loop-flag
invariant-loop-flag l = l.gone.items ≡ l.fn.gone.items ++ take l.flag-index l.flags
