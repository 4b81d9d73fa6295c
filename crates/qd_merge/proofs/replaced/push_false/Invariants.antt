use Rattle.std.proofs.Common.{◌≡◌, ◌++◌, false, replicate}
use Rattle.qd_merge.proofs.replaced.push_false.Given as goal

abbrev pub invariant-loop : goal.invariant-loop
invariant-loop l = l.gone.items ≡ l.fn.gone.items ++ replicate l.counter false
