use Rattle.std.proofs.Common.{◌≡◌, ◌+◌, drop}
use Rattle.qd_bind.specs.Scoped.{hit, join, named_from, summary}
use Rattle.qd_bind.proofs.scope.hits.Given as goal

abbrev pub invariant-loop-i : goal.invariant-loop-i
invariant-loop-i l = join (hit l.found) (summary (named_from l.name (l.base + l.i) (drop l.i l.cols))) ≡ join (hit l.fn.before) (summary (named_from l.name l.base l.cols))
