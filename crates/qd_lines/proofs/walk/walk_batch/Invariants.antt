use Rattle.std.proofs.Common.{◌≡◌, ◌+◌, ◌<◌, ℕ, length}
use Rattle.qd_ilp.specs.Transaction.{Work}
use Rattle.qd_ilp.specs.View.{behind_rows}
use Rattle.qd_lines.specs.Walks.{Walks, Leads}
use Rattle.qd_lines.proofs.walk.walk_batch.Given as goal

-- the rows so far are gone over, and what the lines behind them say is what all say
abbrev pub invariant-loop-i : goal.invariant-loop-i
invariant-loop-i g l =
    (work : Work) × (number : ℕ) × Walks l.walk work × g.T.OpSink.taken l.sink work.ops × (0 < number) × (number + l.left ≡ length l.batch.lines + 1) × (l.left ≡ length (behind_rows l.i l.batch.lines))
    × Leads l.schemas l.now l.batch work number (behind_rows l.i l.batch.lines)
