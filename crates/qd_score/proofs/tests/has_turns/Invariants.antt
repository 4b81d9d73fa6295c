use Rattle.std.proofs.Common.{◌≡◌, None}
use Rattle.qd_score.specs.Calls.{IsSeatOf, view_of}
use Rattle.qd_score.specs.Counted.{blocks_of}
use Rattle.qd_score.proofs.tests.has_turns.Given as goal

abbrev pub invariant-loop : goal.invariant-loop
invariant-loop g l = IsSeatOf blocks_of l.score.table.shared.table_id l.seat × ((view_of l.seat).hold ≡ None)
