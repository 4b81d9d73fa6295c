use Rattle.qd_manifest.specs.Spelling.{blocks_of}
use Rattle.qd_score.specs.Calls.{IsSeatOf, known_by}
use Rattle.qd_shared.proofs.Thinning.{IsThinnedTo}
use Rattle.qd_shared.proofs.shared.Shared.retire_rows.Given as goal

abbrev pub invariant-loop-row : goal.invariant-loop-row
invariant-loop-row g l = IsSeatOf blocks_of l.self l.seat × IsThinnedTo (known_by l.initial.seat) (known_by l.seat) l.initial.hold.book l.hold.book l.row
