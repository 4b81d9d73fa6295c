use Rattle.qd_durable.specs.Moments.{Told}
use Rattle.qd_io.specs.Ends.{Counts}
use Rattle.qd_versions.proofs.Steps.{HasRemoved}
use Rattle.qd_versions.proofs.undoing.remove_blocks.Given as goal

abbrev pub invariant-loop-added : goal.invariant-loop-added
invariant-loop-added g l =
    Told (g.V.Volume.storage l.fn.volume).disk (g.V.Volume.storage l.volume).disk (HasRemoved l.outcome l.next l.added-index l.blocks)
    × Counts (g.V.Volume.storage l.fn.volume).faults (g.V.Volume.storage l.volume).faults l.outcome
