use Rattle.std.proofs.Common.{◌≡◌}
use Rattle.qd_durable.specs.Moments.{Told}
use Rattle.qd_versions.proofs.Steps.{AreFew, HasPut}
use Rattle.qd_versions.proofs.writing.put_blocks.Given as goal

abbrev pub invariant-loop-added : goal.invariant-loop-added
invariant-loop-added g l =
    Told (g.V.Volume.storage l.fn.volume).disk (g.V.Volume.storage l.volume).disk (HasPut l.next l.added-index l.blocks)
    × AreFew l.added-index l.blocks
    × ((g.V.Volume.storage l.volume).faults ≡ (g.V.Volume.storage l.fn.volume).faults)
