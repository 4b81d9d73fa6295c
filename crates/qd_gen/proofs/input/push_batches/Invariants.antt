use Rattle.std.proofs.Common.{◌≡◌, ◌++◌, flat_map}
use Rattle.qd_frames.specs.Frames.{frame}
use Rattle.qd_gen.specs.Generated.{writes}
use Rattle.qd_gen.proofs.input.push_batches.Given as goal

-- the batches so far are written
abbrev pub invariant-loop-batch : goal.invariant-loop-batch
invariant-loop-batch l = l.out.items ≡ l.initial.out.items ++ flat_map frame (writes l.number l.lines l.batch)
