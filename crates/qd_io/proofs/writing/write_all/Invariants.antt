use Rattle.std.proofs.Common.{◌≡◌, ◌-◌, ◌≤◌, length}
use Rattle.qd_io.specs.Ends.{InputStays}
use Rattle.qd_io.proofs.WritesLemmas.{WroteFirst}
use Rattle.qd_io.proofs.writing.write_all.Given as goal

-- the first bytes stand in the output, no write has failed, and all else is as it was
abbrev pub invariant-loop-done : goal.invariant-loop-done
invariant-loop-done g l = record {
  within : l.done ≤ length l.bytes;
  wrote : WroteFirst (g.K.Ends.stream l.initial.sink).output (g.K.Ends.stream l.sink).output l.bytes l.done;
  none_failed : (g.K.Ends.stream l.sink).writes_failed ≡ (g.K.Ends.stream l.initial.sink).writes_failed;
  rest : InputStays (g.K.Ends.stream l.initial.sink) (g.K.Ends.stream l.sink);
}

abbrev pub decreases-loop-done : goal.decreases-loop-done
decreases-loop-done g l = length l.bytes - l.done
