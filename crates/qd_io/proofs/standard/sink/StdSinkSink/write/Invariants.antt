use Rattle.std.proofs.Common.{◌≡◌}
use Rattle.std.specs.Io.KnownBytes.{Keeps}
use Rattle.qd_io.proofs.standard.sink.StdSinkSink.write.Given as goal

-- a write that a signal interrupts adds nothing
abbrev pub invariant-loop : goal.invariant-loop
invariant-loop g l =
    Keeps (g.W.Write.contents l.initial.self.writer) (g.W.Write.contents l.self.writer) × (l.self.failures ≡ l.initial.self.failures)
